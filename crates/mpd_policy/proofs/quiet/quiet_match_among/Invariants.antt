use Rattle.std.proofs.Common.{◌≡◌, ◌-◌}
use Rattle.std.specs.List.{flat_map}
use Rattle.mpd_model.specs.steps.World.{rank_numbers}
use Rattle.mpd_model.specs.steps.Why.{first_in}
use Rattle.mpd_match.proofs.Picked.{first_from}
use Rattle.mpd_policy.proofs.QuietLemmas.{quiet_at}
use Rattle.mpd_policy.proofs.quiet.quiet_match_among.Given as goal

abbrev pub invariant-loop-receiver : goal.invariant-loop-receiver
invariant-loop-receiver l = first_from (quiet_at l.core.world) l.receiver (l.count - l.receiver) ≡ first_in (flat_map (quiet_at l.core.world) (rank_numbers l.core.world.board))
