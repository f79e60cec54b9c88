use Rattle.std.proofs.Common.{◌≡◌, ◌-◌}
use Rattle.std.specs.List.{flat_map}
use Rattle.mpd_model.specs.steps.World.{rank_numbers}
use Rattle.mpd_model.specs.steps.Why.{first_in}
use Rattle.mpd_match.proofs.Picked.{first_from}
use Rattle.mpd_policy.proofs.QuietLemmas.{quiet_from}
use Rattle.mpd_policy.proofs.quiet.quiet_match_with.Given as goal

abbrev pub invariant-loop-sender : goal.invariant-loop-sender
invariant-loop-sender l = first_from (quiet_from l.core.world l.recv) l.sender (l.count - l.sender) ≡ first_in (flat_map (quiet_from l.core.world l.recv) (rank_numbers l.core.world.board))
