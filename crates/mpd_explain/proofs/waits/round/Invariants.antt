use Rattle.std.proofs.Common.{◌≡◌, ◌+◌, ◌-◌}
use Rattle.std.specs.List.{filter, range_with_len}
use Rattle.mpd_model.specs.runs.Breakpoints.{is_number}
use Rattle.mpd_model.specs.steps.Why.{first_in}
use Rattle.mpd_explain.specs.Waits.{after, round}
use Rattle.mpd_explain.proofs.waits.round.Given as goal

abbrev pub invariant-loop-past : goal.invariant-loop-past
invariant-loop-past l = first_in (filter (λ k. is_number (after l.next l.rank k) l.rank) (range_with_len (l.past + 1) (l.count - l.past))) ≡ round l.next l.rank
