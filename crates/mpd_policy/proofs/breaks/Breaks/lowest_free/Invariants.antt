use Rattle.std.proofs.Common.{◌≡◌, ◌-◌, is_none}
use Rattle.mpd_model.specs.runs.Breakpoints.{break_at, lowest_free}
use Rattle.mpd_policy.proofs.NumberLemmas.{number_from}
use Rattle.mpd_policy.proofs.breaks.Breaks.lowest_free.Given as goal

abbrev pub invariant-loop-number : goal.invariant-loop-number
invariant-loop-number l = number_from (λ n. is_none (break_at l.self n)) l.number (l.count - l.number) ≡ lowest_free l.self
