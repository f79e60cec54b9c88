use Rattle.std.proofs.Common.{◌≡◌, ◌-◌, ◌++◌, not}
use Rattle.std.specs.List.{filter, range_with_len}
use Rattle.mpd_model.specs.steps.Next.{is_at_barrier}
use Rattle.mpd_explain.specs.Waits.{absent}
use Rattle.mpd_page.proofs.reasons.absent.Given as goal

abbrev pub invariant-loop-rank : goal.invariant-loop-rank
invariant-loop-rank l = l.items.items ++ filter (λ q. not (is_at_barrier l.core.world q)) (range_with_len l.rank (l.count - l.rank)) ≡ absent l.core.world
