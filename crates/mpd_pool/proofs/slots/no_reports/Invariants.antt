use Rattle.std.proofs.Common.{◌≡◌, ◌≤◌, length, vec_capacity}
use Rattle.mpd_pool.specs.Parts.{AllNone}
use Rattle.mpd_pool.proofs.slots.no_reports.Given as goal

abbrev pub invariant-loop : goal.invariant-loop
invariant-loop l = (length l.slots.items ≡ l.counter) × (l.count ≤ vec_capacity l.slots) × AllNone l.slots.items
