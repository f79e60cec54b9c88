-- How many ticks there were.
use Rattle.std.specs.Prelude.{ℕ, ◌+◌, Some, None}
use Rattle.mpd_counter.specs.declared.counter.Chain.TheInside.{Inside}

abbrev pub depth : Inside → ℕ
depth c = elim c.before [ None ↦ 0 | Some s ↦ s.value + 1 ]
