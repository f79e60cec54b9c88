use Rattle.std.proofs.Common.{◌≡◌, ◌+◌, ◌≤◌, drop}
use Rattle.mpd_explain.specs.Lost.{count_beside}
use Rattle.mpd_explain.proofs.lost.count_beside.Given as goal

abbrev pub invariant-loop-other : goal.invariant-loop-other
invariant-loop-other l = record {
  few : l.count ≤ l.other-index;
  same : l.count + count_beside l.core.program l.core.world.board l.call (drop l.other-index l.calls) ≡ count_beside l.core.program l.core.world.board l.call l.calls;
}
