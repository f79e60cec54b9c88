use Rattle.std.proofs.Common.{◌≡◌, ◌+◌, ◌++◌, drop, map, string_bytes}
use Rattle.mpd_explore.specs.Printed.{lines_told}
use Rattle.mpd_explore.proofs.print.push_leaves.Given as goal

abbrev pub invariant-loop-leaf : goal.invariant-loop-leaf
invariant-loop-leaf l = record {
  number : l.number ≡ l.first + l.leaf-index;
  text : string_bytes l.out ++ lines_told (map string_bytes l.texts) (l.first + l.leaf-index) (drop l.leaf-index l.leaves) ≡ string_bytes l.fn.out ++ lines_told (map string_bytes l.texts) l.first l.leaves;
}
