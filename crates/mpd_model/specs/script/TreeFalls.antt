-- A statement has more statements than each one inside it.
use Rattle.std.specs.Prelude.{◌+◌, ◌≤◌, max, List, [], ◌∷◌}
use Rattle.std.proofs.Common.{arith}
use denote.Param.Weighed.{most}
use Rattle.mpd_model.specs.script.Tree.{Tree, block_of, statements, statements_in}
use Rattle.mpd_model.specs.script.TreeOf.{tree_of}
use Rattle.mpd_model.specs.declared.stmt.StmtNode.{StmtNode}
use Rattle.mpd_model.specs.declared.stmt.StmtNode.TheVariants.{Simple, If, While}
use Rattle.mpd_model.specs.declared.stmt.Stmt.TheDeep.{deep-StmtNode}

most_le-statements_in : (ts : List Tree) → most (λ t. statements t + 1) ts ≤ statements_in (block_of ts) + 1
most_le-statements_in [] = omega arith
most_le-statements_in (t ∷ ts) = omega (arith, most_le-statements_in ts)

pub tree_falls : (n : StmtNode) → max (deep-StmtNode n) 0 ≤ statements (tree_of n)
tree_falls (Simple s) = omega arith
tree_falls (If test first second) = omega (arith, most_le-statements_in first.items, most_le-statements_in second.items)
tree_falls (While test body) = omega (arith, most_le-statements_in body.items)
