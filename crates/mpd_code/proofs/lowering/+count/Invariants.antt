use Rattle.std.proofs.Common.{◌≡◌, ◌+◌, ◌*◌, drop}
use Rattle.mpd_model.specs.script.Tree.{statements, statements_in, block_of}
use Rattle.mpd_code.proofs.lowering.+count.Given as goal

abbrev pub decreases-count : goal.decreases-count
decreases-count l = 2 * statements l.stmt.now

abbrev pub decreases-count_all : goal.decreases-count_all
decreases-count_all l = 2 * statements_in (block_of l.block.now) + 1

abbrev pub invariant-count_all-loop-stmt : goal.invariant-count_all-loop-stmt
invariant-count_all-loop-stmt l = l.total + statements_in (block_of (drop l.stmt-index l.block)) ≡ statements_in (block_of l.block)
