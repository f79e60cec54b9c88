use Rattle.std.proofs.Common.{◌+◌, ◌*◌}
use Rattle.mpd_model.specs.script.Tree.{statements, statements_in, block_of}
use Rattle.mpd_c.proofs.stmt.+trees.Given as goal

abbrev pub decreases-push_stmt : goal.decreases-push_stmt
decreases-push_stmt l = 3 * statements l.stmt.now

abbrev pub decreases-push_stmts : goal.decreases-push_stmts
decreases-push_stmts l = 3 * statements_in (block_of l.stmts.now) + 1

abbrev pub decreases-push_block : goal.decreases-push_block
decreases-push_block l = 3 * statements_in (block_of l.stmts.now) + 2
