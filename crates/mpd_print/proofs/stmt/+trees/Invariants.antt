use Rattle.std.proofs.Common.{◌≡◌, ◌+◌, ◌*◌, ◌++◌, drop, string_bytes}
use Rattle.mpd_model.specs.grammar.Canonical.{block_text}
use Rattle.mpd_model.specs.script.Tree.{statements, statements_in, block_of}
use Rattle.mpd_print.proofs.stmt.+trees.Given as goal

abbrev pub invariant-push_stmts-loop-stmt : goal.invariant-push_stmts-loop-stmt
invariant-push_stmts-loop-stmt l =
    string_bytes l.out ++ block_text l.decls l.depth (block_of (drop l.stmt-index l.stmts)) ≡ string_bytes l.fn.out ++ block_text l.decls l.depth (block_of l.stmts)

abbrev pub decreases-push_stmt : goal.decreases-push_stmt
decreases-push_stmt l = 4 * statements l.stmt.now

abbrev pub decreases-push_stmts : goal.decreases-push_stmts
decreases-push_stmts l = 4 * statements_in (block_of l.stmts.now) + 1

abbrev pub decreases-push_block : goal.decreases-push_block
decreases-push_block l = 4 * statements_in (block_of l.stmts.now) + 2

abbrev pub decreases-push_else : goal.decreases-push_else
decreases-push_else l = 4 * statements_in (block_of l.stmts.now) + 3
