use Rattle.std.proofs.Common.{◌<◌, length, rules}
use Rattle.mpd_print.proofs.PrintLemmas.{else_step}
use Rattle.mpd_print.proofs.stmt.+trees.Goals as goal

pub push_else-returns : goal.push_else-returns
push_else-returns t c =
    let some : 0 < length c.args.stmts.now = search rules in
    else_step c.args.stmts.now c.args.depth _ _ _ _ some c.in_ok-push_str.ensures.bytes c.in_ok-push_block.ensures
