use Rattle.std.proofs.Common.{arith}
use Rattle.mpd_print.proofs.PrintLemmas.{indent_step}
use Rattle.mpd_print.proofs.stmt.push_indent.Goals as goal

pub loop-preserved : goal.loop-preserved
loop-preserved c = indent_step _ _ _ _ _ (omega arith) c.in_ok-push_str.ensures.bytes c.loop.invariant
