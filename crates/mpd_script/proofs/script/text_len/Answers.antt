use Rattle.mpd_script.proofs.Ascii.{counted_IsAscii}
use Rattle.mpd_script.proofs.script.text_len.Goals as goal

pub returns-after-loop-end-clause-ascii : goal.returns-after-loop-end-clause-ascii
returns-after-loop-end-clause-ascii c all = counted_IsAscii c.args.text.now c.loop-end.end c.loop-end.invariant.0 all
