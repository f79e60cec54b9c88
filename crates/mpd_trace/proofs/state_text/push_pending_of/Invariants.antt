use Rattle.std.proofs.Common.{◌≡◌, ◌-◌, ◌++◌, string_bytes}
use Rattle.mpd_model.specs.texts.Texts.{pending_line, pending_lines}
use Rattle.mpd_trace.proofs.RangeTexts.{texts_from}
use Rattle.mpd_trace.proofs.state_text.push_pending_of.Given as goal

abbrev pub invariant-loop-receiver : goal.invariant-loop-receiver
invariant-loop-receiver l = string_bytes l.out ++ texts_from (pending_line l.board.board l.sender) l.receiver (l.count - l.receiver) ≡ string_bytes l.fn.out ++ pending_lines l.board.board l.sender
