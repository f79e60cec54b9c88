use Rattle.std.proofs.Common.{◌≡◌, ◌-◌, ◌++◌, string_bytes}
use Rattle.std.specs.List.{flat_map}
use Rattle.mpd_model.specs.steps.World.{rank_numbers}
use Rattle.mpd_model.specs.texts.Texts.{pending_lines}
use Rattle.mpd_trace.proofs.RangeTexts.{texts_from}
use Rattle.mpd_trace.proofs.state_text.push_all_pending.Given as goal

abbrev pub invariant-loop-sender : goal.invariant-loop-sender
invariant-loop-sender l = string_bytes l.out ++ texts_from (pending_lines l.board.board) l.sender (l.count - l.sender) ≡ string_bytes l.fn.out ++ flat_map (pending_lines l.board.board) (rank_numbers l.board.board)
