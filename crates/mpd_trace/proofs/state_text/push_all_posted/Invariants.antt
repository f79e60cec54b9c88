use Rattle.std.proofs.Common.{◌≡◌, ◌-◌, ◌++◌, string_bytes}
use Rattle.std.specs.List.{flat_map}
use Rattle.mpd_model.specs.steps.World.{rank_numbers}
use Rattle.mpd_model.specs.texts.Texts.{posted_line}
use Rattle.mpd_trace.proofs.RangeTexts.{texts_from}
use Rattle.mpd_trace.proofs.state_text.push_all_posted.Given as goal

abbrev pub invariant-loop-rank : goal.invariant-loop-rank
invariant-loop-rank l = string_bytes l.out ++ texts_from (posted_line l.board.board) l.rank (l.count - l.rank) ≡ string_bytes l.fn.out ++ flat_map (posted_line l.board.board) (rank_numbers l.board.board)
