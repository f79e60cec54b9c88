use Rattle.std.proofs.Common.{take, Ok}
use Rattle.mpd_frames.specs.Answered.{Answers}
use Rattle.mpd_frames.specs.Fed.{Fed}
use Rattle.mpd_frames.specs.Reading.{held_bytes}
use Rattle.mpd_frames.specs.declared.engine.Turn.TheVariants.{More}
use Rattle.mpd_frames.proofs.engine.feed.Given as goal

abbrev pub invariant-loop-byte : goal.invariant-loop-byte
invariant-loop-byte g l =
    Fed (Answers g.D.FrameDesk.says g.D.FrameDesk.over) g.D.FrameDesk.over l.fn.desk (held_bytes l.fn.reader) (take l.byte-index l.piece) (g.W.Sink.seen l.fn.sink) (g.W.Sink.seen l.sink) l.desk l.reader (Ok More)
