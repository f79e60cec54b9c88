use Rattle.mpd_frames.specs.Answered.{Answers}
use Rattle.mpd_frames.specs.Turned.{SoFar}
use Rattle.mpd_frames.proofs.engine.run_kept.Given as goal

abbrev pub invariant-loop-turn : goal.invariant-loop-turn
invariant-loop-turn g l =
    SoFar (Answers g.D.FrameDesk.says g.D.FrameDesk.over) g.D.FrameDesk.over l.fn.desk l._turn (g.S.Source.seen l.fn.source) (g.S.Source.seen l.source) (g.W.Sink.seen l.fn.sink) (g.W.Sink.seen l.sink) l.desk l.buffers.reader
