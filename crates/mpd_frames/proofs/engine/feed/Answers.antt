use Rattle.std.proofs.Common.{rules, Ok, Err, refl, length, ◌≤◌}
use Rattle.mpd_frames.specs.Answered.{Answers}
use Rattle.mpd_frames.specs.Reading.{held_bytes}
use Rattle.mpd_frames.specs.declared.engine.Turn.TheVariants.{Over, End}
use Rattle.mpd_frames.proofs.FedLemmas.{fed_next, fed_stop, fed_all}
use Rattle.mpd_frames.proofs.engine.feed.Goals as goal

pub returns-in-Ok-Over : goal.returns-in-Ok-Over
returns-in-Ok-Over g c =
    fed_stop (Answers g.D.FrameDesk.says g.D.FrameDesk.over) g.D.FrameDesk.over c.args.desk.now c.loop-byte.desk c.take.new.desk (held_bytes c.args.reader.now) c.args.piece.now c.loop-byte.byte-index
    c.loop-byte.reader c.take.new.reader (g.W.Sink.seen c.args.sink.now) (g.W.Sink.seen c.loop-byte.sink) (g.W.Sink.seen c.take.new.sink) (Ok Over)
    c.loop-byte-test.true refl c.loop-byte.invariant (rw c.in-Ok-Over.field-0-is at c.in-Ok-Over.ensures)

pub returns-in-Ok-End : goal.returns-in-Ok-End
returns-in-Ok-End g c =
    fed_stop (Answers g.D.FrameDesk.says g.D.FrameDesk.over) g.D.FrameDesk.over c.args.desk.now c.loop-byte.desk c.take.new.desk (held_bytes c.args.reader.now) c.args.piece.now c.loop-byte.byte-index
    c.loop-byte.reader c.take.new.reader (g.W.Sink.seen c.args.sink.now) (g.W.Sink.seen c.loop-byte.sink) (g.W.Sink.seen c.take.new.sink) (Ok End)
    c.loop-byte-test.true refl c.loop-byte.invariant (rw c.in-Ok-End.field-0-is at c.in-Ok-End.ensures)

pub returns-in-Err : goal.returns-in-Err
returns-in-Err g c =
    fed_stop (Answers g.D.FrameDesk.says g.D.FrameDesk.over) g.D.FrameDesk.over c.args.desk.now c.loop-byte.desk c.take.new.desk (held_bytes c.args.reader.now) c.args.piece.now c.loop-byte.byte-index
    c.loop-byte.reader c.take.new.reader (g.W.Sink.seen c.args.sink.now) (g.W.Sink.seen c.loop-byte.sink) (g.W.Sink.seen c.take.new.sink) (Err c.in-Err.fault)
    c.loop-byte-test.true refl c.loop-byte.invariant c.in-Err.ensures

pub loop-byte-preserved : goal.loop-byte-preserved
loop-byte-preserved g c =
    fed_next (Answers g.D.FrameDesk.says g.D.FrameDesk.over) g.D.FrameDesk.over c.args.desk.now c.loop-byte.desk c.take.new.desk (held_bytes c.args.reader.now) c.args.piece.now c.loop-byte.byte-index
    c.loop-byte.reader c.take.new.reader (g.W.Sink.seen c.args.sink.now) (g.W.Sink.seen c.loop-byte.sink) (g.W.Sink.seen c.take.new.sink)
    c.loop-byte-test.true c.loop-byte.invariant (rw c.in-Ok-More.field-0-is at c.in-Ok-More.ensures)

pub returns : goal.returns
returns g c =
    let all : length c.args.piece.now ≤ c.loop-byte.byte-index = search rules in
    fed_all (Answers g.D.FrameDesk.says g.D.FrameDesk.over) g.D.FrameDesk.over c.args.desk.now c.loop-byte.desk (held_bytes c.args.reader.now) c.args.piece.now c.loop-byte.byte-index
    c.loop-byte.reader (g.W.Sink.seen c.args.sink.now) (g.W.Sink.seen c.loop-byte.sink) all c.loop-byte.invariant
