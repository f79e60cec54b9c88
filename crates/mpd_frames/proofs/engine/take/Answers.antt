use Rattle.std.proofs.Common.{sym, ◌∙◌}
use Rattle.mpd_frames.specs.Answered.{Answers}
use Rattle.mpd_frames.proofs.LengthLemmas.{body_most}
use Rattle.mpd_frames.proofs.FedLemmas.{fed_fault, fed_whole, fed_over, fed_broken}
use Rattle.mpd_frames.proofs.engine.take.Goals as goal

pub returns-in-Err : goal.returns-in-Err
returns-in-Err g c =
    fed_fault (Answers g.D.FrameDesk.says g.D.FrameDesk.over) g.D.FrameDesk.over c.args.desk.now c.args.reader.now c.add.new.self c.args.byte (g.W.Sink.seen c.args.sink.now) c.in-Err.fault c.in-Err.ensures

pub answer-told-requires-clause-body : goal.answer-told-requires-clause-body
answer-told-requires-clause-body g c =
    let h = rw c.in-Ok-Whole.field-0-is at c.in-Ok-Whole.ensures in
    rw c.body.ensures (body_most c.add.new.self.header c.add.new.self.body h.1)

pub returns-in-Err-told : goal.returns-in-Err-told
returns-in-Err-told g c =
    let h = rw c.in-Ok-Whole.field-0-is at c.in-Ok-Whole.ensures in
    fed_broken (Answers g.D.FrameDesk.says g.D.FrameDesk.over) g.D.FrameDesk.over c.args.desk.now c.answer-told.new.desk c.args.reader.now c.add.new.self c.start.new.self c.args.byte c.body.result.now
    (g.W.Sink.seen c.args.sink.now) (g.W.Sink.seen c.answer-told.new.sink) c.in-Err-told.field-0 h c.body.ensures c.in-Err-told.ensures

pub returns-in-Ok : goal.returns-in-Ok
returns-in-Ok g c =
    let h = rw c.in-Ok-Whole.field-0-is at c.in-Ok-Whole.ensures in
    fed_over (Answers g.D.FrameDesk.says g.D.FrameDesk.over) g.D.FrameDesk.over c.args.desk.now c.answer-told.new.desk c.args.reader.now c.add.new.self c.start.new.self c.args.byte c.body.result.now
    (g.W.Sink.seen c.args.sink.now) (g.W.Sink.seen c.answer-told.new.sink) h c.body.ensures c.in-Ok.ensures (sym c.is_over.ensures ∙ c.if-is_over.true)

pub returns-in-Ok-2 : goal.returns-in-Ok-2
returns-in-Ok-2 g c =
    let h = rw c.in-Ok-Whole.field-0-is at c.in-Ok-Whole.ensures in
    fed_whole (Answers g.D.FrameDesk.says g.D.FrameDesk.over) g.D.FrameDesk.over c.args.desk.now c.answer-told.new.desk c.args.reader.now c.add.new.self c.start.new.self c.args.byte c.body.result.now
    (g.W.Sink.seen c.args.sink.now) (g.W.Sink.seen c.answer-told.new.sink) h c.body.ensures c.in-Ok-2.ensures c.start.ensures (sym c.is_over.ensures ∙ c.if-is_over.false)
