use Rattle.std.proofs.Common.{drop, get_or, ◌+◌}
use Rattle.mpd_lines.specs.Telling.{waiting_below}
use Rattle.mpd_lines.proofs.GatherLaws.{fed_more, fed_breaks, drop_next}
use Rattle.mpd_lines.proofs.feeder.Feeder.feed.Goals as goal

pub returns-in-Err-clause-gathered : goal.returns-in-Err-clause-gathered
returns-in-Err-clause-gathered g c =
    fed_breaks g.D.LineDesk.says (waiting_below g.D.LineDesk.gathers) c.args.desk.now c.loop-byte.desk c.take.new.desk c.args.self.now c.args.piece.now c.loop-byte.self
    (drop c.loop-byte.byte-index c.args.piece.now) (drop (c.loop-byte.byte-index + 1) c.args.piece.now) (get_or c.args.piece.now c.loop-byte.byte-index 0)
    (g.W.Sink.seen c.args.sink.now) (g.W.Sink.seen c.loop-byte.sink) (g.W.Sink.seen c.take.new.sink) c.args.outbox.now c.loop-byte.outbox c.take.new.outbox c.in-Err.fault
    c.loop-byte.invariant (drop_next c.args.piece.now c.loop-byte.byte-index c.loop-byte-test.true) c.in-Err.ensures.gathered

pub loop-byte-preserved : goal.loop-byte-preserved
loop-byte-preserved g c =
    fed_more g.D.LineDesk.says (waiting_below g.D.LineDesk.gathers) c.args.desk.now c.loop-byte.desk c.take.new.desk c.args.self.now c.args.piece.now c.loop-byte.self c.take.new.self
    (drop c.loop-byte.byte-index c.args.piece.now) (drop (c.loop-byte.byte-index + 1) c.args.piece.now) (get_or c.args.piece.now c.loop-byte.byte-index 0)
    (g.W.Sink.seen c.args.sink.now) (g.W.Sink.seen c.loop-byte.sink) (g.W.Sink.seen c.take.new.sink) c.args.outbox.now c.loop-byte.outbox c.take.new.outbox
    c.loop-byte.invariant (drop_next c.args.piece.now c.loop-byte.byte-index c.loop-byte-test.true) c.in-Ok.ensures.part c.in-Ok.ensures.gathered
