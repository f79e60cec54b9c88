use Rattle.std.proofs.Common.{rules, ◌<◌, ◌≤◌, length, take}
use Rattle.mpd_frames.specs.Answered.{Answers}
use Rattle.mpd_frames.specs.Reading.{held_bytes}
use Rattle.mpd_frames.proofs.TurnLemmas.{gave_by, turned_by, counted_by}
use Rattle.mpd_frames.proofs.engine.take_turn.Goals as goal

pub returns-clause-turned : goal.returns-clause-turned
returns-clause-turned g c =
    let few : length c.split_at.result.0.now ≤ 4096 = search rules in
    let some : 0 < length c.split_at.result.0.now = search rules in
    turned_by (Answers g.D.FrameDesk.says g.D.FrameDesk.over) g.D.FrameDesk.over c.args.desk.now c.feed.new.desk c.args.buffers.now.reader c.feed.new.reader c.split_at.result.0.now
    (g.S.Source.seen c.args.source.now) (g.S.Source.seen c.read.new.self) (g.W.Sink.seen c.args.sink.now) (g.W.Sink.seen c.feed.new.sink) c.feed.result
    (gave_by (g.S.Source.seen c.args.source.now) (g.S.Source.seen c.read.new.self) c.in-Ok.count c.split_at.result.0.now (take c.in-Ok.count c.read.new.buffer)
    c.in-Ok.ensures.bytes.0 c.split_at.ensures.front some few c.in-Ok.ensures.ended c.if-count-eq0.false)
    c.feed.ensures

pub returns-clause-counted : goal.returns-clause-counted
returns-clause-counted g c =
    counted_by (Answers g.D.FrameDesk.says g.D.FrameDesk.over) g.D.FrameDesk.over c.args.desk.now c.feed.new.desk (held_bytes c.args.buffers.now.reader) c.split_at.result.0.now c.feed.new.reader
    (g.S.Source.seen c.args.source.now) (g.S.Source.seen c.read.new.self) (g.W.Sink.seen c.args.sink.now) (g.W.Sink.seen c.feed.new.sink) c.feed.result
    c.in-Ok.ensures.counted c.in-Ok.ensures.ok c.feed.ensures
