use Rattle.std.proofs.Common.{rules, ◌≤◌, length, take}
use Rattle.mpd_lines.specs.Telling.{waiting_below}
use Rattle.mpd_lines.proofs.TurnLaws.{turned_lost}
use Rattle.mpd_lines.proofs.engine.take_turn.Goals as goal

pub returns-in-Err-tell-clause-turned : goal.returns-in-Err-tell-clause-turned
returns-in-Err-tell-clause-turned g c =
    let few : length c.split_at.result.0.now ≤ 4096 = search rules in
    turned_lost g.D.LineDesk.says (waiting_below g.D.LineDesk.gathers) c.args.desk.now c.tell.new.desk c.args.feeder.now c.tell.new.feeder c.split_at.result.0.now (take c.in-Ok.count c.read.new.buffer) c.in-Err-tell.field-0
    (g.S.Source.seen c.args.source.now) (g.S.Source.seen c.read.new.self) (g.W.Sink.seen c.args.sink.now) (g.W.Sink.seen c.tell.new.sink)
    c.in-Ok.ensures.bytes.0 c.split_at.ensures.front few c.in-Err-tell.ensures.spoken
