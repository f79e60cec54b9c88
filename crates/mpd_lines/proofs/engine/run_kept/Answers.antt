use Rattle.std.proofs.Common.{rules, ◌≡◌, ◌<◌}
use Rattle.mpd_lines.specs.Telling.{waiting_below}
use Rattle.mpd_lines.proofs.TurnLaws.{served_before, served_end, served_fault, served_turns, so_far_more}
use Rattle.mpd_lines.proofs.engine.run_kept.Goals as goal

pub returns-in-Err-clause-served : goal.returns-in-Err-clause-served
returns-in-Err-clause-served g c =
    served_before g.D.LineDesk.says (waiting_below g.D.LineDesk.gathers) c.args.desk.now c.tell.new.desk c.args.before.now c.args.buffers.feeder c.args.turns (g.S.Source.seen c.args.source.now)
    (g.W.Sink.seen c.args.sink.now) (g.W.Sink.seen c.tell.new.sink) c.in-Err.field-0 c.requires.part c.in-Err.ensures.spoken

pub returns-in-Ok-End-clause-served : goal.returns-in-Ok-End-clause-served
returns-in-Ok-End-clause-served g c =
    let h = rw c.in-Ok-End.field-0-is at c.in-Ok-End.ensures.turned in
    let lt : c.loop-turn._turn < c.args.turns = search rules in
    served_end g.D.LineDesk.says (waiting_below g.D.LineDesk.gathers) c.args.desk.now c.loop-turn.desk c.take_turn.new.desk c.args.before.now c.loop-turn.feeder c.take_turn.new.feeder c.loop-turn._turn c.args.turns
    (g.S.Source.seen c.args.source.now) (g.S.Source.seen c.loop-turn.source) (g.S.Source.seen c.take_turn.new.source)
    (g.W.Sink.seen c.args.sink.now) (g.W.Sink.seen c.loop-turn.sink) (g.W.Sink.seen c.take_turn.new.sink) lt c.loop-turn.invariant.so_far h

pub returns-in-Err-take_turn-clause-served : goal.returns-in-Err-take_turn-clause-served
returns-in-Err-take_turn-clause-served g c =
    let lt : c.loop-turn._turn < c.args.turns = search rules in
    served_fault g.D.LineDesk.says (waiting_below g.D.LineDesk.gathers) c.args.desk.now c.loop-turn.desk c.take_turn.new.desk c.args.before.now c.loop-turn.feeder c.take_turn.new.feeder c.loop-turn._turn c.args.turns
    (g.S.Source.seen c.args.source.now) (g.S.Source.seen c.loop-turn.source) (g.S.Source.seen c.take_turn.new.source)
    (g.W.Sink.seen c.args.sink.now) (g.W.Sink.seen c.loop-turn.sink) (g.W.Sink.seen c.take_turn.new.sink) c.in-Err-take_turn.fault lt c.loop-turn.invariant.so_far c.in-Err-take_turn.ensures.turned

pub loop-turn-preserved : goal.loop-turn-preserved
loop-turn-preserved g c = record {
  so_far = (let h = rw c.in-Ok-More.field-0-is at c.in-Ok-More.ensures.turned in let k = rw c.in-Ok-More.field-0-is at c.in-Ok-More.ensures.counted in
      so_far_more g.D.LineDesk.says (waiting_below g.D.LineDesk.gathers) c.args.desk.now c.loop-turn.desk c.take_turn.new.desk c.args.before.now c.loop-turn.feeder c.take_turn.new.feeder c.loop-turn._turn
      (g.S.Source.seen c.args.source.now) (g.S.Source.seen c.loop-turn.source) (g.S.Source.seen c.take_turn.new.source)
      (g.W.Sink.seen c.args.sink.now) (g.W.Sink.seen c.loop-turn.sink) (g.W.Sink.seen c.take_turn.new.sink) c.loop-turn.invariant.so_far h k);
  none = c.in-Ok-More.ensures.none;
}

pub returns-clause-served : goal.returns-clause-served
returns-clause-served g c =
    let last : c.args.turns ≡ c.loop-turn._turn = search rules in
    served_turns g.D.LineDesk.says (waiting_below g.D.LineDesk.gathers) c.args.desk.now c.loop-turn.desk c.args.before.now c.loop-turn.feeder c.loop-turn._turn c.args.turns
    (g.S.Source.seen c.args.source.now) (g.S.Source.seen c.loop-turn.source) (g.W.Sink.seen c.args.sink.now) (g.W.Sink.seen c.loop-turn.sink) c.loop-turn.invariant.so_far last
