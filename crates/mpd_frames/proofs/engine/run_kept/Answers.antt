use Rattle.std.proofs.Common.{rules, ◌≡◌, ◌<◌}
use Rattle.mpd_frames.specs.Answered.{Answers}
use Rattle.mpd_frames.proofs.TurnLemmas.{so_far_none, so_far_more, served_over, served_fault, served_turns}
use Rattle.mpd_frames.proofs.engine.run_kept.Goals as goal

pub loop-turn-init : goal.loop-turn-init
loop-turn-init g c =
    so_far_none (Answers g.D.FrameDesk.says g.D.FrameDesk.over) g.D.FrameDesk.over c.args.desk.now (g.S.Source.seen c.args.source.now) (g.W.Sink.seen c.args.sink.now) c.args.buffers.reader c.requires.waiting c.requires.none

pub take_turn-requires-clause-waiting : goal.take_turn-requires-clause-waiting
take_turn-requires-clause-waiting g c = c.loop-turn.invariant.fed.2

pub take_turn-requires-clause-held : goal.take_turn-requires-clause-held
take_turn-requires-clause-held g c = c.loop-turn.invariant.fed.3

pub returns-in-Ok-Over-clause-served : goal.returns-in-Ok-Over-clause-served
returns-in-Ok-Over-clause-served g c =
    let h = rw c.in-Ok-Over.field-0-is at c.in-Ok-Over.ensures.turned in
    let lt : c.loop-turn._turn < c.args.turns = search rules in
    served_over (Answers g.D.FrameDesk.says g.D.FrameDesk.over) g.D.FrameDesk.over c.args.desk.now c.loop-turn.desk c.take_turn.new.desk c.loop-turn.buffers.reader c.take_turn.new.buffers.reader c.loop-turn._turn c.args.turns
    (g.S.Source.seen c.args.source.now) (g.S.Source.seen c.loop-turn.source) (g.S.Source.seen c.take_turn.new.source)
    (g.W.Sink.seen c.args.sink.now) (g.W.Sink.seen c.loop-turn.sink) (g.W.Sink.seen c.take_turn.new.sink) lt c.loop-turn.invariant h

pub returns-in-Err-clause-served : goal.returns-in-Err-clause-served
returns-in-Err-clause-served g c =
    let lt : c.loop-turn._turn < c.args.turns = search rules in
    served_fault (Answers g.D.FrameDesk.says g.D.FrameDesk.over) g.D.FrameDesk.over c.args.desk.now c.loop-turn.desk c.take_turn.new.desk c.loop-turn.buffers.reader c.take_turn.new.buffers.reader c.loop-turn._turn c.args.turns
    (g.S.Source.seen c.args.source.now) (g.S.Source.seen c.loop-turn.source) (g.S.Source.seen c.take_turn.new.source)
    (g.W.Sink.seen c.args.sink.now) (g.W.Sink.seen c.loop-turn.sink) (g.W.Sink.seen c.take_turn.new.sink) c.in-Err.fault lt c.loop-turn.invariant c.in-Err.ensures.turned

pub loop-turn-preserved : goal.loop-turn-preserved
loop-turn-preserved g c =
    let h = rw c.in-Ok-More.field-0-is at c.in-Ok-More.ensures.turned in
    let k = rw c.in-Ok-More.field-0-is at c.in-Ok-More.ensures.counted in
    so_far_more (Answers g.D.FrameDesk.says g.D.FrameDesk.over) g.D.FrameDesk.over c.args.desk.now c.loop-turn.desk c.take_turn.new.desk c.loop-turn.buffers.reader c.take_turn.new.buffers.reader c.loop-turn._turn
    (g.S.Source.seen c.args.source.now) (g.S.Source.seen c.loop-turn.source) (g.S.Source.seen c.take_turn.new.source)
    (g.W.Sink.seen c.args.sink.now) (g.W.Sink.seen c.loop-turn.sink) (g.W.Sink.seen c.take_turn.new.sink) c.loop-turn.invariant h k

pub returns-clause-served : goal.returns-clause-served
returns-clause-served g c =
    let last : c.args.turns ≡ c.loop-turn._turn = search rules in
    served_turns (Answers g.D.FrameDesk.says g.D.FrameDesk.over) g.D.FrameDesk.over c.args.desk.now c.loop-turn.desk c.loop-turn.buffers.reader c.loop-turn._turn c.args.turns
    (g.S.Source.seen c.args.source.now) (g.S.Source.seen c.loop-turn.source) (g.W.Sink.seen c.args.sink.now) (g.W.Sink.seen c.loop-turn.sink) c.loop-turn.invariant last
