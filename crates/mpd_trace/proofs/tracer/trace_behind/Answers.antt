use Rattle.std.proofs.Common.{refl}
use Rattle.mpd_model.specs.runs.Trail.{first_standing}
use Rattle.mpd_trace.proofs.TraceLaws.{served_from}
use Rattle.mpd_trace.proofs.tracer.trace_behind.Goals as goal

pub returns-in_default-clause-served : goal.returns-in_default-clause-served
returns-in_default-clause-served g c = (first_standing c.args.subject.code.now.program c.args.subject.mode, (refl, refl, refl))

pub returns-clause-served : goal.returns-clause-served
returns-clause-served g c = (
  c.run_behind.new.desk,
  served_from (first_standing c.args.subject.code.now.program c.args.subject.mode) c.in-Ok.desk c.run_behind.new.desk c.args.before.now c.args.turns
      (g.S.Source.seen c.args.source.now) (g.S.Source.seen c.run_behind.new.source) (g.W.Sink.seen c.args.sink.now) (g.W.Sink.seen c.run_behind.new.sink)
      c.run_behind.result c.in-Ok.ensures c.run_behind.ensures.served,
)
