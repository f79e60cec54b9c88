use Rattle.std.proofs.Common.{refl}
use Rattle.mpd_model.specs.runs.Trail.{first_standing}
use Rattle.mpd_trace.proofs.EchoLemmas.{echoed_from}
use Rattle.mpd_trace.proofs.tracer.trace_echoing.Goals as goal

pub returns-in_default-clause-served : goal.returns-in_default-clause-served
returns-in_default-clause-served g c = (first_standing c.args.subject.code.now.program c.args.subject.mode, (refl, refl, refl))

pub returns-clause-served : goal.returns-clause-served
returns-clause-served g c = (
  c.run.new.desk,
  echoed_from (first_standing c.args.subject.code.now.program c.args.subject.mode) c.in-Ok.desk c.new-desk.result c.run.new.desk
      (g.S.Source.seen c.args.source.now) (g.S.Source.seen c.run.new.source) (g.W.Sink.seen c.args.sink.now) (g.W.Sink.seen c.run.new.sink)
      c.run.result c.in-Ok.ensures c.new-desk.ensures c.run.ensures.served,
)
