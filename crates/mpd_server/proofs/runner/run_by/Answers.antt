use Rattle.std.proofs.Common.{subst}
use Rattle.mpd_wire.specs.Ended.{Ended}
use Rattle.mpd_wire.specs.Requests.{request_by}
use Rattle.mpd_session.specs.Held.{Held}
use Rattle.mpd_session.specs.Respond.{Responds, KeepsNoHistory}
use Rattle.mpd_server.proofs.runner.run_by.Goals as goal

pub returns-clause-served : goal.returns-clause-served
returns-clause-served g c = (
  c.serve_by.new.desk,
  subst (λ (d : Held). Ended (request_by c.args.wide) Responds KeepsNoHistory d (g.S.Source.seen c.args.source.now) (g.S.Source.seen c.serve_by.new.source) (g.W.Sink.seen c.args.sink.now) (g.W.Sink.seen c.serve_by.new.sink) c.serve_by.new.desk c.serve_by.result) c.in-Ok.ensures c.serve_by.ensures.served,
)
