use Rattle.std.proofs.Common.{refl, sym, subst, Ok}
use Rattle.mpd_wire.specs.Requests.{request_by}
use Rattle.mpd_wire.specs.Ended.{Ended}
use Rattle.mpd_wire.proofs.EndLemmas.{ended_ok, ended_err, name_ok}
use Rattle.mpd_wire.proofs.engine.serve_by.Goals as goal

pub returns-in-Ok : goal.returns-in-Ok
returns-in-Ok g c =
    let asks = g.D.Desk.asks in
    let full = g.D.Desk.is_full in
    let source = g.S.Source.seen in
    let sink = g.W.Sink.seen in
    let same = name_ok asks full (λ x. x.desk.now) (λ x. x.wide) (λ x. x.lines) (λ x. x.desk.ghost_name) _ c.run.new.desk (source c.args.source.now) (source c.run.new.source) (sink c.args.sink.now) (sink c.run.new.sink) _ c.in-Ok.ensures.served in
    let all = ended_ok asks full (λ x. x.desk.now) (λ x. x.wide) (λ x. x.lines) (λ x. x.desk.ghost_name) _ c.run.new.desk (source c.args.source.now) (source c.run.new.source) (sink c.args.sink.now) (sink c.run.new.sink) (record { lines = c.run.new.desk.lines }) _ refl refl c.in-Ok.ensures.served in
    record { served = subst (λ e. Ended (request_by c.args.wide) asks full c.args.desk.now (source c.args.source.now) (source c.run.new.source) (sink c.args.sink.now) (sink c.run.new.sink) e (Ok (record { lines = c.run.new.desk.lines }))) (sym (c.desk-1.given.1 (sym same))) all; counted = c.in-Ok.ensures.counted }

pub returns-in-Err : goal.returns-in-Err
returns-in-Err g c =
    let source = g.S.Source.seen in
    let sink = g.W.Sink.seen in
    record {
      served = ended_err g.D.Desk.asks g.D.Desk.is_full (λ x. x.desk.now) (λ x. x.wide) (λ x. x.lines) (λ x. x.desk.ghost_name) _ c.run.new.desk (source c.args.source.now) (source c.run.new.source) (sink c.args.sink.now) (sink c.run.new.sink) c.in-Err.fault _
          c.in-Err.desk-in-Err-1-own.given.1 c.in-Err.ensures.served;
      counted = c.in-Err.ensures.counted;
    }
