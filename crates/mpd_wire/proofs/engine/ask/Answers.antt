use Rattle.std.proofs.Common.{ap, Err}
use Rattle.mpd_wire.proofs.SayLemmas.{history_full}
use Rattle.mpd_wire.proofs.engine.ask.Goals as goal

pub returns-in-Err-HistoryFull-clause-asked : goal.returns-in-Err-HistoryFull-clause-asked
returns-in-Err-HistoryFull-clause-asked g c =
    history_full g.D.Desk.asks g.D.Desk.is_full c.args.desk.now c.ask.new.self c.args.request.now c.args.out.now.items c.push_all.new.out.items c.in-Err-HistoryFull.ensures.err
    (c.in-Err-HistoryFull.ensures.full (ap Err c.in-Err-HistoryFull.field-0-is)) c.push_all.ensures.items
