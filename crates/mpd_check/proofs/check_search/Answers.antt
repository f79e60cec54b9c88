use Rattle.mpd_check.proofs.CheckLemmas.{put_answered}
use Rattle.mpd_check.proofs.check_search.Goals as goal

pub returns-in-Ok : goal.returns-in-Ok
returns-in-Ok g c =
    put_answered _ c.args.subject.code.now.program c.args.subject.mode c.args.plan c.args.crew.workers (g.W.Sink.seen c.args.sink.now) (g.W.Sink.seen c.put.new.sink) _ _ c.put.result c.in-Ok.ensures.text c.in-Ok.ensures.tally (c.is_crew.ensures.0 c.if-not-is_crew.false) c.in-Ok.ensures.few c.put.ensures
