use Rattle.mpd_check.specs.Outcomes.{IsAnyText}
use Rattle.mpd_check.proofs.OutcomesLemmas.{put_answered}
use Rattle.mpd_check.proofs.outcomes.check_outcomes.Goals as goal

pub returns : goal.returns
returns g c = put_answered IsAnyText c.args.plan.limits c.args.subject.code.now.program c.args.subject.mode (g.W.Sink.seen c.args.sink.now) (g.W.Sink.seen c.put_outcomes.new.sink) c.tell.result c.put_outcomes.result c.tell.ensures c.put_outcomes.ensures
