use Rattle.mpd_check.specs.Outcomes.{IsModeLine}
use Rattle.mpd_check.proofs.OutcomesLemmas.{put_answered}
use Rattle.mpd_check.proofs.outcomes.check_mode_outcomes.Goals as goal

pub returns : goal.returns
returns g c =
    let s = c.args.subject.code.now.program in
    let mode = c.args.subject.mode in
    put_answered (IsModeLine mode) c.args.limits s mode (g.W.Sink.seen c.args.sink.now) (g.W.Sink.seen c.put_outcomes.new.sink) c.tell_mode.result c.put_outcomes.result c.tell_mode.ensures c.put_outcomes.ensures
