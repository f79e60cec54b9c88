use Rattle.mpd_diagnose.specs.Groups.{same_at}
use Rattle.mpd_explain.proofs.ListLemmas.{filter_more}
use Rattle.mpd_diagnose.proofs.groups.members.Goals as goal

pub loop-other-preserved : goal.loop-other-preserved
loop-other-preserved c =
    filter_more (same_at c.args.ends.now c.args.number) c.loop-other.other _ c.same_at.result c.loop-other.numbers.items _ _ c.loop-other-test.true c.loop-other.invariant c.same_at.ensures c.in_ok-push_if.ensures
