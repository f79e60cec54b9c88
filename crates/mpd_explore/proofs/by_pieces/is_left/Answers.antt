use Rattle.mpd_explore.specs.Sleeping.{decides_by}
use Rattle.mpd_explore.proofs.SplitLemmas.{is_still}
use Rattle.mpd_explore.proofs.ReportLemmas.{plain_left, reached_behind}
use Rattle.mpd_explore.proofs.by_pieces.is_left.Goals as goal

pub returns-then-not-limits-clause-left : goal.returns-then-not-limits-clause-left
returns-then-not-limits-clause-left c =
    plain_left c.args.limits c.args.debugger.now.world c.args.pieces.now c.args.place c.decisions_can_be_followed.ensures.follow (is_still c.args.limits.ends c.if-not-limits.true) c.requires.reaches

pub have_run-requires-clause-reaches : goal.have_run-requires-clause-reaches
have_run-requires-clause-reaches c = rw c.split_at.ensures.back (reached_behind (decides_by c.args.limits.ends) c.args.limits.fuel c.args.debugger.now.world c.args.place c.args.pieces.now c.requires.reaches)
