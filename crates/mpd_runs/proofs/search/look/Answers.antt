use Rattle.std.proofs.Common.{sym, ◌∙◌}
use Rattle.mpd_runs.proofs.LookLemmas.{looked_short}
use Rattle.mpd_runs.proofs.search.look.Goals as goal

pub returns-clause-looked : goal.returns-clause-looked
returns-clause-looked c =
    looked_short c.args.way c.args.fuel c.args.copy.now.world c.in_ok-report.report.leaves.items c.in_ok-report.report.more c.in_ok-report.ensures.leaves c.in_ok-report.ensures.more
    (sym c.falls_short.ensures ∙ c.if-falls_short.false)
