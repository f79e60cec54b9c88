use Rattle.mpd_runs.proofs.KeepLemmas.{texts_unboxed}
use Rattle.mpd_runs.proofs.keep.report_of.Goals as goal

pub returns-clause-texts : goal.returns-clause-texts
returns-clause-texts c = texts_unboxed c.args.held.texts.items c.in_ok-witnesses.witnesses.items c.in_ok-witnesses.ensures.items
