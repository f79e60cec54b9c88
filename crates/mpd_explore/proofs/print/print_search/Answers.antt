use Rattle.std.proofs.Common.{string_bytes, map}
use Rattle.mpd_explore.proofs.PrintLemmas.{told_reports}
use Rattle.mpd_explore.proofs.print.print_search.Goals as goal

pub returns-clause-text : goal.returns-clause-text
returns-clause-text c = λ decide asked before fuel w are.
    told_reports decide c.told.result string_bytes asked before fuel w (map string_bytes c.args.report.now.witnesses.items) c.args.report.now.leaves.items c.args.report.now.more c.told.ensures are
