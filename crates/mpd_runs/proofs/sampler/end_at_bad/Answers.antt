use Rattle.std.proofs.Common.{map, ap, ◌∙◌}
use Rattle.std.specs.Prelude.{string_bytes}
use Rattle.mpd_explore.specs.Asked.{are_asked}
use Rattle.mpd_runs.proofs.UntilLemmas.{texts_at, texts_cut}
use Rattle.mpd_runs.proofs.sampler.end_at_bad.Goals as goal

pub returns-clause-texts : goal.returns-clause-texts
returns-clause-texts c text h = texts_at (are_asked c.args.limits.witnesses) text c.count_to_bad-count.result c.args.report.now.leaves.items c.truncate.new.self.items (map string_bytes c.args.report.now.witnesses.items) (map string_bytes c.truncate-2.new.self.items)
    c.truncate.ensures.items (ap (map string_bytes) c.truncate-2.ensures.items ∙ texts_cut c.count_to_bad-count.result c.args.report.now.witnesses.items) h
