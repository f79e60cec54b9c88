-- What is told of all open choices, the innermost one first.
use Rattle.std.specs.Prelude.{List, [], ◌∷◌}
use Rattle.mpd_outcomes.specs.declared.report.Count.{Count}
use Rattle.mpd_outcomes.specs.declared.search.Open.{Open}
use Rattle.mpd_outcomes.specs.Outcomes.{plus}
use Rattle.mpd_outcomes.specs.Sums.{added}

-- the counts of a level before those that were gathered, and so on for the choice round it
abbrev pub gathered : List Open → List Count → List Count → List Count
gathered [] level all = added level all
gathered (f ∷ fs) level all = gathered fs f.outer.tally.counts.items (added level all)

abbrev pub gathered_total : List Open → Count → Count → Count
gathered_total [] level all = plus level all
gathered_total (f ∷ fs) level all = gathered_total fs f.outer.tally.total (plus level all)
