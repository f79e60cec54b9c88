-- How many runs there are, as text.
use Rattle.std.specs.Prelude.{ℕ, List, codes}
use Rattle.std.specs.Fmt.{decimal}
use Rattle.mpd_outcomes.specs.declared.report.Count.{Count}
use Rattle.mpd_outcomes.specs.declared.report.Count.TheVariants.{Exactly, More}

abbrev pub count_text : Count → List ℕ
count_text (Exactly n) = decimal n
count_text More = codes "at least 18446744073709551615"
