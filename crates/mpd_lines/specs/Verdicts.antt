-- The status that the program ends with, by what was found.
use Rattle.std.specs.Prelude.{ℕ}
use Rattle.mpd_lines.specs.declared.verdict.Verdict.{Verdict}
use Rattle.mpd_lines.specs.declared.verdict.Verdict.TheVariants.{Good, Bad, NotWhole}

abbrev pub verdict_status : Verdict → ℕ
verdict_status Good = 0
verdict_status Bad = 1
verdict_status NotWhole = 4
