-- Reasons that are others than they were, as contracts see them in lists.
use Rattle.std.specs.Prelude.{List}
use Rattle.std.specs.Coded.{Coded, coded_list}
use Rattle.mpd_page.specs.declared.changes.ReasonChange.{ReasonChange}
use Rattle.mpd_page.specs.contracts.changes.ReasonChange as change_row

abbrev pub changes_code : Coded (List ReasonChange)
changes_code = coded_list change_row.the_row.coded
