-- Calls that are waited for, as contracts see them in lists.
use Rattle.std.specs.Prelude.{List}
use Rattle.std.specs.Coded.{Coded, coded_list}
use Rattle.mpd_page.specs.declared.reasons.Awaited.{Awaited}
use Rattle.mpd_page.specs.contracts.reasons.Awaited as awaited_row

abbrev pub awaited_code : Coded (List Awaited)
awaited_code = coded_list awaited_row.the_row.coded
