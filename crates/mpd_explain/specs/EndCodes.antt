-- Calls that block their ranks, and ranks that are trapped, as contracts see them in lists.
use Rattle.std.specs.Prelude.{List}
use Rattle.std.specs.Coded.{Coded, coded_list}
use Rattle.mpd_explain.specs.declared.ends.Wait.{Wait}
use Rattle.mpd_explain.specs.declared.ends.TrapPlace.{TrapPlace}
use Rattle.mpd_explain.specs.contracts.ends.Wait as wait_row
use Rattle.mpd_explain.specs.contracts.ends.TrapPlace as trap_row

abbrev pub waits_code : Coded (List Wait)
waits_code = coded_list wait_row.the_row.coded

abbrev pub traps_code : Coded (List TrapPlace)
traps_code = coded_list trap_row.the_row.coded
