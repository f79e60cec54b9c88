-- The breakpoints that are wanted, as contracts see them.
use Rattle.std.specs.Prelude.{List}
use Rattle.std.specs.Coded.{Coded, coded_list}
use Rattle.mpd_dap.specs.declared.ask.Wanted.{Wanted}
use Rattle.mpd_dap.specs.contracts.ask.Wanted as wanted_row

abbrev pub wants_code : Coded (List Wanted)
wants_code = coded_list wanted_row.the_row.coded
