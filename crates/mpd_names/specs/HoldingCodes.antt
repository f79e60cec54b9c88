-- What ranks hold, as contracts see it in lists.
use Rattle.std.specs.Prelude.{List}
use Rattle.std.specs.Coded.{Coded, coded_list}
use Rattle.mpd_names.specs.declared.holding.Holding.{Holding}
use Rattle.mpd_names.specs.contracts.holding.Holding as holding_row

abbrev pub holdings_code : Coded (List Holding)
holdings_code = coded_list holding_row.the_row.coded
