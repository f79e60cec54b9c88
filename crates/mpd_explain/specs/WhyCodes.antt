-- Calls with what they can be matched with, as contracts see them in lists.
use Rattle.std.specs.Prelude.{List}
use Rattle.std.specs.Coded.{Coded, coded_list}
use Rattle.mpd_explain.specs.declared.why.Fit.{Fit}
use Rattle.mpd_explain.specs.contracts.why.Fit as fit_row

abbrev pub fits_code : Coded (List Fit)
fits_code = coded_list fit_row.the_row.coded
