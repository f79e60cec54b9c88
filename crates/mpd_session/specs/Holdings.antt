-- What ranks hold, and what a script declares, as contracts see it in replies.
use Rattle.std.specs.Prelude.{List}
use Rattle.std.specs.Coded.{Coded, coded_list}
use Rattle.mpd_model.specs.script.Declaration.{Declared, declared_code}
use Rattle.mpd_session.specs.declared.reply.Holding.{Holding}
use Rattle.mpd_session.specs.contracts.reply.Holding as holding_row

abbrev pub holdings_code : Coded (List Holding)
holdings_code = coded_list holding_row.the_row.coded

abbrev pub decls_code : Coded (List Declared)
decls_code = coded_list declared_code
