use Rattle.mpd_wire.proofs.printer.break_fields.Goals as goal

pub returns-in-None : goal.returns-in-None
returns-in-None c = rw c.in-None.is c.no_fields.ensures

pub returns-in-Some : goal.returns-in-Some
returns-in-Some c = rw c.in-Some.is (c.with_number.ensures _ c.no_fields-in-Some.ensures)
