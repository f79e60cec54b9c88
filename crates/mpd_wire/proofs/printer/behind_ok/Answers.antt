use Rattle.mpd_wire.proofs.printer.behind_ok.Goals as goal

pub returns : goal.returns
returns c = c.with_version.ensures _ (c.with_field-fields.ensures _ (c.with_flag-fields.ensures _ c.no_fields.ensures))
