use Rattle.mpd_wire.proofs.printer.choice_value.Goals as goal

pub returns : goal.returns
returns c = c.object_of.ensures _ (c.with_flag.ensures _ (c.with_text-fields.ensures _ (c.with_number-fields.ensures _ c.no_fields.ensures)))
