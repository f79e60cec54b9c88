use Rattle.mpd_wire.proofs.look_values.lines_value.Goals as goal

pub returns : goal.returns
returns c = c.with_version.ensures _ (c.with_made-fields-2.ensures _ _ (c.with_flag-fields.ensures _ (c.with_made-fields.ensures _ _ c.no_fields.ensures c.numbers_value-numbers.ensures)) c.partner_values.ensures)
