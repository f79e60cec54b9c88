use Rattle.mpd_wire.proofs.look_values.script_value.Goals as goal

pub returns : goal.returns
returns c =
    c.with_version.ensures _ (c.with_made-fields-4.ensures _ _ (c.with_number-fields.ensures _ (c.with_flag-fields.ensures _ (c.with_made-fields-3.ensures _ _ (c.with_made-fields-2.ensures _ _ (c.with_made-fields.ensures _ _ c.no_fields.ensures c.texts_value-names.ensures) c.numbers_value.ensures) c.mode_value.ensures))) c.texts_value.ensures)
