use Rattle.mpd_wire.proofs.look_values.listed_value.Goals as goal

pub returns : goal.returns
returns c = c.with_version.ensures _ (c.with_number-fields.ensures _ (c.with_made-fields.ensures _ _ (c.with_depth-fields.ensures _ c.no_fields.ensures) c.texts_value.ensures))
