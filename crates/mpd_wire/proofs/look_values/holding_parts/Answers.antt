use Rattle.mpd_wire.proofs.look_values.holding_parts.Goals as goal

pub returns : goal.returns
returns c =
    c.object_of.ensures _ (c.with_made.ensures _ _ (c.with_made-fields-2.ensures _ _ (c.with_made-fields.ensures _ _ c.no_fields.ensures c.handles_value-requests.ensures) c.integers_value.ensures) c.integers_value-2.ensures)
