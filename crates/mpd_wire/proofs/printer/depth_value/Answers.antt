use Rattle.mpd_wire.proofs.printer.depth_value.Goals as goal

pub returns : goal.returns
returns c = c.with_version.ensures _ (c.with_depth.ensures _ c.no_fields.ensures)
