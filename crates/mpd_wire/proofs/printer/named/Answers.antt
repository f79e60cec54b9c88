use Rattle.mpd_wire.proofs.printer.named.Goals as goal

pub returns : goal.returns
returns c = c.object_of.ensures _ (c.with_flag.ensures _ (c.with_text-fields.ensures _ c.no_fields.ensures))
