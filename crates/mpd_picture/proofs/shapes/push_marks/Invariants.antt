use Rattle.std.proofs.Common.{◌≡◌, ◌++◌, drop}
use Rattle.std.specs.List.{flat_map}
use Rattle.mpd_picture.specs.Shapes.{mark_shapes}
use Rattle.mpd_picture.proofs.shapes.push_marks.Given as goal

abbrev pub invariant-loop-mark : goal.invariant-loop-mark
invariant-loop-mark l = l.shapes.items ++ flat_map (mark_shapes l.core.program l.core.world.board l.marks l.rows) (drop l.mark-index l.list) ≡ l.fn.shapes.items ++ flat_map (mark_shapes l.core.program l.core.world.board l.marks l.rows) l.list
