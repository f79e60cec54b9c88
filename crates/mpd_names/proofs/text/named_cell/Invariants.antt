use Rattle.std.proofs.Common.{◌≡◌, drop}
use Rattle.mpd_names.specs.Called.{cell_from, named_cell}
use Rattle.mpd_names.proofs.text.named_cell.Given as goal

abbrev pub invariant-loop-declaration : goal.invariant-loop-declaration
invariant-loop-declaration l = cell_from l.declaration (drop l.declaration l.decls) l.kind l.left ≡ named_cell l.decls l.kind l.cell
