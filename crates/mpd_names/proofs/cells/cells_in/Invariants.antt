use Rattle.std.proofs.Common.{◌≡◌, ◌+◌, drop}
use Rattle.mpd_names.specs.Cells.{cells_in}
use Rattle.mpd_names.proofs.cells.cells_in.Given as goal

abbrev pub invariant-loop-decl : goal.invariant-loop-decl
invariant-loop-decl l = l.total + cells_in l.kind (drop l.decl-index l.decls) ≡ cells_in l.kind l.decls
