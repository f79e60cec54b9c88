use Rattle.std.proofs.Common.{◌≡◌, ◌+◌, drop}
use Rattle.mpd_model.specs.script.Declaration.{variables_in}
use Rattle.mpd_code.proofs.cells.variable_count.Given as goal

abbrev pub invariant-loop-decl : goal.invariant-loop-decl
invariant-loop-decl l = l.total + variables_in (drop l.decl-index l.decls) ≡ variables_in l.decls
