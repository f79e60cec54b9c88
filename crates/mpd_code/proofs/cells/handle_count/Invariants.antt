use Rattle.std.proofs.Common.{◌≡◌, ◌+◌, drop}
use Rattle.mpd_model.specs.script.Declaration.{handles_in}
use Rattle.mpd_code.proofs.cells.handle_count.Given as goal

abbrev pub invariant-loop-decl : goal.invariant-loop-decl
invariant-loop-decl l = l.total + handles_in (drop l.decl-index l.decls) ≡ handles_in l.decls
