use Rattle.std.proofs.Common.{◌≡◌, drop}
use Rattle.mpd_names.specs.Names.{declaration_from}
use Rattle.mpd_names.proofs.find.declaration_of.Given as goal

abbrev pub invariant-loop-i : goal.invariant-loop-i
invariant-loop-i l = declaration_from l.i (drop l.i l.decls) l.name ≡ declaration_from 0 l.decls l.name
