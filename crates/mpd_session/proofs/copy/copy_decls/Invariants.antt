use Rattle.std.proofs.Common.{◌≡◌, take}
use Rattle.mpd_session.proofs.copy.copy_decls.Given as goal

abbrev pub invariant-loop-decl : goal.invariant-loop-decl
invariant-loop-decl l = l.items.items ≡ take l.decl-index l.decls
