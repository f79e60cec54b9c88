use Rattle.std.proofs.Common.{◌≡◌, ◌++◌, drop, map, string_bytes}
use Rattle.mpd_session.specs.Looks.{names}
use Rattle.mpd_session.proofs.script.names.Given as goal

abbrev pub invariant-loop-decl : goal.invariant-loop-decl
invariant-loop-decl l = map string_bytes l.items.items ++ names l.kind (drop l.decl-index l.decls) ≡ names l.kind l.decls
