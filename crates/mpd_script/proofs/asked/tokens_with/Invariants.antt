use Rattle.std.proofs.Common.{◌≡◌, ◌++◌, drop}
use Rattle.mpd_script.specs.Asked.{start_with}
use Rattle.mpd_script.proofs.asked.tokens_with.Given as goal

-- what is declared already, and what is still to come
abbrev pub invariant-loop-decl : goal.invariant-loop-decl
invariant-loop-decl l = (l.tokens ≡ start_with l.tokens.decls l.text) × (l.tokens.decls ++ drop l.decl-index l.decls ≡ l.decls)
