use Rattle.std.proofs.Common.{◌≡◌, ◌-◌}
use Rattle.mpd_model.specs.grammar.Grammar.{decls, decls_from}
use Rattle.mpd_script.proofs.script.decls.Given as goal

abbrev pub invariant-loop-turn : goal.invariant-loop-turn
invariant-loop-turn l = decls l.fn.tokens ≡ decls_from (l.most - l._turn) l.tokens
