use Rattle.std.proofs.Common.{◌≡◌, length, map}
use Rattle.mpd_model.specs.grammar.Tokens.{word_in}
use Rattle.mpd_script.proofs.lex.word_in.Given as goal

abbrev pub invariant-loop-table : goal.invariant-loop-table
invariant-loop-table l = word_in (map (λ k. (k.0.now, k.1)) l.table) l.word ≡ word_in (map (λ k. (k.0.now, k.1)) l.initial.table) l.word

abbrev pub decreases-loop-table : goal.decreases-loop-table
decreases-loop-table l = length l.table
