-- Worked rows of what is read of texts with another number of ranks: the same script with that number, the lines of its statements too.
use Rattle.std.specs.Prelude.{◌≡◌, ℕ, Bool, true, false, List, [], ◌∷◌, ◌++◌, map, Result, Ok, Err, codes, refl}
use Rattle.std.specs.Fmt.{digits}
use Rattle.mpd_model.specs.declared.read_fault.ReadFault.{ReadFault}
use Rattle.mpd_model.specs.grammar.Grammar.{reading, script, header, version, ranks, decls, decls_from, decl, declarator, single, array_size, body, stmts, stmt, block, if_statement, otherwise, while_statement, target, statement_place, source, status, assignment, expr, level, chain, atom, place_inside, bracket, rounds, unary}
use Rattle.mpd_model.specs.grammar.Input.{count, spend, seek, slot_in, fresh, add, expect, after, sees, same_symbol, advanced, place, spelling, token, refusal}
use Rattle.mpd_model.specs.grammar.Tokens.{tokens_after, front, sign, word, number}
use Rattle.mpd_model.specs.script.Program.{Program}
use Rattle.mpd_trace.specs.Ranks.{program_with, text_with}

-- a text that is a script, and how many ranks are asked for
abbrev Row : Type 0
Row = List ℕ × ℕ

abbrev rows : List Row
rows =
    (codes "mpd 1; ranks 3; barrier;", 4)
    ∷ (codes "mpd 1;ranks 12;", 1)
    ∷ (codes "mpd 02; # 9" ++ 10 ∷ codes "ranks # 8;" ++ 10 ∷ codes "1; var x[2]; req r;" ++ 10 ∷ codes "x[1] = size;" ++ 10 ∷ codes "print rank + 1;", 16)
    ∷ (codes "mpd 1; ranks 2; var x; if rank == 0 { send 7 to 1 tag 2; } else {" ++ 10 ∷ codes "recv x from any tag 2; }", 3)
    ∷ []

-- what is read is a script, which has this number then
abbrev renumbered : ℕ → Result Program ReadFault → Result Program ReadFault
renumbered n (Ok p) = Ok (program_with n p)
renumbered n (Err f) = Err f

abbrev is_script : Result Program ReadFault → Bool
is_script (Ok p) = true
is_script (Err f) = false

pub worked_reading : map {B = Result Program ReadFault} (λ (row : Row). reading (text_with row.1 row.0)) rows ≡ map (λ (row : Row). renumbered row.1 (reading row.0)) rows
unfolding reading script header version ranks decls decls_from decl declarator single array_size body stmts stmt block if_statement otherwise while_statement target statement_place source status assignment expr level chain atom place_inside bracket rounds unary count spend seek slot_in fresh add expect after sees same_symbol advanced place spelling token refusal tokens_after front sign word number digits
worked_reading = refl

pub are_scripts : map (λ (row : Row). is_script (reading row.0)) rows ≡ true ∷ true ∷ true ∷ true ∷ []
unfolding reading script header version ranks decls decls_from decl declarator single array_size body stmts stmt block if_statement otherwise while_statement target statement_place source status assignment expr level chain atom place_inside bracket rounds unary count spend seek slot_in fresh add expect after sees same_symbol advanced place spelling token refusal tokens_after front sign word number
are_scripts = refl
