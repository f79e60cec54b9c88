-- Worked rows: what some texts are read as, by computing.
use Rattle.std.specs.Prelude.{◌≡◌, ℕ, zero, suc, pos, List, [], ◌∷◌, ◌++◌, length, Some, None, Ok, Err, codes, replicate, flat_map, refl}
use Rattle.mpd_model.specs.declared.expr.BinaryOp.TheVariants.{Equal, Add}
use Rattle.mpd_model.specs.declared.expr.UnaryOp.TheVariants.{Negate, Not}
use Rattle.mpd_model.specs.declared.place.DeclKind.TheVariants.{Variable, Handle}
use Rattle.mpd_model.specs.declared.place.Place.{Place}
use Rattle.mpd_model.specs.declared.read_fault.FaultCode.TheVariants as f
use Rattle.mpd_model.specs.script.Declaration.{Declared}
use Rattle.mpd_model.specs.grammar.Faults.{fault}
use Rattle.mpd_model.specs.grammar.Grammar.{reading, script, header, version, ranks, decls, decls_from, decl, declarator, single, array_size, body, stmts, stmt, block, if_statement, otherwise, while_statement, target, statement_place, source, status, assignment, expr, level, chain, atom, place_inside, bracket, rounds, unary}
use Rattle.mpd_model.specs.grammar.Input.{Input, count, spend, seek, slot_in, fresh, add, expect, after, sees, same_symbol, advanced, place, spelling, token, refusal}
use Rattle.mpd_model.specs.script.Term.{lit, own_rank, size, cell, op1, op2, Target}
use Rattle.mpd_model.specs.grammar.Tokens.{tokens, tokens_after, front, sign, word, number}
use Rattle.mpd_model.specs.script.Tree.{Tree, branch, repeat, no_more, then_more, block_of}
use Rattle.mpd_rows.specs.worlds.Statements.{print, send, recv, assign}

abbrev variable_named : List ℕ → Declared
variable_named name = record { kind = Variable; name = name; size = None }

-- the variable whose declaration has that number, where there are no arrays, and what writes it
abbrev at : ℕ → Place
at n = record { declaration = n; first = n; cells = 1 }

abbrev into : Place → Target
into p = record { place = p; index = None }

abbrev at_limits : List ℕ → Input
at_limits text = record {
  tokens = tokens text;
  end = length text;
  version = 1;
  decls = record { kind = Variable; name = codes "a"; size = Some 1024 } ∷ [];
  lines = replicate 4096 1;
  budget = 0;
}

-- so many statements, each in the block of the one before
abbrev nested : ℕ → List Tree
nested zero = []
nested (suc n) = branch (lit (pos 1)) (block_of (nested n)) no_more ∷ []

pub row_empty : reading ([]) ≡ Err (fault f.Expected 0)
unfolding reading script header version ranks decls decls_from decl declarator single array_size body stmts stmt block if_statement otherwise while_statement target statement_place source status assignment expr level chain atom place_inside bracket rounds unary count spend seek slot_in fresh add expect after sees same_symbol advanced place spelling token refusal tokens_after front sign word number
row_empty = refl

pub row_end : reading (codes "mpd 1;ranks 1;print") ≡ Err (fault f.Expected 19)
unfolding reading script header version ranks decls decls_from decl declarator single array_size body stmts stmt block if_statement otherwise while_statement target statement_place source status assignment expr level chain atom place_inside bracket rounds unary count spend seek slot_in fresh add expect after sees same_symbol advanced place spelling token refusal tokens_after front sign word number
row_end = refl

pub row_version : reading (codes "mpd 3;") ≡ Err (fault f.NotInVersion 4)
unfolding reading script header version ranks decls decls_from decl declarator single array_size body stmts stmt block if_statement otherwise while_statement target statement_place source status assignment expr level chain atom place_inside bracket rounds unary count spend seek slot_in fresh add expect after sees same_symbol advanced place spelling token refusal tokens_after front sign word number
row_version = refl

pub row_version_large : reading (codes "mpd 9223372036854775808;") ≡ Err (fault f.BadToken 4)
unfolding reading script header version ranks decls decls_from decl declarator single array_size body stmts stmt block if_statement otherwise while_statement target statement_place source status assignment expr level chain atom place_inside bracket rounds unary count spend seek slot_in fresh add expect after sees same_symbol advanced place spelling token refusal tokens_after front sign word number
row_version_large = refl

pub row_ranks : reading (codes "mpd 1; ranks 17;") ≡ Err (fault f.BadRanks 13)
unfolding reading script header version ranks decls decls_from decl declarator single array_size body stmts stmt block if_statement otherwise while_statement target statement_place source status assignment expr level chain atom place_inside bracket rounds unary count spend seek slot_in fresh add expect after sees same_symbol advanced place spelling token refusal tokens_after front sign word number
row_ranks = refl

pub row_no_ranks : reading (codes "mpd 1; ranks 0;") ≡ Err (fault f.BadRanks 13)
unfolding reading script header version ranks decls decls_from decl declarator single array_size body stmts stmt block if_statement otherwise while_statement target statement_place source status assignment expr level chain atom place_inside bracket rounds unary count spend seek slot_in fresh add expect after sees same_symbol advanced place spelling token refusal tokens_after front sign word number
row_no_ranks = refl

pub row_no_token : reading (codes "mpd 1;ranks 1;$") ≡ Err (fault f.BadToken 14)
unfolding reading script header version ranks decls decls_from decl declarator single array_size body stmts stmt block if_statement otherwise while_statement target statement_place source status assignment expr level chain atom place_inside bracket rounds unary count spend seek slot_in fresh add expect after sees same_symbol advanced place spelling token refusal tokens_after front sign word number
row_no_token = refl

pub row_half_sign : reading (codes "mpd 1;ranks 1;print 1 & 2;") ≡ Err (fault f.BadToken 22)
unfolding reading script header version ranks decls decls_from decl declarator single array_size body stmts stmt block if_statement otherwise while_statement target statement_place source status assignment expr level chain atom place_inside bracket rounds unary count spend seek slot_in fresh add expect after sees same_symbol advanced place spelling token refusal tokens_after front sign word number
row_half_sign = refl

-- a byte that is no text is found in a comment too, and before every other fault
pub row_not_text : reading (codes "mpd 1;ranks 1;#" ++ 200 ∷ []) ≡ Err (fault f.NotText 15)
unfolding reading script header version ranks decls decls_from decl declarator single array_size body stmts stmt block if_statement otherwise while_statement target statement_place source status assignment expr level chain atom place_inside bracket rounds unary count spend seek slot_in fresh add expect after sees same_symbol advanced place spelling token refusal tokens_after front sign word number
row_not_text = refl

pub row_unknown : reading (codes "mpd 1;ranks 1;print y;") ≡ Err (fault f.UnknownName 20)
unfolding reading script header version ranks decls decls_from decl declarator single array_size body stmts stmt block if_statement otherwise while_statement target statement_place source status assignment expr level chain atom place_inside bracket rounds unary count spend seek slot_in fresh add expect after sees same_symbol advanced place spelling token refusal tokens_after front sign word number
row_unknown = refl

pub row_twice : reading (codes "mpd 1;ranks 1;var x;var x;") ≡ Err (fault f.Twice 24)
unfolding reading script header version ranks decls decls_from decl declarator single array_size body stmts stmt block if_statement otherwise while_statement target statement_place source status assignment expr level chain atom place_inside bracket rounds unary count spend seek slot_in fresh add expect after sees same_symbol advanced place spelling token refusal tokens_after front sign word number
row_twice = refl

pub row_keyword : reading (codes "mpd 1;ranks 1;var rank;") ≡ Err (fault f.Expected 18)
unfolding reading script header version ranks decls decls_from decl declarator single array_size body stmts stmt block if_statement otherwise while_statement target statement_place source status assignment expr level chain atom place_inside bracket rounds unary count spend seek slot_in fresh add expect after sees same_symbol advanced place spelling token refusal tokens_after front sign word number
row_keyword = refl

pub row_array : reading (codes "mpd 1;ranks 1;var x[1];") ≡ Ok (record { version = 1; ranks = 1; decls = record { kind = Variable; name = codes "x"; size = Some 1 } ∷ []; body = []; lines = [] })
unfolding reading script header version ranks decls decls_from decl declarator single array_size body stmts stmt block if_statement otherwise while_statement target statement_place source status assignment expr level chain atom place_inside bracket rounds unary count spend seek slot_in fresh add expect after sees same_symbol advanced place spelling token refusal tokens_after front sign word number
row_array = refl

pub row_handle : reading (codes "mpd 1;ranks 1;req h;") ≡ Ok (record { version = 1; ranks = 1; decls = record { kind = Handle; name = codes "h"; size = None } ∷ []; body = []; lines = [] })
unfolding reading script header version ranks decls decls_from decl declarator single array_size body stmts stmt block if_statement otherwise while_statement target statement_place source status assignment expr level chain atom place_inside bracket rounds unary count spend seek slot_in fresh add expect after sees same_symbol advanced place spelling token refusal tokens_after front sign word number
row_handle = refl

pub row_name : reading (codes "mpd 1;ranks 1;var x;x=1;") ≡ Ok (record { version = 1; ranks = 1; decls = variable_named (codes "x") ∷ []; body = assign (into (at 0)) (lit (pos 1)) ∷ []; lines = 1 ∷ [] })
unfolding reading script header version ranks decls decls_from decl declarator single array_size body stmts stmt block if_statement otherwise while_statement target statement_place source status assignment expr level chain atom place_inside bracket rounds unary count spend seek slot_in fresh add expect after sees same_symbol advanced place spelling token refusal tokens_after front sign word number
row_name = refl

pub row_unknown_first : reading (codes "mpd 1;ranks 1;x=1;") ≡ Err (fault f.UnknownName 14)
unfolding reading script header version ranks decls decls_from decl declarator single array_size body stmts stmt block if_statement otherwise while_statement target statement_place source status assignment expr level chain atom place_inside bracket rounds unary count spend seek slot_in fresh add expect after sees same_symbol advanced place spelling token refusal tokens_after front sign word number
row_unknown_first = refl

pub row_while : reading (codes "mpd 1;ranks 1;while 1 {}") ≡ Ok (record { version = 1; ranks = 1; decls = []; body = repeat (lit (pos 1)) no_more ∷ []; lines = 1 ∷ [] })
unfolding reading script header version ranks decls decls_from decl declarator single array_size body stmts stmt block if_statement otherwise while_statement target statement_place source status assignment expr level chain atom place_inside bracket rounds unary count spend seek slot_in fresh add expect after sees same_symbol advanced place spelling token refusal tokens_after front sign word number
row_while = refl

pub row_minus : reading (codes "mpd 1;ranks 1;print -1;") ≡ Ok (record { version = 1; ranks = 1; decls = []; body = print (op1 Negate (lit (pos 1))) ∷ []; lines = 1 ∷ [] })
unfolding reading script header version ranks decls decls_from decl declarator single array_size body stmts stmt block if_statement otherwise while_statement target statement_place source status assignment expr level chain atom place_inside bracket rounds unary count spend seek slot_in fresh add expect after sees same_symbol advanced place spelling token refusal tokens_after front sign word number
row_minus = refl

pub row_not : reading (codes "mpd 1;ranks 1;print !1;") ≡ Ok (record { version = 1; ranks = 1; decls = []; body = print (op1 Not (lit (pos 1))) ∷ []; lines = 1 ∷ [] })
unfolding reading script header version ranks decls decls_from decl declarator single array_size body stmts stmt block if_statement otherwise while_statement target statement_place source status assignment expr level chain atom place_inside bracket rounds unary count spend seek slot_in fresh add expect after sees same_symbol advanced place spelling token refusal tokens_after front sign word number
row_not = refl

pub row_sum : reading (codes "mpd 1;ranks 1;print 1+1;") ≡ Ok (record { version = 1; ranks = 1; decls = []; body = print (op2 Add (lit (pos 1)) (lit (pos 1))) ∷ []; lines = 1 ∷ [] })
unfolding reading script header version ranks decls decls_from decl declarator single array_size body stmts stmt block if_statement otherwise while_statement target statement_place source status assignment expr level chain atom place_inside bracket rounds unary count spend seek slot_in fresh add expect after sees same_symbol advanced place spelling token refusal tokens_after front sign word number
row_sum = refl

-- comparisons don't chain
pub row_chained : reading (codes "mpd 1;ranks 1;print 1==2!=3;") ≡ Err (fault f.Expected 24)
unfolding reading script header version ranks decls decls_from decl declarator single array_size body stmts stmt block if_statement otherwise while_statement target statement_place source status assignment expr level chain atom place_inside bracket rounds unary count spend seek slot_in fresh add expect after sees same_symbol advanced place spelling token refusal tokens_after front sign word number
row_chained = refl

-- a number and a name stand side by side without a blank
pub row_glued : reading (codes "mpd 1;ranks 1;print 1x;") ≡ Err (fault f.Expected 21)
unfolding reading script header version ranks decls decls_from decl declarator single array_size body stmts stmt block if_statement otherwise while_statement target statement_place source status assignment expr level chain atom place_inside bracket rounds unary count spend seek slot_in fresh add expect after sees same_symbol advanced place spelling token refusal tokens_after front sign word number
row_glued = refl

pub row_glued_word : reading (codes "mpd1;") ≡ Err (fault f.Expected 0)
unfolding reading script header version ranks decls decls_from decl declarator single array_size body stmts stmt block if_statement otherwise while_statement target statement_place source status assignment expr level chain atom place_inside bracket rounds unary count spend seek slot_in fresh add expect after sees same_symbol advanced place spelling token refusal tokens_after front sign word number
row_glued_word = refl

pub row_waitany : reading (codes "mpd 1;ranks 1;waitany") ≡ Err (fault f.NotInVersion 14)
unfolding reading script header version ranks decls decls_from decl declarator single array_size body stmts stmt block if_statement otherwise while_statement target statement_place source status assignment expr level chain atom place_inside bracket rounds unary count spend seek slot_in fresh add expect after sees same_symbol advanced place spelling token refusal tokens_after front sign word number
row_waitany = refl

pub row_waitany_in : reading (codes "mpd 1;ranks 1;print waitany;") ≡ Err (fault f.Expected 20)
unfolding reading script header version ranks decls decls_from decl declarator single array_size body stmts stmt block if_statement otherwise while_statement target statement_place source status assignment expr level chain atom place_inside bracket rounds unary count spend seek slot_in fresh add expect after sees same_symbol advanced place spelling token refusal tokens_after front sign word number
row_waitany_in = refl

pub row_brace : reading (codes "mpd 1;ranks 1;}") ≡ Err (fault f.Expected 14)
unfolding reading script header version ranks decls decls_from decl declarator single array_size body stmts stmt block if_statement otherwise while_statement target statement_place source status assignment expr level chain atom place_inside bracket rounds unary count spend seek slot_in fresh add expect after sees same_symbol advanced place spelling token refusal tokens_after front sign word number
row_brace = refl

pub row_open : reading (codes "mpd 1;ranks 1;if 1 {") ≡ Err (fault f.Expected 20)
unfolding reading script header version ranks decls decls_from decl declarator single array_size body stmts stmt block if_statement otherwise while_statement target statement_place source status assignment expr level chain atom place_inside bracket rounds unary count spend seek slot_in fresh add expect after sees same_symbol advanced place spelling token refusal tokens_after front sign word number
row_open = refl

pub row_else : reading (codes "mpd 1;ranks 1;else {}") ≡ Err (fault f.Expected 14)
unfolding reading script header version ranks decls decls_from decl declarator single array_size body stmts stmt block if_statement otherwise while_statement target statement_place source status assignment expr level chain atom place_inside bracket rounds unary count spend seek slot_in fresh add expect after sees same_symbol advanced place spelling token refusal tokens_after front sign word number
row_else = refl

pub row_name_65 : reading (codes "mpd 1;ranks 1;var " ++ replicate 65 97 ++ codes ";") ≡ Err (fault f.BadToken 18)
unfolding reading script header version ranks decls decls_from decl declarator single array_size body stmts stmt block if_statement otherwise while_statement target statement_place source status assignment expr level chain atom place_inside bracket rounds unary count spend seek slot_in fresh add expect after sees same_symbol advanced place spelling token refusal tokens_after front sign word number
row_name_65 = refl

pub row_name_64 : reading (codes "mpd 1;ranks 1;var " ++ replicate 64 97 ++ codes ";") ≡ Ok (record { version = 1; ranks = 1; decls = variable_named (replicate 64 97) ∷ []; body = []; lines = [] })
unfolding reading script header version ranks decls decls_from decl declarator single array_size body stmts stmt block if_statement otherwise while_statement target statement_place source status assignment expr level chain atom place_inside bracket rounds unary count spend seek slot_in fresh add expect after sees same_symbol advanced place spelling token refusal tokens_after front sign word number
row_name_64 = refl

pub row_zeros : reading (codes "mpd 01;ranks 016;") ≡ Ok (record { version = 1; ranks = 16; decls = []; body = []; lines = [] })
unfolding reading script header version ranks decls decls_from decl declarator single array_size body stmts stmt block if_statement otherwise while_statement target statement_place source status assignment expr level chain atom place_inside bracket rounds unary count spend seek slot_in fresh add expect after sees same_symbol advanced place spelling token refusal tokens_after front sign word number
row_zeros = refl

pub row_brackets : reading (codes "mpd 1;ranks 1;print " ++ replicate 64 40 ++ codes "1" ++ replicate 64 41 ++ codes ";") ≡ Ok (record { version = 1; ranks = 1; decls = []; body = print (lit (pos 1)) ∷ []; lines = 1 ∷ [] })
unfolding reading script header version ranks decls decls_from decl declarator single array_size body stmts stmt block if_statement otherwise while_statement target statement_place source status assignment expr level chain atom place_inside bracket rounds unary count spend seek slot_in fresh add expect after sees same_symbol advanced place spelling token refusal tokens_after front sign word number
row_brackets = refl

pub row_brackets_65 : reading (codes "mpd 1;ranks 1;print " ++ replicate 65 40) ≡ Err (fault f.TooDeep 84)
unfolding reading script header version ranks decls decls_from decl declarator single array_size body stmts stmt block if_statement otherwise while_statement target statement_place source status assignment expr level chain atom place_inside bracket rounds unary count spend seek slot_in fresh add expect after sees same_symbol advanced place spelling token refusal tokens_after front sign word number
row_brackets_65 = refl

-- operators count with brackets
pub row_operator_65 : reading (codes "mpd 1;ranks 1;print " ++ replicate 64 40 ++ codes "1==1") ≡ Err (fault f.TooDeep 85)
unfolding reading script header version ranks decls decls_from decl declarator single array_size body stmts stmt block if_statement otherwise while_statement target statement_place source status assignment expr level chain atom place_inside bracket rounds unary count spend seek slot_in fresh add expect after sees same_symbol advanced place spelling token refusal tokens_after front sign word number
row_operator_65 = refl

-- an operator that may not stand there isn't too deep
pub row_operator_none : reading (codes "mpd 1;ranks 1;print 1==" ++ replicate 63 40 ++ codes "1" ++ replicate 63 41 ++ codes "==") ≡ Err (fault f.Expected 150)
unfolding reading script header version ranks decls decls_from decl declarator single array_size body stmts stmt block if_statement otherwise while_statement target statement_place source status assignment expr level chain atom place_inside bracket rounds unary count spend seek slot_in fresh add expect after sees same_symbol advanced place spelling token refusal tokens_after front sign word number
row_operator_none = refl

pub row_blocks : reading (codes "mpd 1;ranks 1;" ++ flat_map {X = ℕ} (λ _. codes "if 1 {") (replicate 64 0) ++ replicate 64 125) ≡ Ok (record { version = 1; ranks = 1; decls = []; body = nested 64; lines = replicate 64 1 })
unfolding reading script header version ranks decls decls_from decl declarator single array_size body stmts stmt block if_statement otherwise while_statement target statement_place source status assignment expr level chain atom place_inside bracket rounds unary count spend seek slot_in fresh add expect after sees same_symbol advanced place spelling token refusal tokens_after front sign word number
row_blocks = refl

pub row_blocks_65 : reading (codes "mpd 1;ranks 1;" ++ flat_map {X = ℕ} (λ _. codes "if 1 {") (replicate 65 0)) ≡ Err (fault f.TooDeep 403)
unfolding reading script header version ranks decls decls_from decl declarator single array_size body stmts stmt block if_statement otherwise while_statement target statement_place source status assignment expr level chain atom place_inside bracket rounds unary count spend seek slot_in fresh add expect after sees same_symbol advanced place spelling token refusal tokens_after front sign word number
row_blocks_65 = refl

pub row_two_ranks : reading (codes "mpd 1;\nranks 2;\nvar x;\nif rank == 0 { send 7 to 1 tag 0; } else { recv x from 0 tag 0; print x; }") ≡ Ok (record { version = 1; ranks = 2; decls = variable_named (codes "x") ∷ []; body = branch (op2 Equal own_rank (lit (pos 0))) (then_more (send (lit (pos 7)) (lit (pos 1)) (lit (pos 0))) no_more) (then_more (recv (into (at 0)) (lit (pos 0)) (lit (pos 0))) (then_more (print (cell (at 0))) no_more)) ∷ []; lines = 4 ∷ 4 ∷ 4 ∷ 4 ∷ [] })
unfolding reading script header version ranks decls decls_from decl declarator single array_size body stmts stmt block if_statement otherwise while_statement target statement_place source status assignment expr level chain atom place_inside bracket rounds unary count spend seek slot_in fresh add expect after sees same_symbol advanced place spelling token refusal tokens_after front sign word number
row_two_ranks = refl

-- a line feed alone ends a line and a comment
pub row_lines : reading (codes "mpd 1;ranks 2;# two ranks\nvar a;var b;\n\nif a\n== b { # }\n  send a\n to size tag b;\n}\r\n\tprint (1);#") ≡ Ok (record { version = 1; ranks = 2; decls = variable_named (codes "a") ∷ variable_named (codes "b") ∷ []; body = branch (op2 Equal (cell (at 0)) (cell (at 1))) (then_more (send (cell (at 0)) size (cell (at 1))) no_more) no_more ∷ print (lit (pos 1)) ∷ []; lines = 4 ∷ 6 ∷ 9 ∷ [] })
unfolding reading script header version ranks decls decls_from decl declarator single array_size body stmts stmt block if_statement otherwise while_statement target statement_place source status assignment expr level chain atom place_inside bracket rounds unary count spend seek slot_in fresh add expect after sees same_symbol advanced place spelling token refusal tokens_after front sign word number
row_lines = refl

-- ---- where a limit is reached: each text stands after 1,024 cells and 4,096 statements

pub row_full : declarator Variable (at_limits (codes "b;")) ≡ Err (fault f.TooMany 0)
unfolding reading script header version ranks decls decls_from decl declarator single array_size body stmts stmt block if_statement otherwise while_statement target statement_place source status assignment expr level chain atom place_inside bracket rounds unary count spend seek slot_in fresh add expect after sees same_symbol advanced place spelling token refusal tokens_after front sign word number
row_full = refl

-- what follows doesn't matter, unless it is a bracket: then the size counts, at its own place
pub row_full_bad : declarator Variable (at_limits (codes "b$")) ≡ Err (fault f.TooMany 0)
unfolding reading script header version ranks decls decls_from decl declarator single array_size body stmts stmt block if_statement otherwise while_statement target statement_place source status assignment expr level chain atom place_inside bracket rounds unary count spend seek slot_in fresh add expect after sees same_symbol advanced place spelling token refusal tokens_after front sign word number
row_full_bad = refl

pub row_full_bracket : declarator Variable (at_limits (codes "b[1];")) ≡ Err (fault f.TooMany 2)
unfolding reading script header version ranks decls decls_from decl declarator single array_size body stmts stmt block if_statement otherwise while_statement target statement_place source status assignment expr level chain atom place_inside bracket rounds unary count spend seek slot_in fresh add expect after sees same_symbol advanced place spelling token refusal tokens_after front sign word number
row_full_bracket = refl

pub row_full_twice : declarator Variable (at_limits (codes "a;")) ≡ Err (fault f.Twice 0)
unfolding reading script header version ranks decls decls_from decl declarator single array_size body stmts stmt block if_statement otherwise while_statement target statement_place source status assignment expr level chain atom place_inside bracket rounds unary count spend seek slot_in fresh add expect after sees same_symbol advanced place spelling token refusal tokens_after front sign word number
row_full_twice = refl

pub row_4097 : stmt (block 1) (at_limits (codes "print 1;")) ≡ Err (fault f.TooMany 0)
unfolding reading script header version ranks decls decls_from decl declarator single array_size body stmts stmt block if_statement otherwise while_statement target statement_place source status assignment expr level chain atom place_inside bracket rounds unary count spend seek slot_in fresh add expect after sees same_symbol advanced place spelling token refusal tokens_after front sign word number
row_4097 = refl

pub row_4097_waitany : stmt (block 1) (at_limits (codes "waitany")) ≡ Err (fault f.TooMany 0)
unfolding reading script header version ranks decls decls_from decl declarator single array_size body stmts stmt block if_statement otherwise while_statement target statement_place source status assignment expr level chain atom place_inside bracket rounds unary count spend seek slot_in fresh add expect after sees same_symbol advanced place spelling token refusal tokens_after front sign word number
row_4097_waitany = refl

-- a token that begins no statement isn't one too many
pub row_4097_semicolon : stmt (block 1) (at_limits (codes ";")) ≡ Err (fault f.Expected 0)
unfolding reading script header version ranks decls decls_from decl declarator single array_size body stmts stmt block if_statement otherwise while_statement target statement_place source status assignment expr level chain atom place_inside bracket rounds unary count spend seek slot_in fresh add expect after sees same_symbol advanced place spelling token refusal tokens_after front sign word number
row_4097_semicolon = refl
