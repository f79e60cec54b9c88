-- Worked rows of texts with `barrier`, `ssend` and `issend`: what each is read as, or its fault and that fault's byte place; their canonical text; and what stands at their nodes.
use Rattle.std.specs.Prelude.{◌≡◌, ℕ, map, List, [], ◌∷◌, None, Ok, codes, refl}
use Rattle.std.specs.Fmt.{digits}
use Rattle.mpd_model.specs.declared.expr.BinaryOp.TheVariants.{Add, Subtract}
use Rattle.mpd_model.specs.declared.expr.UnaryOp.TheVariants.{Negate}
use Rattle.mpd_model.specs.declared.place.DeclKind.TheVariants.{Handle}
use Rattle.mpd_model.specs.declared.place.Place.{Place}
use Rattle.mpd_model.specs.declared.read_fault.FaultCode.TheVariants as f
use Rattle.mpd_model.specs.grammar.Canonical.{canonical}
use Rattle.mpd_model.specs.grammar.Grammar.{reading, script, header, version, ranks, decls, decls_from, decl, declarator, single, array_size, body, stmts, stmt, block, if_statement, otherwise, while_statement, target, statement_place, source, status, assignment, expr, level, chain, atom, place_inside, bracket, rounds, unary}
use Rattle.mpd_model.specs.grammar.Input.{count, spend, seek, slot_in, fresh, add, expect, after, sees, same_symbol, advanced, place, spelling, token, refusal}
use Rattle.mpd_model.specs.script.Program.{Program}
use Rattle.mpd_model.specs.script.Term.{own_rank, size, cell, op1, op2}
use Rattle.mpd_model.specs.grammar.Tokens.{tokens_after, front, sign, word, number}
use Rattle.mpd_model.specs.script.Tree.{Tree, repeat, no_more, then_more}
use Rattle.mpd_code.specs.Left.{left_at}
use Rattle.mpd_rows.specs.worlds.Statements.{barrier, ssend, issend}
use Rattle.mpd_rows.specs.texts.RequestReaderRows.{Read, Places, wanted_places, statement_of, reads_one, lines_of, declared, n, whole, part, x, h, g}

-- ---- statements: each text begins at byte 44

abbrev good : List (List ℕ × Tree)
good =
    (codes "barrier;", barrier) ∷ (codes "barrier ;", barrier) ∷ (codes "barrier#1;\n;", barrier) ∷ (codes "ssend 1 to 0 tag 0;", ssend (n 1) (n 0) (n 0))
    ∷ (codes "ssend(x)to-1tag size-1;", ssend (cell x) (op1 Negate (n 1)) (op2 Subtract size (n 1))) ∷ (codes "issend h 1 to 0 tag 0;", issend (whole h) (n 1) (n 0) (n 0))
    ∷ (codes "issend g[1]x + 1 to rank tag 2;", issend (part g (n 1)) (op2 Add (cell x) (n 1)) own_rank (n 2)) ∷ (codes "issend g[x]1 to 0 tag 0;", issend (part g (cell x)) (n 1) (n 0) (n 0)) ∷ []

pub row_good : map {B = Read} (λ r. statement_of r.0) good ≡ map {B = Read} (λ r. reads_one r.1) good
unfolding reading script header version ranks decls decls_from decl declarator single array_size body stmts stmt block if_statement otherwise while_statement target statement_place source status assignment expr level chain atom place_inside bracket rounds unary count spend seek slot_in fresh add expect after sees same_symbol advanced place spelling token refusal tokens_after front sign word number
row_good = refl

-- nothing stands between `barrier` and its `;`; `ssend` has no handle, `issend` has one
abbrev bad : Places
bad =
    (codes "barrier", (f.Expected, 51)) ∷ (codes "barrier 1;", (f.Expected, 52)) ∷ (codes "barrier x;", (f.Expected, 52)) ∷ (codes "barrier barrier;", (f.Expected, 52)) ∷ (codes "barrier();", (f.Expected, 51)) ∷ (codes "barrier {}", (f.Expected, 52))
    ∷ (codes "barrier = 1;", (f.Expected, 52)) ∷ (codes "barrier$", (f.BadToken, 51)) ∷ (codes "barrier1;", (f.UnknownName, 44)) ∷ (codes "Barrier;", (f.UnknownName, 44)) ∷ (codes "x = barrier;", (f.Expected, 48)) ∷ (codes "print barrier;", (f.Expected, 50))
    ∷ (codes "if barrier {}", (f.Expected, 47)) ∷ (codes "wait barrier;", (f.Expected, 49))
    ∷ (codes "ssend;", (f.Expected, 49)) ∷ (codes "ssend 1;", (f.Expected, 51)) ∷ (codes "ssend 1 to 0;", (f.Expected, 56)) ∷ (codes "ssend 1 tag 0;", (f.Expected, 52)) ∷ (codes "ssend 1 to 0 tag 0", (f.Expected, 62)) ∷ (codes "ssend h 1 to 0 tag 0;", (f.UnknownName, 50))
    ∷ (codes "ssend x 1 to 0 tag 0;", (f.Expected, 52)) ∷ (codes "ssend 1 to any tag 0;", (f.Expected, 55)) ∷ (codes "ssend 1 to 0 tag any;", (f.Expected, 61)) ∷ (codes "ssend 1 to 0 tag 0 status x x;", (f.Expected, 63)) ∷ (codes "ssend 1 from 0 tag 0;", (f.Expected, 52))
    ∷ (codes "issend;", (f.Expected, 50)) ∷ (codes "issend 1 to 0 tag 0;", (f.Expected, 51)) ∷ (codes "issend x 1 to 0 tag 0;", (f.UnknownName, 51)) ∷ (codes "issend g 1 to 0 tag 0;", (f.Expected, 53)) ∷ (codes "issend h[0] 1 to 0 tag 0;", (f.Expected, 52))
    ∷ (codes "issend h to 0 tag 0;", (f.Expected, 53)) ∷ (codes "issend h 1 to 0 tag 0", (f.Expected, 65)) ∷ (codes "issend h 1 to 0;", (f.Expected, 59)) ∷ []

pub row_bad : map {B = Read} (λ r. statement_of r.0) bad ≡ wanted_places bad
unfolding reading script header version ranks decls decls_from decl declarator single array_size body stmts stmt block if_statement otherwise while_statement target statement_place source status assignment expr level chain atom place_inside bracket rounds unary count spend seek slot_in fresh add expect after sees same_symbol advanced place spelling token refusal tokens_after front sign word number
row_bad = refl

-- ---- canonical text

abbrev printed : List (Tree × List ℕ)
printed =
    (barrier, codes "barrier;\n") ∷ (ssend (n 7) (op2 Add own_rank (n 1)) (n 0), codes "ssend 7 to rank + 1 tag 0;\n") ∷ (issend (whole h) (cell x) (n 1) size, codes "issend h x to 1 tag size;\n")
    ∷ (issend (part g (op2 Add (cell x) (n 1))) (op1 Negate (n 1)) (n 0) (n 3), codes "issend g[x + 1] -1 to 0 tag 3;\n") ∷ (repeat (n 1) (then_more barrier no_more), codes "while 1 {\n  barrier;\n}\n") ∷ []

pub row_printed : map {B = List ℕ} (λ t. lines_of 0 t.0) printed ≡ map {B = List ℕ} (λ t. t.1) printed
unfolding digits
row_printed = refl

-- ---- a whole script: read, printed, and what is left at each of its nodes

abbrev only : Place
only = record { declaration = 0; first = 0; cells = 1 }

abbrev first : Tree
first = issend (whole only) own_rank (n 0) (n 5)

abbrev third : Tree
third = ssend (n 1) (n 0) (n 5)

abbrev all_kinds : Program
all_kinds = record { version = 1; ranks = 2; decls = declared Handle (codes "r") None ∷ []; body = first ∷ barrier ∷ third ∷ []; lines = 2 ∷ 3 ∷ 3 ∷ [] }

pub row_all_kinds : reading (codes "mpd 1; ranks 2; req r;\nissend r rank to 0 tag (5);\nbarrier;ssend 1 to 0 tag 5;") ≡ Ok all_kinds
unfolding reading script header version ranks decls decls_from decl declarator single array_size body stmts stmt block if_statement otherwise while_statement target statement_place source status assignment expr level chain atom place_inside bracket rounds unary count spend seek slot_in fresh add expect after sees same_symbol advanced place spelling token refusal tokens_after front sign word number
row_all_kinds = refl

abbrev all_kinds_text : List ℕ
all_kinds_text = codes "mpd 1;\nranks 2;\nreq r;\nissend r rank to 0 tag 5;\nbarrier;\nssend 1 to 0 tag 5;\n"

pub row_all_kinds_text : canonical all_kinds ≡ all_kinds_text
unfolding digits
row_all_kinds_text = refl

-- read again it is the same script but for its lines
pub row_all_kinds_again : reading all_kinds_text ≡ Ok (record all_kinds { lines = 4 ∷ 5 ∷ 6 ∷ [] })
unfolding reading script header version ranks decls decls_from decl declarator single array_size body stmts stmt block if_statement otherwise while_statement target statement_place source status assignment expr level chain atom place_inside bracket rounds unary count spend seek slot_in fresh add expect after sees same_symbol advanced place spelling token refusal tokens_after front sign word number
row_all_kinds_again = refl

pub row_all_kinds_left : map {B = List (ℕ × Tree)} (left_at all_kinds) (0 ∷ 1 ∷ 2 ∷ 3 ∷ []) ≡ ((0, first) ∷ (1, barrier) ∷ (2, third) ∷ []) ∷ ((1, barrier) ∷ (2, third) ∷ []) ∷ ((2, third) ∷ []) ∷ [] ∷ []
row_all_kinds_left = refl
