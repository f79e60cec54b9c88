-- Worked rows of texts with `any` and `status`: what each is read as, or its fault and that fault's byte place; their canonical text; and what stands at their nodes.
use Rattle.std.specs.Prelude.{◌≡◌, ℕ, map, List, [], ◌∷◌, Some, None, Ok, codes, refl}
use Rattle.std.specs.Fmt.{digits}
use Rattle.mpd_model.specs.declared.expr.BinaryOp.TheVariants.{Add, Subtract}
use Rattle.mpd_model.specs.declared.expr.UnaryOp.TheVariants.{Negate}
use Rattle.mpd_model.specs.declared.place.DeclKind.TheVariants.{Variable}
use Rattle.mpd_model.specs.declared.place.Place.{Place}
use Rattle.mpd_model.specs.declared.read_fault.FaultCode.TheVariants as f
use Rattle.mpd_model.specs.grammar.Canonical.{canonical}
use Rattle.mpd_model.specs.grammar.Grammar.{reading, script, header, version, ranks, decls, decls_from, decl, declarator, single, array_size, body, stmts, stmt, block, if_statement, otherwise, while_statement, target, statement_place, source, status, assignment, expr, level, chain, atom, place_inside, bracket, rounds, unary}
use Rattle.mpd_model.specs.grammar.Input.{count, spend, seek, slot_in, fresh, add, expect, after, sees, same_symbol, advanced, place, spelling, token, refusal}
use Rattle.mpd_model.specs.script.Program.{Program}
use Rattle.mpd_model.specs.script.Term.{own_rank, size, cell, op1, op2}
use Rattle.mpd_model.specs.grammar.Tokens.{tokens_after, front, sign, word, number}
use Rattle.mpd_model.specs.script.Tree.{Tree}
use Rattle.mpd_code.specs.Left.{left_at}
use Rattle.mpd_rows.specs.worlds.Statements.{recv_any, irecv_any}
use Rattle.mpd_rows.specs.texts.RequestReaderRows.{Read, Places, wanted_places, statement_of, reads_one, lines_of, declared, n, whole, part, x, a, h, g}

-- ---- statements: each text begins at byte 44

abbrev good : List (List ℕ × Tree)
good =
    (codes "recv x from any tag 0;", recv_any (whole x) None (Some (n 0)) None) ∷ (codes "recv x from 1 tag any;", recv_any (whole x) (Some (n 1)) None None)
    ∷ (codes "recv x from any tag any;", recv_any (whole x) None None None) ∷ (codes "recv a[1]from any tag any status x x;", recv_any (part a (n 1)) None None (Some (whole x, whole x)))
    ∷ (codes "recv x from any tag any status a[x]a[0];", recv_any (whole x) None None (Some (part a (cell x), part a (n 0)))) ∷ (codes "recv x from 0 tag 1 status a[0]x;", recv_any (whole x) (Some (n 0)) (Some (n 1)) (Some (part a (n 0), whole x)))
    ∷ (codes "recv x from any tag rank status x a[size - 1];", recv_any (whole x) None (Some own_rank) (Some (whole x, part a (op2 Subtract size (n 1))))) ∷ (codes "irecv h x from any tag any;", irecv_any (whole h) (whole x) None None None)
    ∷ (codes "irecv g[1]a[x]from size-1 tag any status x a[2];", irecv_any (part g (n 1)) (part a (cell x)) (Some (op2 Subtract size (n 1))) None (Some (whole x, part a (n 2)))) ∷ []

pub row_good : map {B = Read} (λ r. statement_of r.0) good ≡ map {B = Read} (λ r. reads_one r.1) good
unfolding reading script header version ranks decls decls_from decl declarator single array_size body stmts stmt block if_statement otherwise while_statement target statement_place source status assignment expr level chain atom place_inside bracket rounds unary count spend seek slot_in fresh add expect after sees same_symbol advanced place spelling token refusal tokens_after front sign word number
row_good = refl

-- `any` stands alone for a source or a tag, and nowhere else; a status has two variables, and comes last
abbrev bad : Places
bad =
    (codes "recv x from any", (f.Expected, 59)) ∷ (codes "recv x from any any", (f.Expected, 60)) ∷ (codes "recv x from any;", (f.Expected, 59)) ∷ (codes "recv x from any + 1 tag 0;", (f.Expected, 60))
    ∷ (codes "recv x from any[0] tag 0;", (f.Expected, 59)) ∷ (codes "recv x from 1 + any tag 0;", (f.Expected, 60)) ∷ (codes "recv x from (any) tag 0;", (f.Expected, 57)) ∷ (codes "recv x from -any tag 0;", (f.Expected, 57))
    ∷ (codes "recv x from tag 0;", (f.Expected, 56)) ∷ (codes "recv x from any tag;", (f.Expected, 63)) ∷ (codes "recv x from any tag any", (f.Expected, 67)) ∷ (codes "recv x from any tag any + 1;", (f.Expected, 68))
    ∷ (codes "recv x from any tag any status;", (f.Expected, 74)) ∷ (codes "recv x from any tag any status x;", (f.Expected, 76)) ∷ (codes "recv x from any tag any status h x;", (f.UnknownName, 75)) ∷ (codes "recv x from any tag any status x h;", (f.UnknownName, 77))
    ∷ (codes "recv x from any tag any status y x;", (f.UnknownName, 75)) ∷ (codes "recv x from any tag any status 1 x;", (f.Expected, 75)) ∷ (codes "recv x from any tag any status any x;", (f.Expected, 75)) ∷ (codes "recv x from any tag any status a x;", (f.Expected, 77))
    ∷ (codes "recv x from any tag any status x[0] x;", (f.Expected, 76)) ∷ (codes "recv x from any tag any status x x x;", (f.Expected, 79)) ∷ (codes "recv x from any tag any status x, x;", (f.BadToken, 76)) ∷ (codes "recv x from any tag any status x x", (f.Expected, 78))
    ∷ (codes "recv x status x x from any tag any;", (f.Expected, 51)) ∷ (codes "recv any from 0 tag 0;", (f.Expected, 49)) ∷ (codes "irecv any x from 0 tag 0;", (f.Expected, 50)) ∷ (codes "irecv h x from any tag any status h x;", (f.UnknownName, 78))
    ∷ (codes "irecv h x from any tag any status x x", (f.Expected, 81)) ∷ (codes "send 1 to any tag 0;", (f.Expected, 54)) ∷ (codes "send 1 to 0 tag any;", (f.Expected, 60)) ∷ (codes "send 1 to 0 tag 0 status x x;", (f.Expected, 62))
    ∷ (codes "send any to 0 tag 0;", (f.Expected, 49)) ∷ (codes "isend h 1 to any tag 0;", (f.Expected, 57)) ∷ (codes "wait h status x x;", (f.Expected, 51)) ∷ (codes "print any;", (f.Expected, 50))
    ∷ (codes "x = any;", (f.Expected, 48)) ∷ (codes "any = 1;", (f.Expected, 44)) ∷ (codes "status = 1;", (f.Expected, 44)) ∷ []

pub row_bad : map {B = Read} (λ r. statement_of r.0) bad ≡ wanted_places bad
unfolding reading script header version ranks decls decls_from decl declarator single array_size body stmts stmt block if_statement otherwise while_statement target statement_place source status assignment expr level chain atom place_inside bracket rounds unary count spend seek slot_in fresh add expect after sees same_symbol advanced place spelling token refusal tokens_after front sign word number
row_bad = refl

-- ---- canonical text

abbrev printed : List (Tree × List ℕ)
printed =
    (recv_any (whole x) None None None, codes "recv x from any tag any;\n") ∷ (recv_any (whole x) None (Some (op2 Add (n 1) (cell x))) None, codes "recv x from any tag 1 + x;\n")
    ∷ (recv_any (part a (cell x)) (Some (op1 Negate (n 1))) None None, codes "recv a[x] from -1 tag any;\n") ∷ (recv_any (whole x) None None (Some (whole x, part a (op2 Add (cell x) (n 1)))), codes "recv x from any tag any status x a[x + 1];\n")
    ∷ (recv_any (whole x) (Some own_rank) (Some size) (Some (part a (n 0), whole x)), codes "recv x from rank tag size status a[0] x;\n") ∷ (irecv_any (whole h) (whole x) None (Some (n 2)) None, codes "irecv h x from any tag 2;\n")
    ∷ (irecv_any (part g (n 1)) (part a (n 0)) None None (Some (part a (n 1), part a (n 2))), codes "irecv g[1] a[0] from any tag any status a[1] a[2];\n") ∷ []

pub row_printed : map {B = List ℕ} (λ t. lines_of 0 t.0) printed ≡ map {B = List ℕ} (λ t. t.1) printed
unfolding digits
row_printed = refl

-- ---- a whole script: read, printed, and what is left at each of its nodes

abbrev y : Place
y = record { declaration = 1; first = 1; cells = 1 }

abbrev first : Tree
first = recv_any (whole x) None (Some (n 3)) None

abbrev second : Tree
second = recv_any (whole y) (Some own_rank) None (Some (whole x, whole y))

abbrev wild : Program
wild = record { version = 1; ranks = 4; decls = declared Variable (codes "x") None ∷ declared Variable (codes "y") None ∷ []; body = first ∷ second ∷ []; lines = 2 ∷ 2 ∷ [] }

pub row_wild : reading (codes "mpd 1; ranks 4; var x; var y;\nrecv x from any tag(3);recv y from rank tag any status x y;") ≡ Ok wild
unfolding reading script header version ranks decls decls_from decl declarator single array_size body stmts stmt block if_statement otherwise while_statement target statement_place source status assignment expr level chain atom place_inside bracket rounds unary count spend seek slot_in fresh add expect after sees same_symbol advanced place spelling token refusal tokens_after front sign word number
row_wild = refl

abbrev wild_text : List ℕ
wild_text = codes "mpd 1;\nranks 4;\nvar x;\nvar y;\nrecv x from any tag 3;\nrecv y from rank tag any status x y;\n"

pub row_wild_text : canonical wild ≡ wild_text
unfolding digits
row_wild_text = refl

-- read again it is the same script but for its lines
pub row_wild_again : reading wild_text ≡ Ok (record wild { lines = 5 ∷ 6 ∷ [] })
unfolding reading script header version ranks decls decls_from decl declarator single array_size body stmts stmt block if_statement otherwise while_statement target statement_place source status assignment expr level chain atom place_inside bracket rounds unary count spend seek slot_in fresh add expect after sees same_symbol advanced place spelling token refusal tokens_after front sign word number
row_wild_again = refl

pub row_wild_left : map {B = List (ℕ × Tree)} (left_at wild) (0 ∷ 1 ∷ 2 ∷ []) ≡ ((0, first) ∷ (1, second) ∷ []) ∷ ((1, second) ∷ []) ∷ [] ∷ []
row_wild_left = refl
