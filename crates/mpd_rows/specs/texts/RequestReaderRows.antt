-- Worked rows of texts with `req`, `isend`, `irecv` and `wait`: what each is read as, or its fault and that fault's byte place; and their canonical text.
use Rattle.std.specs.Prelude.{◌≡◌, ℕ, pos, map, List, [], ◌∷◌, ◌++◌, Option, Some, None, Result, Ok, Err, codes, replicate, refl}
use Rattle.std.specs.Fmt.{digits}
use Rattle.mpd_model.specs.declared.expr.BinaryOp.TheVariants.{Equal, Add, Subtract}
use Rattle.mpd_model.specs.declared.expr.UnaryOp.TheVariants.{Negate}
use Rattle.mpd_model.specs.declared.place.DeclKind.{DeclKind}
use Rattle.mpd_model.specs.declared.place.DeclKind.TheVariants.{Variable, Handle}
use Rattle.mpd_model.specs.declared.place.Place.{Place}
use Rattle.mpd_model.specs.declared.read_fault.FaultCode.{FaultCode}
use Rattle.mpd_model.specs.declared.read_fault.FaultCode.TheVariants as f
use Rattle.mpd_model.specs.declared.read_fault.ReadFault.{ReadFault}
use Rattle.mpd_model.specs.grammar.Canonical.{tree_text, canonical}
use Rattle.mpd_model.specs.script.Declaration.{Declared}
use Rattle.mpd_model.specs.grammar.Faults.{fault}
use Rattle.mpd_model.specs.grammar.Grammar.{reading, script, header, version, ranks, decls, decls_from, decl, declarator, single, array_size, body, stmts, stmt, block, if_statement, otherwise, while_statement, target, statement_place, source, status, assignment, expr, level, chain, atom, place_inside, bracket, rounds, unary}
use Rattle.mpd_model.specs.grammar.Input.{Outcome, start_of, count, spend, seek, slot_in, fresh, add, expect, after, sees, same_symbol, advanced, place, spelling, token, refusal}
use Rattle.mpd_model.specs.script.Program.{Program}
use Rattle.mpd_model.specs.script.Term.{Term, lit, own_rank, size, cell, element, op1, op2, Target}
use Rattle.mpd_model.specs.grammar.Tokens.{tokens_after, front, sign, word, number}
use Rattle.mpd_model.specs.script.Tree.{Tree, branch, no_more, then_more}
use Rattle.mpd_rows.specs.worlds.Statements.{print, recv, isend, irecv, wait}

abbrev pub Read : Type 0
Read = Result Program ReadFault

abbrev refused : FaultCode → ℕ → Read
refused c at = Err (fault c at)

abbrev pub Places : Type 0
Places = List (List ℕ × (FaultCode × ℕ))

abbrev pub wanted_places : Places → List Read
wanted_places table = map {B = Read} (λ r. refused r.1.0 r.1.1) table

abbrev pub declared : DeclKind → List ℕ → Option ℕ → Declared
declared kind name cells = record { kind = kind; name = name; size = cells }

abbrev pub n : ℕ → Term
n k = lit (pos k)

abbrev pub whole : Place → Target
whole p = record { place = p; index = None }

abbrev pub part : Place → Term → Target
part p e = record { place = p; index = Some e }

-- ---- declarations: each text begins at byte 14

abbrev reading_of : List ℕ → Read
reading_of text = reading (codes "mpd 1;ranks 1;" ++ text)

abbrev reads_as : List Declared → Read
reads_as ds = Ok (record { version = 1; ranks = 1; decls = ds; body = []; lines = [] })

abbrev good_declarations : List (List ℕ × List Declared)
good_declarations =
    (codes "req r;", declared Handle (codes "r") None ∷ []) ∷ (codes "req r[256];", declared Handle (codes "r") (Some 256) ∷ []) ∷ (codes "req r[0];", declared Handle (codes "r") (Some 0) ∷ [])
    ∷ (codes "req r [ 0002 ] ;", declared Handle (codes "r") (Some 2) ∷ []) ∷ (codes "req r[256];req s[0];", declared Handle (codes "r") (Some 256) ∷ declared Handle (codes "s") (Some 0) ∷ [])
    ∷ (codes "req r[255];req s;", declared Handle (codes "r") (Some 255) ∷ declared Handle (codes "s") None ∷ [])
    ∷ (codes "req r[256];var x[1024];", declared Handle (codes "r") (Some 256) ∷ declared Variable (codes "x") (Some 1024) ∷ [])
    ∷ (codes "var x[1024];req r[256];var y[0];", declared Variable (codes "x") (Some 1024) ∷ declared Handle (codes "r") (Some 256) ∷ declared Variable (codes "y") (Some 0) ∷ []) ∷ []

pub row_good_declarations : map {B = Read} (λ r. reading_of r.0) good_declarations ≡ map {B = Read} (λ r. reads_as r.1) good_declarations
unfolding reading script header version ranks decls decls_from decl declarator single array_size body stmts stmt block if_statement otherwise while_statement target statement_place source status assignment expr level chain atom place_inside bracket rounds unary count spend seek slot_in fresh add expect after sees same_symbol advanced place spelling token refusal tokens_after front sign word number
row_good_declarations = refl

-- too many handles are told at the size, or at the name where there is none; variables are counted apart
abbrev too_many : Places
too_many =
    (codes "req r[257];", (f.TooMany, 20)) ∷ (codes "req r[9223372036854775807];", (f.TooMany, 20)) ∷ (codes "req r[257$", (f.TooMany, 20)) ∷ (codes "req r[256];req s;", (f.TooMany, 29)) ∷ (codes "req r[256];req s", (f.TooMany, 29))
    ∷ (codes "req r[256];req s$", (f.TooMany, 29)) ∷ (codes "req r[256];req s[1];", (f.TooMany, 31)) ∷ (codes "req r[200];req s[57];", (f.TooMany, 31)) ∷ (codes "req r[255];req s;req t;", (f.TooMany, 35))
    ∷ (codes "req r[256];req s[0];req t;", (f.TooMany, 38)) ∷ (codes "var x[1024];req r[256];var y;", (f.TooMany, 41)) ∷ (codes "req r[256];var x[1024];req s;", (f.TooMany, 41)) ∷ (codes "req r[1024];", (f.TooMany, 20)) ∷ []

pub row_too_many : map {B = Read} (λ r. reading_of r.0) too_many ≡ wanted_places too_many
unfolding reading script header version ranks decls decls_from decl declarator single array_size body stmts stmt block if_statement otherwise while_statement target statement_place source status assignment expr level chain atom place_inside bracket rounds unary count spend seek slot_in fresh add expect after sees same_symbol advanced place spelling token refusal tokens_after front sign word number
row_too_many = refl

-- variables and handles have one space of names; a name declared twice is told before too many handles
abbrev twice : Places
twice =
    (codes "var x;req x;", (f.Twice, 24)) ∷ (codes "req x;var x;", (f.Twice, 24)) ∷ (codes "req x;req x;", (f.Twice, 24)) ∷ (codes "var r[1024];req r[1];", (f.Twice, 30)) ∷ (codes "req r[256];req r;", (f.Twice, 29))
    ∷ (codes "req r;req r[257];", (f.Twice, 24)) ∷ (codes "req r[256];var r[1025];", (f.Twice, 29)) ∷ (codes "req r;var x;req r", (f.Twice, 30)) ∷ []

pub row_twice : map {B = Read} (λ r. reading_of r.0) twice ≡ wanted_places twice
unfolding reading script header version ranks decls decls_from decl declarator single array_size body stmts stmt block if_statement otherwise while_statement target statement_place source status assignment expr level chain atom place_inside bracket rounds unary count spend seek slot_in fresh add expect after sees same_symbol advanced place spelling token refusal tokens_after front sign word number
row_twice = refl

abbrev bad_declarations : Places
bad_declarations =
    (codes "req;", (f.Expected, 17)) ∷ (codes "req 1;", (f.Expected, 18)) ∷ (codes "req while;", (f.Expected, 18)) ∷ (codes "req wait;", (f.Expected, 18)) ∷ (codes "req [1];", (f.Expected, 18)) ∷ (codes "req r", (f.Expected, 19))
    ∷ (codes "req r s;", (f.Expected, 20)) ∷ (codes "req r=1;", (f.Expected, 19)) ∷ (codes "req r,s;", (f.BadToken, 19)) ∷ (codes "req r[", (f.Expected, 20)) ∷ (codes "req r[];", (f.Expected, 20)) ∷ (codes "req r[x];", (f.Expected, 20))
    ∷ (codes "req r[-1];", (f.Expected, 20)) ∷ (codes "req r[2;", (f.Expected, 21)) ∷ (codes "req r[2]", (f.Expected, 22)) ∷ (codes "req r[2][2];", (f.Expected, 22)) ∷ (codes "req r[9223372036854775808];", (f.BadToken, 20))
    ∷ (codes "req r[$", (f.BadToken, 20)) ∷ (codes "req r[256];req s[", (f.Expected, 31)) ∷ (codes "req r[256];req s[$", (f.BadToken, 31)) ∷ (codes "req r[256];req 1", (f.Expected, 29)) ∷ (codes "wait r;req r;", (f.UnknownName, 19))
    ∷ (codes "req r;x=1;req s;", (f.UnknownName, 20)) ∷ []

pub row_bad_declarations : map {B = Read} (λ r. reading_of r.0) bad_declarations ≡ wanted_places bad_declarations
unfolding reading script header version ranks decls decls_from decl declarator single array_size body stmts stmt block if_statement otherwise while_statement target statement_place source status assignment expr level chain atom place_inside bracket rounds unary count spend seek slot_in fresh add expect after sees same_symbol advanced place spelling token refusal tokens_after front sign word number
row_bad_declarations = refl

-- ---- statements: each text begins at byte 44

-- `var x; var a[3]; req h; req g[2];`
abbrev pub four : List Declared
four = declared Variable (codes "x") None ∷ declared Variable (codes "a") (Some 3) ∷ declared Handle (codes "h") None ∷ declared Handle (codes "g") (Some 2) ∷ []

abbrev pub x : Place
x = record { declaration = 0; first = 0; cells = 1 }

abbrev pub a : Place
a = record { declaration = 1; first = 1; cells = 3 }

abbrev pub h : Place
h = record { declaration = 2; first = 0; cells = 1 }

abbrev pub g : Place
g = record { declaration = 3; first = 1; cells = 2 }

abbrev pub statement_of : List ℕ → Read
statement_of text = reading (codes "mpd 1;ranks 1;var x;var a[3];req h;req g[2];" ++ text)

abbrev pub reads_one : Tree → Read
reads_one t = Ok (record { version = 1; ranks = 1; decls = four; body = t ∷ []; lines = 1 ∷ [] })

abbrev good_statements : List (List ℕ × Tree)
good_statements =
    (codes "isend h 1 to 0 tag 2;", isend (whole h) (n 1) (n 0) (n 2)) ∷ (codes "isend g[x]x to rank tag size;", isend (part g (cell x)) (cell x) own_rank size)
    ∷ (codes "isend g[a[0]+1]-1 to 0 tag 2;", isend (part g (op2 Add (element a (n 0)) (n 1))) (op1 Negate (n 1)) (n 0) (n 2)) ∷ (codes "isend h(1) to 0 tag 2;", isend (whole h) (n 1) (n 0) (n 2))
    ∷ (codes "irecv h x from 0 tag 2;", irecv (whole h) (whole x) (n 0) (n 2)) ∷ (codes "irecv g[1]a[x]from size-1 tag 2;", irecv (part g (n 1)) (part a (cell x)) (op2 Subtract size (n 1)) (n 2))
    ∷ (codes "wait h;", wait (whole h)) ∷ (codes "wait g[rank];", wait (part g own_rank)) ∷ (codes "wait\tg [ 0 ] ;", wait (part g (n 0))) ∷ []

pub row_good_statements : map {B = Read} (λ r. statement_of r.0) good_statements ≡ map {B = Read} (λ r. reads_one r.1) good_statements
unfolding reading script header version ranks decls decls_from decl declarator single array_size body stmts stmt block if_statement otherwise while_statement target statement_place source status assignment expr level chain atom place_inside bracket rounds unary count spend seek slot_in fresh add expect after sees same_symbol advanced place spelling token refusal tokens_after front sign word number
row_good_statements = refl

-- a variable where a handle is wanted, and a handle where a variable is, is a name that isn't known there
abbrev other_kinds : Places
other_kinds =
    (codes "isend x 1 to 0 tag 0;", (f.UnknownName, 50)) ∷ (codes "isend a[0] 1 to 0 tag 0;", (f.UnknownName, 50)) ∷ (codes "isend y 1 to 0 tag 0;", (f.UnknownName, 50)) ∷ (codes "isend h h to 0 tag 0;", (f.UnknownName, 52))
    ∷ (codes "isend h g[0] to 0 tag 0;", (f.UnknownName, 52)) ∷ (codes "isend h 1 to h tag 0;", (f.UnknownName, 57)) ∷ (codes "isend h 1 to 0 tag h;", (f.UnknownName, 63)) ∷ (codes "isend g[h] 1 to 0 tag 0;", (f.UnknownName, 52))
    ∷ (codes "isend g[g[0]] 1", (f.UnknownName, 52)) ∷ (codes "irecv x x from 0 tag 0;", (f.UnknownName, 50)) ∷ (codes "irecv h h from 0 tag 0;", (f.UnknownName, 52)) ∷ (codes "irecv h g[0] from 0 tag 0;", (f.UnknownName, 52))
    ∷ (codes "irecv h a[h] from 0 tag 0;", (f.UnknownName, 54)) ∷ (codes "irecv h y from 0 tag 0;", (f.UnknownName, 52)) ∷ (codes "irecv h x from h tag 0;", (f.UnknownName, 59)) ∷ (codes "wait x;", (f.UnknownName, 49))
    ∷ (codes "wait a[0];", (f.UnknownName, 49)) ∷ (codes "wait y;", (f.UnknownName, 49)) ∷ (codes "wait g[h];", (f.UnknownName, 51)) ∷ (codes "h = 1;", (f.UnknownName, 44)) ∷ (codes "g[0] = 1;", (f.UnknownName, 44))
    ∷ (codes "h$", (f.UnknownName, 44)) ∷ (codes "x = h;", (f.UnknownName, 48)) ∷ (codes "print h;", (f.UnknownName, 50)) ∷ (codes "print g[0];", (f.UnknownName, 50)) ∷ (codes "print a[h];", (f.UnknownName, 52))
    ∷ (codes "assert h;", (f.UnknownName, 51)) ∷ (codes "if h {}", (f.UnknownName, 47)) ∷ (codes "while g[0] {}", (f.UnknownName, 50)) ∷ (codes "send h to 0 tag 0;", (f.UnknownName, 49))
    ∷ (codes "recv h from 0 tag 0;", (f.UnknownName, 49)) ∷ (codes "recv g[0] from 0 tag 0;", (f.UnknownName, 49)) ∷ []

pub row_other_kinds : map {B = Read} (λ r. statement_of r.0) other_kinds ≡ wanted_places other_kinds
unfolding reading script header version ranks decls decls_from decl declarator single array_size body stmts stmt block if_statement otherwise while_statement target statement_place source status assignment expr level chain atom place_inside bracket rounds unary count spend seek slot_in fresh add expect after sees same_symbol advanced place spelling token refusal tokens_after front sign word number
row_other_kinds = refl

-- the token that isn't allowed
abbrev bad_statements : Places
bad_statements =
    (codes "isend;", (f.Expected, 49)) ∷ (codes "isend 1 to 0 tag 0;", (f.Expected, 50)) ∷ (codes "isend (h) 1 to 0 tag 0;", (f.Expected, 50)) ∷ (codes "isend h[0] 1 to 0 tag 0;", (f.Expected, 51))
    ∷ (codes "isend g 1 to 0 tag 0;", (f.Expected, 52)) ∷ (codes "isend g[0 1 to", (f.Expected, 54)) ∷ (codes "isend g[] 1", (f.Expected, 52)) ∷ (codes "isend h 1 tag 0;", (f.Expected, 54)) ∷ (codes "isend h to 0 tag 0;", (f.Expected, 52))
    ∷ (codes "isend h 1 to 0;", (f.Expected, 58)) ∷ (codes "isend h 1 to 0 tag 0", (f.Expected, 64)) ∷ (codes "isend g[0][0] 1", (f.Expected, 54)) ∷ (codes "isend h = 1;", (f.Expected, 52)) ∷ (codes "isend h$", (f.BadToken, 51))
    ∷ (codes "isend any", (f.Expected, 50)) ∷ (codes "irecv;", (f.Expected, 49)) ∷ (codes "irecv h;", (f.Expected, 51)) ∷ (codes "irecv h from 0 tag 0;", (f.Expected, 52)) ∷ (codes "irecv h 1 from", (f.Expected, 52))
    ∷ (codes "irecv g x from", (f.Expected, 52)) ∷ (codes "irecv h a from 0 tag 0;", (f.Expected, 54)) ∷ (codes "irecv h x[0] from", (f.Expected, 53)) ∷ (codes "irecv h x to 0", (f.Expected, 54))
    ∷ (codes "wait;", (f.Expected, 48))
    ∷ (codes "wait 0;", (f.Expected, 49)) ∷ (codes "wait g;", (f.Expected, 50)) ∷ (codes "wait h[0];", (f.Expected, 50)) ∷ (codes "wait g[2", (f.Expected, 52)) ∷ (codes "wait g[$", (f.BadToken, 51))
    ∷ (codes "wait g[0] g[1];", (f.Expected, 54)) ∷ (codes "wait h h;", (f.Expected, 51)) ∷ (codes "wait h", (f.Expected, 50)) ∷ (codes "wait any;", (f.Expected, 49)) ∷ (codes "issend 1 to 0 tag 0;", (f.Expected, 51))
    ∷ (codes "ssend h 1 to 0 tag 0;", (f.UnknownName, 50)) ∷ (codes "barrier h;", (f.Expected, 52)) ∷ (codes "waitany g to x;", (f.NotInVersion, 44)) ∷ (codes "wait h;req s;", (f.Expected, 51)) ∷ []

pub row_bad_statements : map {B = Read} (λ r. statement_of r.0) bad_statements ≡ wanted_places bad_statements
unfolding reading script header version ranks decls decls_from decl declarator single array_size body stmts stmt block if_statement otherwise while_statement target statement_place source status assignment expr level chain atom place_inside bracket rounds unary count spend seek slot_in fresh add expect after sees same_symbol advanced place spelling token refusal tokens_after front sign word number
row_bad_statements = refl

-- the index of a handle is an expression of its own, and its bracket isn't counted
abbrev same : ℕ → ℕ → List ℕ
same k byte = replicate k byte

pub row_deep_handle : statement_of (codes "wait g[" ++ same 64 40 ++ codes "1" ++ same 64 41 ++ codes "];") ≡ reads_one (wait (part g (n 1)))
unfolding reading script header version ranks decls decls_from decl declarator single array_size body stmts stmt block if_statement otherwise while_statement target statement_place source status assignment expr level chain atom place_inside bracket rounds unary count spend seek slot_in fresh add expect after sees same_symbol advanced place spelling token refusal tokens_after front sign word number
row_deep_handle = refl

pub row_too_deep_handle : statement_of (codes "wait g[" ++ same 65 40 ++ codes "1") ≡ refused f.TooDeep 115
unfolding reading script header version ranks decls decls_from decl declarator single array_size body stmts stmt block if_statement otherwise while_statement target statement_place source status assignment expr level chain atom place_inside bracket rounds unary count spend seek slot_in fresh add expect after sees same_symbol advanced place spelling token refusal tokens_after front sign word number
row_too_deep_handle = refl

pub row_both_deep : statement_of (codes "isend g[" ++ same 64 33 ++ codes "1]" ++ same 64 33 ++ codes "1 to " ++ same 64 33 ++ codes "1 tag " ++ same 65 33 ++ codes "1;") ≡ refused f.TooDeep 321
unfolding reading script header version ranks decls decls_from decl declarator single array_size body stmts stmt block if_statement otherwise while_statement target statement_place source status assignment expr level chain atom place_inside bracket rounds unary count spend seek slot_in fresh add expect after sees same_symbol advanced place spelling token refusal tokens_after front sign word number
row_both_deep = refl

-- ---- whole scripts

-- the cells of variables and handles are numbered apart, each in the order of their declarations
pub row_slots : reading (codes "mpd 1;ranks 2;\nvar x;req r[2];var y;req s;\nwait s;wait r[1];\nprint y;")
    ≡ Ok (record {
      version = 1;
      ranks = 2;
      decls = declared Variable (codes "x") None ∷ declared Handle (codes "r") (Some 2) ∷ declared Variable (codes "y") None ∷ declared Handle (codes "s") None ∷ [];
      body = wait (whole (record { declaration = 3; first = 2; cells = 1 })) ∷ wait (part (record { declaration = 1; first = 0; cells = 2 }) (n 1)) ∷ print (cell (record { declaration = 2; first = 1; cells = 1 })) ∷ [];
      lines = 3 ∷ 3 ∷ 4 ∷ [];
    })
unfolding reading script header version ranks decls decls_from decl declarator single array_size body stmts stmt block if_statement otherwise while_statement target statement_place source status assignment expr level chain atom place_inside bracket rounds unary count spend seek slot_in fresh add expect after sees same_symbol advanced place spelling token refusal tokens_after front sign word number
row_slots = refl

-- the script of two messages on one handle that is run elsewhere
abbrev r : Place
r = record { declaration = 2; first = 0; cells = 1 }

abbrev losing : Program
losing = record {
  version = 1;
  ranks = 2;
  decls = declared Variable (codes "x") None ∷ declared Variable (codes "y") None ∷ declared Handle (codes "r") None ∷ [];
  body = branch (op2 Equal own_rank (n 0))
      (then_more (isend (whole r) (n 1) (n 1) (n 0)) (then_more (isend (whole r) (n 2) (n 1) (n 0)) (then_more (wait (whole r)) no_more)))
      (then_more (recv (whole x) (n 0) (n 0)) (then_more (recv (whole (record { declaration = 1; first = 1; cells = 1 })) (n 0) (n 0)) no_more)) ∷ [];
  lines = 2 ∷ 2 ∷ 2 ∷ 2 ∷ 2 ∷ 2 ∷ [];
}

pub row_losing : reading (codes "mpd 1; ranks 2; var x; var y; req r;\nif rank == 0 { isend r 1 to 1 tag 0; isend r 2 to 1 tag 0; wait r; } else { recv x from 0 tag 0; recv y from 0 tag 0; }") ≡ Ok losing
unfolding reading script header version ranks decls decls_from decl declarator single array_size body stmts stmt block if_statement otherwise while_statement target statement_place source status assignment expr level chain atom place_inside bracket rounds unary count spend seek slot_in fresh add expect after sees same_symbol advanced place spelling token refusal tokens_after front sign word number
row_losing = refl

-- ---- statement 4,097: after so many statements, each text begins at byte 0

abbrev stmt_after : ℕ → List ℕ → Outcome Tree
stmt_after k text = stmt (block 64) (record (start_of text) { decls = four; lines = replicate k 1 })

abbrev refused_tree : FaultCode → ℕ → Outcome Tree
refused_tree c at = Err (fault c at)

abbrev one_more : Places
one_more = (codes "isend h 1 to 0 tag 0;", (f.TooMany, 0)) ∷ (codes "isend", (f.TooMany, 0)) ∷ (codes "irecv x", (f.TooMany, 0)) ∷ (codes "wait h;", (f.TooMany, 0)) ∷ (codes "wait", (f.TooMany, 0)) ∷ (codes "h = 1;", (f.UnknownName, 0)) ∷ (codes "issend h 1", (f.TooMany, 0)) ∷ (codes "req", (f.Expected, 0)) ∷ []

pub row_one_more : map {B = Outcome Tree} (λ t. stmt_after 4096 t.0) one_more ≡ map {B = Outcome Tree} (λ t. refused_tree t.1.0 t.1.1) one_more
unfolding reading script header version ranks decls decls_from decl declarator single array_size body stmts stmt block if_statement otherwise while_statement target statement_place source status assignment expr level chain atom place_inside bracket rounds unary count spend seek slot_in fresh add expect after sees same_symbol advanced place spelling token refusal tokens_after front sign word number
row_one_more = refl

-- ---- canonical text

abbrev pub lines_of : ℕ → Tree → List ℕ
lines_of depth t = tree_text four depth t

abbrev printed : List (Tree × List ℕ)
printed =
    (isend (whole h) (n 1) (n 0) (n 2), codes "isend h 1 to 0 tag 2;\n") ∷ (isend (part g (op2 Add (element a (n 0)) (n 1))) (op1 Negate (cell x)) own_rank size, codes "isend g[a[0] + 1] -x to rank tag size;\n")
    ∷ (isend (whole h) (op1 Negate (op2 Add (n 1) (n 2))) (op2 Subtract size (op2 Subtract (n 1) own_rank)) (n 0), codes "isend h -(1 + 2) to size - (1 - rank) tag 0;\n")
    ∷ (irecv (whole h) (whole x) (n 0) (n 2), codes "irecv h x from 0 tag 2;\n") ∷ (irecv (part g (n 1)) (part a (op2 Subtract (cell x) (n 1))) (op2 Subtract size (n 1)) (n 2), codes "irecv g[1] a[x - 1] from size - 1 tag 2;\n")
    ∷ (wait (whole h), codes "wait h;\n") ∷ (wait (part g (op2 Equal own_rank (n 0))), codes "wait g[rank == 0];\n") ∷ []

pub row_printed : map {B = List ℕ} (λ t. lines_of 0 t.0) printed ≡ map {B = List ℕ} (λ t. t.1) printed
unfolding digits
row_printed = refl

pub row_printed_inside : lines_of 2 (branch own_rank (then_more (wait (whole h)) no_more) (then_more (isend (part g (n 0)) (n 1) (n 0) (n 2)) no_more)) ≡ codes "    if rank {\n      wait h;\n    } else {\n      isend g[0] 1 to 0 tag 2;\n    }\n"
unfolding digits
row_printed_inside = refl

abbrev losing_text : List ℕ
losing_text = codes "mpd 1;\nranks 2;\nvar x;\nvar y;\nreq r;\nif rank == 0 {\n  isend r 1 to 1 tag 0;\n  isend r 2 to 1 tag 0;\n  wait r;\n} else {\n  recv x from 0 tag 0;\n  recv y from 0 tag 0;\n}\n"

pub row_losing_text : canonical losing ≡ losing_text
unfolding digits
row_losing_text = refl

-- read again it is the same script but for its lines
pub row_losing_again : reading losing_text ≡ Ok (record losing { lines = 6 ∷ 7 ∷ 8 ∷ 9 ∷ 11 ∷ 12 ∷ [] })
unfolding reading script header version ranks decls decls_from decl declarator single array_size body stmts stmt block if_statement otherwise while_statement target statement_place source status assignment expr level chain atom place_inside bracket rounds unary count spend seek slot_in fresh add expect after sees same_symbol advanced place spelling token refusal tokens_after front sign word number
row_losing_again = refl

pub row_sizes_text : canonical (record losing { decls = declared Handle (codes "r") (Some 256) ∷ declared Variable (codes "x") (Some 1) ∷ declared Handle (codes "_s") (Some 0) ∷ []; body = []; lines = [] }) ≡ codes "mpd 1;\nranks 2;\nreq r[256];\nvar x[1];\nreq _s[0];\n"
unfolding digits
row_sizes_text = refl
