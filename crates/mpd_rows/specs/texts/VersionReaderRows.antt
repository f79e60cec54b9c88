-- Worked rows of texts in version 2, and of those in no version that there is: what each is read as, or its fault and that fault's byte place; and their canonical text.
use Rattle.std.specs.Prelude.{◌≡◌, ℕ, map, List, [], ◌∷◌, ◌++◌, Some, None, Result, Ok, Err, true, codes, replicate, refl}
use Rattle.std.specs.Result.{is_ok}
use Rattle.std.specs.Fmt.{digits}
use Rattle.mpd_model.specs.declared.expr.BinaryOp.TheVariants.{Add}
use Rattle.mpd_model.specs.declared.place.DeclKind.TheVariants.{Variable, Handle}
use Rattle.mpd_model.specs.declared.place.Place.{Place}
use Rattle.mpd_model.specs.declared.read_fault.FaultCode.TheVariants as f
use Rattle.mpd_model.specs.declared.read_fault.ReadFault.{ReadFault}
use Rattle.mpd_model.specs.grammar.Canonical.{tree_text, canonical}
use Rattle.mpd_model.specs.script.Declaration.{Declared}
use Rattle.mpd_model.specs.grammar.Faults.{fault}
use Rattle.mpd_model.specs.grammar.Grammar.{reading, script, header, version, ranks, decls, decls_from, decl, declarator, single, array_size, body, stmts, stmt, block, if_statement, otherwise, while_statement, target, statement_place, statement_name, source, status, assignment, expr, level, chain, atom, place_inside, bracket, rounds, unary}
use Rattle.mpd_model.specs.grammar.Input.{Outcome, start_of, count, spend, seek, slot_in, fresh, add, expect, after, sees, same_symbol, advanced, place, spelling, token, refusal}
use Rattle.mpd_model.specs.script.Program.{Program}
use Rattle.mpd_model.specs.script.Term.{cell, op2, Target}
use Rattle.mpd_model.specs.grammar.Tokens.{tokens_after, front, sign, word, number}
use Rattle.mpd_model.specs.script.Tree.{Tree, branch, no_more, then_more}
use Rattle.mpd_rows.specs.worlds.Statements.{waitany}
use Rattle.mpd_rows.specs.texts.RequestReaderRows.{Read, Places, wanted_places, declared, n, whole, part}

-- ---- the version after `mpd`

abbrev other_versions : Places
other_versions =
    (codes "mpd 2;", (f.Expected, 6)) ∷ (codes "mpd 2", (f.Expected, 5)) ∷ (codes "mpd 3;", (f.NotInVersion, 4)) ∷ (codes "mpd 2$", (f.BadToken, 5)) ∷ (codes "mpd 3$", (f.NotInVersion, 4))
    ∷ (codes "mpd 0;", (f.NotInVersion, 4)) ∷ (codes "mpd 9223372036854775807;", (f.NotInVersion, 4)) ∷ (codes "mpd -2;", (f.Expected, 4)) ∷ (codes "mpd mpd;", (f.Expected, 4))
    ∷ (codes "mpd 2 2;", (f.Expected, 6)) ∷ (codes "mpd 2;ranks 17;", (f.BadRanks, 12)) ∷ (codes "mpd 1; ranks 1; req r[1]; var i; waitany r to i;", (f.NotInVersion, 33))
    ∷ (codes "mpd 1;ranks 1;req r;var i;print 1;waitany r to i;", (f.NotInVersion, 34)) ∷ (codes "mpd 1;ranks 1;req r;var i;if 1 { waitany r to i; }", (f.NotInVersion, 33))
    ∷ (codes "mpd 1;ranks 1;waitany $", (f.NotInVersion, 14)) ∷ (codes "mpd 2;ranks 1;waitany q", (f.UnknownName, 22)) ∷ []

pub row_other_versions : map {B = Read} (λ r. reading r.0) other_versions ≡ wanted_places other_versions
unfolding reading script header version ranks decls decls_from decl declarator single array_size body stmts stmt block if_statement otherwise while_statement target statement_place statement_name source status assignment expr level chain atom place_inside bracket rounds unary count spend seek slot_in fresh add expect after sees same_symbol advanced place spelling token refusal tokens_after front sign word number
row_other_versions = refl

abbrev of_version : ℕ → Read
of_version v = Ok (record { version = v; ranks = 1; decls = []; body = []; lines = [] })

pub row_versions : map {B = Read} reading (codes "mpd 1;ranks 1;" ∷ codes "mpd 2;ranks 1;" ∷ codes "mpd 002 ; ranks 1;" ∷ []) ≡ of_version 1 ∷ of_version 2 ∷ of_version 2 ∷ []
unfolding reading script header version ranks decls decls_from decl declarator single array_size body stmts stmt block if_statement otherwise while_statement target statement_place statement_name source status assignment expr level chain atom place_inside bracket rounds unary count spend seek slot_in fresh add expect after sees same_symbol advanced place spelling token refusal tokens_after front sign word number
row_versions = refl

-- ---- waitany: each statement begins at byte 53

abbrev all_declared : List Declared
all_declared =
    declared Variable (codes "x") None ∷ declared Variable (codes "a") (Some 3) ∷ declared Handle (codes "h") None ∷ declared Handle (codes "g") (Some 2) ∷ declared Handle (codes "e") (Some 0) ∷ []

abbrev x : Place
x = record { declaration = 0; first = 0; cells = 1 }

abbrev a : Place
a = record { declaration = 1; first = 1; cells = 3 }

-- one handle, two of an array, and none
abbrev h : Place
h = record { declaration = 2; first = 0; cells = 1 }

abbrev g : Place
g = record { declaration = 3; first = 1; cells = 2 }

abbrev e : Place
e = record { declaration = 4; first = 3; cells = 0 }

-- the only handle, where there is no array
abbrev hs : Place
hs = record { declaration = 1; first = 0; cells = 1 }

abbrev next_one : Target
next_one = part a (op2 Add (cell x) (n 1))

abbrev statement_of : List ℕ → Read
statement_of text = reading (codes "mpd 2;ranks 1;var x;var a[3];req h;req g[2];req e[0];" ++ text)

abbrev reads_one : Tree → Read
reads_one t = Ok (record { version = 2; ranks = 1; decls = all_declared; body = t ∷ []; lines = 1 ∷ [] })

abbrev good_statements : List (List ℕ × Tree)
good_statements =
    (codes "waitany h to x;", waitany h (whole x)) ∷ (codes "waitany g to x;", waitany g (whole x)) ∷ (codes "waitany e to x;", waitany e (whole x)) ∷ (codes "waitany g to a[x+1];", waitany g next_one)
    ∷ (codes "waitany h to a [ 2 ] ;", waitany h (part a (n 2))) ∷ (codes "waitany g to a[" ++ replicate 64 40 ++ codes "1" ++ replicate 64 41 ++ codes "];", waitany g (part a (n 1))) ∷ []

pub row_good_statements : map {B = Read} (λ r. statement_of r.0) good_statements ≡ map {B = Read} (λ r. reads_one r.1) good_statements
unfolding reading script header version ranks decls decls_from decl declarator single array_size body stmts stmt block if_statement otherwise while_statement target statement_place statement_name source status assignment expr level chain atom place_inside bracket rounds unary count spend seek slot_in fresh add expect after sees same_symbol advanced place spelling token refusal tokens_after front sign word number
row_good_statements = refl

abbrev bad_statements : Places
bad_statements =
    (codes "waitany", (f.Expected, 60)) ∷ (codes "waitany;", (f.Expected, 60)) ∷ (codes "waitany 1 to x;", (f.Expected, 61)) ∷ (codes "waitany (h) to x;", (f.Expected, 61))
    ∷ (codes "waitany any to x;", (f.Expected, 61)) ∷ (codes "waitany to x;", (f.Expected, 61)) ∷ (codes "waitany $", (f.BadToken, 61)) ∷ (codes "waitany q to x;", (f.UnknownName, 61))
    ∷ (codes "waitany x to x;", (f.UnknownName, 61)) ∷ (codes "waitany a to x;", (f.UnknownName, 61)) ∷ (codes "waitany rank to x;", (f.Expected, 61)) ∷ (codes "waitany h[0] to x;", (f.Expected, 62))
    ∷ (codes "waitany g[0] to x;", (f.Expected, 62)) ∷ (codes "waitany e[0] to x;", (f.Expected, 62)) ∷ (codes "waitany g ;", (f.Expected, 63)) ∷ (codes "waitany h$ to x;", (f.BadToken, 62))
    ∷ (codes "waitany h x;", (f.Expected, 63)) ∷ (codes "waitany h g to x;", (f.Expected, 63)) ∷ (codes "waitany h = 1;", (f.Expected, 63)) ∷ (codes "waitany h", (f.Expected, 62))
    ∷ (codes "waitany h from x;", (f.Expected, 63)) ∷ (codes "waitany h to;", (f.Expected, 65)) ∷ (codes "waitany h to", (f.Expected, 65)) ∷ (codes "waitany h to 1;", (f.Expected, 66))
    ∷ (codes "waitany h to q;", (f.UnknownName, 66)) ∷ (codes "waitany h to h;", (f.UnknownName, 66)) ∷ (codes "waitany h to g[0];", (f.UnknownName, 66)) ∷ (codes "waitany h to a;", (f.Expected, 67))
    ∷ (codes "waitany h to x[0];", (f.Expected, 67)) ∷ (codes "waitany h to a[0;", (f.Expected, 69)) ∷ (codes "waitany h to a[];", (f.Expected, 68)) ∷ (codes "waitany h to a[$", (f.BadToken, 68))
    ∷ (codes "waitany h to a[q];", (f.UnknownName, 68)) ∷ (codes "waitany h to a[h];", (f.UnknownName, 68)) ∷ (codes "waitany h to x", (f.Expected, 67))
    ∷ (codes "waitany h to x x;", (f.Expected, 68)) ∷ (codes "waitany h to x tag 1;", (f.Expected, 68)) ∷ (codes "waitany h to x status x x;", (f.Expected, 68))
    ∷ (codes "waitany h to x$", (f.BadToken, 67)) ∷ (codes "print waitany;", (f.Expected, 59)) ∷ (codes "waitany h to x;req q;", (f.Expected, 68)) ∷ []

pub row_bad_statements : map {B = Read} (λ r. statement_of r.0) bad_statements ≡ wanted_places bad_statements
unfolding reading script header version ranks decls decls_from decl declarator single array_size body stmts stmt block if_statement otherwise while_statement target statement_place statement_name source status assignment expr level chain atom place_inside bracket rounds unary count spend seek slot_in fresh add expect after sees same_symbol advanced place spelling token refusal tokens_after front sign word number
row_bad_statements = refl

pub row_too_deep : statement_of (codes "waitany h to a[" ++ replicate 65 40 ++ codes "1") ≡ Err (fault f.TooDeep 132)
unfolding reading script header version ranks decls decls_from decl declarator single array_size body stmts stmt block if_statement otherwise while_statement target statement_place statement_name source status assignment expr level chain atom place_inside bracket rounds unary count spend seek slot_in fresh add expect after sees same_symbol advanced place spelling token refusal tokens_after front sign word number
row_too_deep = refl

-- in a block, with the lines
pub row_in_a_block : reading (codes "mpd 2;\nranks 1;\nvar x;\nreq h;\nif x {\n  waitany h\n to x;\n}\nwaitany h to x;\n")
    ≡ Ok (record {
      version = 2;
      ranks = 1;
      decls = declared Variable (codes "x") None ∷ declared Handle (codes "h") None ∷ [];
      body = branch (cell x) (then_more (waitany hs (whole x)) no_more) no_more ∷ waitany hs (whole x) ∷ [];
      lines = 5 ∷ 6 ∷ 9 ∷ [];
    })
unfolding reading script header version ranks decls decls_from decl declarator single array_size body stmts stmt block if_statement otherwise while_statement target statement_place statement_name source status assignment expr level chain atom place_inside bracket rounds unary count spend seek slot_in fresh add expect after sees same_symbol advanced place spelling token refusal tokens_after front sign word number
row_in_a_block = refl

-- ---- the most statements: what began before counts, whatever the version

abbrev stmt_after : ℕ → ℕ → List ℕ → Outcome Tree
stmt_after v k text = stmt (block 64) (record (start_of text) { version = v; decls = all_declared; lines = replicate k 1 })

abbrev refused_as : Outcome Tree
refused_as = Err (fault f.TooMany 0)

pub row_one_too_many : map {B = Outcome Tree} (λ v. stmt_after v 4096 (codes "waitany h to x;")) (1 ∷ 2 ∷ []) ≡ refused_as ∷ refused_as ∷ []
unfolding reading script header version ranks decls decls_from decl declarator single array_size body stmts stmt block if_statement otherwise while_statement target statement_place statement_name source status assignment expr level chain atom place_inside bracket rounds unary count spend seek slot_in fresh add expect after sees same_symbol advanced place spelling token refusal tokens_after front sign word number
row_one_too_many = refl

pub row_last_of_version_1 : stmt_after 1 4095 (codes "waitany h to x;") ≡ Err (fault f.NotInVersion 0)
unfolding reading script header version ranks decls decls_from decl declarator single array_size body stmts stmt block if_statement otherwise while_statement target statement_place statement_name source status assignment expr level chain atom place_inside bracket rounds unary count spend seek slot_in fresh add expect after sees same_symbol advanced place spelling token refusal tokens_after front sign word number
row_last_of_version_1 = refl

pub row_last_of_version_2 : is_ok (stmt_after 2 4095 (codes "waitany h to x;")) ≡ true
unfolding reading script header version ranks decls decls_from decl declarator single array_size body stmts stmt block if_statement otherwise while_statement target statement_place statement_name source status assignment expr level chain atom place_inside bracket rounds unary count spend seek slot_in fresh add expect after sees same_symbol advanced place spelling token refusal tokens_after front sign word number
row_last_of_version_2 = refl

-- ---- the canonical text

abbrev text : ℕ → Tree → List ℕ
text depth t = tree_text all_declared depth t

pub row_text_alone : text 0 (waitany h (whole x)) ≡ codes "waitany h to x;\n"
row_text_alone = refl

pub row_text_array : text 2 (waitany g next_one) ≡ codes "    waitany g to a[x + 1];\n"
unfolding digits
row_text_array = refl

abbrev printed : Result Program ReadFault → List ℕ
printed (Ok p) = canonical p
printed (Err f) = []

pub row_printed : printed (reading (codes "mpd 02;ranks 01;var x;req h[2];if x{waitany h to x ;}#")) ≡ codes "mpd 2;\nranks 1;\nvar x;\nreq h[2];\nif x {\n  waitany h to x;\n}\n"
unfolding digits reading script header version ranks decls decls_from decl declarator single array_size body stmts stmt block if_statement otherwise while_statement target statement_place statement_name source status assignment expr level chain atom place_inside bracket rounds unary count spend seek slot_in fresh add expect after sees same_symbol advanced place spelling token refusal tokens_after front sign word number
row_printed = refl

-- version 1 is told where a text is in it, whatever it could be in
pub row_printed_1 : printed (reading (codes "mpd 1;ranks 1;")) ≡ codes "mpd 1;\nranks 1;\n"
unfolding digits reading script header version ranks decls decls_from decl declarator single array_size body stmts stmt block if_statement otherwise while_statement target statement_place statement_name source status assignment expr level chain atom place_inside bracket rounds unary count spend seek slot_in fresh add expect after sees same_symbol advanced place spelling token refusal tokens_after front sign word number
row_printed_1 = refl
