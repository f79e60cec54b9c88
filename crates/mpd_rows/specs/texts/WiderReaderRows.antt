-- Worked rows of texts with operators, arrays, assignments, `while` and `assert`: what each is read as, or its fault and that fault's byte place.
use Rattle.std.specs.Prelude.{◌≡◌, ℕ, ℤ, zero, suc, ◌+◌, pos, negsuc, false, map, slice_get, List, [], ◌∷◌, ◌++◌, Option, Some, None, Result, Ok, Err, codes, replicate, flat_map, refl}
use Rattle.mpd_model.specs.declared.expr.BinaryOp.{BinaryOp}
use Rattle.mpd_model.specs.declared.expr.BinaryOp.TheVariants.{Or, And, Equal, NotEqual, Less, AtMost, Greater, AtLeast, Add, Subtract, Multiply, Divide, Remainder}
use Rattle.mpd_model.specs.declared.expr.UnaryOp.{UnaryOp}
use Rattle.mpd_model.specs.declared.expr.UnaryOp.TheVariants.{Negate, Not}
use Rattle.mpd_model.specs.declared.place.DeclKind.TheVariants.{Variable}
use Rattle.mpd_model.specs.declared.place.Place.{Place}
use Rattle.mpd_model.specs.declared.read_fault.FaultCode.{FaultCode}
use Rattle.mpd_model.specs.declared.read_fault.FaultCode.TheVariants as f
use Rattle.mpd_model.specs.declared.read_fault.ReadFault.{ReadFault}
use Rattle.mpd_model.specs.declared.step.Step.TheVariants.{Local}
use Rattle.mpd_model.specs.declared.call.Mode.TheVariants.{Rendezvous}
use Rattle.mpd_model.specs.declared.call.Trap.{Trap}
use Rattle.mpd_model.specs.declared.call.Trap.TheVariants.{Overflow, ZeroDivisor, BadIndex}
use Rattle.mpd_model.specs.declared.call.Activity.{Activity}
use Rattle.mpd_model.specs.declared.call.Activity.TheVariants.{Running, Trapped}
use Rattle.mpd_model.specs.script.Declaration.{Declared}
use Rattle.mpd_model.specs.grammar.Faults.{fault}
use Rattle.mpd_model.specs.grammar.Grammar.{reading, script, header, version, ranks, decls, decls_from, decl, declarator, single, array_size, body, stmts, stmt, block, if_statement, otherwise, while_statement, target, statement_place, source, status, assignment, expr, level, chain, atom, place_inside, bracket, rounds, unary}
use Rattle.mpd_model.specs.grammar.Input.{Outcome, start_of, count, spend, seek, slot_in, fresh, add, expect, after, sees, same_symbol, advanced, place, spelling, token, refusal}
use Rattle.mpd_model.specs.script.Program.{Program}
use Rattle.mpd_model.specs.script.Term.{Term, lit, own_rank, size, cell, element, op1, op2, Target}
use Rattle.mpd_model.specs.grammar.Tokens.{tokens, tokens_after, front, sign, word, number}
use Rattle.mpd_model.specs.script.Tree.{Tree, branch, repeat, no_more, then_more, block_of, statements_in}
use Rattle.mpd_model.specs.grammar.Costs.{cost, blocks_in}
use Rattle.mpd_model.specs.steps.World.{RankWorld, World, start}
use Rattle.mpd_model.specs.steps.Next.{fold}
use Rattle.mpd_rows.specs.worlds.Statements.{print, send, recv, assign, check}

abbrev Read : Type 0
Read = Result Program ReadFault

abbrev refused : FaultCode → ℕ → Read
refused c at = Err (fault c at)

abbrev declared : List ℕ → Option ℕ → Declared
declared name cells = record { kind = Variable; name = name; size = cells }

-- `var x; var a[3];`
abbrev x : Place
x = record { declaration = 0; first = 0; cells = 1 }

abbrev a : Place
a = record { declaration = 1; first = 1; cells = 3 }

abbrev whole : Place → Target
whole p = record { place = p; index = None }

abbrev part : Place → Term → Target
part p e = record { place = p; index = Some e }

abbrev n : ℕ → Term
n k = lit (pos k)

abbrev minus : Term → Term
minus = op1 Negate

abbrev same : ℕ → List ℕ → List ℕ
same k text = flat_map {X = ℕ} (λ _. text) (replicate k 0)

-- ---- expressions: each text begins at byte 35, and a semicolon stands after it

abbrev printing_of : List ℕ → Read
printing_of text = reading (codes "mpd 1;ranks 1;var x;var a[3];print " ++ text ++ codes ";")

abbrev prints : Term → Read
prints t = Ok (record { version = 1; ranks = 1; decls = declared (codes "x") None ∷ declared (codes "a") (Some 3) ∷ []; body = print t ∷ []; lines = 1 ∷ [] })

abbrev Terms : Type 0
Terms = List (List ℕ × Term)

abbrev read_terms : Terms → List Read
read_terms table = map {B = Read} (λ r. printing_of r.0) table

abbrev wanted_terms : Terms → List Read
wanted_terms table = map {B = Read} (λ r. prints r.1) table

-- ---- precedence, and grouping to the left

abbrev grouped : Terms
grouped =
    (codes "1+2*3", op2 Add (n 1) (op2 Multiply (n 2) (n 3))) ∷ (codes "1*2+3", op2 Add (op2 Multiply (n 1) (n 2)) (n 3))
    ∷ (codes "1-2-3", op2 Subtract (op2 Subtract (n 1) (n 2)) (n 3)) ∷ (codes "1+2-3", op2 Subtract (op2 Add (n 1) (n 2)) (n 3)) ∷ (codes "1-2+3", op2 Add (op2 Subtract (n 1) (n 2)) (n 3))
    ∷ (codes "8/4/2", op2 Divide (op2 Divide (n 8) (n 4)) (n 2)) ∷ (codes "8%4*2", op2 Multiply (op2 Remainder (n 8) (n 4)) (n 2)) ∷ (codes "8*4%2", op2 Remainder (op2 Multiply (n 8) (n 4)) (n 2))
    ∷ (codes "8/4*2", op2 Multiply (op2 Divide (n 8) (n 4)) (n 2)) ∷ (codes "8-4/2", op2 Subtract (n 8) (op2 Divide (n 4) (n 2))) ∷ (codes "8%4-2", op2 Subtract (op2 Remainder (n 8) (n 4)) (n 2))
    ∷ (codes "1<2+3", op2 Less (n 1) (op2 Add (n 2) (n 3))) ∷ (codes "1+2<3", op2 Less (op2 Add (n 1) (n 2)) (n 3)) ∷ (codes "1==2*3", op2 Equal (n 1) (op2 Multiply (n 2) (n 3)))
    ∷ (codes "1<2&&3<4", op2 And (op2 Less (n 1) (n 2)) (op2 Less (n 3) (n 4))) ∷ (codes "1==2||3!=4", op2 Or (op2 Equal (n 1) (n 2)) (op2 NotEqual (n 3) (n 4)))
    ∷ (codes "1&&2||3&&4", op2 Or (op2 And (n 1) (n 2)) (op2 And (n 3) (n 4))) ∷ (codes "1||2&&3", op2 Or (n 1) (op2 And (n 2) (n 3))) ∷ (codes "1&&2||3", op2 Or (op2 And (n 1) (n 2)) (n 3))
    ∷ (codes "1||2||3", op2 Or (op2 Or (n 1) (n 2)) (n 3)) ∷ (codes "1&&2&&3", op2 And (op2 And (n 1) (n 2)) (n 3)) ∷ []

pub row_grouped : read_terms grouped ≡ wanted_terms grouped
unfolding reading script header version ranks decls decls_from decl declarator single array_size body stmts stmt block if_statement otherwise while_statement target statement_place source status assignment expr level chain atom place_inside bracket rounds unary count spend seek slot_in fresh add expect after sees same_symbol advanced place spelling token refusal tokens_after front sign word number
row_grouped = refl

-- all levels at once, from the loosest and from the tightest
abbrev levels : Terms
levels =
    (codes "1||2&&3<4+5*-6", op2 Or (n 1) (op2 And (n 2) (op2 Less (n 3) (op2 Add (n 4) (op2 Multiply (n 5) (minus (n 6)))))))
    ∷ (codes "!6*5-4>3&&2||1", op2 Or (op2 And (op2 Greater (op2 Subtract (op2 Multiply (op1 Not (n 6)) (n 5)) (n 4)) (n 3)) (n 2)) (n 1)) ∷ []

pub row_levels : read_terms levels ≡ wanted_terms levels
unfolding reading script header version ranks decls decls_from decl declarator single array_size body stmts stmt block if_statement otherwise while_statement target statement_place source status assignment expr level chain atom place_inside bracket rounds unary count spend seek slot_in fresh add expect after sees same_symbol advanced place spelling token refusal tokens_after front sign word number
row_levels = refl

-- round brackets leave nothing in the tree but the grouping
abbrev bracketed : Terms
bracketed =
    (codes "(1)", n 1) ∷ (codes "((x))", cell x) ∷ (codes "(1||2)&&3", op2 And (op2 Or (n 1) (n 2)) (n 3)) ∷ (codes "1*(2+3)", op2 Multiply (n 1) (op2 Add (n 2) (n 3)))
    ∷ (codes "1-(2-3)", op2 Subtract (n 1) (op2 Subtract (n 2) (n 3))) ∷ (codes "(1-2)-3", op2 Subtract (op2 Subtract (n 1) (n 2)) (n 3))
    ∷ (codes "(1<2)<3", op2 Less (op2 Less (n 1) (n 2)) (n 3)) ∷ (codes "1<(2<3)", op2 Less (n 1) (op2 Less (n 2) (n 3))) ∷ (codes "(1<2)==(3<4)", op2 Equal (op2 Less (n 1) (n 2)) (op2 Less (n 3) (n 4)))
    ∷ (codes "-(1+2)", minus (op2 Add (n 1) (n 2))) ∷ (codes "!(1&&0)", op1 Not (op2 And (n 1) (n 0))) ∷ []

pub row_bracketed : read_terms bracketed ≡ wanted_terms bracketed
unfolding reading script header version ranks decls decls_from decl declarator single array_size body stmts stmt block if_statement otherwise while_statement target statement_place source status assignment expr level chain atom place_inside bracket rounds unary count spend seek slot_in fresh add expect after sees same_symbol advanced place spelling token refusal tokens_after front sign word number
row_bracketed = refl

-- ---- operators before an operand bind tightest

abbrev signs : Terms
signs =
    (codes "-1", minus (n 1)) ∷ (codes "- 1", minus (n 1)) ∷ (codes "!x", op1 Not (cell x)) ∷ (codes "- -x", minus (minus (cell x))) ∷ (codes "--x", minus (minus (cell x)))
    ∷ (codes "!!x", op1 Not (op1 Not (cell x))) ∷ (codes "!-x", op1 Not (minus (cell x))) ∷ (codes "-!x", minus (op1 Not (cell x)))
    ∷ (codes "-1*2", op2 Multiply (minus (n 1)) (n 2)) ∷ (codes "2*-1", op2 Multiply (n 2) (minus (n 1))) ∷ (codes "-x%2", op2 Remainder (minus (cell x)) (n 2)) ∷ (codes "-1+2", op2 Add (minus (n 1)) (n 2))
    ∷ (codes "1--1", op2 Subtract (n 1) (minus (n 1))) ∷ (codes "1---1", op2 Subtract (n 1) (minus (minus (n 1)))) ∷ (codes "1+-1", op2 Add (n 1) (minus (n 1)))
    ∷ (codes "!x==1", op2 Equal (op1 Not (cell x)) (n 1)) ∷ (codes "!1<2", op2 Less (op1 Not (n 1)) (n 2)) ∷ (codes "!1||2", op2 Or (op1 Not (n 1)) (n 2)) ∷ (codes "-a[0]", minus (element a (n 0)))
    ∷ (codes "!rank", op1 Not own_rank) ∷ (codes "-size", minus size) ∷ []

pub row_signs : read_terms signs ≡ wanted_terms signs
unfolding reading script header version ranks decls decls_from decl declarator single array_size body stmts stmt block if_statement otherwise while_statement target statement_place source status assignment expr level chain atom place_inside bracket rounds unary count spend seek slot_in fresh add expect after sees same_symbol advanced place spelling token refusal tokens_after front sign word number
row_signs = refl

-- each comparison, and signs that stand side by side
abbrev comparisons : Terms
comparisons =
    (codes "1==2", op2 Equal (n 1) (n 2)) ∷ (codes "1!=2", op2 NotEqual (n 1) (n 2)) ∷ (codes "1<2", op2 Less (n 1) (n 2)) ∷ (codes "1<=2", op2 AtMost (n 1) (n 2))
    ∷ (codes "1>2", op2 Greater (n 1) (n 2)) ∷ (codes "1>=2", op2 AtLeast (n 1) (n 2)) ∷ (codes "1<-2", op2 Less (n 1) (minus (n 2))) ∷ (codes "1<!2", op2 Less (n 1) (op1 Not (n 2)))
    ∷ (codes "1!=!2", op2 NotEqual (n 1) (op1 Not (n 2))) ∷ (codes "1==-2", op2 Equal (n 1) (minus (n 2))) ∷ (codes "1&&!2", op2 And (n 1) (op1 Not (n 2))) ∷ (codes "1||-2", op2 Or (n 1) (minus (n 2)))
    ∷ (codes "1\n<=#<\n2", op2 AtMost (n 1) (n 2)) ∷ []

pub row_comparisons : read_terms comparisons ≡ wanted_terms comparisons
unfolding reading script header version ranks decls decls_from decl declarator single array_size body stmts stmt block if_statement otherwise while_statement target statement_place source status assignment expr level chain atom place_inside bracket rounds unary count spend seek slot_in fresh add expect after sees same_symbol advanced place spelling token refusal tokens_after front sign word number
row_comparisons = refl

-- ---- places

abbrev places : Terms
places =
    (codes "x", cell x) ∷ (codes "a[0]", element a (n 0)) ∷ (codes "a[9]", element a (n 9)) ∷ (codes "a [ x ]", element a (cell x)) ∷ (codes "a[-1]", element a (minus (n 1)))
    ∷ (codes "a[a[0]]", element a (element a (n 0))) ∷ (codes "a[1+a[2]]", element a (op2 Add (n 1) (element a (n 2)))) ∷ (codes "a[x]+a[x+1]", op2 Add (element a (cell x)) (element a (op2 Add (cell x) (n 1))))
    ∷ (codes "a[1||0]", element a (op2 Or (n 1) (n 0))) ∷ (codes "a[(0)]", element a (n 0)) ∷ (codes "(a[0])", element a (n 0)) ∷ (codes "a[1<2]<3", op2 Less (element a (op2 Less (n 1) (n 2))) (n 3))
    ∷ (codes "x*a[0]/x", op2 Divide (op2 Multiply (cell x) (element a (n 0))) (cell x)) ∷ []

pub row_places : read_terms places ≡ wanted_terms places
unfolding reading script header version ranks decls decls_from decl declarator single array_size body stmts stmt block if_statement otherwise while_statement target statement_place source status assignment expr level chain atom place_inside bracket rounds unary count spend seek slot_in fresh add expect after sees same_symbol advanced place spelling token refusal tokens_after front sign word number
row_places = refl

-- ---- what is refused in an expression: the fault, and how far after byte 35

abbrev Faults : Type 0
Faults = List (List ℕ × (FaultCode × ℕ))

abbrev read_faults : Faults → List Read
read_faults table = map {B = Read} (λ r. printing_of r.0) table

abbrev wanted_faults : Faults → List Read
wanted_faults table = map {B = Read} (λ r. refused r.1.0 (35 + r.1.1)) table

-- comparisons don't chain
abbrev chained : Faults
chained =
    (codes "1<2<3", (f.Expected, 3)) ∷ (codes "1==2==3", (f.Expected, 4)) ∷ (codes "1<=2!=3", (f.Expected, 4)) ∷ (codes "1>2>=3", (f.Expected, 3)) ∷ (codes "1<2+3<4", (f.Expected, 5))
    ∷ (codes "1<2&&3<4<5", (f.Expected, 8)) ∷ (codes "a[1<2<3]", (f.Expected, 5)) ∷ (codes "(1<2<3)", (f.Expected, 4)) ∷ (codes "1= =2", (f.Expected, 1)) ∷ (codes "1< =2", (f.Expected, 3))
    ∷ (codes "1! =2", (f.Expected, 1)) ∷ (codes "1!==2", (f.Expected, 3)) ∷ (codes "1<>2", (f.Expected, 2)) ∷ (codes "1=>2", (f.Expected, 1)) ∷ []

pub row_chained : read_faults chained ≡ wanted_faults chained
unfolding reading script header version ranks decls decls_from decl declarator single array_size body stmts stmt block if_statement otherwise while_statement target statement_place source status assignment expr level chain atom place_inside bracket rounds unary count spend seek slot_in fresh add expect after sees same_symbol advanced place spelling token refusal tokens_after front sign word number
row_chained = refl

-- what is missing, and what stands too much; `+` is no sign
abbrev misplaced : Faults
misplaced =
    ([], (f.Expected, 0)) ∷ (codes "-", (f.Expected, 1)) ∷ (codes "!", (f.Expected, 1)) ∷ (codes "+1", (f.Expected, 0)) ∷ (codes "*1", (f.Expected, 0)) ∷ (codes "-+1", (f.Expected, 1))
    ∷ (codes "1+", (f.Expected, 2)) ∷ (codes "1+*2", (f.Expected, 2)) ∷ (codes "1&&", (f.Expected, 3)) ∷ (codes "1||||2", (f.Expected, 3)) ∷ (codes "1 2", (f.Expected, 2)) ∷ (codes "1!2", (f.Expected, 1)) ∷ (codes "1(2)", (f.Expected, 1))
    ∷ (codes "()", (f.Expected, 1)) ∷ (codes "(1", (f.Expected, 2)) ∷ (codes "1)", (f.Expected, 1)) ∷ (codes "(1]", (f.Expected, 2)) ∷ (codes "[0]", (f.Expected, 0)) ∷ (codes "1+while", (f.Expected, 2)) ∷ []

pub row_misplaced : read_faults misplaced ≡ wanted_faults misplaced
unfolding reading script header version ranks decls decls_from decl declarator single array_size body stmts stmt block if_statement otherwise while_statement target statement_place source status assignment expr level chain atom place_inside bracket rounds unary count spend seek slot_in fresh add expect after sees same_symbol advanced place spelling token refusal tokens_after front sign word number
row_misplaced = refl

-- what is no token is 3, whatever is allowed there
abbrev no_tokens : Faults
no_tokens =
    (codes "1&2", (f.BadToken, 1)) ∷ (codes "1|2", (f.BadToken, 1)) ∷ (codes "1 & & 2", (f.BadToken, 2)) ∷ (codes "1&&&2", (f.BadToken, 3)) ∷ (codes "1||| 2", (f.BadToken, 3)) ∷ (codes "-&", (f.BadToken, 1))
    ∷ (codes "1+$", (f.BadToken, 2)) ∷ (codes "1 $", (f.BadToken, 2)) ∷ (codes "1+9223372036854775808", (f.BadToken, 2)) ∷ (codes "-9223372036854775808", (f.BadToken, 1)) ∷ (codes "a$", (f.BadToken, 1)) ∷ (codes "a[$", (f.BadToken, 2))
    ∷ (codes "a[0$", (f.BadToken, 3)) ∷ (codes "a[9223372036854775808]", (f.BadToken, 2)) ∷ (codes "1^2", (f.BadToken, 1)) ∷ []

pub row_no_tokens : read_faults no_tokens ≡ wanted_faults no_tokens
unfolding reading script header version ranks decls decls_from decl declarator single array_size body stmts stmt block if_statement otherwise while_statement target statement_place source status assignment expr level chain atom place_inside bracket rounds unary count spend seek slot_in fresh add expect after sees same_symbol advanced place spelling token refusal tokens_after front sign word number
row_no_tokens = refl

-- a name with a size has an index after it, and one without has none
abbrev indexed : Faults
indexed =
    (codes "x[0]", (f.Expected, 1)) ∷ (codes "a", (f.Expected, 1)) ∷ (codes "a+1", (f.Expected, 1)) ∷ (codes "a(0)", (f.Expected, 1)) ∷ (codes "(a)", (f.Expected, 2)) ∷ (codes "a a", (f.Expected, 2))
    ∷ (codes "a[]", (f.Expected, 2)) ∷ (codes "a[0", (f.Expected, 3)) ∷ (codes "a[0)", (f.Expected, 3)) ∷ (codes "a[0]]", (f.Expected, 4)) ∷ (codes "a[0][0]", (f.Expected, 4)) ∷ (codes "a[0 1]", (f.Expected, 4))
    ∷ (codes "a[x[0]]", (f.Expected, 3)) ∷ (codes "a[a]", (f.Expected, 3)) ∷ (codes "a[y]", (f.UnknownName, 2)) ∷ (codes "b[0]", (f.UnknownName, 0)) ∷ (codes "b[$]", (f.UnknownName, 0)) ∷ (codes "a[b[0]", (f.UnknownName, 2))
    ∷ (codes "x+y", (f.UnknownName, 2)) ∷ (codes "-y", (f.UnknownName, 1)) ∷ (codes "1||y", (f.UnknownName, 3)) ∷ (codes "a1", (f.UnknownName, 0)) ∷ []

pub row_indexed : read_faults indexed ≡ wanted_faults indexed
unfolding reading script header version ranks decls decls_from decl declarator single array_size body stmts stmt block if_statement otherwise while_statement target statement_place source status assignment expr level chain atom place_inside bracket rounds unary count spend seek slot_in fresh add expect after sees same_symbol advanced place spelling token refusal tokens_after front sign word number
row_indexed = refl

-- the end of the text is a token at its length
abbrev ends : List (List ℕ × ℕ)
ends = (codes "print a", 36) ∷ (codes "print a[", 37) ∷ (codes "print a[0", 38) ∷ (codes "print -", 36) ∷ (codes "print 1+", 37) ∷ (codes "print x\n", 37) ∷ (codes "x", 30) ∷ (codes "x=", 31) ∷ (codes "x=1", 32) ∷ (codes "a", 30)
    ∷ (codes "a[0]", 33) ∷ (codes "assert", 35) ∷ (codes "assert 1", 37) ∷ (codes "while", 34) ∷ (codes "while 1", 36) ∷ (codes "while 1{", 37) ∷ (codes "while 1{x=1;", 41) ∷ []

abbrev after_decls : List ℕ → Read
after_decls text = reading (codes "mpd 1;ranks 1;var x;var a[3];" ++ text)

pub row_ends : map {B = Read} (λ r. after_decls r.0) ends ≡ map {B = Read} (λ r. refused f.Expected r.1) ends
unfolding reading script header version ranks decls decls_from decl declarator single array_size body stmts stmt block if_statement otherwise while_statement target statement_place source status assignment expr level chain atom place_inside bracket rounds unary count spend seek slot_in fresh add expect after sees same_symbol advanced place spelling token refusal tokens_after front sign word number
row_ends = refl

-- ---- 64 operators and brackets in one expression

-- so many operators of one kind, with a 1 after each, or before it
abbrev with_ones : BinaryOp → ℕ → Term → Term
with_ones op zero t = t
with_ones op (suc k) t = op2 op (with_ones op k t) (n 1)

abbrev signed_by : UnaryOp → ℕ → Term → Term
signed_by op zero t = t
signed_by op (suc k) t = op1 op (signed_by op k t)

abbrev elements : ℕ → Term
elements zero = n 0
elements (suc k) = element a (elements k)

-- all 64 are taken
abbrev full : Terms
full =
    (codes "1" ++ same 64 (codes "+1"), with_ones Add 64 (n 1)) ∷ (codes "1" ++ same 64 (codes "||1"), with_ones Or 64 (n 1)) ∷ (codes "1" ++ same 64 (codes "%1"), with_ones Remainder 64 (n 1))
    ∷ (same 64 (codes "-") ++ codes "1", signed_by Negate 64 (n 1)) ∷ (same 32 (codes "!") ++ same 32 (codes "(") ++ codes "1" ++ same 32 (codes ")"), signed_by Not 32 (n 1))
    ∷ (same 64 (codes "a[") ++ codes "0" ++ same 64 (codes "]"), elements 64) ∷ (codes "a[" ++ same 63 (codes "(") ++ codes "0" ++ same 63 (codes ")") ++ codes "]", element a (n 0))
    ∷ (same 61 (codes "(") ++ codes "-a[1+2]" ++ same 61 (codes ")"), minus (element a (op2 Add (n 1) (n 2)))) ∷ (codes "a[1+1]" ++ same 62 (codes "*1"), with_ones Multiply 62 (element a (op2 Add (n 1) (n 1))))
    ∷ (codes "(1)" ++ same 31 (codes "+(1)") ++ codes "+1", with_ones Add 32 (n 1)) ∷ (codes "1<1" ++ same 63 (codes "+1"), op2 Less (n 1) (with_ones Add 63 (n 1))) ∷ []

pub row_full : read_terms full ≡ wanted_terms full
unfolding reading script header version ranks decls decls_from decl declarator single array_size body stmts stmt block if_statement otherwise while_statement target statement_place source status assignment expr level chain atom place_inside bracket rounds unary count spend seek slot_in fresh add expect after sees same_symbol advanced place spelling token refusal tokens_after front sign word number
row_full = refl

-- the 65th is too deep, whichever it is; what closes counts nothing and gives nothing back
abbrev too_deep : Faults
too_deep =
    (codes "1" ++ same 65 (codes "+1"), (f.TooDeep, 129)) ∷ (codes "1" ++ same 64 (codes "+1") ++ codes "<1", (f.TooDeep, 129)) ∷ (codes "1" ++ same 64 (codes "+1") ++ codes "&&1", (f.TooDeep, 129))
    ∷ (codes "1" ++ same 64 (codes "+1") ++ codes "||1", (f.TooDeep, 129)) ∷ (codes "1" ++ same 64 (codes "+1") ++ codes "*1", (f.TooDeep, 129)) ∷ (codes "1" ++ same 63 (codes "+1") ++ codes "+-1", (f.TooDeep, 128))
    ∷ (same 65 (codes "-") ++ codes "1", (f.TooDeep, 64)) ∷ (same 65 (codes "!") ++ codes "1", (f.TooDeep, 64)) ∷ (same 65 (codes "a["), (f.TooDeep, 129)) ∷ (same 65 (codes "("), (f.TooDeep, 64))
    ∷ (codes "a[" ++ same 64 (codes "("), (f.TooDeep, 65)) ∷ (same 61 (codes "(") ++ codes "-a[1+2*3", (f.TooDeep, 67)) ∷ (codes "a[1+1]" ++ same 63 (codes "*1"), (f.TooDeep, 130)) ∷ (codes "(1)" ++ same 32 (codes "+(1)"), (f.TooDeep, 128))
    ∷ (same 64 (codes "(") ++ codes "a[0]", (f.TooDeep, 65)) ∷ (same 64 (codes "(") ++ codes "-1", (f.TooDeep, 64)) ∷ (same 64 (codes "(") ++ codes "!1", (f.TooDeep, 64)) ∷ (same 64 (codes "(") ++ codes "1+1", (f.TooDeep, 65)) ∷ []

pub row_too_deep : read_faults too_deep ≡ wanted_faults too_deep
unfolding reading script header version ranks decls decls_from decl declarator single array_size body stmts stmt block if_statement otherwise while_statement target statement_place source status assignment expr level chain atom place_inside bracket rounds unary count spend seek slot_in fresh add expect after sees same_symbol advanced place spelling token refusal tokens_after front sign word number
row_too_deep = refl

-- where all are taken, what is no token, what isn't allowed and what isn't declared are faults as elsewhere
abbrev not_too_deep : Faults
not_too_deep =
    (same 64 (codes "(") ++ codes "x[0]", (f.Expected, 65)) ∷ (same 64 (codes "(") ++ codes "a", (f.Expected, 65)) ∷ (same 64 (codes "(") ++ codes "+1", (f.Expected, 64)) ∷ (same 64 (codes "(") ++ codes "1 1", (f.Expected, 66))
    ∷ (same 64 (codes "(") ++ codes "$", (f.BadToken, 64)) ∷ (same 64 (codes "(") ++ codes "1&1", (f.BadToken, 65)) ∷ (same 64 (codes "(") ++ codes "y", (f.UnknownName, 64))
    ∷ (codes "1<1" ++ same 63 (codes "+1") ++ codes "<1", (f.Expected, 129)) ∷ (codes "1" ++ same 64 (codes "+1") ++ codes "!1", (f.Expected, 129)) ∷ (codes "1" ++ same 64 (codes "+1") ++ codes "(1)", (f.Expected, 129))
    ∷ (codes "1" ++ same 64 (codes "+1") ++ codes "[0]", (f.Expected, 129)) ∷ []

pub row_not_too_deep : read_faults not_too_deep ≡ wanted_faults not_too_deep
unfolding reading script header version ranks decls decls_from decl declarator single array_size body stmts stmt block if_statement otherwise while_statement target statement_place source status assignment expr level chain atom place_inside bracket rounds unary count spend seek slot_in fresh add expect after sees same_symbol advanced place spelling token refusal tokens_after front sign word number
row_not_too_deep = refl

-- ---- statements, after the same declarations: each text begins at byte 29

-- statements, and how many they are, nested ones included
abbrev runs : List Tree → ℕ → Read
runs body count = Ok (record { version = 1; ranks = 1; decls = declared (codes "x") None ∷ declared (codes "a") (Some 3) ∷ []; body = body; lines = replicate count 1 })

abbrev Bodies : Type 0
Bodies = List (List ℕ × (List Tree × ℕ))

abbrev read_bodies : Bodies → List Read
read_bodies table = map {B = Read} (λ r. after_decls r.0) table

abbrev wanted_bodies : Bodies → List Read
wanted_bodies table = map {B = Read} (λ r. runs r.1.0 r.1.1) table

abbrev statements : Bodies
statements =
    (codes "x=1;", (assign (whole x) (n 1) ∷ [], 1)) ∷ (codes "x = 1 ;", (assign (whole x) (n 1) ∷ [], 1)) ∷ (codes "x=x==1;", (assign (whole x) (op2 Equal (cell x) (n 1)) ∷ [], 1)) ∷ (codes "x=!x;", (assign (whole x) (op1 Not (cell x)) ∷ [], 1)) ∷ (codes "x#=2;\n=1;", (assign (whole x) (n 1) ∷ [], 1))
    ∷ (codes "a[0]=1;", (assign (part a (n 0)) (n 1) ∷ [], 1)) ∷ (codes "a[a[0]]=a[1];", (assign (part a (element a (n 0))) (element a (n 1)) ∷ [], 1)) ∷ (codes "a [x+1] =-a[x];", (assign (part a (op2 Add (cell x) (n 1))) (minus (element a (cell x))) ∷ [], 1))
    ∷ (codes "assert x<2;", (check (op2 Less (cell x) (n 2)) ∷ [], 1)) ∷ (codes "assert(1);", (check (n 1) ∷ [], 1)) ∷ (codes "assert!x;", (check (op1 Not (cell x)) ∷ [], 1))
    ∷ (codes "while x {}", (repeat (cell x) no_more ∷ [], 1)) ∷ (codes "while(x){x=1;}", (repeat (cell x) (then_more (assign (whole x) (n 1)) no_more) ∷ [], 2))
    ∷ (codes "while 1{while 0{assert 1;}x=2;}x=3;", (repeat (n 1) (then_more (repeat (n 0) (then_more (check (n 1)) no_more)) (then_more (assign (whole x) (n 2)) no_more)) ∷ assign (whole x) (n 3) ∷ [], 5))
    ∷ (codes "if a[0] {x=1;} else {a[0]=2;}", (branch (element a (n 0)) (then_more (assign (whole x) (n 1)) no_more) (then_more (assign (part a (n 0)) (n 2)) no_more) ∷ [], 3))
    ∷ (codes "recv a[1] from x tag a[0];", (recv (part a (n 1)) (cell x) (element a (n 0)) ∷ [], 1)) ∷ (codes "recv x from 1-rank tag 5;", (recv (whole x) (op2 Subtract (n 1) own_rank) (n 5) ∷ [], 1))
    ∷ (codes "send a[0] to (rank+1)%size tag 7;", (send (element a (n 0)) (op2 Remainder (op2 Add own_rank (n 1)) size) (n 7) ∷ [], 1)) ∷ []

pub row_statements : read_bodies statements ≡ wanted_bodies statements
unfolding reading script header version ranks decls decls_from decl declarator single array_size body stmts stmt block if_statement otherwise while_statement target statement_place source status assignment expr level chain atom place_inside bracket rounds unary count spend seek slot_in fresh add expect after sees same_symbol advanced place spelling token refusal tokens_after front sign word number
row_statements = refl

-- the index of a place outside expressions is an expression of its own, and its bracket counts nothing
abbrev own_indexes : Bodies
own_indexes =
    (codes "a[" ++ same 64 (codes "(") ++ codes "0" ++ same 64 (codes ")") ++ codes "]=" ++ same 64 (codes "(") ++ codes "1" ++ same 64 (codes ")") ++ codes ";", (assign (part a (n 0)) (n 1) ∷ [], 1))
    ∷ (codes "a[" ++ same 64 (codes "a[") ++ codes "0" ++ same 64 (codes "]") ++ codes "]=1;", (assign (part a (elements 64)) (n 1) ∷ [], 1))
    ∷ (codes "recv a[" ++ same 64 (codes "-") ++ codes "0] from 0" ++ same 64 (codes "+1") ++ codes " tag " ++ same 64 (codes "(") ++ codes "0" ++ same 64 (codes ")") ++ codes ";", (recv (part a (signed_by Negate 64 (n 0))) (with_ones Add 64 (n 0)) (n 0) ∷ [], 1))
    ∷ (codes "while " ++ same 64 (codes "!") ++ codes "x{assert " ++ same 64 (codes "!") ++ codes "x;}", (repeat (signed_by Not 64 (cell x)) (then_more (check (signed_by Not 64 (cell x))) no_more) ∷ [], 2)) ∷ []

pub row_own_indexes : read_bodies own_indexes ≡ wanted_bodies own_indexes
unfolding reading script header version ranks decls decls_from decl declarator single array_size body stmts stmt block if_statement otherwise while_statement target statement_place source status assignment expr level chain atom place_inside bracket rounds unary count spend seek slot_in fresh add expect after sees same_symbol advanced place spelling token refusal tokens_after front sign word number
row_own_indexes = refl

abbrev Places : Type 0
Places = List (List ℕ × (FaultCode × ℕ))

abbrev read_places : Places → List Read
read_places table = map {B = Read} (λ r. after_decls r.0) table

abbrev wanted_places : Places → List Read
wanted_places table = map {B = Read} (λ r. refused r.1.0 r.1.1) table

abbrev index_too_deep : Places
index_too_deep =
    (codes "a[" ++ same 65 (codes "("), (f.TooDeep, 95)) ∷ (codes "a[" ++ same 65 (codes "a["), (f.TooDeep, 160)) ∷ (codes "a[" ++ same 64 (codes "(") ++ codes "0" ++ same 64 (codes ")") ++ codes "]=" ++ same 65 (codes "("), (f.TooDeep, 226))
    ∷ (codes "recv a[" ++ same 65 (codes "-"), (f.TooDeep, 100)) ∷ (codes "while " ++ same 65 (codes "("), (f.TooDeep, 99)) ∷ (codes "assert " ++ same 65 (codes "("), (f.TooDeep, 100)) ∷ (codes "x=" ++ same 65 (codes "!"), (f.TooDeep, 95)) ∷ []

pub row_index_too_deep : read_places index_too_deep ≡ wanted_places index_too_deep
unfolding reading script header version ranks decls decls_from decl declarator single array_size body stmts stmt block if_statement otherwise while_statement target statement_place source status assignment expr level chain atom place_inside bracket rounds unary count spend seek slot_in fresh add expect after sees same_symbol advanced place spelling token refusal tokens_after front sign word number
row_index_too_deep = refl

abbrev bad_assignments : Places
bad_assignments =
    (codes "x;", (f.Expected, 30)) ∷ (codes "x==1;", (f.Expected, 30)) ∷ (codes "x 1;", (f.Expected, 31)) ∷ (codes "x=;", (f.Expected, 31)) ∷ (codes "x=x=1;", (f.Expected, 32)) ∷ (codes "x=1}", (f.Expected, 32)) ∷ (codes "x=1,", (f.BadToken, 32))
    ∷ (codes "x[0]=1;", (f.Expected, 30)) ∷ (codes "a=1;", (f.Expected, 30)) ∷ (codes "a;", (f.Expected, 30)) ∷ (codes "a[=1;", (f.Expected, 31)) ∷ (codes "a[]=1;", (f.Expected, 31)) ∷ (codes "a[0=1;", (f.Expected, 32)) ∷ (codes "a[0]1;", (f.Expected, 33))
    ∷ (codes "a[0];", (f.Expected, 33)) ∷ (codes "a[0]==1;", (f.Expected, 33)) ∷ (codes "a[0][0]=1;", (f.Expected, 33)) ∷ (codes "a$", (f.BadToken, 30)) ∷ (codes "a[0]$", (f.BadToken, 33)) ∷ (codes "x$", (f.BadToken, 30))
    ∷ (codes "y=1;", (f.UnknownName, 29)) ∷ (codes "y;", (f.UnknownName, 29)) ∷ (codes "y$", (f.UnknownName, 29)) ∷ (codes "x=y;", (f.UnknownName, 31)) ∷ (codes "a[y]=1;", (f.UnknownName, 31)) ∷ (codes "a[y", (f.UnknownName, 31)) ∷ (codes "whilex {}", (f.UnknownName, 29))
    ∷ (codes "=1;", (f.Expected, 29)) ∷ (codes "1=1;", (f.Expected, 29)) ∷ (codes "rank=1;", (f.Expected, 29)) ∷ (codes "(x)=1;", (f.Expected, 29)) ∷ (codes "-x;", (f.Expected, 29)) ∷ (codes "!x;", (f.Expected, 29)) ∷ (codes "[0]=1;", (f.Expected, 29)) ∷ (codes "tag=1;", (f.Expected, 29)) ∷ []

pub row_bad_assignments : read_places bad_assignments ≡ wanted_places bad_assignments
unfolding reading script header version ranks decls decls_from decl declarator single array_size body stmts stmt block if_statement otherwise while_statement target statement_place source status assignment expr level chain atom place_inside bracket rounds unary count spend seek slot_in fresh add expect after sees same_symbol advanced place spelling token refusal tokens_after front sign word number
row_bad_assignments = refl

abbrev bad_statements : Places
bad_statements =
    (codes "assert;", (f.Expected, 35)) ∷ (codes "assert x y;", (f.Expected, 38)) ∷ (codes "assert {}", (f.Expected, 36)) ∷ (codes "assert = 1;", (f.Expected, 36)) ∷ (codes "assert y;", (f.UnknownName, 36))
    ∷ (codes "while;", (f.Expected, 34)) ∷ (codes "while {}", (f.Expected, 35)) ∷ (codes "while x;", (f.Expected, 36)) ∷ (codes "while x x=1;", (f.Expected, 37)) ∷ (codes "while y {}", (f.UnknownName, 35)) ∷ (codes "while x {} else {}", (f.Expected, 40))
    ∷ (codes "while x { else", (f.Expected, 39)) ∷ (codes "while x {}}", (f.Expected, 39)) ∷ (codes "while x {};", (f.Expected, 39)) ∷ (codes "while x {waitany", (f.NotInVersion, 38)) ∷ (codes "while waitany", (f.Expected, 35)) ∷ (codes "if 1 {} else waitany", (f.Expected, 42)) ∷ (codes "x=waitany;", (f.Expected, 31)) ∷ (codes "while x {y=1;}", (f.UnknownName, 38))
    ∷ (codes "recv a from 0 tag 0;", (f.Expected, 36)) ∷ (codes "recv a[0 from 0", (f.Expected, 38)) ∷ (codes "recv x[0] from 0", (f.Expected, 35)) ∷ (codes "recv a[0][1] from", (f.Expected, 38)) ∷ (codes "recv a[y] from", (f.UnknownName, 36)) ∷ (codes "recv a[0]=1;", (f.Expected, 38))
    ∷ (codes "recv y[0]", (f.UnknownName, 34)) ∷ (codes "recv -x from", (f.Expected, 34)) ∷ (codes "recv (x) from", (f.Expected, 34)) ∷ (codes "send a to 0 tag 0;", (f.Expected, 36)) ∷ (codes "print a[0] a[1];", (f.Expected, 40)) ∷ (codes "x=1;var z;", (f.Expected, 33))
    ∷ (codes "x=1;req h[2];", (f.Expected, 33)) ∷ (codes "barrier x;", (f.Expected, 37)) ∷ []

pub row_bad_statements : read_places bad_statements ≡ wanted_places bad_statements
unfolding reading script header version ranks decls decls_from decl declarator single array_size body stmts stmt block if_statement otherwise while_statement target statement_place source status assignment expr level chain atom place_inside bracket rounds unary count spend seek slot_in fresh add expect after sees same_symbol advanced place spelling token refusal tokens_after front sign word number
row_bad_statements = refl

-- ---- open blocks

abbrev reading_of : List ℕ → Read
reading_of text = reading (codes "mpd 1;ranks 1;" ++ text)

abbrev plain : List Declared → List Tree → ℕ → Read
plain decls body count = Ok (record { version = 1; ranks = 1; decls = decls; body = body; lines = replicate count 1 })

abbrev whiles : ℕ → List Tree → List Tree
whiles zero ts = ts
whiles (suc k) ts = repeat (n 1) (block_of (whiles k ts)) ∷ []

abbrev ifs : ℕ → List Tree
ifs zero = []
ifs (suc k) = branch (n 1) (block_of (ifs k)) no_more ∷ []

pub row_64_whiles : reading_of (same 64 (codes "while 1 {") ++ same 64 (codes "}")) ≡ plain [] (whiles 64 []) 64
unfolding reading script header version ranks decls decls_from decl declarator single array_size body stmts stmt block if_statement otherwise while_statement target statement_place source status assignment expr level chain atom place_inside bracket rounds unary count spend seek slot_in fresh add expect after sees same_symbol advanced place spelling token refusal tokens_after front sign word number
row_64_whiles = refl

pub row_64_mixed : reading_of (same 32 (codes "while 1 {") ++ same 32 (codes "if 1 {") ++ same 64 (codes "}")) ≡ plain [] (whiles 32 (ifs 32)) 64
unfolding reading script header version ranks decls decls_from decl declarator single array_size body stmts stmt block if_statement otherwise while_statement target statement_place source status assignment expr level chain atom place_inside bracket rounds unary count spend seek slot_in fresh add expect after sees same_symbol advanced place spelling token refusal tokens_after front sign word number
row_64_mixed = refl

-- a block that is closed is open no more
pub row_64_again : reading_of (same 64 (codes "while 1 {") ++ codes "}while 1 {}" ++ same 63 (codes "}")) ≡ plain [] (whiles 63 (repeat (n 1) no_more ∷ repeat (n 1) no_more ∷ [])) 65
unfolding reading script header version ranks decls decls_from decl declarator single array_size body stmts stmt block if_statement otherwise while_statement target statement_place source status assignment expr level chain atom place_inside bracket rounds unary count spend seek slot_in fresh add expect after sees same_symbol advanced place spelling token refusal tokens_after front sign word number
row_64_again = refl

abbrev deep_blocks : Places
deep_blocks =
    (same 65 (codes "while 1 {"), (f.TooDeep, 598)) ∷ (same 32 (codes "while 1 {") ++ same 33 (codes "if 1 {"), (f.TooDeep, 499)) ∷ (same 64 (codes "while 1 {") ++ codes "}while 1 {while 1 {", (f.TooDeep, 608))
    ∷ (same 64 (codes "while 1 {") ++ codes "while 1 ;", (f.Expected, 598)) ∷ (same 64 (codes "while 1 {") ++ codes "while 1 $", (f.BadToken, 598)) ∷ []

pub row_deep_blocks : map {B = Read} (λ r. reading_of r.0) deep_blocks ≡ wanted_places deep_blocks
unfolding reading script header version ranks decls decls_from decl declarator single array_size body stmts stmt block if_statement otherwise while_statement target statement_place source status assignment expr level chain atom place_inside bracket rounds unary count spend seek slot_in fresh add expect after sees same_symbol advanced place spelling token refusal tokens_after front sign word number
row_deep_blocks = refl

-- ---- declarations: each text begins at byte 14

abbrev arrays : List (List ℕ × List Declared)
arrays =
    (codes "var a[1024];", declared (codes "a") (Some 1024) ∷ []) ∷ (codes "var a[0];", declared (codes "a") (Some 0) ∷ []) ∷ (codes "var a[1];", declared (codes "a") (Some 1) ∷ []) ∷ (codes "var a [ 007 ] ;", declared (codes "a") (Some 7) ∷ [])
    ∷ (codes "var a[1000];var b[24];", declared (codes "a") (Some 1000) ∷ declared (codes "b") (Some 24) ∷ []) ∷ (codes "var a[1023];var b;", declared (codes "a") (Some 1023) ∷ declared (codes "b") None ∷ [])
    ∷ (codes "var a;var b[1023];", declared (codes "a") None ∷ declared (codes "b") (Some 1023) ∷ []) ∷ (codes "var a[1024];var b[0];", declared (codes "a") (Some 1024) ∷ declared (codes "b") (Some 0) ∷ [])
    ∷ (codes "var a[0];var b[1024];var c[0];", declared (codes "a") (Some 0) ∷ declared (codes "b") (Some 1024) ∷ declared (codes "c") (Some 0) ∷ []) ∷ []

pub row_arrays : map {B = Read} (λ r. reading_of r.0) arrays ≡ map {B = Read} (λ r. plain r.1 [] 0) arrays
unfolding reading script header version ranks decls decls_from decl declarator single array_size body stmts stmt block if_statement otherwise while_statement target statement_place source status assignment expr level chain atom place_inside bracket rounds unary count spend seek slot_in fresh add expect after sees same_symbol advanced place spelling token refusal tokens_after front sign word number
row_arrays = refl

-- cells are numbered over all declarations, in their order
pub row_cells : reading_of (codes "var a[3];var b;var c[0];var d;print d;b=c[0];a[2]=b;")
    ≡ plain (declared (codes "a") (Some 3) ∷ declared (codes "b") None ∷ declared (codes "c") (Some 0) ∷ declared (codes "d") None ∷ [])
    (print (cell (record { declaration = 3; first = 4; cells = 1 })) ∷ assign (whole (record { declaration = 1; first = 3; cells = 1 })) (element (record { declaration = 2; first = 4; cells = 0 }) (n 0))
    ∷ assign (part (record { declaration = 0; first = 0; cells = 3 }) (n 2)) (cell (record { declaration = 1; first = 3; cells = 1 })) ∷ []) 3
unfolding reading script header version ranks decls decls_from decl declarator single array_size body stmts stmt block if_statement otherwise while_statement target statement_place source status assignment expr level chain atom place_inside bracket rounds unary count spend seek slot_in fresh add expect after sees same_symbol advanced place spelling token refusal tokens_after front sign word number
row_cells = refl

-- too many cells, at the size or at the name that has none, whatever follows; and names that were declared before
abbrev many_cells : Places
many_cells =
    (codes "var a[1025];", (f.TooMany, 20)) ∷ (codes "var a[9223372036854775807];", (f.TooMany, 20)) ∷ (codes "var a[1025$", (f.TooMany, 20)) ∷ (codes "var a[1025", (f.TooMany, 20)) ∷ (codes "var a[1024];var b;", (f.TooMany, 30)) ∷ (codes "var a[1024];var b", (f.TooMany, 30))
    ∷ (codes "var a[1024];var b$", (f.TooMany, 30)) ∷ (codes "var a[1024];var b[1];", (f.TooMany, 32)) ∷ (codes "var a[1024];var b[0];var c;", (f.TooMany, 39)) ∷ (codes "var a[1000];var b[25];", (f.TooMany, 32)) ∷ (codes "var a[1023];var b;var c;", (f.TooMany, 36))
    ∷ (codes "var a[3];var a;", (f.Twice, 27)) ∷ (codes "var a;var a[2000];", (f.Twice, 24)) ∷ (codes "var a[1024];var a[1];", (f.Twice, 30)) ∷ (codes "var a[1024];var a", (f.Twice, 30)) ∷ []

pub row_many_cells : map {B = Read} (λ r. reading_of r.0) many_cells ≡ wanted_places many_cells
unfolding reading script header version ranks decls decls_from decl declarator single array_size body stmts stmt block if_statement otherwise while_statement target statement_place source status assignment expr level chain atom place_inside bracket rounds unary count spend seek slot_in fresh add expect after sees same_symbol advanced place spelling token refusal tokens_after front sign word number
row_many_cells = refl

abbrev bad_declarations : Places
bad_declarations =
    (codes "var a[];", (f.Expected, 20)) ∷ (codes "var a[x];", (f.Expected, 20)) ∷ (codes "var a[-1];", (f.Expected, 20)) ∷ (codes "var a[(1)];", (f.Expected, 20)) ∷ (codes "var a[size];", (f.Expected, 20)) ∷ (codes "var a[", (f.Expected, 20)) ∷ (codes "var a[1+1];", (f.Expected, 21))
    ∷ (codes "var a[3;", (f.Expected, 21)) ∷ (codes "var a[3", (f.Expected, 21)) ∷ (codes "var a[3]", (f.Expected, 22)) ∷ (codes "var a[3]x", (f.Expected, 22)) ∷ (codes "var a[3][3];", (f.Expected, 22)) ∷ (codes "var a[3]=1;", (f.Expected, 22)) ∷ (codes "var a]", (f.Expected, 19)) ∷ (codes "var a=1;", (f.Expected, 19)) ∷ (codes "var [3];", (f.Expected, 18))
    ∷ (codes "var while;", (f.Expected, 18)) ∷ (codes "var assert[1];", (f.Expected, 18)) ∷ (codes "var a[9223372036854775808];", (f.BadToken, 20)) ∷ (codes "var a[$", (f.BadToken, 20)) ∷ (codes "var a[1024$", (f.BadToken, 24)) ∷ (codes "var a,b;", (f.BadToken, 19))
    ∷ (codes "var a[1024];var b[", (f.Expected, 32)) ∷ (codes "var a[1024];var b[]", (f.Expected, 32)) ∷ (codes "var a[1024];var b[$", (f.BadToken, 32)) ∷ (codes "var a[1024];var 1", (f.Expected, 30)) ∷ (codes "var a[1024];var $", (f.BadToken, 30))
    ∷ (codes "print 1;req h;", (f.Expected, 22)) ∷ (codes "var a[1];{req h[1];", (f.Expected, 23)) ∷ []

pub row_bad_declarations : map {B = Read} (λ r. reading_of r.0) bad_declarations ≡ wanted_places bad_declarations
unfolding reading script header version ranks decls decls_from decl declarator single array_size body stmts stmt block if_statement otherwise while_statement target statement_place source status assignment expr level chain atom place_inside bracket rounds unary count spend seek slot_in fresh add expect after sees same_symbol advanced place spelling token refusal tokens_after front sign word number
row_bad_declarations = refl

-- ---- statement 4,097: after so many statements, each text begins at byte 0

abbrev stmt_after : ℕ → List ℕ → Outcome Tree
stmt_after k text = stmt (block 64) (record (start_of text) { decls = declared (codes "x") None ∷ declared (codes "a") (Some 3) ∷ []; lines = replicate k 1 })

abbrev refused_tree : FaultCode → ℕ → Outcome Tree
refused_tree c at = Err (fault c at)

-- on one place the lowest number is told
abbrev one_more : Places
one_more =
    (codes "x=1;", (f.TooMany, 0)) ∷ (codes "x;", (f.TooMany, 0)) ∷ (codes "a[0]=1;", (f.TooMany, 0)) ∷ (codes "a=1;", (f.TooMany, 0)) ∷ (codes "while 1 {}", (f.TooMany, 0)) ∷ (codes "while", (f.TooMany, 0)) ∷ (codes "assert", (f.TooMany, 0)) ∷ (codes "waitany", (f.TooMany, 0))
    ∷ (codes "y=1;", (f.UnknownName, 0)) ∷ (codes "y", (f.UnknownName, 0)) ∷ (codes ";", (f.Expected, 0)) ∷ (codes "=1;", (f.Expected, 0)) ∷ (codes "ssend 1 to 0 tag 0;", (f.TooMany, 0)) ∷ (codes "barrier;", (f.TooMany, 0)) ∷ (codes "barrier", (f.TooMany, 0)) ∷ (codes "else", (f.Expected, 0)) ∷ (codes "rank", (f.Expected, 0)) ∷ (codes "&", (f.BadToken, 0)) ∷ []

pub row_one_more : map {B = Outcome Tree} (λ r. stmt_after 4096 r.0) one_more ≡ map {B = Outcome Tree} (λ r. refused_tree r.1.0 r.1.1) one_more
unfolding reading script header version ranks decls decls_from decl declarator single array_size body stmts stmt block if_statement otherwise while_statement target statement_place source status assignment expr level chain atom place_inside bracket rounds unary count spend seek slot_in fresh add expect after sees same_symbol advanced place spelling token refusal tokens_after front sign word number
row_one_more = refl

-- the last statement may be begun, but none inside it
abbrev last_one : Places
last_one =
    (codes "while 1 {x=1;}", (f.TooMany, 9)) ∷ (codes "if 1 {} else {x=1;}", (f.TooMany, 14)) ∷ (codes "while 1 {while", (f.TooMany, 9)) ∷ (codes "while 1 {waitany", (f.TooMany, 9)) ∷ (codes "while 1 {y=1;}", (f.UnknownName, 9)) ∷ (codes "while 1 {;", (f.Expected, 9))
    ∷ (codes "while y {x=1;}", (f.UnknownName, 6)) ∷ (codes "x=y;", (f.UnknownName, 2)) ∷ []

pub row_last_one : map {B = Outcome Tree} (λ r. stmt_after 4095 r.0) last_one ≡ map {B = Outcome Tree} (λ r. refused_tree r.1.0 r.1.1) last_one
unfolding reading script header version ranks decls decls_from decl declarator single array_size body stmts stmt block if_statement otherwise while_statement target statement_place source status assignment expr level chain atom place_inside bracket rounds unary count spend seek slot_in fresh add expect after sees same_symbol advanced place spelling token refusal tokens_after front sign word number
row_last_one = refl

-- statements are counted one after the other: of these the first is the last that may be begun
abbrev body_after : ℕ → List ℕ → Outcome (List Tree)
body_after k text = body (block 64) false (record (start_of text) { decls = declared (codes "x") None ∷ []; lines = replicate k 1 })

pub row_4097 : map {B = Outcome (List Tree)} (body_after 4095) (codes "x=1;x=1;" ∷ codes "assert 1;;" ∷ codes "while 0 {}x=1;" ∷ codes "if 1 {} x=1;" ∷ codes "x=1;$" ∷ codes "x=1;}" ∷ codes "x=1;y=1;" ∷ [])
    ≡ Err (fault f.TooMany 4) ∷ Err (fault f.Expected 9) ∷ Err (fault f.TooMany 10) ∷ Err (fault f.TooMany 8) ∷ Err (fault f.BadToken 4) ∷ Err (fault f.Expected 4) ∷ Err (fault f.UnknownName 4) ∷ []
unfolding reading script header version ranks decls decls_from decl declarator single array_size body stmts stmt block if_statement otherwise while_statement target statement_place source status assignment expr level chain atom place_inside bracket rounds unary count spend seek slot_in fresh add expect after sees same_symbol advanced place spelling token refusal tokens_after front sign word number
row_4097 = refl

pub row_4096 : body_after 4095 (codes "x=1;") ≡ Ok (assign (whole x) (n 1) ∷ [], record { tokens = []; end = 4; version = 1; decls = declared (codes "x") None ∷ []; lines = replicate 4096 1; budget = 64 })
unfolding reading script header version ranks decls decls_from decl declarator single array_size body stmts stmt block if_statement otherwise while_statement target statement_place source status assignment expr level chain atom place_inside bracket rounds unary count spend seek slot_in fresh add expect after sees same_symbol advanced place spelling token refusal tokens_after front sign word number
row_4096 = refl

-- ---- lines: a statement's is that of its first token, in text order

pub row_lines : reading (codes "mpd 1;\nranks 1;\nvar x;var a[3];\nwhile x<3 {\n  a[x]\n =x;\n  if x {\n assert x; } else {\n\n  while 0 { x=0;\n x\n=\n1; } }\n x=x+1;\n}\nprint x;")
    ≡ Ok (record {
      version = 1;
      ranks = 1;
      decls = declared (codes "x") None ∷ declared (codes "a") (Some 3) ∷ [];
      body = repeat (op2 Less (cell x) (n 3)) (then_more (assign (part a (cell x)) (cell x))
          (then_more (branch (cell x) (then_more (check (cell x)) no_more) (then_more (repeat (n 0) (then_more (assign (whole x) (n 0)) (then_more (assign (whole x) (n 1)) no_more))) no_more))
          (then_more (assign (whole x) (op2 Add (cell x) (n 1))) no_more))) ∷ print (cell x) ∷ [];
      lines = 4 ∷ 5 ∷ 7 ∷ 8 ∷ 10 ∷ 10 ∷ 11 ∷ 14 ∷ 16 ∷ [];
    })
unfolding reading script header version ranks decls decls_from decl declarator single array_size body stmts stmt block if_statement otherwise while_statement target statement_place source status assignment expr level chain atom place_inside bracket rounds unary count spend seek slot_in fresh add expect after sees same_symbol advanced place spelling token refusal tokens_after front sign word number
row_lines = refl

-- three scripts that are run elsewhere
pub row_counting : reading (codes "mpd 1; ranks 1; var i;\nwhile i < 2 { i = i + 1; }")
    ≡ Ok (record { version = 1; ranks = 1; decls = declared (codes "i") None ∷ []; body = repeat (op2 Less (cell x) (n 2)) (then_more (assign (whole x) (op2 Add (cell x) (n 1))) no_more) ∷ []; lines = 2 ∷ 2 ∷ [] })
unfolding reading script header version ranks decls decls_from decl declarator single array_size body stmts stmt block if_statement otherwise while_statement target statement_place source status assignment expr level chain atom place_inside bracket rounds unary count spend seek slot_in fresh add expect after sees same_symbol advanced place spelling token refusal tokens_after front sign word number
row_counting = refl

pub row_overflowing : reading (codes "mpd 1; ranks 1; var x;\nx = 9223372036854775807;\nx = x + 1;")
    ≡ Ok (record { version = 1; ranks = 1; decls = declared (codes "x") None ∷ []; body = assign (whole x) (n 9223372036854775807) ∷ assign (whole x) (op2 Add (cell x) (n 1)) ∷ []; lines = 2 ∷ 3 ∷ [] })
unfolding reading script header version ranks decls decls_from decl declarator single array_size body stmts stmt block if_statement otherwise while_statement target statement_place source status assignment expr level chain atom place_inside bracket rounds unary count spend seek slot_in fresh add expect after sees same_symbol advanced place spelling token refusal tokens_after front sign word number
row_overflowing = refl

pub row_two_ranks : reading (codes "mpd 1;\nranks 2;\nvar x;\nif rank == 0 {\n  send 7 to 1 tag 0;\n} else {\n  recv x from 0 tag 0;\n  print x;\n}\n")
    ≡ Ok (record {
      version = 1;
      ranks = 2;
      decls = declared (codes "x") None ∷ [];
      body = branch (op2 Equal own_rank (n 0)) (then_more (send (n 7) (n 1) (n 0)) no_more) (then_more (recv (whole x) (n 0) (n 0)) (then_more (print (cell x)) no_more)) ∷ [];
      lines = 4 ∷ 5 ∷ 7 ∷ 8 ∷ [];
    })
unfolding reading script header version ranks decls decls_from decl declarator single array_size body stmts stmt block if_statement otherwise while_statement target statement_place source status assignment expr level chain atom place_inside bracket rounds unary count spend seek slot_in fresh add expect after sees same_symbol advanced place spelling token refusal tokens_after front sign word number
row_two_ranks = refl

-- ---- what is counted: brackets that open and operators, open blocks, statements

pub row_costs : map {B = ℕ} (λ t. cost (tokens t)) (codes "1" ∷ codes "x" ∷ codes "1+2" ∷ codes "a[1]+(2)*-!x" ∷ codes "((1))" ∷ codes "1<=2!=3" ∷ codes "a[a[0]]" ∷ codes "1||2&&3==4/5%6" ∷ codes ")]};=" ∷ []) ≡ 0 ∷ 0 ∷ 1 ∷ 6 ∷ 2 ∷ 2 ∷ 2 ∷ 5 ∷ 0 ∷ []
unfolding tokens_after front sign word number
row_costs = refl

pub row_blocks : map {B = ℕ} (λ ts. blocks_in (block_of ts)) ([] ∷ (assign (whole x) (n 1) ∷ check (n 1) ∷ []) ∷ (repeat (n 1) no_more ∷ repeat (n 1) no_more ∷ []) ∷ whiles 64 [] ∷ whiles 32 (ifs 32) ∷ (check (n 1) ∷ whiles 3 (ifs 2)) ∷ []) ≡ 0 ∷ 0 ∷ 1 ∷ 64 ∷ 64 ∷ 5 ∷ []
row_blocks = refl

pub row_counts : map {B = ℕ} (λ ts. statements_in (block_of ts)) ([] ∷ (assign (whole x) (n 1) ∷ check (n 1) ∷ []) ∷ (repeat (n 1) no_more ∷ repeat (n 1) no_more ∷ []) ∷ whiles 64 [] ∷ whiles 63 (ifs 2) ∷ []) ≡ 0 ∷ 2 ∷ 2 ∷ 64 ∷ 65 ∷ []
row_counts = refl

-- ---- texts that are read and run: what the only rank prints, or how it is trapped

abbrev only_rank : Option RankWorld → Option (List ℤ × Activity)
only_rank None = None
only_rank (Some r) = Some (r.out, r.activity)

abbrev rank_of : Option World → Option (List ℤ × Activity)
rank_of None = None
rank_of (Some w) = only_rank (slice_get w.ranks 0)

abbrev ran : Read → Option (List ℤ × Activity)
ran (Err e) = None
ran (Ok s) = rank_of (fold (start s Rendezvous) (Local 0 ∷ []))

abbrev gives : ℤ → Option (List ℤ × Activity)
gives z = Some (z ∷ [], Running)

abbrev traps : Trap → Option (List ℤ × Activity)
traps t = Some ([], Trapped t)

abbrev printed : List (List ℕ × Option (List ℤ × Activity))
printed =
    (codes "1 || 1 / 0", gives (pos 1)) ∷ (codes "-7 / 2", gives (negsuc 2)) ∷ (codes "-7 % 2", gives (negsuc 0)) ∷ (codes "1 / 0", traps ZeroDivisor)
    ∷ (codes "7 / -2", gives (negsuc 2)) ∷ (codes "7 % -2", gives (pos 1)) ∷ (codes "-7 / -2", gives (pos 3)) ∷ (codes "-7 % -2", gives (negsuc 0)) ∷ (codes "-(7 / 2)", gives (negsuc 2)) ∷ (codes "-(7 % 2)", gives (negsuc 0))
    ∷ (codes "1 - 2 - 3", gives (negsuc 3)) ∷ (codes "1 - (2 - 3)", gives (pos 2)) ∷ (codes "2 + 3 * 4", gives (pos 14)) ∷ (codes "(2 + 3) * 4", gives (pos 20)) ∷ (codes "8 / 4 / 2", gives (pos 1)) ∷ (codes "8 / (4 / 2)", gives (pos 4)) ∷ (codes "7 * 5 % 4", gives (pos 3)) ∷ (codes "7 * (5 % 4)", gives (pos 7))
    ∷ (codes "0 && 1 || 1", gives (pos 1)) ∷ (codes "0 && (1 || 1)", gives (pos 0)) ∷ (codes "1 || 0 && 0", gives (pos 1)) ∷ (codes "(1 || 0) && 0", gives (pos 0)) ∷ (codes "!0 + 1", gives (pos 2)) ∷ (codes "!(0 + 1)", gives (pos 0)) ∷ (codes "3 > 2 == 1 > 0", None)
    ∷ (codes "(3 > 2) == (1 > 0)", gives (pos 1)) ∷ (codes "- -3", gives (pos 3)) ∷ (codes "!!3", gives (pos 1)) ∷ (codes "-!3", gives (pos 0)) ∷ (codes "1 < 2 && 2 < 1", gives (pos 0)) ∷ (codes "size * 10 + rank", gives (pos 10))
    ∷ (codes "-9223372036854775807 - 1", gives (negsuc 9223372036854775807)) ∷ (codes "-(-9223372036854775807 - 1)", traps Overflow) ∷ (codes "(-9223372036854775807 - 1) / -1", traps Overflow) ∷ (codes "(-9223372036854775807 - 1) % -1", traps Overflow)
    ∷ (codes "-9223372036854775807 - 1 / -1", gives (negsuc 9223372036854775805)) ∷ (codes "9223372036854775807 + 1", traps Overflow) ∷ (codes "a[2] + x", gives (pos 0)) ∷ (codes "a[3]", traps BadIndex) ∷ (codes "a[-1]", traps BadIndex) ∷ (codes "a[a[0]]", gives (pos 0))
    ∷ (codes "a[3] + 1 / 0", traps BadIndex) ∷ (codes "1 / 0 + a[3]", traps ZeroDivisor) ∷ (codes "x && a[3]", gives (pos 0)) ∷ []

pub row_printed : map {B = Option (List ℤ × Activity)} (λ r. ran (printing_of r.0)) printed ≡ map {B = Option (List ℤ × Activity)} (λ r. r.1) printed
unfolding reading script header version ranks decls decls_from decl declarator single array_size body stmts stmt block if_statement otherwise while_statement target statement_place source status assignment expr level chain atom place_inside bracket rounds unary count spend seek slot_in fresh add expect after sees same_symbol advanced place spelling token refusal tokens_after front sign word number
row_printed = refl
