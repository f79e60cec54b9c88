-- Worked rows of the canonical text, by computing: each text was worked out by hand from the rules (docs/LANGUAGE.md, "Canonical text").
use Rattle.std.specs.Prelude.{◌≡◌, ℕ, pos, List, [], ◌∷◌, Some, None, Result, Ok, Err, codes, refl}
use Rattle.std.specs.Fmt.{digits}
use Rattle.mpd_model.specs.declared.expr.BinaryOp.TheVariants.{Or, And, Equal, NotEqual, Less, AtMost, Greater, AtLeast, Add, Subtract, Multiply, Divide, Remainder}
use Rattle.mpd_model.specs.declared.expr.UnaryOp.TheVariants.{Negate, Not}
use Rattle.mpd_model.specs.declared.place.DeclKind.TheVariants.{Variable, Handle}
use Rattle.mpd_model.specs.declared.place.Place.{Place}
use Rattle.mpd_model.specs.declared.read_fault.ReadFault.{ReadFault}
use Rattle.mpd_model.specs.grammar.Canonical.{whole_text, tree_text, canonical}
use Rattle.mpd_model.specs.script.Declaration.{Declared}
use Rattle.mpd_model.specs.grammar.Grammar.{chain, bracket, place_inside, rounds, unary, atom, level, expr, target, statement_place, source, status, assignment, otherwise, if_statement, while_statement, stmt, stmts, body, block, version, ranks, array_size, single, declarator, decl, decls_from, decls, header, script, reading}
use Rattle.mpd_model.specs.grammar.Input.{token, spelling, place, advanced, refusal, same_symbol, sees, after, expect, spend, count, slot_in, seek, fresh, add}
use Rattle.mpd_model.specs.script.Program.{Program}
use Rattle.mpd_model.specs.script.Term.{Term, lit, own_rank, size, cell, element, op1, op2, Target}
use Rattle.mpd_model.specs.grammar.Tokens.{tokens_after, front, sign, word, number}
use Rattle.mpd_model.specs.script.Tree.{Tree, branch, repeat, no_more, then_more}
use Rattle.mpd_rows.specs.worlds.Statements.{print, send, recv, assign, check}

-- ---- what the rows speak of: x is a variable, a an array of ten cells after it

abbrev declared : List Declared
declared =
    record { kind = Variable; name = codes "x"; size = None } ∷ record { kind = Variable; name = codes "a"; size = Some 10 }
    ∷ record { kind = Handle; name = codes "h"; size = None } ∷ record { kind = Handle; name = codes "hs"; size = Some 3 } ∷ []

abbrev at_x : Place
at_x = record { declaration = 0; first = 0; cells = 1 }

abbrev at_a : Place
at_a = record { declaration = 1; first = 1; cells = 10 }

abbrev x : Term
x = cell at_x

abbrev a : Term → Term
a index = element at_a index

abbrev n : ℕ → Term
n k = lit (pos k)

abbrev into_x : Target
into_x = record { place = at_x; index = None }

abbrev into_a : Term → Target
into_a index = record { place = at_a; index = Some index }

abbrev text : Term → List ℕ
text t = whole_text declared t

abbrev lines : ℕ → Tree → List ℕ
lines depth t = tree_text declared depth t

-- ---- atoms and unary operators

pub row_number : text (n 7) ≡ codes "7"
unfolding digits
row_number = refl

pub row_zero : text (n 0) ≡ codes "0"
unfolding digits
row_zero = refl

pub row_largest : text (n 9223372036854775807) ≡ codes "9223372036854775807"
unfolding digits
row_largest = refl

pub row_rank : text own_rank ≡ codes "rank"
row_rank = refl

pub row_size : text size ≡ codes "size"
row_size = refl

pub row_name : text x ≡ codes "x"
row_name = refl

pub row_index : text (a (op2 Add x (n 1))) ≡ codes "a[x + 1]"
unfolding digits
row_index = refl

-- the loosest operator needs no parentheses in an index
pub row_index_loose : text (op2 Multiply (a (op2 Or x (n 1))) (a (a (n 0)))) ≡ codes "a[x || 1] * a[a[0]]"
unfolding digits
row_index_loose = refl

-- a place whose declaration isn't there has no name
pub row_no_name : text (cell (record at_x { declaration = 4 })) ≡ []
row_no_name = refl

pub row_minus_minus : text (op1 Negate (op1 Negate x)) ≡ codes "--x"
row_minus_minus = refl

pub row_not_minus : text (op1 Not (op1 Negate x)) ≡ codes "!-x"
row_not_minus = refl

pub row_minus_product : text (op1 Negate (op2 Multiply x (n 2))) ≡ codes "-(x * 2)"
unfolding digits
row_minus_product = refl

pub row_product_of_minus : text (op2 Multiply (op1 Negate x) (op1 Negate (n 2))) ≡ codes "-x * -2"
unfolding digits
row_product_of_minus = refl

pub row_minus_index : text (op1 Negate (a (n 1))) ≡ codes "-a[1]"
unfolding digits
row_minus_index = refl

-- ---- products

pub row_product_left : text (op2 Remainder (op2 Divide x (n 1)) (n 2)) ≡ codes "x / 1 % 2"
unfolding digits
row_product_left = refl

pub row_product_right : text (op2 Divide x (op2 Multiply (n 1) (n 2))) ≡ codes "x / (1 * 2)"
unfolding digits
row_product_right = refl

pub row_product_of_sums : text (op2 Multiply (op2 Add x (n 1)) (op2 Subtract x (n 1))) ≡ codes "(x + 1) * (x - 1)"
unfolding digits
row_product_of_sums = refl

-- ---- sums

pub row_sum_left : text (op2 Subtract (op2 Subtract x (n 1)) (n 2)) ≡ codes "x - 1 - 2"
unfolding digits
row_sum_left = refl

pub row_sum_right : text (op2 Subtract x (op2 Subtract (n 1) (n 2))) ≡ codes "x - (1 - 2)"
unfolding digits
row_sum_right = refl

pub row_sum_of_products : text (op2 Add (op2 Multiply x (n 1)) (op2 Divide (n 2) (n 3))) ≡ codes "x * 1 + 2 / 3"
unfolding digits
row_sum_of_products = refl

pub row_sum_of_comparisons : text (op2 Add (op2 Equal x (n 1)) (op2 Less (n 2) (n 3))) ≡ codes "(x == 1) + (2 < 3)"
unfolding digits
row_sum_of_comparisons = refl

-- ---- comparisons, which don't chain on either side

pub row_comparison_left : text (op2 Equal (op2 Less x (n 1)) (n 0)) ≡ codes "(x < 1) == 0"
unfolding digits
row_comparison_left = refl

pub row_comparison_right : text (op2 NotEqual (n 0) (op2 AtMost x (n 1))) ≡ codes "0 != (x <= 1)"
unfolding digits
row_comparison_right = refl

pub row_comparison_of_sums : text (op2 Greater (op2 Add x (n 1)) (op2 Subtract (n 2) (n 3))) ≡ codes "x + 1 > 2 - 3"
unfolding digits
row_comparison_of_sums = refl

pub row_comparison_of_and : text (op2 AtLeast (op2 And x (n 1)) (op2 Or (n 2) (n 3))) ≡ codes "(x && 1) >= (2 || 3)"
unfolding digits
row_comparison_of_and = refl

-- ---- `&&`

pub row_and_left : text (op2 And (op2 And x (n 1)) (n 2)) ≡ codes "x && 1 && 2"
unfolding digits
row_and_left = refl

pub row_and_right : text (op2 And x (op2 And (n 1) (n 2))) ≡ codes "x && (1 && 2)"
unfolding digits
row_and_right = refl

pub row_and_of_comparisons : text (op2 And (op2 Equal x (n 1)) (op2 Less (n 2) (n 3))) ≡ codes "x == 1 && 2 < 3"
unfolding digits
row_and_of_comparisons = refl

pub row_and_of_ors : text (op2 And (op2 Or x (n 1)) (op2 Or (n 2) (n 3))) ≡ codes "(x || 1) && (2 || 3)"
unfolding digits
row_and_of_ors = refl

-- ---- `||`

pub row_or_left : text (op2 Or (op2 Or x (n 1)) (n 2)) ≡ codes "x || 1 || 2"
unfolding digits
row_or_left = refl

pub row_or_right : text (op2 Or x (op2 Or (n 1) (n 2))) ≡ codes "x || (1 || 2)"
unfolding digits
row_or_right = refl

pub row_or_of_ands : text (op2 Or (op2 And x (n 1)) (op2 And (n 2) (n 3))) ≡ codes "x && 1 || 2 && 3"
unfolding digits
row_or_of_ands = refl

pub row_not_or : text (op1 Not (op2 Or x (n 1))) ≡ codes "!(x || 1)"
unfolding digits
row_not_or = refl

-- ---- statements

pub row_print : lines 0 (print (op2 Or x (n 1))) ≡ codes "print x || 1;\n"
unfolding digits
row_print = refl

pub row_print_inside : lines 2 (print x) ≡ codes "    print x;\n"
row_print_inside = refl

pub row_send : lines 0 (send (op2 Add x (n 1)) own_rank (n 0)) ≡ codes "send x + 1 to rank tag 0;\n"
unfolding digits
row_send = refl

pub row_recv : lines 0 (recv into_x (n 0) size) ≡ codes "recv x from 0 tag size;\n"
unfolding digits
row_recv = refl

pub row_recv_index : lines 1 (recv (into_a (op2 Subtract x (n 1))) (op1 Negate (n 1)) (n 2)) ≡ codes "  recv a[x - 1] from -1 tag 2;\n"
unfolding digits
row_recv_index = refl

pub row_assign : lines 0 (assign into_x (op2 Equal x (n 1))) ≡ codes "x = x == 1;\n"
unfolding digits
row_assign = refl

pub row_assign_index : lines 1 (assign (into_a (op2 Multiply x (n 2))) (n 0)) ≡ codes "  a[x * 2] = 0;\n"
unfolding digits
row_assign_index = refl

pub row_assert : lines 0 (check (op1 Not x)) ≡ codes "assert !x;\n"
row_assert = refl

pub row_while : lines 0 (repeat (op2 Less x (n 9)) (then_more (assign into_x (op2 Add x (n 1))) (then_more (print x) no_more))) ≡ codes "while x < 9 {\n  x = x + 1;\n  print x;\n}\n"
unfolding digits
row_while = refl

pub row_while_empty : lines 1 (repeat x no_more) ≡ codes "  while x {\n  }\n"
row_while_empty = refl

pub row_if : lines 0 (branch x (then_more (print (n 1)) no_more) no_more) ≡ codes "if x {\n  print 1;\n}\n"
unfolding digits
row_if = refl

pub row_if_empty : lines 0 (branch x no_more no_more) ≡ codes "if x {\n}\n"
row_if_empty = refl

pub row_else : lines 0 (branch x (then_more (print (n 1)) no_more) (then_more (print (n 2)) (then_more (print (n 3)) no_more))) ≡ codes "if x {\n  print 1;\n} else {\n  print 2;\n  print 3;\n}\n"
unfolding digits
row_else = refl

pub row_else_alone : lines 0 (branch x no_more (then_more (print x) no_more)) ≡ codes "if x {\n} else {\n  print x;\n}\n"
row_else_alone = refl

-- an `if` in an `else` is a statement of the block
pub row_else_if : lines 1 (branch x (then_more (repeat x no_more) no_more) (then_more (branch x (then_more (print x) no_more) (then_more (check x) no_more)) no_more))
    ≡ codes "  if x {\n    while x {\n    }\n  } else {\n    if x {\n      print x;\n    } else {\n      assert x;\n    }\n  }\n"
row_else_if = refl

-- ---- whole scripts

pub row_empty : canonical (record { version = 1; ranks = 16; decls = declared; body = []; lines = [] }) ≡ codes "mpd 1;\nranks 16;\nvar x;\nvar a[10];\nreq h;\nreq hs[3];\n"
unfolding digits
row_empty = refl

abbrev two : List Declared
two = record { kind = Variable; name = codes "x"; size = None } ∷ record { kind = Variable; name = codes "a"; size = Some 10 } ∷ []

-- every kind of statement that can be read, with blocks in blocks
abbrev all_kinds : Program
all_kinds = record {
  version = 1;
  ranks = 2;
  decls = two;
  body =
      assign into_x (n 1)
      ∷ repeat (op2 Less x (n 10))
      (then_more (assign (into_a x) (op2 Add (op2 Multiply (a (op2 Subtract x (n 1))) (n 2)) own_rank))
      (then_more (branch (op2 And (op2 Equal (op2 Remainder (a x) (n 2)) (n 0)) (op1 Not (op2 Equal x (n 5))))
      (then_more (print (a x)) no_more)
      (then_more (check (op2 NotEqual x (n 0))) (then_more (branch own_rank no_more no_more) no_more)))
      (then_more (assign into_x (op2 Add x (n 1))) no_more)))
      ∷ send (op1 Negate x) (op2 Subtract (n 1) own_rank) (n 0)
      ∷ recv (into_a (op2 Subtract x (n 1))) (op2 Subtract (n 1) own_rank) (n 0)
      ∷ [];
  lines = 5 ∷ 6 ∷ 7 ∷ 8 ∷ 9 ∷ 11 ∷ 12 ∷ 15 ∷ 17 ∷ 18 ∷ [];
}

abbrev all_kinds_text : List ℕ
all_kinds_text = codes "mpd 1;\nranks 2;\nvar x;\nvar a[10];\nx = 1;\nwhile x < 10 {\n  a[x] = a[x - 1] * 2 + rank;\n  if a[x] % 2 == 0 && !(x == 5) {\n    print a[x];\n  } else {\n    assert x != 0;\n    if rank {\n    }\n  }\n  x = x + 1;\n}\nsend -x to 1 - rank tag 0;\nrecv a[x - 1] from 1 - rank tag 0;\n"

pub row_all_kinds : canonical all_kinds ≡ all_kinds_text
unfolding digits
row_all_kinds = refl

pub row_read_again : reading (canonical all_kinds) ≡ Ok all_kinds
unfolding digits chain bracket place_inside rounds unary atom level expr target statement_place source status assignment otherwise if_statement while_statement stmt stmts body block version ranks array_size single declarator decl decls_from decls header script reading token spelling place advanced refusal same_symbol sees after expect spend count slot_in seek fresh add tokens_after front sign word number
row_read_again = refl

-- every operator, with parentheses of both kinds
abbrev operators : Program
operators = record {
  version = 1;
  ranks = 1;
  decls = two;
  body =
      print (op2 Or (op2 Or (op2 And x (op2 And (n 1) (n 2))) (op2 Equal (op2 Less x (n 1)) (n 0))) (op1 Not (op1 Negate x)))
      ∷ print (op2 AtMost (op2 Subtract x (op2 Subtract (n 1) (n 2))) (op2 Divide (op2 Add x (n 1)) (op2 Multiply x (n 2))))
      ∷ print (op2 And (op2 NotEqual (op2 Or x (n 3)) (n 1)) (op2 And (op2 Greater x (n 1)) (op2 AtLeast x (op2 Remainder x (n 2)))))
      ∷ [];
  lines = 5 ∷ 6 ∷ 7 ∷ [];
}

pub row_operators : canonical operators ≡ codes "mpd 1;\nranks 1;\nvar x;\nvar a[10];\nprint x && (1 && 2) || (x < 1) == 0 || !-x;\nprint x - (1 - 2) <= (x + 1) / (x * 2);\nprint (x || 3) != 1 && (x > 1 && x >= x % 2);\n"
unfolding digits
row_operators = refl

pub row_operators_again : reading (canonical operators) ≡ Ok operators
unfolding digits chain bracket place_inside rounds unary atom level expr target statement_place source status assignment otherwise if_statement while_statement stmt stmts body block version ranks array_size single declarator decl decls_from decls header script reading token spelling place advanced refusal same_symbol sees after expect spend count slot_in seek fresh add tokens_after front sign word number
row_operators_again = refl

-- what a text is printed as, once it is read
abbrev printed : Result Program ReadFault → List ℕ
printed (Ok p) = canonical p
printed (Err f) = []

-- leading zeros, blanks, comments, needless parentheses and an empty `else` leave no trace
pub row_tidied : printed (reading (codes "mpd 01;ranks 016;var v;print((v))+(00);if(v){}else{}#")) ≡ codes "mpd 1;\nranks 16;\nvar v;\nprint v + 0;\nif v {\n}\n"
unfolding digits chain bracket place_inside rounds unary atom level expr target statement_place source status assignment otherwise if_statement while_statement stmt stmts body block version ranks array_size single declarator decl decls_from decls header script reading token spelling place advanced refusal same_symbol sees after expect spend count slot_in seek fresh add tokens_after front sign word number
row_tidied = refl

-- the script of one message, as it is first shown
pub row_one_message : printed (reading (codes "mpd 1;\nranks 2;\nvar x;\nif rank == 0 { send 7 to 1 tag 0; } else { recv x from 0 tag 0; print x; }")) ≡ codes "mpd 1;\nranks 2;\nvar x;\nif rank == 0 {\n  send 7 to 1 tag 0;\n} else {\n  recv x from 0 tag 0;\n  print x;\n}\n"
unfolding digits chain bracket place_inside rounds unary atom level expr target statement_place source status assignment otherwise if_statement while_statement stmt stmts body block version ranks array_size single declarator decl decls_from decls header script reading token spelling place advanced refusal same_symbol sees after expect spend count slot_in seek fresh add tokens_after front sign word number
row_one_message = refl
