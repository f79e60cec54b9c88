-- How the logic stores an expression: as a tree of numbers, from which the expression is read back.
use Rattle.std.specs.Prelude.{◌≡◌, ℕ, ℤ, pos, negsuc, List, [], ◌∷◌, Option, Some, None, cond, ◌==◌, refl}
use Rattle.std.proofs.Common.{ap, sym, ◌∙◌}
use Rattle.std.specs.Coded.{Coded}
use base.Stored.{Gv, gnil, gnum, gcons}
use Rattle.mpd_model.specs.declared.expr.BinaryOp.{BinaryOp}
use Rattle.mpd_model.specs.declared.expr.BinaryOp.TheVariants.{Or, And, Equal, NotEqual, Less, AtMost, Greater, AtLeast, Add, Subtract, Multiply, Divide, Remainder}
use Rattle.mpd_model.specs.declared.expr.UnaryOp.{UnaryOp}
use Rattle.mpd_model.specs.declared.expr.UnaryOp.TheVariants.{Negate, Not}
use Rattle.mpd_model.specs.declared.place.Place.{Place}
use Rattle.mpd_model.specs.script.Term.{Term, lit, own_rank, size, cell, element, op1, op2, Target}

abbrev pub front_of : Gv → Gv
front_of gnil = gnil
front_of (gnum n) = gnil
front_of (gcons a b) = a

abbrev pub back_of : Gv → Gv
back_of gnil = gnil
back_of (gnum n) = gnil
back_of (gcons a b) = b

abbrev pub number_in : Gv → ℕ
number_in gnil = 0
number_in (gnum n) = n
number_in (gcons a b) = 0

abbrev pub place_code : Place → Gv
place_code p = gcons (gnum p.declaration) (gcons (gnum p.first) (gnum p.cells))

abbrev pub place_in : Gv → Place
place_in g = record { declaration = number_in (front_of g); first = number_in (front_of (back_of g)); cells = number_in (back_of (back_of g)) }

abbrev op_code : BinaryOp → Gv
op_code Or = gnum 0
op_code And = gnum 1
op_code Equal = gnum 2
op_code NotEqual = gnum 3
op_code Less = gnum 4
op_code AtMost = gnum 5
op_code Greater = gnum 6
op_code AtLeast = gnum 7
op_code Add = gnum 8
op_code Subtract = gnum 9
op_code Multiply = gnum 10
op_code Divide = gnum 11
op_code Remainder = gnum 12

abbrev op_of : ℕ → BinaryOp
op_of k = cond (k == 0) Or (cond (k == 1) And (cond (k == 2) Equal (cond (k == 3) NotEqual (cond (k == 4) Less (cond (k == 5) AtMost (cond (k == 6) Greater (cond (k == 7) AtLeast (cond (k == 8) Add (cond (k == 9) Subtract (cond (k == 10) Multiply (cond (k == 11) Divide (Remainder))))))))))))

abbrev op_in : Gv → BinaryOp
op_in g = op_of (number_in g)

op_in-op_code : (op : BinaryOp) → op_in (op_code op) ≡ op
op_in-op_code Or = refl
op_in-op_code And = refl
op_in-op_code Equal = refl
op_in-op_code NotEqual = refl
op_in-op_code Less = refl
op_in-op_code AtMost = refl
op_in-op_code Greater = refl
op_in-op_code AtLeast = refl
op_in-op_code Add = refl
op_in-op_code Subtract = refl
op_in-op_code Multiply = refl
op_in-op_code Divide = refl
op_in-op_code Remainder = refl

abbrev sign_code : UnaryOp → Gv
sign_code Negate = gnum 0
sign_code Not = gnum 1

abbrev sign_in : Gv → UnaryOp
sign_in g = cond (number_in g == 0) Negate Not

sign_in-sign_code : (op : UnaryOp) → sign_in (sign_code op) ≡ op
sign_in-sign_code Negate = refl
sign_in-sign_code Not = refl

abbrev whole_code : ℤ → Gv
whole_code (pos n) = gcons (gnum 0) (gnum n)
whole_code (negsuc n) = gcons (gnum 1) (gnum n)

abbrev whole_in : Gv → ℤ
whole_in g = cond (number_in (front_of g) == 0) (pos (number_in (back_of g))) (negsuc (number_in (back_of g)))

whole_in-whole_code : (z : ℤ) → whole_in (whole_code z) ≡ z
whole_in-whole_code (pos n) = refl
whole_in-whole_code (negsuc n) = refl

-- a kind, what is no expression, and the expressions inside
abbrev pub term_code : Term → Gv
term_code (lit z) = gcons (gnum 0) (gcons (whole_code z) gnil)
term_code own_rank = gcons (gnum 1) (gcons gnil gnil)
term_code size = gcons (gnum 2) (gcons gnil gnil)
term_code (cell p) = gcons (gnum 3) (gcons (place_code p) gnil)
term_code (element p a) = gcons (gnum 5) (gcons (place_code p) (gcons (term_code a) gnil))
term_code (op1 op a) = gcons (gnum 6) (gcons (sign_code op) (gcons (term_code a) gnil))
term_code (op2 op a b) = gcons (gnum 4) (gcons (op_code op) (gcons (term_code a) (gcons (term_code b) gnil)))

abbrev made : ℕ → Gv → List Term → Term
made k g [] = cond (k == 0) (lit (whole_in g)) (cond (k == 1) own_rank (cond (k == 2) size (cell (place_in g))))
made k g (a ∷ []) = cond (k == 5) (element (place_in g) a) (op1 (sign_in g) a)
made k g (a ∷ b ∷ ts) = op2 (op_in g) a b

abbrev rest : List Term → List Term
rest [] = []
rest (t ∷ ts) = ts

-- what a tree of numbers stands for, as an expression and as a list of them
abbrev decoded : Gv → Term × List Term
decoded gnil = (own_rank, [])
decoded (gnum n) = (own_rank, [])
decoded (gcons a b) = (made (number_in a) (front_of b) (rest (decoded b).1), (decoded a).0 ∷ (decoded b).1)

abbrev pub term_in : Gv → Term
term_in g = (decoded g).0

pub term_in-term_code : (t : Term) → term_in (term_code t) ≡ t
term_in-term_code (lit z) = ap lit (whole_in-whole_code z)
term_in-term_code own_rank = refl
term_in-term_code size = refl
term_in-term_code (cell p) = refl
term_in-term_code (element p a) = λ i. element p (term_in-term_code a i)
term_in-term_code (op1 op a) = λ i. op1 (sign_in-sign_code op i) (term_in-term_code a i)
term_in-term_code (op2 op a b) = λ i. op2 (op_in-op_code op i) (term_in-term_code a i) (term_in-term_code b i)

pub term_inj : (x y : Term) → term_code x ≡ term_code y → x ≡ y
term_inj x y p = sym (term_in-term_code x) ∙ ap term_in p ∙ term_in-term_code y

abbrev pub coded_term : Coded Term
coded_term = record { code = term_code; inj = term_inj }

-- a target: its place, and its index, if any
abbrev index_code : Option Term → Gv
index_code None = gnil
index_code (Some e) = gcons (term_code e) gnil

abbrev index_in : Gv → Option Term
index_in gnil = None
index_in (gnum n) = None
index_in (gcons a b) = Some (term_in a)

index_in-index_code : (o : Option Term) → index_in (index_code o) ≡ o
index_in-index_code None = refl
index_in-index_code (Some e) = ap Some (term_in-term_code e)

abbrev pub to_code : Target → Gv
to_code t = gcons (place_code t.place) (index_code t.index)

abbrev pub target_in : Gv → Target
target_in g = record { place = place_in (front_of g); index = index_in (back_of g) }

pub target_in-to_code : (t : Target) → target_in (to_code t) ≡ t
target_in-to_code t = λ i. record { place = t.place; index = index_in-index_code t.index i }

pub target_inj : (x y : Target) → to_code x ≡ to_code y → x ≡ y
target_inj x y p = sym (target_in-to_code x) ∙ ap target_in p ∙ target_in-to_code y

abbrev pub target_code : Coded Target
target_code = record { code = to_code; inj = target_inj }
