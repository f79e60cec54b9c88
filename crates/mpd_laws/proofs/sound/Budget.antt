-- What is read as an expression has no more brackets and operators in its tokens than the budget that was taken.
use Rattle.std.proofs.Common.{◌≡◌, ℕ, zero, suc, ◌+◌, ◌≤◌, Bool, true, false, cond, Option, Some, None, Ok, List, ◌++◌, refl, ap, sym, subst, ◌∙◌, arith}
use Rattle.mpd_model.specs.declared.limits.TheConstants.{NESTING_MAX}
use Rattle.mpd_model.specs.declared.expr.BinaryOp.{BinaryOp}
use Rattle.mpd_model.specs.declared.expr.UnaryOp.{UnaryOp}
use Rattle.mpd_model.specs.declared.expr.UnaryOp.TheVariants as u
use Rattle.mpd_model.specs.declared.place.DeclKind.TheVariants.{Variable}
use Rattle.mpd_model.specs.declared.place.Place.{Place}
use Rattle.mpd_model.specs.declared.token.Symbol.{Symbol}
use Rattle.mpd_model.specs.declared.token.Symbol.TheVariants as m
use Rattle.mpd_model.specs.declared.token.Token.{Token}
use Rattle.mpd_model.specs.declared.token.Token.TheVariants.{Number, Name, Is}
use Rattle.mpd_model.specs.grammar.Costs.{price, cost}
use Rattle.mpd_model.specs.grammar.Grammar.{atom_by, atom, bracket, index_inside, place_inside, place_of_slot, rounds, unary, chain, chain_by, level, expr, expression, turns, operator_at}
use Rattle.mpd_model.specs.grammar.Input.{Input, Parser, token, advanced, behind, spend, expect, sees, seek, refuse, max_budget}
use Rattle.mpd_model.specs.script.Term.{Term, lit, own_rank, size, cell, element, op1, op2}
use Rattle.mpd_model.specs.grammar.Tokens.{Spot}
use Rattle.mpd_laws.proofs.sound.Prices.{cost_append, cost_behind, cost_free}
use Rattle.mpd_laws.proofs.sound.Sound.{bind_ok, ok_of, ok_parts, spend_ok, spend_takes, expect_ok, seek_ok}

-- ---- what was taken from the budget pays for the tokens

abbrev pub Pays : Input → Input → Type 0
Pays i j = cost i.tokens + j.budget ≤ cost j.tokens + i.budget

no_pay : (i j : Input) → i ≡ j → Pays i j
no_pay i j e = subst (Pays i) e (omega arith)

spend_pays : (i : Input) (y : Unit {0} × Input) → spend i ≡ Ok y → Pays i y.1
spend_pays i y h =
    let e = spend_ok i y h in
    omega (arith, spend_takes i y h, ap cost e.0, cost_behind i.tokens)

-- a token that costs nothing
next_pays : (i j : Input) (t : Token) → token i ≡ t → price t ≡ 0 → j ≡ advanced i → Pays i j
unfolding advanced token
next_pays i j t e p h =
    let free : cost i.tokens ≡ cost (behind i.tokens) = cost_free i.tokens (ap price e ∙ p) in
    let next : cost j.tokens ≡ cost (behind i.tokens) = ap (λ k. cost k.tokens) h in
    let same : j.budget ≡ i.budget = ap (λ k. k.budget) h in
    omega (arith, free, next, same)

expect_pays : (wanted : Symbol) (i : Input) (y : Unit {0} × Input) → price (Is wanted) ≡ 0 → expect wanted i ≡ Ok y → Pays i y.1
expect_pays wanted i y p h = let e = expect_ok wanted i y h in next_pays i y.1 (Is wanted) e.0 p e.1

-- ---- expressions

abbrev IsPaid : Parser Term → Type 0
IsPaid p = (i : Input) (y : Term × Input) → p i ≡ Ok y → Pays i y.1

abbrev ArePaid : (ℕ → Parser Term) → Type 0
ArePaid p = (k : ℕ) → IsPaid (p k)

-- what was read leads to the state that is told
ends_in : (i x : Input) (t : Term) (y : Term × Input) → ok_of (t, x) ≡ Ok y → Pays i x → Pays i y.1
ends_in i x t y h a = subst (Pays i) (ok_parts (t, x) y h).1 a

rounds_paid : (p : ℕ → Parser Term) → ArePaid p → IsPaid (rounds p)
unfolding rounds
rounds_paid p s i y h =
    let b = bind_ok (spend i) _ y h in
    let c = bind_ok (p 5 b.0.1) _ y b.2 in
    let d = bind_ok (expect m.RoundClose c.0.1) _ y c.2 in
    ends_in i d.0.1 c.0.0 y d.2 (omega (arith, spend_pays i b.0 b.1, s 5 b.0.1 c.0 c.1, expect_pays m.RoundClose c.0.1 d.0 refl d.1))

bracket_case : (found : Bool) (i : Input) (y : Unit {0} × Input) → cond found (spend i) (refuse i) ≡ Ok y → Pays i y.1
bracket_case true i y h = spend_pays i y h
bracket_case false i y h = absurd (cc)

bracket_paid : (i : Input) (y : Unit {0} × Input) → bracket i ≡ Ok y → Pays i y.1
unfolding bracket
bracket_paid i y h = bracket_case (sees m.SquareOpen i) i y h

index_inside_paid : (p : ℕ → Parser Term) → ArePaid p → (at : Place) (cells : Option ℕ) → IsPaid (index_inside p at cells)
index_inside_paid p s at None i y h = ends_in i i (cell at) y h (no_pay i i refl)
index_inside_paid p s at (Some cells) i y h =
    let a = bind_ok (bracket i) _ y h in
    let b = bind_ok (p 5 a.0.1) _ y a.2 in
    let c = bind_ok (expect m.SquareClose b.0.1) _ y b.2 in
    ends_in i c.0.1 (element at b.0.0) y c.2 (omega (arith, bracket_paid i a.0 a.1, s 5 a.0.1 b.0 b.1, expect_pays m.SquareClose b.0.1 c.0 refl c.1))

name_paid : (p : ℕ → Parser Term) → ArePaid p → (i : Input) (y : Term × Input) → token i ≡ Name → place_inside p i ≡ Ok y → Pays i y.1
unfolding place_inside
name_paid p s i y e h =
    let b = bind_ok (seek Variable i) _ y h in
    let k = seek_ok Variable i b.0 b.1 in
    let first : Pays i (advanced b.0.1) = next_pays i (advanced b.0.1) Name e refl (ap advanced (sym k.2)) in
    let rest = index_inside_paid p s (place_of_slot b.0.0) b.0.0.size (advanced b.0.1) y b.2 in
    omega (arith, first, rest)

unary_paid : (p : ℕ → Parser Term) → ArePaid p → (op : UnaryOp) → IsPaid (unary p op)
unfolding unary
unary_paid p s op i y h =
    let b = bind_ok (spend i) _ y h in
    let c = bind_ok (p 0 b.0.1) _ y b.2 in
    ends_in i c.0.1 (op1 op c.0.0) y c.2 (omega (arith, spend_pays i b.0 b.1, s 0 b.0.1 c.0 c.1))

atom_case : (p : ℕ → Parser Term) → ArePaid p → (tk : Token) (i : Input) (y : Term × Input) → token i ≡ tk → atom_by p tk i ≡ Ok y → Pays i y.1
atom_case p s (Number n) i y e h = ends_in i (advanced i) (lit n) y h (next_pays i (advanced i) (Number n) e refl refl)
atom_case p s (Is m.Rank) i y e h = ends_in i (advanced i) own_rank y h (next_pays i (advanced i) (Is m.Rank) e refl refl)
atom_case p s (Is m.Size) i y e h = ends_in i (advanced i) size y h (next_pays i (advanced i) (Is m.Size) e refl refl)
atom_case p s Name i y e h = name_paid p s i y e h
atom_case p s (Is m.RoundOpen) i y e h = rounds_paid p s i y h
atom_case p s (Is m.Minus) i y e h = unary_paid p s u.Negate i y h
atom_case p s (Is m.Not) i y e h = unary_paid p s u.Not i y h
atom_case p s _ i y e h = absurd (cc)

atom_paid : (p : ℕ → Parser Term) → ArePaid p → IsPaid (atom p)
unfolding atom
atom_paid p s i y h = atom_case p s (token i) i y refl h

chain_by_paid : (k n : ℕ) (p : Parser Term) → IsPaid p → (left : Term) (o : Option BinaryOp) (i : Input) (y : Term × Input)
    → ((l : Term) (x : Input) → chain p k n l x ≡ Ok y → Pays x y.1) → chain_by (chain p k n) p left o i ≡ Ok y → Pays i y.1
chain_by_paid k n p s left None i y more h = ends_in i i left y h (no_pay i i refl)
chain_by_paid k n p s left (Some op) i y more h =
    let c = bind_ok (spend i) _ y h in
    let d = bind_ok (p c.0.1) _ y c.2 in
    omega (arith, spend_pays i c.0 c.1, s c.0.1 d.0 d.1, more (op2 op left d.0.0) d.0.1 d.2)

chain_paid : (k : ℕ) (p : Parser Term) → IsPaid p → (n : ℕ) (left : Term) → IsPaid (chain p k n left)
unfolding chain
chain_paid k p s zero left i y h = ends_in i i left y h (no_pay i i refl)
chain_paid k p s (suc n) left i y h = chain_by_paid k n p s left (operator_at k (token i)) i y (λ l x e. chain_paid k p s n l x y e) h

level_paid : (p : ℕ → Parser Term) → ArePaid p → ArePaid (level p)
unfolding level
level_paid p s zero i y h = atom_paid p s i y h
level_paid p s (suc k) i y h =
    let b = bind_ok (level p k i) _ y h in
    omega (arith, level_paid p s k i b.0 b.1, chain_paid (suc k) (level p k) (level_paid p s k) (turns (suc k) b.0.1) b.0.0 b.0.1 y b.2)

expr_paid : (n : ℕ) → ArePaid (expr n)
unfolding expr
expr_paid zero k i y h = absurd (cc)
expr_paid (suc n) k i y h = level_paid (expr n) (expr_paid n) k i y h

-- an expression that stands in no other, by its tokens
pub expression_within : (i : Input) (y : Term × Input) (used : List Spot) → expression i ≡ Ok y → i.tokens ≡ used ++ y.1.tokens → cost used ≤ max_budget
expression_within i y used h is =
    let paid = expr_paid (suc NESTING_MAX) 5 (record i { budget = max_budget }) y h in
    omega (arith, paid, ap cost is, cost_append used y.1.tokens)
