-- What is read as an expression costs no more, in its canonical text, than the budget that was taken.
use Rattle.std.proofs.Common.{◌≡◌, ◌≢◌, ℕ, zero, suc, ◌+◌, ◌≤◌, ◌==◌, Bool, true, false, cond, Option, Some, None, Ok, refl, ap, sym, arith, inl, inr}
use Rattle.std.proofs.lemmas.Bool.{cases_Bool}
use Rattle.std.proofs.lemmas.Bool.Decides.{nat_tests}
use Rattle.mpd_model.specs.declared.limits.TheConstants.{NESTING_MAX}
use Rattle.mpd_model.specs.declared.expr.BinaryOp.{BinaryOp}
use Rattle.mpd_model.specs.declared.expr.UnaryOp.{UnaryOp}
use Rattle.mpd_model.specs.declared.expr.UnaryOp.TheVariants as u
use Rattle.mpd_model.specs.declared.place.DeclKind.TheVariants.{Variable}
use Rattle.mpd_model.specs.declared.place.Place.{Place}
use Rattle.mpd_model.specs.declared.read_fault.FaultCode.TheVariants.{UnknownName}
use Rattle.mpd_model.specs.declared.slot.Slot.{Slot}
use Rattle.mpd_model.specs.declared.token.Symbol.{Symbol}
use Rattle.mpd_model.specs.declared.token.Symbol.TheVariants as m
use Rattle.mpd_model.specs.declared.token.Token.{Token}
use Rattle.mpd_model.specs.declared.token.Token.TheVariants.{Number, Name, Is}
use Rattle.mpd_model.specs.grammar.Canonical.{below}
use Rattle.mpd_model.specs.grammar.Grammar.{atom_by, atom, bracket, index_inside, place_inside, place_of_slot, rounds, unary, chain, chain_by, level, expr, expression, turns, operator, operator_at}
use Rattle.mpd_model.specs.grammar.Input.{Input, Parser, token, advanced, spend, expect, sees, same_kind, sought, seek, slot_in, spelling, pure, fail, refuse, max_budget}
use Rattle.mpd_model.specs.grammar.Printable.{term_cost}
use Rattle.mpd_model.specs.script.Term.{Term, lit, own_rank, size, cell, element, op1, op2}
use Rattle.mpd_model.specs.grammar.Written.{left_level}
use Rattle.mpd_laws.proofs.printed.PrintableTerms.{ops_fit, level_is, looser, one_more, chain_by_cost}
use Rattle.mpd_laws.proofs.sound.Sound.{bind_ok, ok_of, ok_parts, test_ok, spend_takes, carried}

-- ---- what a success of a step says

expect_keeps : (wanted : Symbol) (i : Input) (y : Unit {0} × Input) → expect wanted i ≡ Ok y → y.1.budget ≡ i.budget
unfolding expect advanced
expect_keeps wanted i y h = sym (ap (λ p. p.1.budget) (test_ok (sees wanted i) _ _ y h).1)

sought_keeps : (b : Bool) (s : Slot) (i : Input) (y : Slot × Input) → cond b (pure s) (fail UnknownName) i ≡ Ok y → i ≡ y.1
sought_keeps true s i y h = (ok_parts (s, i) y h).1
sought_keeps false s i y h = absurd (cc)

sought_same : (o : Option Slot) (i : Input) (y : Slot × Input) → sought Variable o i ≡ Ok y → i ≡ y.1
sought_same None i y h = absurd (cc)
sought_same (Some s) i y h = sought_keeps (same_kind Variable s.kind) s i y h

pub seek_same : (i : Input) (y : Slot × Input) → seek Variable i ≡ Ok y → i ≡ y.1
unfolding seek
seek_same i y h = sought_same (slot_in i.decls (spelling i)) i y h

-- ---- expressions

-- the canonical text of the term, where one of the level is read, costs no more than what was taken
abbrev Costs : ℕ → Term → Input → Input → Type 0
Costs k t i j = term_cost k t + j.budget ≤ i.budget

abbrev IsCheap : ℕ → Parser Term → Type 0
IsCheap k p = (i j : Input) (t : Term) → p i ≡ Ok (t, j) → Costs k t i j

abbrev AllCheap : (ℕ → Parser Term) → Type 0
AllCheap p = (k : ℕ) → IsCheap k (p k)

rounds_cheap : (p : ℕ → Parser Term) → AllCheap p → IsCheap 0 (rounds p)
unfolding rounds
rounds_cheap p s i j t h =
    let b = bind_ok (spend i) _ (t, j) h in
    let c = bind_ok (p 5 b.0.1) _ (t, j) b.2 in
    let d = bind_ok (expect m.RoundClose c.0.1) _ (t, j) c.2 in
    let o = ok_parts (c.0.0, d.0.1) (t, j) d.2 in
    carried (λ t j. Costs 0 t i j) _ _ _ _ o.0 o.1
    (omega (arith, spend_takes i b.0 b.1, s 5 b.0.1 c.0.1 c.0.0 c.1, expect_keeps m.RoundClose c.0.1 d.0 d.1, one_more 0 5 c.0.0))

bracket_case : (found : Bool) (i : Input) (y : Unit {0} × Input) → cond found (spend i) (refuse i) ≡ Ok y → i.budget ≡ suc y.1.budget
bracket_case true i y h = spend_takes i y h
bracket_case false i y h = absurd (cc)

bracket_takes : (i : Input) (y : Unit {0} × Input) → bracket i ≡ Ok y → i.budget ≡ suc y.1.budget
unfolding bracket
bracket_takes i y h = bracket_case (sees m.SquareOpen i) i y h

index_inside_cheap : (p : ℕ → Parser Term) → AllCheap p → (at : Place) (cells : Option ℕ) → IsCheap 0 (index_inside p at cells)
index_inside_cheap p s at None i j t h =
    let o = ok_parts (cell at, i) (t, j) h in
    carried (λ t j. Costs 0 t i j) _ _ _ _ o.0 o.1 (omega arith)
index_inside_cheap p s at (Some cells) i j t h =
    let a = bind_ok (bracket i) _ (t, j) h in
    let b = bind_ok (p 5 a.0.1) _ (t, j) a.2 in
    let c = bind_ok (expect m.SquareClose b.0.1) _ (t, j) b.2 in
    let o = ok_parts (element at b.0.0, c.0.1) (t, j) c.2 in
    carried (λ t j. Costs 0 t i j) _ _ _ _ o.0 o.1
    (omega (arith, bracket_takes i a.0 a.1, s 5 a.0.1 b.0.1 b.0.0 b.1, expect_keeps m.SquareClose b.0.1 c.0 c.1))

same_budget : (k : ℕ) (t : Term) (i x j : Input) → x.budget ≡ i.budget → Costs k t x j → Costs k t i j
same_budget k t i x j e h = omega (arith, e, h)

name_cheap : (p : ℕ → Parser Term) → AllCheap p → IsCheap 0 (place_inside p)
unfolding place_inside advanced
name_cheap p s i j t h =
    let b = bind_ok (seek Variable i) _ (t, j) h in
    let e : (advanced b.0.1).budget ≡ i.budget = sym (ap (λ k. k.budget) (seek_same i b.0 b.1)) in
    same_budget 0 t i (advanced b.0.1) j e (index_inside_cheap p s (place_of_slot b.0.0) b.0.0.size (advanced b.0.1) j t b.2)

unary_cheap : (p : ℕ → Parser Term) → AllCheap p → (op : UnaryOp) → IsCheap 0 (unary p op)
unfolding unary
unary_cheap p s op i j t h =
    let b = bind_ok (spend i) _ (t, j) h in
    let c = bind_ok (p 0 b.0.1) _ (t, j) b.2 in
    let o = ok_parts (op1 op c.0.0, c.0.1) (t, j) c.2 in
    carried (λ t j. Costs 0 t i j) _ _ _ _ o.0 o.1 (omega (arith, spend_takes i b.0 b.1, s 0 b.0.1 c.0.1 c.0.0 c.1))

simple_cheap : (i j : Input) (t t' : Term) → term_cost 0 t ≡ 0 → ok_of (t, advanced i) ≡ Ok (t', j) → Costs 0 t' i j
unfolding advanced
simple_cheap i j t t' e h =
    let o = ok_parts (t, advanced i) (t', j) h in
    carried (λ t j. Costs 0 t i j) _ _ _ _ o.0 o.1 (omega (arith, e))

atom_case : (p : ℕ → Parser Term) → AllCheap p → (tk : Token) → IsCheap 0 (atom_by p tk)
atom_case p s (Number n) i j t h = simple_cheap i j (lit n) t refl h
atom_case p s (Is m.Rank) i j t h = simple_cheap i j own_rank t refl h
atom_case p s (Is m.Size) i j t h = simple_cheap i j size t refl h
atom_case p s Name i j t h = name_cheap p s i j t h
atom_case p s (Is m.RoundOpen) i j t h = rounds_cheap p s i j t h
atom_case p s (Is m.Minus) i j t h = unary_cheap p s u.Negate i j t h
atom_case p s (Is m.Not) i j t h = unary_cheap p s u.Not i j t h
atom_case p s _ i j t h = absurd (cc)

atom_cheap : (p : ℕ → Parser Term) → AllCheap p → IsCheap 0 (atom p)
unfolding atom
atom_cheap p s i j t h = atom_case p s (token i) i j t h

-- ---- operators of one level

-- a left side that may stand before an operator of the level
abbrev MayGoOn : ℕ → ℕ → Term → Input → Input → Type 0
MayGoOn k n t i j = n ≢ 0 → Costs (left_level k) t i j

may_go : (k n : ℕ) (t : Term) (i j : Input) → (k ≡ 2 → suc n ≤ 1) → Costs (suc k) t i j → MayGoOn k n t i j
may_go k n t i j few x some =
    elim (cases_Bool (k == 2)) [
      | inl is ↦ let e : k ≡ 2 = grind (arith, nat_tests) in let f = few e in absurd (some (omega arith))
      | inr other ↦ rw other x
    ]

chain_by_costs : (k : ℕ) (op : BinaryOp) (i x y j : Input) (a b : Term) → Costs (left_level k) a i x → operator_at (suc k) (token x) ≡ Some op → x.budget ≡ suc y.budget
    → Costs k b y j → Costs (suc k) (op2 op a b) i j
chain_by_costs k op i x y j a b l o s r =
    let fits : suc (below op) ≡ suc k = level_is (suc k) (operator (token x)) op (ops_fit (token x)) o in
    let under : below op ≡ k = omega (arith, fits) in
    omega (arith, chain_by_cost k op a b under, l, s, r)

chain_by_case : (k : ℕ) (p : Parser Term) → IsCheap k p → (n : ℕ) → (k ≡ 2 → suc n ≤ 1) → (left : Term) (i x j : Input) (t : Term) (o : Option BinaryOp)
    → operator_at (suc k) (token x) ≡ o → Costs (suc k) left i x → Costs (left_level k) left i x
    → ((l : Term) (y : Input) → Costs (suc k) l i y → MayGoOn k n l i y → chain p (suc k) n l y ≡ Ok (t, j) → Costs (suc k) t i j)
    → chain_by (chain p (suc k) n) p left o x ≡ Ok (t, j) → Costs (suc k) t i j
chain_by_case k p s n few left i x j t None is a b more h =
    let o = ok_parts (left, x) (t, j) h in
    carried (λ t j. Costs (suc k) t i j) _ _ _ _ o.0 o.1 a
chain_by_case k p s n few left i x j t (Some op) is a b more h =
    let c = bind_ok (spend x) _ (t, j) h in
    let d = bind_ok (p c.0.1) _ (t, j) c.2 in
    let whole = chain_by_costs k op i x c.0.1 d.0.1 left d.0.0 b is (spend_takes x c.0 c.1) (s c.0.1 d.0.1 d.0.0 d.1) in
    more (op2 op left d.0.0) d.0.1 whole (may_go k n (op2 op left d.0.0) i d.0.1 few whole) d.2

chain_cheap : (k : ℕ) (p : Parser Term) → IsCheap k p → (n : ℕ) → (k ≡ 2 → n ≤ 1) → (left : Term) (i x j : Input) (t : Term)
    → Costs (suc k) left i x → MayGoOn k n left i x → chain p (suc k) n left x ≡ Ok (t, j) → Costs (suc k) t i j
unfolding chain
chain_cheap k p s zero few left i x j t a b h =
    let o = ok_parts (left, x) (t, j) h in
    carried (λ t j. Costs (suc k) t i j) _ _ _ _ o.0 o.1 a
chain_cheap k p s (suc n) few left i x j t a b h =
    chain_by_case k p s n few left i x j t (operator_at (suc k) (token x)) refl a (b (λ e. absurd (omega arith)))
    (λ l y c d. chain_cheap k p s n (λ e. let f = few e in omega arith) l i y j t c d) h

raised : (k : ℕ) (t : Term) (i j : Input) → Costs k t i j → Costs (suc k) t i j
raised k t i j x = omega (arith, x, looser k t)

first_left : (k n : ℕ) (t : Term) (i j : Input) → Costs k t i j → MayGoOn k n t i j
first_left k n t i j x some =
    elim (cases_Bool (k == 2)) [
      | inl is ↦ let e : k ≡ 2 = grind (arith, nat_tests) in let y : Costs 2 t i j = rw e at x in rw is y
      | inr other ↦ rw other (raised k t i j x)
    ]

few_turns : (k : ℕ) (i : Input) → k ≡ 2 → turns (suc k) i ≤ 1
few_turns k i e = rw e (omega arith)

level_cheap : (p : ℕ → Parser Term) → AllCheap p → (k : ℕ) → IsCheap k (level p k)
unfolding level
level_cheap p s zero i j t h = atom_cheap p s i j t h
level_cheap p s (suc k) i j t h =
    let b = bind_ok (level p k i) _ (t, j) h in
    let tk = level_cheap p s k i b.0.1 b.0.0 b.1 in
    chain_cheap k (level p k) (level_cheap p s k) (turns (suc k) b.0.1) (few_turns k b.0.1) b.0.0 i b.0.1 j t
    (raised k b.0.0 i b.0.1 tk) (first_left k (turns (suc k) b.0.1) b.0.0 i b.0.1 tk) b.2

expr_cheap : (n k : ℕ) → IsCheap k (expr n k)
unfolding expr
expr_cheap zero k i j t h = absurd (cc)
expr_cheap (suc n) k i j t h = level_cheap (expr n) (expr_cheap n) k i j t h

-- an expression that stands in no other is within the limit
pub expression_cheap : (i : Input) (y : Term × Input) → expression i ≡ Ok y → term_cost 5 y.0 ≤ max_budget
expression_cheap i y h = let x = expr_cheap (suc NESTING_MAX) 5 (record i { budget = max_budget }) y.1 y.0 h in omega (arith, x)
