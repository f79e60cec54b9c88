-- Expressions never run out of depth, and a budget that is enough may as well be larger.
use Rattle.std.proofs.Common.{◌≡◌, ◌≢◌, ℕ, zero, suc, ◌+◌, ◌-◌, ◌<◌, ◌≤◌, ◌==◌, Bool, true, false, cond, Option, Some, None, Ok, Err, refl, ap, sym, ◌∙◌, arith, inl, inr}
use Rattle.std.proofs.lemmas.Bool.{cases_Bool}
use Rattle.std.proofs.lemmas.Bool.Decides.{nat_tests}
use Rattle.mpd_model.specs.declared.expr.BinaryOp.{BinaryOp}
use Rattle.mpd_model.specs.declared.expr.UnaryOp.{UnaryOp}
use Rattle.mpd_model.specs.declared.expr.UnaryOp.TheVariants as u
use Rattle.mpd_model.specs.declared.place.DeclKind.TheVariants.{Variable}
use Rattle.mpd_model.specs.declared.place.Place.{Place}
use Rattle.mpd_model.specs.declared.read_fault.FaultCode.TheVariants.{UnknownName}
use Rattle.mpd_model.specs.declared.slot.Slot.{Slot}
use Rattle.mpd_model.specs.declared.token.Symbol.{Symbol}
use Rattle.mpd_model.specs.declared.token.Symbol.TheVariants as m
use Rattle.mpd_model.specs.declared.token.Token.{Token}
use Rattle.mpd_model.specs.declared.token.Token.TheVariants.{Number, Name, Is}
use Rattle.mpd_model.specs.grammar.Grammar.{atom_by, atom, bracket, index_inside, place_inside, place_of_slot, rounds, unary, chain, chain_by, level, expr, turns, operator_at}
use Rattle.mpd_model.specs.grammar.Input.{Input, Outcome, Parser, and_then, token, place, spelling, advanced, spend, expect, sees, refusal, seek, sought, slot_in, same_kind, pure, fail, refuse}
use Rattle.mpd_model.specs.grammar.ReaderLaws.{IsNotTooDeep, with_more, leaving_more}
use Rattle.mpd_model.specs.script.Term.{Term, lit, own_rank, size, cell, element, op1, op2}
use Rattle.mpd_laws.proofs.sound.Sound.{bind_ok, ok_parts, spend_takes, expect_ok, seek_ok}

pub bind_same : {A B : Type 0} (o : Outcome A) (f g : A → Parser B) → ((x : A × Input) → o ≡ Ok x → f x.0 x.1 ≡ g x.0 x.1) → and_then o f ≡ and_then o g
bind_same (Ok x) f g h = h x refl
bind_same (Err e) f g h = refl

-- ---- what is read leaves no more budget than there was

spend_lowers : (i : Input) (y : Unit {0} × Input) → spend i ≡ Ok y → y.1.budget + 1 ≡ i.budget
spend_lowers i y h = omega (arith, spend_takes i y h)

next_budget : (i j : Input) → j ≡ advanced i → j.budget ≡ i.budget
unfolding advanced
next_budget i j e = ap (λ k. k.budget) e

abbrev Lowers : Parser Term → Type 0
Lowers p = (i j : Input) (t : Term) → p i ≡ Ok (t, j) → j.budget ≤ i.budget

abbrev AllLower : (ℕ → Parser Term) → Type 0
AllLower p = (k : ℕ) → Lowers (p k)

seek_keeps : (i : Input) (y : Slot × Input) → seek Variable i ≡ Ok y → (advanced y.1).budget ≡ i.budget
seek_keeps i y h = let k = seek_ok Variable i y h in next_budget i (advanced y.1) (ap advanced (sym k.2))

bracket_case : (found : Bool) (i : Input) (y : Unit {0} × Input) → cond found (spend i) (refuse i) ≡ Ok y → y.1.budget + 1 ≡ i.budget
bracket_case true i y h = spend_lowers i y h
bracket_case false i y h = absurd (cc)

bracket_lowers : (i : Input) (y : Unit {0} × Input) → bracket i ≡ Ok y → y.1.budget + 1 ≡ i.budget
unfolding bracket
bracket_lowers i y h = bracket_case (sees m.SquareOpen i) i y h

index_inside_lowers : (p : ℕ → Parser Term) → AllLower p → (at : Place) (cells : Option ℕ) → Lowers (index_inside p at cells)
index_inside_lowers p s at None i j t h = let o = ok_parts (cell at, i) (t, j) h in omega (arith, ap (λ k. k.budget) o.1)
index_inside_lowers p s at (Some cells) i j t h =
    let b = bind_ok (bracket i) _ (t, j) h in
    let c = bind_ok (p 5 b.0.1) _ (t, j) b.2 in
    let d = bind_ok (expect m.SquareClose c.0.1) _ (t, j) c.2 in
    let ex = expect_ok m.SquareClose c.0.1 d.0 d.1 in
    let o = ok_parts (element at c.0.0, d.0.1) (t, j) d.2 in
    omega (arith, bracket_lowers i b.0 b.1, s 5 b.0.1 c.0.1 c.0.0 c.1, next_budget c.0.1 j (sym o.1 ∙ ex.1))

name_lowers : (p : ℕ → Parser Term) → AllLower p → Lowers (place_inside p)
unfolding place_inside
name_lowers p s i j t h =
    let b = bind_ok (seek Variable i) _ (t, j) h in
    omega (arith, seek_keeps i b.0 b.1, index_inside_lowers p s (place_of_slot b.0.0) b.0.0.size (advanced b.0.1) j t b.2)

unary_lowers : (p : ℕ → Parser Term) → AllLower p → (op : UnaryOp) → Lowers (unary p op)
unfolding unary
unary_lowers p s op i j t h =
    let b = bind_ok (spend i) _ (t, j) h in
    let c = bind_ok (p 0 b.0.1) _ (t, j) b.2 in
    let o = ok_parts (op1 op c.0.0, c.0.1) (t, j) c.2 in
    omega (arith, spend_lowers i b.0 b.1, s 0 b.0.1 c.0.1 c.0.0 c.1, ap (λ k. k.budget) o.1)

rounds_lowers : (p : ℕ → Parser Term) → AllLower p → Lowers (rounds p)
unfolding rounds
rounds_lowers p s i j t h =
    let b = bind_ok (spend i) _ (t, j) h in
    let c = bind_ok (p 5 b.0.1) _ (t, j) b.2 in
    let d = bind_ok (expect m.RoundClose c.0.1) _ (t, j) c.2 in
    let ex = expect_ok m.RoundClose c.0.1 d.0 d.1 in
    let o = ok_parts (c.0.0, d.0.1) (t, j) d.2 in
    omega (arith, spend_lowers i b.0 b.1, s 5 b.0.1 c.0.1 c.0.0 c.1, next_budget c.0.1 j (sym o.1 ∙ ex.1))

atom_lowers_case : (p : ℕ → Parser Term) → AllLower p → (tk : Token) → Lowers (atom_by p tk)
atom_lowers_case p s (Number n) i j t h = let o = ok_parts (lit n, advanced i) (t, j) h in omega (arith, next_budget i j (sym o.1))
atom_lowers_case p s (Is m.Rank) i j t h = let o = ok_parts (own_rank, advanced i) (t, j) h in omega (arith, next_budget i j (sym o.1))
atom_lowers_case p s (Is m.Size) i j t h = let o = ok_parts (size, advanced i) (t, j) h in omega (arith, next_budget i j (sym o.1))
atom_lowers_case p s Name i j t h = name_lowers p s i j t h
atom_lowers_case p s (Is m.RoundOpen) i j t h = rounds_lowers p s i j t h
atom_lowers_case p s (Is m.Minus) i j t h = unary_lowers p s u.Negate i j t h
atom_lowers_case p s (Is m.Not) i j t h = unary_lowers p s u.Not i j t h
atom_lowers_case p s _ i j t h = absurd (cc)

atom_lowers : (p : ℕ → Parser Term) → AllLower p → Lowers (atom p)
unfolding atom
atom_lowers p s i j t h = atom_lowers_case p s (token i) i j t h

chain_by_lowers : (more : Term → Parser Term) (p : Parser Term) → Lowers p → (left : Term) (o : Option BinaryOp) (x j : Input) (t : Term)
    → ((l : Term) (y : Input) → more l y ≡ Ok (t, j) → j.budget ≤ y.budget) → chain_by more p left o x ≡ Ok (t, j) → j.budget ≤ x.budget
chain_by_lowers more p s left None x j t g h = let o = ok_parts (left, x) (t, j) h in omega (arith, ap (λ k. k.budget) o.1)
chain_by_lowers more p s left (Some op) x j t g h =
    let c = bind_ok (spend x) _ (t, j) h in
    let d = bind_ok (p c.0.1) _ (t, j) c.2 in
    omega (arith, spend_lowers x c.0 c.1, s c.0.1 d.0.1 d.0.0 d.1, g (op2 op left d.0.0) d.0.1 d.2)

chain_lowers : (p : Parser Term) → Lowers p → (k n : ℕ) (left : Term) (x j : Input) (t : Term) → chain p k n left x ≡ Ok (t, j) → j.budget ≤ x.budget
unfolding chain
chain_lowers p s k zero left x j t h = let o = ok_parts (left, x) (t, j) h in omega (arith, ap (λ k. k.budget) o.1)
chain_lowers p s k (suc n) left x j t h =
    chain_by_lowers (chain p k n) p s left (operator_at k (token x)) x j t (λ l y e. chain_lowers p s k n l y j t e) h

level_lowers : (p : ℕ → Parser Term) → AllLower p → (k : ℕ) → Lowers (level p k)
unfolding level
level_lowers p s zero i j t h = atom_lowers p s i j t h
level_lowers p s (suc k) i j t h =
    let b = bind_ok (level p k i) _ (t, j) h in
    omega (arith, level_lowers p s k i b.0.1 b.0.0 b.1, chain_lowers (level p k) (level_lowers p s k) (suc k) (turns (suc k) b.0.1) b.0.0 b.0.1 j t b.2)

expr_lowers : (n k : ℕ) → Lowers (expr n k)
unfolding expr
expr_lowers zero k i j t h = absurd (cc)
expr_lowers (suc n) k i j t h = level_lowers (expr n) (expr_lowers n) k i j t h

-- ---- two parsers that agree where less than so much budget is left

abbrev Agree : ℕ → Parser Term → Parser Term → Type 0
Agree n p q = (i : Input) → i.budget < n → p i ≡ q i

abbrev AllAgree : ℕ → (ℕ → Parser Term) → (ℕ → Parser Term) → Type 0
AllAgree n p q = (k : ℕ) → Agree n (p k) (q k)

rounds_agree : (n : ℕ) (p q : ℕ → Parser Term) → AllAgree n p q → Agree (suc n) (rounds p) (rounds q)
unfolding rounds
rounds_agree n p q a i h = bind_same (spend i) _ _ (λ x e. let s = spend_lowers i x e in let b : x.1.budget < n = omega arith in rw (a 5 x.1 b) refl)

unary_agree : (n : ℕ) (p q : ℕ → Parser Term) → AllAgree n p q → (op : UnaryOp) → Agree (suc n) (unary p op) (unary q op)
unfolding unary
unary_agree n p q a op i h = bind_same (spend i) _ _ (λ x e. let s = spend_lowers i x e in let b : x.1.budget < n = omega arith in rw (a 0 x.1 b) refl)

index_inside_agree : (n : ℕ) (p q : ℕ → Parser Term) → AllAgree n p q → (at : Place) (cells : Option ℕ) → Agree (suc n) (index_inside p at cells) (index_inside q at cells)
index_inside_agree n p q a at None i h = refl
index_inside_agree n p q a at (Some cells) i h =
    bind_same (bracket i) _ _ (λ x e. let s = bracket_lowers i x e in let b : x.1.budget < n = omega arith in rw (a 5 x.1 b) refl)

name_agree : (n : ℕ) (p q : ℕ → Parser Term) → AllAgree n p q → Agree (suc n) (place_inside p) (place_inside q)
unfolding place_inside
name_agree n p q a i h =
    bind_same (seek Variable i) _ _ (λ x e.
    let s = seek_keeps i x e in
    let b : (advanced x.1).budget < suc n = omega arith in
    index_inside_agree n p q a (place_of_slot x.0) x.0.size (advanced x.1) b)

atom_agree_case : (n : ℕ) (p q : ℕ → Parser Term) → AllAgree n p q → (tk : Token) (i : Input) → i.budget < suc n → atom_by p tk i ≡ atom_by q tk i
atom_agree_case n p q a (Is m.RoundOpen) i h = rounds_agree n p q a i h
atom_agree_case n p q a (Is m.Minus) i h = unary_agree n p q a u.Negate i h
atom_agree_case n p q a (Is m.Not) i h = unary_agree n p q a u.Not i h
atom_agree_case n p q a Name i h = name_agree n p q a i h
atom_agree_case n p q a _ i h = refl

atom_agree : (n : ℕ) (p q : ℕ → Parser Term) → AllAgree n p q → Agree (suc n) (atom p) (atom q)
unfolding atom
atom_agree n p q a i h = atom_agree_case n p q a (token i) i h

chain_by_agree : (n : ℕ) (p q : Parser Term) → Agree n p q → Lowers p → (f g : Term → Parser Term) → ((l : Term) → Agree n (f l) (g l))
    → (left : Term) (o : Option BinaryOp) → Agree n (chain_by f p left o) (chain_by g q left o)
chain_by_agree n p q a s f g c left None i h = refl
chain_by_agree n p q a s f g c left (Some op) i h =
    bind_same (spend i) _ _ (λ x e.
    let low = spend_lowers i x e in
    let b : x.1.budget < n = omega arith in
    rw (← a x.1 b) (bind_same (p x.1) _ _ (λ y d.
    let less : y.1.budget ≤ x.1.budget = s x.1 y.1 y.0 d in
    c (op2 op left y.0) y.1 (omega arith))))

chain_agree : (n : ℕ) (p q : Parser Term) → Agree n p q → Lowers p → (k m : ℕ) (left : Term) → Agree n (chain p k m left) (chain q k m left)
unfolding chain
chain_agree n p q a s k zero left i h = refl
chain_agree n p q a s k (suc m) left i h = chain_by_agree n p q a s (chain p k m) (chain q k m) (λ l. chain_agree n p q a s k m l) left (operator_at k (token i)) i h

level_agree : (n : ℕ) (p q : ℕ → Parser Term) → AllAgree n p q → AllLower p → (k : ℕ) → Agree (suc n) (level p k) (level q k)
unfolding level
level_agree n p q a s zero i h = atom_agree n p q a i h
level_agree n p q a s (suc k) i h =
    let e = level_agree n p q a s k in
    rw (← e i h) (bind_same (level p k i) _ _ (λ x d.
    let less : x.1.budget ≤ i.budget = level_lowers p s k i x.1 x.0 d in
    chain_agree (suc n) (level p k) (level q k) e (level_lowers p s k) (suc k) (turns (suc k) x.1) x.0 x.1 (omega arith)))

pub expr_enough : (n k : ℕ) → Agree n (expr n k) (expr (suc n) k)
unfolding expr
expr_enough zero k i h = absurd (omega arith)
expr_enough (suc n) k i h = level_agree n (expr n) (expr (suc n)) (expr_enough n) (expr_lowers n) k i h

-- ---- a larger budget

-- where the first isn't too deep, the second gives the same with more budget
abbrev Follows : {A : Type 0} → ℕ → Parser A → Parser A → Type 0
Follows e p q = (i : Input) → IsNotTooDeep (p i) → q (with_more e i) ≡ leaving_more e (p i)

bind_more : {A B : Type 0} (e : ℕ) (o u : Outcome A) (f g : A → Parser B) → (IsNotTooDeep o → u ≡ leaving_more e o)
    → ((x : A × Input) → o ≡ Ok x → IsNotTooDeep (f x.0 x.1) → g x.0 (with_more e x.1) ≡ leaving_more e (f x.0 x.1))
    → IsNotTooDeep (and_then o f) → and_then u g ≡ leaving_more e (and_then o f)
bind_more e (Ok x) u f g a b h = rw (a tt) (b x refl h)
bind_more e (Err c) u f g a b h = rw (a h) refl

spend_more : (e : ℕ) → Follows e spend spend
unfolding spend advanced place
spend_more e i h =
    elim (cases_Bool (i.budget == 0)) [
      | inl is ↦ let deep = rw is at h in absurd (deep refl)
      | inr other ↦
          let some : i.budget ≢ 0 = grind (arith, nat_tests) in
          let more : (i.budget + e == 0) ≡ false = grind (arith, nat_tests) in
          let less : i.budget + e - 1 ≡ i.budget - 1 + e = omega arith in
          rw (other, more, less) refl
    ]

cond_more : {A : Type 0} (e : ℕ) (b : Bool) (x y u v : Outcome A) → u ≡ leaving_more e x → v ≡ leaving_more e y → cond b u v ≡ leaving_more e (cond b x y)
cond_more e true x y u v a c = a
cond_more e false x y u v a c = c

expect_more : (e : ℕ) (wanted : Symbol) → Follows e (expect wanted) (expect wanted)
unfolding expect sees token place refusal advanced
expect_more e wanted i h = cond_more e _ _ _ _ _ refl refl

pure_or_fail : (e : ℕ) (b : Bool) (s : Slot) (i : Input) → cond b (pure s) (fail UnknownName) (with_more e i) ≡ leaving_more e (cond b (pure s) (fail UnknownName) i)
unfolding place
pure_or_fail e true s i = refl
pure_or_fail e false s i = refl

sought_more : (e : ℕ) (o : Option Slot) → Follows e (sought Variable o) (sought Variable o)
unfolding place
sought_more e None i h = refl
sought_more e (Some s) i h = pure_or_fail e (same_kind Variable s.kind) s i

seek_more : (e : ℕ) → Follows e (seek Variable) (seek Variable)
unfolding seek spelling
seek_more e i h = sought_more e (slot_in i.decls (spelling i)) i h

abbrev AllFollow : ℕ → (ℕ → Parser Term) → (ℕ → Parser Term) → Type 0
AllFollow e p q = (k : ℕ) → Follows e (p k) (q k)

refuse_more : (e : ℕ) (i : Input) → refusal (with_more e i) ≡ refusal i
unfolding refusal token place
refuse_more e i = refl

bracket_more_case : (e : ℕ) (found : Bool) (i : Input) → IsNotTooDeep (cond found (spend i) (refuse i))
    → cond found (spend (with_more e i)) (refuse (with_more e i)) ≡ leaving_more e (cond found (spend i) (refuse i))
bracket_more_case e true i h = spend_more e i h
bracket_more_case e false i h = ap Err (refuse_more e i)

bracket_more : (e : ℕ) → Follows e bracket bracket
unfolding bracket sees token
bracket_more e i h = bracket_more_case e (sees m.SquareOpen i) i h

index_inside_more : (e : ℕ) (p q : ℕ → Parser Term) → AllFollow e p q → (at : Place) (cells : Option ℕ) → Follows e (index_inside p at cells) (index_inside q at cells)
index_inside_more e p q a at None i h = refl
index_inside_more e p q a at (Some cells) i h =
    bind_more e (bracket i) (bracket (with_more e i)) _ _ (bracket_more e i) (λ x d c.
    bind_more e (p 5 x.1) (q 5 (with_more e x.1)) _ _ (a 5 x.1) (λ y d' c'.
    bind_more e (expect m.SquareClose y.1) (expect m.SquareClose (with_more e y.1)) _ _ (expect_more e m.SquareClose y.1) (λ z d'' c''. refl) c') c) h

name_more : (e : ℕ) (p q : ℕ → Parser Term) → AllFollow e p q → Follows e (place_inside p) (place_inside q)
unfolding place_inside advanced
name_more e p q a i h =
    bind_more e (seek Variable i) (seek Variable (with_more e i)) _ _ (seek_more e i) (λ x d c. index_inside_more e p q a (place_of_slot x.0) x.0.size (advanced x.1) c) h

unary_more : (e : ℕ) (p q : ℕ → Parser Term) → AllFollow e p q → (op : UnaryOp) → Follows e (unary p op) (unary q op)
unfolding unary
unary_more e p q a op i h =
    bind_more e (spend i) (spend (with_more e i)) _ _ (spend_more e i) (λ x d c.
    bind_more e (p 0 x.1) (q 0 (with_more e x.1)) _ _ (a 0 x.1) (λ y d' c'. refl) c) h

rounds_more : (e : ℕ) (p q : ℕ → Parser Term) → AllFollow e p q → Follows e (rounds p) (rounds q)
unfolding rounds
rounds_more e p q a i h =
    bind_more e (spend i) (spend (with_more e i)) _ _ (spend_more e i) (λ x d c.
    bind_more e (p 5 x.1) (q 5 (with_more e x.1)) _ _ (a 5 x.1) (λ y d' c'.
    bind_more e (expect m.RoundClose y.1) (expect m.RoundClose (with_more e y.1)) _ _ (expect_more e m.RoundClose y.1) (λ z d'' c''. refl) c') c) h

atom_more_case : (e : ℕ) (p q : ℕ → Parser Term) → AllFollow e p q → (tk : Token) → Follows e (atom_by p tk) (atom_by q tk)
unfolding advanced
atom_more_case e p q a (Number n) i h = refl
atom_more_case e p q a (Is m.Rank) i h = refl
atom_more_case e p q a (Is m.Size) i h = refl
atom_more_case e p q a Name i h = name_more e p q a i h
atom_more_case e p q a (Is m.RoundOpen) i h = rounds_more e p q a i h
atom_more_case e p q a (Is m.Minus) i h = unary_more e p q a u.Negate i h
atom_more_case e p q a (Is m.Not) i h = unary_more e p q a u.Not i h
atom_more_case e p q a _ i h = ap Err (refuse_more e i)

atom_more : (e : ℕ) (p q : ℕ → Parser Term) → AllFollow e p q → Follows e (atom p) (atom q)
unfolding atom token
atom_more e p q a i h = atom_more_case e p q a (token i) i h

chain_by_more : (e : ℕ) (p q : Parser Term) → Follows e p q → Lowers p → (f g : Term → Parser Term) (left : Term) (o : Option BinaryOp) (i : Input)
    → ((l : Term) (x : Input) → x.budget + 1 ≤ i.budget → IsNotTooDeep (f l x) → g l (with_more e x) ≡ leaving_more e (f l x))
    → IsNotTooDeep (chain_by f p left o i) → chain_by g q left o (with_more e i) ≡ leaving_more e (chain_by f p left o i)
chain_by_more e p q a s f g left None i c h = refl
chain_by_more e p q a s f g left (Some op) i c h =
    bind_more e (spend i) (spend (with_more e i)) _ _ (spend_more e i) (λ x d c'.
    bind_more e (p x.1) (q (with_more e x.1)) _ _ (a x.1) (λ y d' c''.
    let low = spend_lowers i x d in
    let less : y.1.budget ≤ x.1.budget = s x.1 y.1 y.0 d' in
    c (op2 op left y.0) y.1 (omega arith) c'') c') h

-- with as many turns
chain_same : (e : ℕ) (p q : Parser Term) → Follows e p q → Lowers p → (k n : ℕ) (left : Term) → Follows e (chain p k n left) (chain q k n left)
unfolding chain token
chain_same e p q a s k zero left i h = refl
chain_same e p q a s k (suc n) left i h =
    chain_by_more e p q a s (chain p k n) (chain q k n) left (operator_at k (token i)) i (λ l x less c. chain_same e p q a s k n l x c) h

-- with more turns than budget
chain_more : (e : ℕ) (p q : Parser Term) → Follows e p q → Lowers p → (k n more : ℕ) (left : Term) (i : Input) → more ≡ n + e → i.budget < n
    → IsNotTooDeep (chain p k n left i) → chain q k more left (with_more e i) ≡ leaving_more e (chain p k n left i)
unfolding chain token
chain_more e p q a s k zero more left i is b h = absurd (omega arith)
chain_more e p q a s k (suc n) more left i is b h =
    let next_turn : more ≡ suc (n + e) = omega arith in
    rw next_turn (chain_by_more e p q a s (chain p k n) (chain q k (n + e)) left (operator_at k (token i)) i
    (λ l x less c. chain_more e p q a s k n (n + e) l x refl (omega arith) c) h)

turns_more : (e : ℕ) (p q : Parser Term) → Follows e p q → Lowers p → (k : ℕ) (left : Term) (i : Input)
    → IsNotTooDeep (chain p k (turns k i) left i) → chain q k (turns k (with_more e i)) left (with_more e i) ≡ leaving_more e (chain p k (turns k i) left i)
turns_more e p q a s k left i h =
    elim (cases_Bool (k == 3)) [
      | inl is ↦ let h' = rw is at h in rw is (chain_same e p q a s k 1 left i h')
      | inr other ↦
          let h' = rw other at h in
          rw other (chain_more e p q a s k (i.budget + 1) (i.budget + e + 1) left i (omega arith) (omega arith) h')
    ]

level_more : (e : ℕ) (p q : ℕ → Parser Term) → AllFollow e p q → AllLower p → (k : ℕ) → Follows e (level p k) (level q k)
unfolding level
level_more e p q a s zero i h = atom_more e p q a i h
level_more e p q a s (suc k) i h =
    bind_more e (level p k i) (level q k (with_more e i)) _ _ (level_more e p q a s k i) (λ x d c.
    turns_more e (level p k) (level q k) (level_more e p q a s k) (level_lowers p s k) (suc k) x.0 x.1 c) h

expr_more_from : (e n more k : ℕ) → more ≡ n + e → Follows e (expr n k) (expr more k)
unfolding expr
expr_more_from e zero more k is i h = absurd (h refl)
expr_more_from e (suc n) more k is i h =
    let one : more ≡ suc (n + e) = omega arith in
    rw one (level_more e (expr n) (expr (n + e)) (λ l. expr_more_from e n (n + e) l refl) (expr_lowers n) k i h)

pub expr_more : (depth k more : ℕ) (i : Input) → IsNotTooDeep (expr depth k i) → expr (depth + more) k (with_more more i) ≡ leaving_more more (expr depth k i)
expr_more depth k more i h = expr_more_from more depth (depth + more) k refl i h
