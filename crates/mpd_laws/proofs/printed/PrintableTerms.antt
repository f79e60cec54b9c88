-- What is written as an expression is printable, and its canonical text costs no more.
use Rattle.std.proofs.Common.{◌≡◌, ℕ, suc, ◌+◌, ◌-◌, ◌≤◌, ◌==◌, Bool, true, false, nat_lt, List, [], ◌∷◌, Option, Some, None, refl, subst, ap, sym, ◌∙◌, lit≤, arith, inl, inr}
use Rattle.std.specs.Prelude.{slice_get}
use Rattle.std.proofs.lemmas.Bool.{cases_Bool}
use Rattle.std.proofs.lemmas.Bool.Decides.{nat_tests}
use Rattle.std.proofs.lemmas.Slice.Eq.{bytes_eq-Decides}
use Rattle.std.specs.Str.{bytes_eq}
use Rattle.mpd_model.specs.declared.expr.BinaryOp.{BinaryOp}
use Rattle.mpd_model.specs.declared.place.DeclKind.{DeclKind}
use Rattle.mpd_model.specs.declared.place.DeclKind.TheVariants.{Variable}
use Rattle.mpd_model.specs.declared.place.Place.{Place}
use Rattle.mpd_model.specs.declared.slot.Slot.{Slot}
use Rattle.mpd_model.specs.declared.token.Symbol.TheVariants as m
use Rattle.mpd_model.specs.declared.token.Token.{Token}
use Rattle.mpd_model.specs.declared.token.Token.TheVariants.{Is}
use Rattle.mpd_model.specs.grammar.Canonical.{name_of, name_text, below}
use Rattle.mpd_model.specs.script.Declaration.{Declared, variable_cells, handle_cells}
use Rattle.mpd_model.specs.grammar.Costs.{price}
use Rattle.mpd_model.specs.grammar.Grammar.{operator, at_level}
use Rattle.mpd_model.specs.grammar.Input.{first_of, slot_from, slot_in}
use Rattle.mpd_model.specs.grammar.Printable.{IsName, HasName, IsPrintableTerm, bracket_cost, term_cost, FewestBrackets}
use Rattle.mpd_model.specs.script.Term.{Term, lit, own_rank, size, cell, element, op1, op2}
use Rattle.mpd_model.specs.grammar.Tokens.{Spot}
use Rattle.mpd_model.specs.grammar.Written.{Names, WrittenTerm, number, rank, ranks, name, entry, round, signs, higher, joins, left_level}
use Rattle.mpd_laws.proofs.cutting.GoodSpots.{IsGood, AllGood, good_left, good_right}
use Rattle.mpd_laws.proofs.sound.Prices.{cost_append, operator_costs, sign_costs}

-- ---- names

abbrev slot_of : ℕ → ℕ → ℕ → Declared → Slot
slot_of n v h d = record { kind = d.kind; declaration = n; first = first_of d.kind v h; size = d.size }

abbrev number_of : ℕ → Option Slot → ℕ
number_of n None = n
number_of n (Some s) = s.declaration

record Found (n : ℕ) (ds : List Declared) (w : List ℕ) (s : Slot) : Type 0 where
  behind : n ≤ s.declaration
  named : name_of (slice_get ds (s.declaration - n)) ≡ w

found_here : (n : ℕ) (d : Declared) (ds : List Declared) (w : List ℕ) (s : Slot) → d.name ≡ w → n ≡ s.declaration → Found n (d ∷ ds) w s
found_here n d ds w s e f = let at : s.declaration - n ≡ 0 = omega (arith, f) in record { behind = omega (arith, f); named = rw at e }

found_behind : (n : ℕ) (d : Declared) (ds : List Declared) (w : List ℕ) (s : Slot) → Found (n + 1) ds w s → Found n (d ∷ ds) w s
found_behind n d ds w s x =
    let at : s.declaration - n ≡ suc (s.declaration - (n + 1)) = omega (arith, x.behind) in
    record { behind = omega (arith, x.behind); named = rw at x.named }

-- a slot has the number of the declaration with that name
slot_found : (n v h : ℕ) (ds : List Declared) (w : List ℕ) (s : Slot) → slot_from n v h ds w ≡ Some s → Found n ds w s
slot_found n v h [] w s e = absurd (let x : ⊥ = cc in x)
slot_found n v h (d ∷ ds) w s e =
    elim (cases_Bool (bytes_eq d.name w)) [
      | inl is ↦
          let f = rw is at e in
          let same : n ≡ s.declaration = ap (number_of n) f in
          found_here n d ds w s ((bytes_eq-Decides d.name w).0 is) same
      | inr other ↦
          let f = rw other at e in
          found_behind n d ds w s (slot_found (n + 1) (v + variable_cells d.kind d.size) (h + handle_cells d.kind d.size) ds w s f)
    ]

pub slot_name : (ds : List Declared) (w : List ℕ) (s : Slot) → slot_in ds w ≡ Some s → name_of (slice_get ds s.declaration) ≡ w
unfolding slot_in
slot_name ds w s e =
    let x = slot_found 0 0 0 ds w s e in
    let at : s.declaration - 0 ≡ s.declaration = omega arith in
    rw at at x.named

pub has_name : (ds : List Declared) (kind : DeclKind) (is_array : Bool) (s : Spot) (p : Place) → IsGood s → Names ds kind s is_array p → HasName ds kind is_array p
has_name ds kind is_array s p g x =
    let same : name_text ds p ≡ s.text = ap (λ (q : Place). name_text ds q) (sym x.place) ∙ slot_name ds s.text x.slot x.declared in
    record { named = subst IsName (sym same) (g.name x.token); slot = x.slot; declared = ap (slot_in ds) same ∙ x.declared; kind = x.kind; size = x.size; place = x.place }

-- ---- operators

abbrev pub IsFit : Option (BinaryOp × ℕ) → Type 0
IsFit None = Unit {0}
IsFit (Some p) = suc (below p.0) ≡ p.1

pub ops_fit : (t : Token) → IsFit (operator t)
ops_fit (Is m.Or) = refl
ops_fit (Is m.And) = refl
ops_fit (Is m.Equal) = refl
ops_fit (Is m.NotEqual) = refl
ops_fit (Is m.Less) = refl
ops_fit (Is m.AtMost) = refl
ops_fit (Is m.Greater) = refl
ops_fit (Is m.AtLeast) = refl
ops_fit (Is m.Plus) = refl
ops_fit (Is m.Minus) = refl
ops_fit (Is m.Times) = refl
ops_fit (Is m.Divide) = refl
ops_fit (Is m.Remainder) = refl
ops_fit _ = tt

pub level_is : (k : ℕ) (o : Option (BinaryOp × ℕ)) (op : BinaryOp) → IsFit o → at_level k o ≡ Some op → suc (below op) ≡ k
level_is k None op f h = absurd (let x : ⊥ = cc in x)
level_is k (Some p) op f h =
    elim (cases_Bool (p.1 == k)) [
      | inl is ↦
          let e = rw is at h in
          let same : p.0 ≡ op = cc in
          let at : p.1 ≡ k = grind (arith, nat_tests) in
          ap (λ o. suc (below o)) (sym same) ∙ f ∙ at
      | inr other ↦ let e = rw other at h in absurd (let x : ⊥ = cc in x)
    ]

-- ---- costs

bracket_small : (v : Bool) → bracket_cost v ≤ 1
bracket_small true = lit≤ tt
bracket_small false = lit≤ tt

bracket_more : (v u : Bool) → (v ≡ false → u ≡ false) → bracket_cost u ≤ bracket_cost v
bracket_more true u h = bracket_small u
bracket_more false u h = rw (h refl) (lit≤ tt)

not_below : (k j : ℕ) → nat_lt k j ≡ false → nat_lt (suc k) j ≡ false
not_below k j h = grind (arith, nat_tests)

-- a looser level asks for no more brackets
pub looser : (k : ℕ) (t : Term) → term_cost (suc k) t ≤ term_cost k t
looser k (lit z) = omega arith
looser k own_rank = omega arith
looser k size = omega arith
looser k (cell p) = omega arith
looser k (element p a) = omega arith
looser k (op1 op a) = omega arith
looser k (op2 op a b) = omega (arith, bracket_more (nat_lt k (suc (below op))) (nat_lt (suc k) (suc (below op))) (not_below k (suc (below op))))

-- and any level asks for one bracket at most
pub one_more : (j k : ℕ) (t : Term) → term_cost j t ≤ 1 + term_cost k t
one_more j k (lit z) = omega arith
one_more j k own_rank = omega arith
one_more j k size = omega arith
one_more j k (cell p) = omega arith
one_more j k (element p a) = omega arith
one_more j k (op1 op a) = omega arith
one_more j k (op2 op a b) = omega (arith, bracket_small (nat_lt j (suc (below op))))

no_bracket : (k : ℕ) → nat_lt (suc k) (suc k) ≡ false
no_bracket k = grind (arith, nat_tests)

pub chain_by_cost : (k : ℕ) (op : BinaryOp) (a b : Term) → below op ≡ k → term_cost (suc k) (op2 op a b) ≡ term_cost (left_level k) a + suc (term_cost k b)
chain_by_cost k op a b e = rw (e, no_bracket k) (omega arith)

-- ---- expressions

pub term_printable : (ds : List Declared) (k : ℕ) (ss : List Spot) (t : Term) → WrittenTerm ds k ss t → AllGood ss → IsPrintableTerm ds t
term_printable ds _ _ _ (number s n h) g = g.0.number n h
term_printable ds _ _ _ (rank s h) g = tt
term_printable ds _ _ _ (ranks s h) g = tt
term_printable ds _ _ _ (name s p h) g = has_name ds Variable false s p g.0 h
term_printable ds _ _ _ (entry s a b ss p t h h1 h2 w) g = (has_name ds Variable true s p g.0 h, term_printable ds 5 ss t w (good_left ss (b ∷ []) g.1.1))
term_printable ds _ _ _ (round a b ss t h1 h2 w) g = term_printable ds 5 ss t w (good_left ss (b ∷ []) g.1)
term_printable ds _ _ _ (signs s ss op t h w) g = term_printable ds 0 ss t w g.1
term_printable ds _ _ _ (higher k ss t w) g = term_printable ds k ss t w g
term_printable ds _ _ _ (joins k l r o op a b h w v) g =
    (term_printable ds (left_level k) l a w (good_left l (o ∷ r) g), term_printable ds k r b v (good_right l (o ∷ r) g).1)

-- no way to write an expression has fewer brackets and operators
pub fewest : FewestBrackets
fewest ds _ _ _ (number s n h) = omega arith
fewest ds _ _ _ (rank s h) = omega arith
fewest ds _ _ _ (ranks s h) = omega arith
fewest ds _ _ _ (name s p h) = omega arith
fewest ds _ _ _ (entry s a b ss p t h h1 h2 w) =
    let counted : price a.token ≡ 1 = ap price h1 in
    omega (arith, cost_append ss (b ∷ []), fewest ds 5 ss t w, counted)
fewest ds _ _ _ (round a b ss t h1 h2 w) =
    let counted : price a.token ≡ 1 = ap price h1 in
    omega (arith, cost_append ss (b ∷ []), fewest ds 5 ss t w, counted, one_more 0 5 t)
fewest ds _ _ _ (signs s ss op t h w) = omega (arith, fewest ds 0 ss t w, sign_costs op s.token h)
fewest ds _ _ _ (higher k ss t w) = omega (arith, fewest ds k ss t w, looser k t)
fewest ds _ _ _ (joins k l r o op a b h w v) =
    let level : suc (below op) ≡ suc k = level_is (suc k) (operator o.token) op (ops_fit o.token) h in
    let under : below op ≡ k = omega (arith, level) in
    let counted : price o.token ≡ 1 = operator_costs (suc k) op o.token h in
    omega (arith, cost_append l (o ∷ r), fewest ds (left_level k) l a w, fewest ds k r b v, counted, chain_by_cost k op a b under)
