-- The canonical text of an expression is cut into tokens that write it, at the cost that was counted.
use Rattle.std.proofs.Common.{◌≡◌, ℕ, zero, suc, pos, negsuc, ℤ, ◌+◌, ◌<◌, ◌≤◌, ◌==◌, Bool, true, false, nat_lt, List, [], ◌∷◌, ◌++◌, length, refl, subst, ap, sym, ◌∙◌, append_assoc, lit≤, arith, inl, inr}
use Rattle.std.specs.Prelude.{slice_index, codes}
use Rattle.std.proofs.lemmas.Bool.{cases_lt}
use Rattle.std.proofs.lemmas.Bool.Decides.{nat_tests}
use Rattle.std.specs.Fmt.{decimal}
use Rattle.mpd_model.specs.declared.expr.BinaryOp.{BinaryOp}
use Rattle.mpd_model.specs.declared.expr.BinaryOp.TheVariants.{Or, And, Equal, NotEqual, Less, AtMost, Greater, AtLeast, Add, Subtract, Multiply, Divide, Remainder}
use Rattle.mpd_model.specs.declared.expr.UnaryOp.TheVariants.{Negate, Not}
use Rattle.mpd_model.specs.declared.place.DeclKind.{DeclKind}
use Rattle.mpd_model.specs.declared.place.DeclKind.TheVariants.{Variable}
use Rattle.mpd_model.specs.declared.place.Place.{Place}
use Rattle.mpd_model.specs.declared.token.Symbol.TheVariants as m
use Rattle.mpd_model.specs.declared.token.Token.TheVariants.{Number, Name, Is}
use Rattle.mpd_model.specs.grammar.Canonical.{name_text, below, op_text, in_brackets, term_text}
use Rattle.mpd_model.specs.script.Declaration.{Declared}
use Rattle.mpd_model.specs.grammar.Costs.{cost, price}
use Rattle.mpd_model.specs.grammar.Grammar.{operator_at, sign}
use Rattle.mpd_model.specs.grammar.Input.{slot_in}
use Rattle.mpd_model.specs.grammar.Printable.{IsName, HasName, IsPrintableTerm, bracket_cost, term_cost}
use Rattle.mpd_model.specs.script.Term.{Term, lit, own_rank, size, cell, element, op1, op2}
use Rattle.mpd_model.specs.grammar.Tokens.{Spot, tokens_after, front, begins_name, word, sign as byte_sign}
use Rattle.mpd_model.specs.grammar.Written.{Names, WrittenTerm, number, rank, ranks, name, entry, round, signs, higher, joins, left_level}
use Rattle.mpd_laws.proofs.cutting.Cuts.{Ends, Spelled, join, turned, narrowed, Both, both, IsOne, one, IsWord, one_word}
use Rattle.mpd_laws.proofs.sound.Prices.{cost_append}
use Rattle.mpd_laws.proofs.cutting.Runs.{word_spelled, decimal_spelled, decimal_first, first_of_names}
use Rattle.mpd_laws.proofs.cutting.Signs.{square_open, square_close, round_open, round_close, minus, op_token, op_spelled, op_level, op_price}

pub record TermSpots (ds : List Declared) (k : ℕ) (t : Term) (n : ℕ) (ss : List Spot) : Type 0 where
  pub written : WrittenTerm ds k ss t
  pub cost : cost ss ≡ n

raise : (ds : List Declared) (j k : ℕ) (ss : List Spot) (t : Term) → j ≤ k → WrittenTerm ds j ss t → WrittenTerm ds k ss t
raise ds j zero ss t h w = let e : j ≡ 0 = omega arith in subst (λ i. WrittenTerm ds i ss t) e w
raise ds j (suc k) ss t h w =
    elim (cases_lt j (suc k)) [
      | inl less ↦ higher k ss t (raise ds j k ss t (omega arith) w)
      | inr same ↦ let e : j ≡ suc k = omega arith in subst (λ i. WrittenTerm ds i ss t) e w
    ]

raised : (ds : List Declared) (j k : ℕ) (t : Term) (n m : ℕ) (ss : List Spot) → j ≤ k → n ≡ m → TermSpots ds j t n ss → TermSpots ds k t m ss
raised ds j k t n m ss h e x = record { written = raise ds j k ss t h x.written; cost = x.cost ∙ e }

-- ---- atoms

number_spots : (ds : List Declared) (k : ℕ) (z : ℤ) (w : List ℕ) (ss : List Spot) → IsWord (Number z) w ss → TermSpots ds k (lit z) 0 ss
number_spots ds k z w _ (one_word s h e) = record { written = raise ds 0 k (s ∷ []) (lit z) (omega arith) (number s z h); cost = rw h refl }

rank_spots : (ds : List Declared) (k : ℕ) (w : List ℕ) (ss : List Spot) → IsWord (Is m.Rank) w ss → TermSpots ds k own_rank 0 ss
rank_spots ds k w _ (one_word s h e) = record { written = raise ds 0 k (s ∷ []) own_rank (omega arith) (rank s h); cost = rw h refl }

size_spots : (ds : List Declared) (k : ℕ) (w : List ℕ) (ss : List Spot) → IsWord (Is m.Size) w ss → TermSpots ds k size 0 ss
size_spots ds k w _ (one_word s h e) = record { written = raise ds 0 k (s ∷ []) size (omega arith) (ranks s h); cost = rw h refl }

pub names_of : (ds : List Declared) (kind : DeclKind) (is_array : Bool) (p : Place) (s : Spot) → HasName ds kind is_array p → s.token ≡ Name → s.text ≡ name_text ds p → Names ds kind s is_array p
names_of ds kind is_array p s x h e = record { token = h; slot = x.slot; declared = ap (slot_in ds) e ∙ x.declared; kind = x.kind; size = x.size; place = x.place }

cell_spots : (ds : List Declared) (k : ℕ) (p : Place) → HasName ds Variable false p → (ss : List Spot) → IsWord Name (name_text ds p) ss → TermSpots ds k (cell p) 0 ss
cell_spots ds k p x _ (one_word s h e) = record { written = raise ds 0 k (s ∷ []) (cell p) (omega arith) (name s p (names_of ds Variable false p s x h e)); cost = rw h refl }

pub name_spelled : (w : List ℕ) → IsName w → Spelled Ends (IsWord Name w) w
name_spelled w x = subst (λ t. Spelled Ends (IsWord t w) w) x.free (word_spelled w x.begins x.goes_on)

rank_spelled : Spelled Ends (IsWord (Is m.Rank) (codes "rank")) (codes "rank")
unfolding word
rank_spelled = word_spelled (codes "rank") refl refl

size_spelled : Spelled Ends (IsWord (Is m.Size) (codes "size")) (codes "size")
unfolding word
size_spelled = word_spelled (codes "size") refl refl

-- ---- brackets

entry_spots : (ds : List Declared) (k : ℕ) (p : Place) (a : Term) (n : ℕ) → HasName ds Variable true p → (ss : List Spot)
    → Both (Both (Both (IsWord Name (name_text ds p)) (IsOne (Is m.SquareOpen))) (TermSpots ds 5 a n)) (IsOne (Is m.SquareClose)) ss → TermSpots ds k (element p a) (suc n) ss
entry_spots ds k p a n st _ (both _ _ (both _ inside (both _ _ (one_word s h e) (one o h1)) x) (one c h2)) =
    let free : price s.token ≡ 0 = ap price h in
    let counted : price o.token ≡ 1 = ap price h1 in
    let closes : price c.token ≡ 0 = ap price h2 in
    record {
      written = raise ds 0 k (s ∷ o ∷ inside ++ c ∷ []) (element p a) (omega arith) (entry s o c inside p a (names_of ds Variable true p s st h e) h1 h2 x.written);
      cost = omega (arith, cost_append inside (c ∷ []), x.cost, free, counted, closes);
    }

round_spots : (ds : List Declared) (k : ℕ) (t : Term) (n : ℕ) (ss : List Spot)
    → Both (Both (IsOne (Is m.RoundOpen)) (TermSpots ds 5 t n)) (IsOne (Is m.RoundClose)) ss → TermSpots ds k t (1 + n) ss
round_spots ds k t n _ (both _ _ (both _ inside (one o h1) x) (one c h2)) =
    let counted : price o.token ≡ 1 = ap price h1 in
    let closes : price c.token ≡ 0 = ap price h2 in
    record {
      written = raise ds 0 k (o ∷ inside ++ c ∷ []) t (omega arith) (round o c inside t h1 h2 x.written);
      cost = omega (arith, cost_append inside (c ∷ []), x.cost, counted, closes);
    }

-- ---- operators

minus_spots : (ds : List Declared) (k : ℕ) (a : Term) (n : ℕ) (ss : List Spot) → Both (IsOne (Is m.Minus)) (TermSpots ds 0 a n) ss → TermSpots ds k (op1 Negate a) (suc n) ss
minus_spots ds k a n _ (both _ inside (one o h) x) =
    let counted : price o.token ≡ 1 = ap price h in
    record {
      written = raise ds 0 k (o ∷ inside) (op1 Negate a) (omega arith) (signs o inside Negate a (ap sign h) x.written);
      cost = omega (arith, x.cost, counted);
    }

not_spots : (ds : List Declared) (k : ℕ) (a : Term) (n : ℕ) (ss : List Spot) → Both (IsOne (Is m.Not)) (TermSpots ds 0 a n) ss → TermSpots ds k (op1 Not a) (suc n) ss
not_spots ds k a n _ (both _ inside (one o h) x) =
    let counted : price o.token ≡ 1 = ap price h in
    record {
      written = raise ds 0 k (o ∷ inside) (op1 Not a) (omega arith) (signs o inside Not a (ap sign h) x.written);
      cost = omega (arith, x.cost, counted);
    }

-- what doesn't make `!` another sign
abbrev IsNoEqual : List ℕ → Type 0
IsNoEqual z = (slice_index z 0 == 61) ≡ false

not_sign : Spelled IsNoEqual (IsOne (Is m.Not)) (codes "!")
unfolding tokens_after front byte_sign
not_sign = record {
  cut = λ p l z h. record { spots = record { token = Is m.Not; text = codes "!"; place = p; line = l } ∷ []; to_place = p + 1; to_line = l; is = rw h refl; holds = one _ refl };
  plain = refl;
}

chain_by_spots : (ds : List Declared) (op : BinaryOp) (a b : Term) (n m : ℕ) (ss : List Spot)
    → Both (Both (TermSpots ds (left_level (below op)) a n) (IsOne (op_token op))) (TermSpots ds (below op) b m) ss → TermSpots ds (suc (below op)) (op2 op a b) (n + suc m) ss
chain_by_spots ds op a b n m _ (both _ r (both l _ x (one o h)) y) =
    let counted : price o.token ≡ 1 = ap price h ∙ op_price op in
    record {
      written =
          subst (λ ss. WrittenTerm ds (suc (below op)) ss (op2 op a b)) (sym (append_assoc l (o ∷ []) r))
          (joins (below op) l r o op a b (ap (operator_at (suc (below op))) h ∙ op_level op) x.written y.written);
      cost = omega (arith, cost_append (l ++ o ∷ []) r, cost_append l (o ∷ []), x.cost, y.cost, counted);
    }

below_small : (op : BinaryOp) → suc (below op) ≤ 5
below_small Or = lit≤ tt
below_small And = lit≤ tt
below_small Equal = lit≤ tt
below_small NotEqual = lit≤ tt
below_small Less = lit≤ tt
below_small AtMost = lit≤ tt
below_small Greater = lit≤ tt
below_small AtLeast = lit≤ tt
below_small Add = lit≤ tt
below_small Subtract = lit≤ tt
below_small Multiply = lit≤ tt
below_small Divide = lit≤ tt
below_small Remainder = lit≤ tt

bracketed : (ds : List Declared) (k : ℕ) (op : BinaryOp) (t : Term) (n : ℕ) (v : Bool) (text : List ℕ) → (v ≡ false → suc (below op) ≤ k)
    → Spelled Ends (TermSpots ds (suc (below op)) t n) text → Spelled Ends (TermSpots ds k t (bracket_cost v + n)) (in_brackets v text)
bracketed ds k op t n true text h x =
    narrowed (codes "(" ++ text ++ codes ")") (λ z _. tt)
    (turned (codes "(" ++ text ++ codes ")") (round_spots ds k t n)
    (join (codes "(" ++ text) (codes ")")
    (join (codes "(") text round_open (turned text (λ ss y. raised ds (suc (below op)) 5 t n n ss (below_small op) refl y) x) (λ z _. tt))
    round_close (λ z _. refl)))
bracketed ds k op t n false text h x = turned text (λ ss y. raised ds (suc (below op)) k t n (0 + n) ss (h refl) (omega arith) y) x

fits_level : (j k : ℕ) → nat_lt k j ≡ false → j ≤ k
fits_level j k h = grind (arith, nat_tests)

-- ---- the first byte of an expression

first_append : (a b rest : List ℕ) → ((z : List ℕ) → IsNoEqual (a ++ z)) → IsNoEqual ((a ++ b) ++ rest)
first_append a b rest h = rw (append_assoc a b rest) (h (b ++ rest))

name_some : (w : List ℕ) → begins_name (slice_index w 0) ≡ true → 0 < length w
name_some [] h = absurd (let x : ⊥ = cc in x)
name_some (b ∷ w) h = omega arith

name_first : (w rest : List ℕ) → IsName w → IsNoEqual (w ++ rest)
name_first w rest x = first_of_names w rest (name_some w x.begins) x.goes_on

brackets_first : (v : Bool) (text rest : List ℕ) → ((z : List ℕ) → IsNoEqual (text ++ z)) → IsNoEqual (in_brackets v text ++ rest)
brackets_first true text rest h = refl
brackets_first false text rest h = h rest

term_first : (ds : List Declared) (k : ℕ) (t : Term) → IsPrintableTerm ds t → (rest : List ℕ) → IsNoEqual (term_text ds k t ++ rest)
term_first ds k (lit (pos n)) h rest = decimal_first n rest h
term_first ds k (lit (negsuc n)) h rest = absurd h
term_first ds k own_rank h rest = refl
term_first ds k size h rest = refl
term_first ds k (cell p) h rest = name_first (name_text ds p) rest h.named
term_first ds k (element p a) h rest =
    first_append (name_text ds p ++ codes "[" ++ term_text ds 5 a) (codes "]") rest
    (λ y. first_append (name_text ds p ++ codes "[") (term_text ds 5 a) y
    (λ z. first_append (name_text ds p) (codes "[") z (λ u. name_first (name_text ds p) u h.0.named)))
term_first ds k (op1 Negate a) h rest = refl
term_first ds k (op1 Not a) h rest = refl
term_first ds k (op2 op a b) h rest =
    brackets_first (nat_lt k (suc (below op))) (term_text ds (left_level (below op)) a ++ op_text op ++ term_text ds (below op) b) rest
    (λ y. first_append (term_text ds (left_level (below op)) a ++ op_text op) (term_text ds (below op) b) y
    (λ z. first_append (term_text ds (left_level (below op)) a) (op_text op) z (term_first ds (left_level (below op)) a h.0)))

-- ---- all expressions

op_ends : (op : BinaryOp) (z : List ℕ) → Ends (op_text op ++ z)
op_ends Or z = refl
op_ends And z = refl
op_ends Equal z = refl
op_ends NotEqual z = refl
op_ends Less z = refl
op_ends AtMost z = refl
op_ends Greater z = refl
op_ends AtLeast z = refl
op_ends Add z = refl
op_ends Subtract z = refl
op_ends Multiply z = refl
op_ends Divide z = refl
op_ends Remainder z = refl

pub term_spelled : (ds : List Declared) (k : ℕ) (t : Term) → IsPrintableTerm ds t → Spelled Ends (TermSpots ds k t (term_cost k t)) (term_text ds k t)
term_spelled ds k (lit (pos n)) h = turned (decimal n) (number_spots ds k (pos n) (decimal n)) (decimal_spelled n h)
term_spelled ds k (lit (negsuc n)) h = absurd h
term_spelled ds k own_rank h = turned (codes "rank") (rank_spots ds k (codes "rank")) rank_spelled
term_spelled ds k size h = turned (codes "size") (size_spots ds k (codes "size")) size_spelled
term_spelled ds k (cell p) h = turned (name_text ds p) (cell_spots ds k p h) (name_spelled (name_text ds p) h.named)
term_spelled ds k (element p a) h =
    let w : List ℕ = name_text ds p in
    let inside : List ℕ = term_text ds 5 a in
    narrowed (w ++ codes "[" ++ inside ++ codes "]") (λ z _. tt)
    (turned (w ++ codes "[" ++ inside ++ codes "]") (entry_spots ds k p a (term_cost 5 a) h.0)
    (join (w ++ codes "[" ++ inside) (codes "]")
    (join (w ++ codes "[") inside (join w (codes "[") (name_spelled w h.0.named) square_open (λ z _. refl)) (term_spelled ds 5 a h.1) (λ z _. tt))
    square_close (λ z _. refl)))
term_spelled ds k (op1 Negate a) h =
    turned (codes "-" ++ term_text ds 0 a) (minus_spots ds k a (term_cost 0 a)) (join (codes "-") (term_text ds 0 a) minus (term_spelled ds 0 a h) (λ z _. tt))
term_spelled ds k (op1 Not a) h =
    turned (codes "!" ++ term_text ds 0 a) (not_spots ds k a (term_cost 0 a)) (join (codes "!") (term_text ds 0 a) not_sign (term_spelled ds 0 a h) (λ z _. term_first ds 0 a h z))
term_spelled ds k (op2 op a b) h =
    let l : List ℕ = term_text ds (left_level (below op)) a in
    let r : List ℕ = term_text ds (below op) b in
    let n : ℕ = term_cost (left_level (below op)) a in
    let c : ℕ = term_cost (below op) b in
    bracketed ds k op (op2 op a b) (n + suc c) (nat_lt k (suc (below op))) (l ++ op_text op ++ r) (fits_level (suc (below op)) k)
    (turned (l ++ op_text op ++ r) (chain_by_spots ds op a b n c)
    (join (l ++ op_text op) r (join l (op_text op) (term_spelled ds (left_level (below op)) a h.0) (op_spelled op) (λ z _. op_ends op z)) (term_spelled ds (below op) b h.1) (λ z _. tt)))
