-- What is written as an expression, within the budget, is read.
use Rattle.std.proofs.Common.{◌≡◌, ◌≢◌, ℕ, zero, suc, ◌+◌, ◌-◌, ◌<◌, ◌≤◌, ◌==◌, true, false, ℤ, List, [], ◌∷◌, ◌++◌, Bool, Option, Some, None, is_some, Ok, refl, ap, ◌∙◌, append_assoc, arith, inl, inr}
use Rattle.std.proofs.lemmas.Bool.{cases_Bool}
use Rattle.std.proofs.lemmas.Bool.Decides.{nat_tests}
use denote.Enum.Bare.{true_same}
use Rattle.mpd_model.specs.contracts.token.Symbol.{the_type}
use Rattle.mpd_model.specs.declared.expr.BinaryOp.{BinaryOp}
use Rattle.mpd_model.specs.declared.expr.UnaryOp.{UnaryOp}
use Rattle.mpd_model.specs.declared.expr.UnaryOp.TheVariants as u
use Rattle.mpd_model.specs.declared.place.DeclKind.TheVariants.{Variable}
use Rattle.mpd_model.specs.declared.place.Place.{Place}
use Rattle.mpd_model.specs.declared.token.Symbol.{Symbol}
use Rattle.mpd_model.specs.declared.token.Symbol.TheVariants as m
use Rattle.mpd_model.specs.declared.token.Token.{Token}
use Rattle.mpd_model.specs.declared.token.Token.TheVariants.{Number, Name, Is}
use Rattle.mpd_model.specs.grammar.Costs.{price, cost, Stops, at}
use Rattle.mpd_model.specs.grammar.Grammar.{atom_by, atom, bracket, index_inside, place_inside, rounds, sign, unary, chain, level, expr, turns, operator, operator_at, at_level}
use Rattle.mpd_model.specs.grammar.Input.{Input, Outcome, Parser, and_then, token, spelling, advanced, spend, expect, sees, same_symbol, seek}
use Rattle.mpd_model.specs.script.Term.{Term, lit, own_rank, size, cell, element, op1, op2}
use Rattle.mpd_model.specs.grammar.Tokens.{Spot}
use Rattle.mpd_model.specs.grammar.Written.{Names, WrittenTerm, number, rank, ranks, name, entry, round, signs, higher, joins, left_level}
use Rattle.mpd_laws.proofs.sound.Prices.{cost_append, sign_costs, operator_costs}

-- ---- steps on a known list of tokens

-- where the first part reads a thing, the rest goes on behind it
pub bind_to : {A B : Type 0} (o : Outcome A) (f : A → Parser B) (x : A × Input) (y : Outcome B) → o ≡ Ok x → f x.0 x.1 ≡ y → and_then o f ≡ y
bind_to o f x y e h = rw e h

pub expect_at : (wanted : Symbol) (s : Spot) (rest : List Spot) (b : ℕ) (i : Input) → s.token ≡ Is wanted → expect wanted (at (s ∷ rest) b i) ≡ Ok (tt, at rest b i)
unfolding expect sees token advanced same_symbol
expect_at wanted s rest b i e = rw (e, true_same the_type wanted wanted refl) refl

sees_at : (wanted : Symbol) (s : Spot) (rest : List Spot) (b : ℕ) (i : Input) → s.token ≡ Is wanted → sees wanted (at (s ∷ rest) b i) ≡ true
unfolding sees token same_symbol
sees_at wanted s rest b i e = rw e (true_same the_type wanted wanted refl)

spend_at : (s : Spot) (rest : List Spot) (b : ℕ) (i : Input) → spend (at (s ∷ rest) (suc b) i) ≡ Ok (tt, at rest b i)
unfolding spend advanced
spend_at s rest b i =
    let more : (suc b == 0) ≡ false = grind (arith, nat_tests) in
    let less : suc b - 1 ≡ b = omega arith in
    rw (more, less) refl

other_level : (k j : ℕ) (op : BinaryOp) (o : Option (BinaryOp × ℕ)) → j < k → at_level k o ≡ Some op → at_level j o ≡ None
other_level k j op None less h = refl
other_level k j op (Some p) less h =
    elim (cases_Bool (p.1 == k)) [
      | inl is ↦
          let other : (p.1 == j) ≡ false = grind (arith, nat_tests) in
          rw other refl
      | inr other ↦ let h' = rw other at h in absurd (cc)
    ]

-- an operator of a level is none of the levels below
operator_stops : (k : ℕ) (op : BinaryOp) (o : Spot) (rest : List Spot) → operator_at (suc k) o.token ≡ Some op → Stops k (o ∷ rest)
operator_stops k op o rest h j le = other_level (suc k) j op (operator o.token) (omega arith) h

-- ---- atoms

number_read : (p : ℕ → Parser Term) (s : Spot) (n : ℤ) (rest : List Spot) (b : ℕ) (i : Input) → s.token ≡ Number n → atom p (at (s ∷ rest) b i) ≡ Ok (lit n, at rest b i)
unfolding atom token advanced
number_read p s n rest b i e = rw e refl

rank_read : (p : ℕ → Parser Term) (s : Spot) (rest : List Spot) (b : ℕ) (i : Input) → s.token ≡ Is m.Rank → atom p (at (s ∷ rest) b i) ≡ Ok (own_rank, at rest b i)
unfolding atom token advanced
rank_read p s rest b i e = rw e refl

ranks_read : (p : ℕ → Parser Term) (s : Spot) (rest : List Spot) (b : ℕ) (i : Input) → s.token ≡ Is m.Size → atom p (at (s ∷ rest) b i) ≡ Ok (size, at rest b i)
unfolding atom token advanced
ranks_read p s rest b i e = rw e refl

-- the name of a variable is sought
pub seek_at : (s : Spot) (is_array : Bool) (p : Place) (rest : List Spot) (b : ℕ) (i : Input) → (n : Names i.decls Variable s is_array p) → seek Variable (at (s ∷ rest) b i) ≡ Ok (n.slot, at (s ∷ rest) b i)
unfolding seek spelling
seek_at s is_array p rest b i n = rw (n.declared, n.kind) refl

atom_is : (p : ℕ → Parser Term) (s : Spot) (rest : List Spot) (b : ℕ) (i : Input) (tk : Token) → s.token ≡ tk → atom p (at (s ∷ rest) b i) ≡ atom_by p tk (at (s ∷ rest) b i)
unfolding atom token
atom_is p s rest b i tk e = ap (λ u. atom_by p u (at (s ∷ rest) b i)) e

whole_read : (q : ℕ → Parser Term) (p : Place) (o : Option ℕ) (i : Input) → is_some o ≡ false → index_inside q p o i ≡ Ok (cell p, i)
whole_read q p None i h = refl
whole_read q p (Some k) i h = absurd (cc)

place_read : (q : ℕ → Parser Term) (s : Spot) (p : Place) (rest : List Spot) (b : ℕ) (i : Input) → Names i.decls Variable s false p → place_inside q (at (s ∷ rest) b i) ≡ Ok (cell p, at rest b i)
unfolding place_inside advanced
place_read q s p rest b i n =
    bind_to _ _ _ _ (seek_at s false p rest b i n) (ap (λ r. index_inside q r n.slot.size (at rest b i)) n.place ∙ whole_read q p n.slot.size (at rest b i) n.size)

name_read : (q : ℕ → Parser Term) (s : Spot) (p : Place) (rest : List Spot) (b : ℕ) (i : Input) → Names i.decls Variable s false p → atom q (at (s ∷ rest) b i) ≡ Ok (cell p, at rest b i)
name_read q s p rest b i n = atom_is q s rest b i Name n.token ∙ place_read q s p rest b i n

bracket_at : (a : Spot) (rest : List Spot) (b : ℕ) (i : Input) → a.token ≡ Is m.SquareOpen → bracket (at (a ∷ rest) (suc b) i) ≡ Ok (tt, at rest b i)
unfolding bracket
bracket_at a rest b i e = rw (sees_at m.SquareOpen a rest (suc b) i e) (spend_at a rest b i)

index_read : (q : ℕ → Parser Term) (p : Place) (o : Option ℕ) (a z : Spot) (ss rest : List Spot) (t : Term) (b c : ℕ) (i : Input) → is_some o ≡ true
    → a.token ≡ Is m.SquareOpen → z.token ≡ Is m.SquareClose → q 5 (at (ss ++ z ∷ rest) b i) ≡ Ok (t, at (z ∷ rest) c i)
    → index_inside q p o (at (a ∷ ss ++ z ∷ rest) (suc b) i) ≡ Ok (element p t, at rest c i)
index_read q p None a z ss rest t b c i o d e h = absurd (cc)
index_read q p (Some k) a z ss rest t b c i o d e h =
    bind_to _ _ _ _ (bracket_at a (ss ++ z ∷ rest) b i d) (bind_to _ _ _ _ h (bind_to _ _ _ _ (expect_at m.SquareClose z rest c i e) refl))

element_read : (q : ℕ → Parser Term) (s a z : Spot) (ss rest : List Spot) (p : Place) (t : Term) (b c : ℕ) (i : Input) → Names i.decls Variable s true p
    → a.token ≡ Is m.SquareOpen → z.token ≡ Is m.SquareClose → q 5 (at (ss ++ z ∷ rest) b i) ≡ Ok (t, at (z ∷ rest) c i)
    → place_inside q (at (s ∷ a ∷ ss ++ z ∷ rest) (suc b) i) ≡ Ok (element p t, at rest c i)
unfolding place_inside advanced
element_read q s a z ss rest p t b c i n d e h =
    bind_to _ _ _ _ (seek_at s true p (a ∷ ss ++ z ∷ rest) (suc b) i n)
    (ap (λ r. index_inside q r n.slot.size (at (a ∷ ss ++ z ∷ rest) (suc b) i)) n.place ∙ index_read q p n.slot.size a z ss rest t b c i n.size d e h)

entry_read : (q : ℕ → Parser Term) (s a z : Spot) (ss rest : List Spot) (p : Place) (t : Term) (b c : ℕ) (i : Input) → Names i.decls Variable s true p
    → a.token ≡ Is m.SquareOpen → z.token ≡ Is m.SquareClose → q 5 (at (ss ++ z ∷ rest) b i) ≡ Ok (t, at (z ∷ rest) c i)
    → atom q (at (s ∷ a ∷ ss ++ z ∷ rest) (suc b) i) ≡ Ok (element p t, at rest c i)
entry_read q s a z ss rest p t b c i n d e h = atom_is q s (a ∷ ss ++ z ∷ rest) (suc b) i Name n.token ∙ element_read q s a z ss rest p t b c i n d e h

sign_is : (q : ℕ → Parser Term) (op : UnaryOp) (tk : Token) → sign tk ≡ Some op → atom_by q tk ≡ unary q op
sign_is q op (Is m.Minus) h = let e : u.Negate ≡ op = cc in ap (unary q) e
sign_is q op (Is m.Not) h = let e : u.Not ≡ op = cc in ap (unary q) e
sign_is q op _ h = absurd (cc)

operand_read : (q : ℕ → Parser Term) (op : UnaryOp) (s : Spot) (ss rest : List Spot) (t : Term) (b c : ℕ) (i : Input) → q 0 (at (ss ++ rest) b i) ≡ Ok (t, at rest c i)
    → unary q op (at (s ∷ ss ++ rest) (suc b) i) ≡ Ok (op1 op t, at rest c i)
unfolding unary
operand_read q op s ss rest t b c i h = bind_to _ _ _ _ (spend_at s (ss ++ rest) b i) (bind_to _ _ _ _ h refl)

unary_read : (q : ℕ → Parser Term) (op : UnaryOp) (s : Spot) (ss rest : List Spot) (t : Term) (b c : ℕ) (i : Input) → sign s.token ≡ Some op
    → q 0 (at (ss ++ rest) b i) ≡ Ok (t, at rest c i) → atom q (at (s ∷ ss ++ rest) (suc b) i) ≡ Ok (op1 op t, at rest c i)
unary_read q op s ss rest t b c i e h =
    atom_is q s (ss ++ rest) (suc b) i s.token refl ∙ ap (λ f. f (at (s ∷ ss ++ rest) (suc b) i)) (sign_is q op s.token e) ∙ operand_read q op s ss rest t b c i h

rounds_read : (p : ℕ → Parser Term) (a z : Spot) (ss rest : List Spot) (t : Term) (b c : ℕ) (i : Input) → z.token ≡ Is m.RoundClose
    → p 5 (at (ss ++ z ∷ rest) b i) ≡ Ok (t, at (z ∷ rest) c i) → rounds p (at (a ∷ ss ++ z ∷ rest) (suc b) i) ≡ Ok (t, at rest c i)
unfolding rounds
rounds_read p a z ss rest t b c i e h =
    bind_to _ _ _ _ (spend_at a (ss ++ z ∷ rest) b i) (bind_to _ _ _ _ h (bind_to _ _ _ _ (expect_at m.RoundClose z rest c i e) refl))

round_read : (p : ℕ → Parser Term) (a z : Spot) (ss rest : List Spot) (t : Term) (b c : ℕ) (i : Input) → a.token ≡ Is m.RoundOpen → z.token ≡ Is m.RoundClose
    → p 5 (at (ss ++ z ∷ rest) b i) ≡ Ok (t, at (z ∷ rest) c i) → atom p (at (a ∷ ss ++ z ∷ rest) (suc b) i) ≡ Ok (t, at rest c i)
round_read p a z ss rest t b c i d e h = atom_is p a (ss ++ z ∷ rest) (suc b) i (Is m.RoundOpen) d ∙ rounds_read p a z ss rest t b c i e h

-- ---- levels

-- after what is written at a level comes a chain on its term, with turns enough
pub record Chained (p : ℕ → Parser Term) (k : ℕ) (t : Term) (i j : Input) : Type 0 where
  pub turns : ℕ
  pub is : level p (suc k) i ≡ chain (level p k) (suc k) turns t j
  pub enough : k ≢ 2 → j.budget < turns

-- what is written at a level is read, if what follows doesn't go on with an operator up to that level
abbrev Reads : Input → ℕ → List Spot → Term → Type 0
Reads i k ss t = (n b c : ℕ) (rest : List Spot) → b ≡ c + cost ss → b ≤ n → Stops k rest → level (expr n) k (at (ss ++ rest) b i) ≡ Ok (t, at rest c i)

abbrev Chains : Input → ℕ → List Spot → Term → Type 0
Chains i zero ss t = Unit {0}
Chains i (suc k) ss t = (n b c : ℕ) (rest : List Spot) → b ≡ c + cost ss → b ≤ n → Stops k rest → Chained (expr n) k t (at (ss ++ rest) b i) (at rest c i)

stopped : (p : Parser Term) (k n : ℕ) (t : Term) (i : Input) → operator_at k (token i) ≡ None → chain p k n t i ≡ Ok (t, i)
unfolding chain
stopped p k zero t i e = refl
stopped p k (suc n) t i e = rw e refl

-- a chain ends where no operator of the level follows
chain_ends : (i : Input) (k : ℕ) (ss : List Spot) (t : Term) → Chains i (suc k) ss t → Reads i (suc k) ss t
unfolding token
chain_ends i k ss t h n b c rest e le s =
    let x = h n b c rest e le (λ j l. s j (omega arith)) in
    x.is ∙ stopped (level (expr n) k) (suc k) x.turns t (at rest c i) (s (suc k) (omega arith))

first_turns : (k : ℕ) (i : Input) → k ≢ 2 → i.budget < turns (suc k) i
first_turns k i h =
    let other : (suc k == 3) ≡ false = grind (arith, nat_tests) in
    rw other (omega arith)

some_turns : (k : ℕ) (i : Input) → 0 < turns (suc k) i
some_turns k i =
    elim (cases_Bool (suc k == 3)) [
      | inl is ↦ rw is (omega arith)
      | inr other ↦ rw other (omega arith)
    ]

chain_begins : (i : Input) (k : ℕ) (ss : List Spot) (t : Term) → Reads i k ss t → Chains i (suc k) ss t
unfolding level
chain_begins i k ss t h n b c rest e le s = record {
  turns = turns (suc k) (at rest c i);
  is = bind_to (level (expr n) k (at (ss ++ rest) b i)) _ (t, at rest c i) _ (h n b c rest e le s) refl;
  enough = first_turns k (at rest c i);
}

-- ---- by what is written

abbrev Both : Input → ℕ → List Spot → Term → Type 0
Both i k ss t = Reads i k ss t × Chains i k ss t

one_read : (i : Input) (s : Spot) (t : Term) → price s.token ≡ 0 → ((n b : ℕ) (rest : List Spot) → atom (expr n) (at (s ∷ rest) b i) ≡ Ok (t, at rest b i)) → Reads i 0 (s ∷ []) t
unfolding level
one_read i s t z h n b c rest e le st = let eb : b ≡ c = omega arith in rw eb (h n c rest)

pub symbol_stops : (k : ℕ) (s : Spot) (rest : List Spot) (tk : Token) → s.token ≡ tk → operator tk ≡ None → Stops k (s ∷ rest)
symbol_stops k s rest tk e h j le = ap (λ u. at_level j (operator u)) e ∙ ap (at_level j) h

round_from : (n n' bud b' c : ℕ) (a z : Spot) (ss rest : List Spot) (t : Term) (i : Input) → n ≡ suc n' → bud ≡ suc b' → a.token ≡ Is m.RoundOpen → z.token ≡ Is m.RoundClose
    → level (expr n') 5 (at (ss ++ z ∷ rest) b' i) ≡ Ok (t, at (z ∷ rest) c i) → level (expr n) 0 (at ((a ∷ ss ++ z ∷ []) ++ rest) bud i) ≡ Ok (t, at rest c i)
unfolding level expr
round_from n n' bud b' c a z ss rest t i en eb ea ez h =
    let same : (ss ++ z ∷ []) ++ rest ≡ ss ++ z ∷ rest = append_assoc ss (z ∷ []) rest in
    rw (en, eb, same) (round_read (expr (suc n')) a z ss rest t b' c i ea ez h)

round_reads : (i : Input) (a z : Spot) (ss : List Spot) (t : Term) → a.token ≡ Is m.RoundOpen → z.token ≡ Is m.RoundClose → Reads i 5 ss t → Reads i 0 (a ∷ ss ++ z ∷ []) t
round_reads i a z ss t ea ez h n b c rest e le st =
    let one : price a.token ≡ 1 = ap price ea in
    let none : price z.token ≡ 0 = ap price ez in
    let all : cost (ss ++ z ∷ []) ≡ cost ss + cost (z ∷ []) = cost_append ss (z ∷ []) in
    let en : n ≡ suc (n - 1) = omega arith in
    let eb : b ≡ suc (c + cost ss) = omega arith in
    let le' : c + cost ss ≤ n - 1 = omega arith in
    round_from n (n - 1) b (c + cost ss) c a z ss rest t i en eb ea ez (h (n - 1) (c + cost ss) c (z ∷ rest) refl le' (symbol_stops 5 z rest (Is m.RoundClose) ez refl))

entry_from : (n n' bud b' c : ℕ) (s a z : Spot) (ss rest : List Spot) (p : Place) (t : Term) (i : Input) → n ≡ suc n' → bud ≡ suc b' → Names i.decls Variable s true p
    → a.token ≡ Is m.SquareOpen → z.token ≡ Is m.SquareClose → level (expr n') 5 (at (ss ++ z ∷ rest) b' i) ≡ Ok (t, at (z ∷ rest) c i)
    → level (expr n) 0 (at ((s ∷ a ∷ ss ++ z ∷ []) ++ rest) bud i) ≡ Ok (element p t, at rest c i)
unfolding level expr
entry_from n n' bud b' c s a z ss rest p t i en eb names ea ez h =
    let same : (ss ++ z ∷ []) ++ rest ≡ ss ++ z ∷ rest = append_assoc ss (z ∷ []) rest in
    rw (en, eb, same) (entry_read (expr (suc n')) s a z ss rest p t b' c i names ea ez h)

entry_reads : (i : Input) (s a z : Spot) (ss : List Spot) (p : Place) (t : Term) → Names i.decls Variable s true p → a.token ≡ Is m.SquareOpen → z.token ≡ Is m.SquareClose
    → Reads i 5 ss t → Reads i 0 (s ∷ a ∷ ss ++ z ∷ []) (element p t)
entry_reads i s a z ss p t names ea ez h n b c rest e le st =
    let first : price s.token ≡ 0 = ap price names.token in
    let one : price a.token ≡ 1 = ap price ea in
    let none : price z.token ≡ 0 = ap price ez in
    let all : cost (ss ++ z ∷ []) ≡ cost ss + cost (z ∷ []) = cost_append ss (z ∷ []) in
    let en : n ≡ suc (n - 1) = omega arith in
    let eb : b ≡ suc (c + cost ss) = omega arith in
    let le' : c + cost ss ≤ n - 1 = omega arith in
    entry_from n (n - 1) b (c + cost ss) c s a z ss rest p t i en eb names ea ez (h (n - 1) (c + cost ss) c (z ∷ rest) refl le' (symbol_stops 5 z rest (Is m.SquareClose) ez refl))

unary_from : (n n' bud b' c : ℕ) (s : Spot) (ss rest : List Spot) (op : UnaryOp) (t : Term) (i : Input) → n ≡ suc n' → bud ≡ suc b' → sign s.token ≡ Some op
    → level (expr n') 0 (at (ss ++ rest) b' i) ≡ Ok (t, at rest c i) → level (expr n) 0 (at ((s ∷ ss) ++ rest) bud i) ≡ Ok (op1 op t, at rest c i)
unfolding level expr
unary_from n n' bud b' c s ss rest op t i en eb es h = rw (en, eb) (unary_read (expr (suc n')) op s ss rest t b' c i es h)

unary_reads : (i : Input) (s : Spot) (ss : List Spot) (op : UnaryOp) (t : Term) → sign s.token ≡ Some op → Reads i 0 ss t → Reads i 0 (s ∷ ss) (op1 op t)
unary_reads i s ss op t es h n b c rest e le st =
    let one : price s.token ≡ 1 = sign_costs op s.token es in
    let en : n ≡ suc (n - 1) = omega arith in
    let eb : b ≡ suc (c + cost ss) = omega arith in
    let le' : c + cost ss ≤ n - 1 = omega arith in
    unary_from n (n - 1) b (c + cost ss) c s ss rest op t i en eb es (h (n - 1) (c + cost ss) c rest refl le' st)

-- a left operand, with a turn left for the operator behind it
record Left (p : ℕ → Parser Term) (k : ℕ) (t : Term) (i j : Input) : Type 0 where
  chained : Chained p k t i j
  some : 0 < chained.turns

left_begins : (i : Input) (k : ℕ) (ss : List Spot) (t : Term) → Reads i k ss t → (n b c : ℕ) (rest : List Spot) → b ≡ c + cost ss → b ≤ n → Stops k rest
    → Left (expr n) k t (at (ss ++ rest) b i) (at rest c i)
unfolding chain_begins
left_begins i k ss t h n b c rest e le s = record { chained = chain_begins i k ss t h n b c rest e le s; some = some_turns k (at rest c i) }

left_goes_on : (k n : ℕ) (t : Term) (i j : Input) → k ≢ 2 → Chained (expr n) k t i j → Left (expr n) k t i j
left_goes_on k n t i j other x = record { chained = x; some = let e = x.enough other in omega arith }

left_chains : (i : Input) (k : ℕ) (ss : List Spot) (t : Term) → Both i (left_level k) ss t → (n b c : ℕ) (rest : List Spot) → b ≡ c + cost ss → b ≤ n → Stops k rest
    → Left (expr n) k t (at (ss ++ rest) b i) (at rest c i)
left_chains i k ss t h n b c rest e le s =
    elim (cases_Bool (k == 2)) [
      | inl is ↦
          let two : k ≡ 2 = grind (arith, nat_tests) in
          let low : Both i 2 ss t = rw is at h in
          let reads : Reads i k ss t = rw two low.0 in
          left_begins i k ss t reads n b c rest e le s
      | inr other ↦
          let ne : k ≢ 2 = grind (arith, nat_tests) in
          let same : Both i (suc k) ss t = rw other at h in
          left_goes_on k n t (at (ss ++ rest) b i) (at rest c i) ne (same.1 n b c rest e le s)
    ]

joins_step : (p : ℕ → Parser Term) (k n m : ℕ) (op : BinaryOp) (a b : Term) (o : Spot) (r rest : List Spot) (d c : ℕ) (i : Input) → n ≡ suc m → operator_at (suc k) o.token ≡ Some op
    → level p k (at (r ++ rest) d i) ≡ Ok (b, at rest c i)
    → chain (level p k) (suc k) n a (at (o ∷ r ++ rest) (suc d) i) ≡ chain (level p k) (suc k) m (op2 op a b) (at rest c i)
unfolding chain token
joins_step p k n m op a b o r rest d c i en e h = rw (en, e) (bind_to _ _ _ _ (spend_at o (r ++ rest) d i) (bind_to _ _ _ _ h refl))

joins_chains : (i : Input) (k : ℕ) (l r : List Spot) (o : Spot) (op : BinaryOp) (a b : Term) → operator_at (suc k) o.token ≡ Some op
    → Both i (left_level k) l a → Reads i k r b → Chains i (suc k) (l ++ o ∷ r) (op2 op a b)
joins_chains i k l r o op a b eo hl hr n bud c rest e le s =
    let one : price o.token ≡ 1 = operator_costs (suc k) op o.token eo in
    let all : cost (l ++ o ∷ r) ≡ cost l + cost (o ∷ r) = cost_append l (o ∷ r) in
    let d : bud ≡ suc (c + cost r) + cost l = omega arith in
    let le' : c + cost r ≤ n = omega arith in
    let x = left_chains i k l a hl n bud (suc (c + cost r)) (o ∷ r ++ rest) d le (operator_stops k op o (r ++ rest) eo) in
    let some : x.chained.turns ≡ suc (x.chained.turns - 1) = let y = x.some in omega arith in
    let same : l ++ o ∷ r ++ rest ≡ l ++ (o ∷ r ++ rest) = append_assoc l (o ∷ r) rest in
    record {
      turns = x.chained.turns - 1;
      is = ap (λ ts. level (expr n) (suc k) (at ts bud i)) same ∙ x.chained.is
          ∙ joins_step (expr n) k x.chained.turns (x.chained.turns - 1) op a b o r rest (c + cost r) c i some eo (hr n (c + cost r) c rest refl le' s);
      enough = λ ne. let f = x.chained.enough ne in omega arith;
    }

written_read : (i : Input) (k : ℕ) (ss : List Spot) (t : Term) → WrittenTerm i.decls k ss t → Both i k ss t
written_read i _ _ _ (number s n e) = (one_read i s (lit n) (ap price e) (λ n' b rest. number_read (expr n') s n rest b i e), tt)
written_read i _ _ _ (rank s e) = (one_read i s own_rank (ap price e) (λ n' b rest. rank_read (expr n') s rest b i e), tt)
written_read i _ _ _ (ranks s e) = (one_read i s size (ap price e) (λ n' b rest. ranks_read (expr n') s rest b i e), tt)
written_read i _ _ _ (name s p e) = (one_read i s (cell p) (ap price e.token) (λ n' b rest. name_read (expr n') s p rest b i e), tt)
written_read i _ _ _ (entry s a z ss p t n ea ez w) = (entry_reads i s a z ss p t n ea ez (written_read i 5 ss t w).0, tt)
written_read i _ _ _ (signs s ss op t e w) = (unary_reads i s ss op t e (written_read i 0 ss t w).0, tt)
written_read i _ _ _ (round a z ss t ea ez w) = (round_reads i a z ss t ea ez (written_read i 5 ss t w).0, tt)
written_read i _ _ _ (higher k ss t w) = let c = chain_begins i k ss t (written_read i k ss t w).0 in (chain_ends i k ss t c, c)
written_read i _ _ _ (joins k l r o op a b e x y) =
    let c = joins_chains i k l r o op a b e (written_read i (left_level k) l a x) (written_read i k r b y).0 in
    (chain_ends i k (l ++ o ∷ r) (op2 op a b) c, c)

pub expr_complete : (depth k : ℕ) (ss rest : List Spot) (t : Term) (i : Input) → WrittenTerm i.decls k ss t → i.tokens ≡ ss ++ rest → Stops k rest → cost ss ≤ i.budget → i.budget < depth
    → expr depth k i ≡ Ok (t, at rest (i.budget - cost ss) i)
unfolding expr
expr_complete zero k ss rest t i w e s le less = absurd (omega arith)
expr_complete (suc n) k ss rest t i w e s le less =
    ap (λ ts. level (expr n) k (at ts i.budget i)) e ∙ (written_read i k ss t w).0 n i.budget (i.budget - cost ss) rest (omega arith) (omega arith) s
