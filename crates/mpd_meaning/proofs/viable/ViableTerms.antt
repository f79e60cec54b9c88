-- What stands before a fault in an expression can be completed.
use Rattle.std.proofs.Common.{◌≡◌, ◌≢◌, ℕ, zero, suc, ◌≤◌, ◌==◌, Bool, true, false, cond, List, [], ◌∷◌, ◌++◌, Option, Some, None, is_some, Ok, Err, refl, ap, sym, subst, ◌∙◌, append_assoc, append-nil, arith, pos, inl, inr}
use Rattle.std.proofs.lemmas.Bool.{cases_Bool}
use Rattle.std.proofs.lemmas.Bool.Decides.{nat_tests}
use Rattle.mpd_model.specs.declared.limits.TheConstants.{NESTING_MAX}
use Rattle.mpd_model.specs.declared.expr.BinaryOp.{BinaryOp}
use Rattle.mpd_model.specs.declared.expr.UnaryOp.{UnaryOp}
use Rattle.mpd_model.specs.declared.expr.UnaryOp.TheVariants as u
use Rattle.mpd_model.specs.declared.place.DeclKind.TheVariants.{Variable}
use Rattle.mpd_model.specs.declared.place.Place.{Place}
use Rattle.mpd_model.specs.declared.read_fault.FaultCode.TheVariants.{TooDeep}
use Rattle.mpd_model.specs.declared.slot.Slot.{Slot}
use Rattle.mpd_model.specs.declared.token.Symbol.{Symbol}
use Rattle.mpd_model.specs.declared.token.Symbol.TheVariants as m
use Rattle.mpd_model.specs.declared.token.Token.{Token}
use Rattle.mpd_model.specs.declared.token.Token.TheVariants.{Number, Name, Is, End}
use Rattle.mpd_model.specs.script.Declaration.{Declared}
use Rattle.mpd_model.specs.grammar.Grammar.{declares, operator_at, sign, turns, chain_by, chain, place_of_slot, bracket, index_inside, place_inside, rounds, unary, atom_by, atom, level, expr, expression}
use Rattle.mpd_model.specs.grammar.Input.{Input, Outcome, Parser, token, spelling, advanced, slot_in, sees, pure, refusal, spend, expect, max_budget, ◌>>=◌}
use Rattle.mpd_model.specs.script.Term.{Term, lit, own_rank, size, cell, element, op1, op2}
use Rattle.mpd_model.specs.grammar.Tokens.{Spot}
use Rattle.mpd_model.specs.grammar.Written.{Names, WrittenTerm, number, rank, ranks, name, entry, round, signs, higher, joins, left_level}
use Rattle.mpd_laws.proofs.sound.Sound.{sees_is}
use Rattle.mpd_meaning.proofs.viable.Viable.{One, one, Seq, seq, HasToken, Default, both_default, Reads, Stops, IsViable, HoldsBehind, behind_spot, stops_then, then_viable, stops_as, in_larger, stuck_here, refused_here, nothing_read, next_read, some_token, symbol_default, expect_viable, spend_stops, Found, seek_stops}

-- some expression of a level
abbrev pub AtLevel : List Declared → ℕ → List Spot → Type 0
AtLevel ds k ss = (t : Term) × WrittenTerm ds k ss t

-- what may stand behind an operand: operators of the level, at most so many, each with its operand
pub data Tail (ds : List Declared) (k : ℕ) : ℕ → List Spot → Type 0 where
  tail_end : (n : ℕ) → Tail ds k n []
  tail_on : (n : ℕ) (o : Spot) (op : BinaryOp) (r ts : List Spot) (t : Term) → operator_at (suc k) o.token ≡ Some op → WrittenTerm ds k r t → Tail ds k n ts → Tail ds k (suc n) (o ∷ (r ++ ts))

-- comparisons don't chain
abbrev Tails : List Declared → ℕ → List Spot → Type 0
Tails ds k ss = (n : ℕ) × (k ≡ 2 → n ≤ 1) × Tail ds k n ss

raised : (ds : List Declared) (k : ℕ) (ss : List Spot) (t : Term) → WrittenTerm ds 0 ss t → WrittenTerm ds k ss t
raised ds zero ss t w = w
raised ds (suc k) ss t w = higher k ss t (raised ds k ss t w)

abbrev zero_spot : Spot
zero_spot = record { token = Number (pos 0); text = []; place = 0; line = 0 }

-- a number is an expression
pub some_term : (ds : List Declared) (k : ℕ) → Default (AtLevel ds k)
some_term ds k = record { tokens = zero_spot ∷ []; written = (lit (pos 0), raised ds k (zero_spot ∷ []) (lit (pos 0)) (number zero_spot (pos 0) refl)) }

-- ---- what is written, from its parts

round_in : (ds : List Declared) (ss : List Spot) → Seq (One (HasToken (Is m.RoundOpen))) (Seq (AtLevel ds 5) (One (HasToken (Is m.RoundClose)))) ss → AtLevel ds 0 ss
round_in ds _ (seq _ _ (one a ha) (seq _ _ w (one b hb))) = (w.0, round a b _ w.0 ha hb w.1)

entry_in : (ds : List Declared) (s : Spot) (p : Place) → Names ds Variable s true p → (ss : List Spot)
    → Seq (One (HasToken (Is m.SquareOpen))) (Seq (AtLevel ds 5) (One (HasToken (Is m.SquareClose)))) ss → AtLevel ds 0 (s ∷ ss)
entry_in ds s p n _ (seq _ _ (one a ha) (seq _ _ w (one b hb))) = (element p w.0, entry s a b _ p w.0 n ha hb w.1)

sign_in : (ds : List Declared) (t : Token) (op : UnaryOp) → sign t ≡ Some op → (ss : List Spot) → Seq (One (HasToken t)) (AtLevel ds 0) ss → AtLevel ds 0 ss
sign_in ds t op e _ (seq _ _ (one s h) w) = (op1 op w.0, signs s _ op w.0 (ap sign h ∙ e) w.1)

tail_in : (ds : List Declared) (k n : ℕ) (t : Token) (op : BinaryOp) → operator_at (suc k) t ≡ Some op → (ss : List Spot) → Seq (One (HasToken t)) (Seq (AtLevel ds k) (Tail ds k n)) ss → Tail ds k (suc n) ss
tail_in ds k n t op e _ (seq _ _ (one o h) (seq _ _ w r)) = tail_on n o op _ _ w.0 (ap (operator_at (suc k)) h ∙ e) w.1 r

-- a left side that may stand before an operator of the level
abbrev MayGoOn : List Declared → ℕ → ℕ → List Spot → Term → Type 0
MayGoOn ds k n l a = n ≢ 0 → WrittenTerm ds (left_level k) l a

may_go : (ds : List Declared) (k n : ℕ) (l : List Spot) (a : Term) → (k ≡ 2 → suc n ≤ 1) → WrittenTerm ds (suc k) l a → MayGoOn ds k n l a
may_go ds k n l a few w some =
    elim (cases_Bool (k == 2)) [
      | inl is ↦ let e : k ≡ 2 = grind (arith, nat_tests) in let f = few e in absurd (some (omega arith))
      | inr other ↦ rw other w
    ]

first_left : (ds : List Declared) (k n : ℕ) (l : List Spot) (a : Term) → WrittenTerm ds k l a → MayGoOn ds k n l a
first_left ds k n l a w some =
    elim (cases_Bool (k == 2)) [
      | inl is ↦ let e : k ≡ 2 = grind (arith, nat_tests) in let y : WrittenTerm ds 2 l a = subst (λ j. WrittenTerm ds j l a) e w in rw is y
      | inr other ↦ rw other (higher k l a w)
    ]

tail_joins : (ds : List Declared) (k n : ℕ) (ts : List Spot) → Tail ds k n ts → (k ≡ 2 → n ≤ 1) → (l : List Spot) (a : Term) → WrittenTerm ds (suc k) l a → MayGoOn ds k n l a → AtLevel ds (suc k) (l ++ ts)
tail_joins ds k _ _ (tail_end n) few l a w go = (a, subst (λ ss. WrittenTerm ds (suc k) ss a) (sym (append-nil l)) w)
tail_joins ds k _ _ (tail_on n o op r ts t h w x) few l a v go =
    let whole : WrittenTerm ds (suc k) (l ++ o ∷ r) (op2 op a t) = joins k l r o op a t h (go (λ e. absurd (omega arith))) w in
    subst (AtLevel ds (suc k)) (append_assoc l (o ∷ r) ts)
    (tail_joins ds k n ts x (λ e. let f = few e in omega arith) (l ++ o ∷ r) (op2 op a t) whole (may_go ds k n (l ++ o ∷ r) (op2 op a t) few whole))

level_in : (ds : List Declared) (k : ℕ) (ss : List Spot) → Seq (AtLevel ds k) (Tails ds k) ss → AtLevel ds (suc k) ss
level_in ds k _ (seq us ts w x) = tail_joins ds k x.0 ts x.2 x.1 us w.0 (higher k us w.0 w.1) (first_left ds k x.0 us w.0 w.1)

-- no operator begins a declaration
operator_plain : (k : ℕ) (t : Token) (op : BinaryOp) → operator_at k t ≡ Some op → declares t ≡ None
operator_plain k (Is m.Var) op h = absurd (cc)
operator_plain k (Is m.Req) op h = absurd (cc)
operator_plain k t op h = refl

operator_some : (k : ℕ) (t : Token) (op : BinaryOp) → operator_at k t ≡ Some op → t ≢ End
operator_some k t op h e = let f = subst (λ x. operator_at k x ≡ Some op) e h in absurd (cc)

-- ---- parsers of expressions

module _ (ds : List Declared) (C : List Spot → Type 0) (less : HoldsBehind C) where
  abbrev AllViable : (ℕ → Parser Term) → Type 0
  AllViable p = (k : ℕ) → IsViable ds C (AtLevel ds k) (p k)

  term_here : (k : ℕ) → C [] → Default (AtLevel ds k)
  term_here k c = some_term ds k

  -- ---- operators

  chain_case : (k n : ℕ) (operand : Parser Term) → IsViable ds C (AtLevel ds k) operand → (left : Term) (more : Term → Parser Term) → ((t : Term) → IsViable ds C (Tail ds k n) (more t))
      → (o : Option BinaryOp) (i : Input) → i.decls ≡ ds → operator_at (suc k) (token i) ≡ o → Stops C (Tail ds k (suc n)) i (chain_by more operand left o i)
  chain_case k n operand h left more next None i e is = nothing_read (Tail ds k (suc n)) i (tail_end (suc n))
  chain_case k n operand h left more next (Some op) i e is =
      in_larger C _ (Tail ds k (suc n)) i _ (tail_in ds k n (token i) op is)
      (stops_then ds C (One (HasToken (token i))) (Seq (AtLevel ds k) (Tail ds k n)) i (spend i) _ less
      (spend_stops C (One (HasToken (token i))) i (token i) refl (operator_some (suc k) (token i) op is) (operator_plain (suc k) (token i) op is) (λ s x. one s x) (λ c. some_token (token i))) e
      (λ x. then_viable ds C (AtLevel ds k) (Tail ds k n) operand _ less h (λ right. next (op2 op left right)) (λ us c. record { tokens = []; written = tail_end n }))
      (λ us c. both_default (AtLevel ds k) (Tail ds k n) (some_term ds k) (record { tokens = []; written = tail_end n })))

  chain_viable : (k n : ℕ) (operand : Parser Term) → IsViable ds C (AtLevel ds k) operand → (left : Term) → IsViable ds C (Tail ds k n) (chain operand (suc k) n left)
  unfolding chain
  chain_viable k zero operand h left i e = nothing_read (Tail ds k zero) i (tail_end zero)
  chain_viable k (suc n) operand h left i e = chain_case k n operand h left (chain operand (suc k) n) (λ t. chain_viable k n operand h t) (operator_at (suc k) (token i)) i e refl

  -- ---- operands

  bracket_case : (i : Input) (c : Bool) → sees m.SquareOpen i ≡ c → Stops C (One (HasToken (Is m.SquareOpen))) i (cond c (spend i) (Err (refusal i)))
  bracket_case i true is =
      spend_stops C (One (HasToken (Is m.SquareOpen))) i (Is m.SquareOpen) (sees_is m.SquareOpen i is) (λ x. absurd (cc)) refl (λ s x. one s x) (λ c. symbol_default m.SquareOpen)
  bracket_case i false is = refused_here C (One (HasToken (Is m.SquareOpen))) i (λ c. symbol_default m.SquareOpen)

  bracket_viable : IsViable ds C (One (HasToken (Is m.SquareOpen))) bracket
  unfolding bracket
  bracket_viable i e = bracket_case i (sees m.SquareOpen i) refl

  abbrev Inside : (List Spot → Type 0) → (List Spot → Type 0) → List Spot → Type 0
  Inside Opens Closes = Seq Opens (Seq (AtLevel ds 5) Closes)

  closed_default : (Closes : List Spot → Type 0) → Default Closes → Default (Seq (AtLevel ds 5) Closes)
  closed_default Closes d = both_default (AtLevel ds 5) Closes (some_term ds 5) d

  -- an expression and what closes it
  closed_viable : {A : Type 0} (p : Parser Term) → IsViable ds C (AtLevel ds 5) p → (k : Symbol) → declares (Is k) ≡ None → (f : Term → A)
      → IsViable ds C (Seq (AtLevel ds 5) (One (HasToken (Is k)))) (p >>= λ t. expect k >>= λ x. pure (f t))
  closed_viable p h k bare f =
      then_viable ds C (AtLevel ds 5) (One (HasToken (Is k))) p _ less h
      (λ t i e. stops_as C (One (HasToken (Is k))) (One (HasToken (Is k))) i (expect k i) (λ x. f t) (λ ss w. w) (expect_viable ds C k bare i e))
      (λ us c. symbol_default k)

  index_stops : (p : ℕ → Parser Term) → AllViable p → (s : Spot) (at : Place) (cells : Option ℕ) → ((is_array : Bool) → is_some cells ≡ is_array → Names ds Variable s is_array at)
      → IsViable ds C (λ ss. AtLevel ds 0 (s ∷ ss)) (index_inside p at cells)
  index_stops p h s at None n i e = nothing_read (λ ss. AtLevel ds 0 (s ∷ ss)) i (cell at, name s at (n false refl))
  index_stops p h s at (Some cells) n i e =
      in_larger C (Inside (One (HasToken (Is m.SquareOpen))) (One (HasToken (Is m.SquareClose)))) (λ ss. AtLevel ds 0 (s ∷ ss)) i _ (entry_in ds s at (n true refl))
      (then_viable ds C (One (HasToken (Is m.SquareOpen))) (Seq (AtLevel ds 5) (One (HasToken (Is m.SquareClose)))) bracket _ less bracket_viable
      (λ x. closed_viable (p 5) (h 5) m.SquareClose refl (λ t. element at t)) (λ us c. closed_default _ (symbol_default m.SquareClose)) i e)

  -- a name, and what is behind it
  place_case : (p : ℕ → Parser Term) → AllViable p → (i : Input) → i.decls ≡ ds → token i ≡ Name → (t : Slot) → Found ds Variable (spelling i) t
      → Stops C (AtLevel ds 0) i (index_inside p (place_of_slot t) t.size (advanced i))
  unfolding advanced
  place_case p h i e is t found =
      behind_spot C (λ s. C) (AtLevel ds 0) i (advanced i) Name is (λ x. absurd (cc)) refl refl refl refl _ (λ s ts x c. less (s ∷ []) ts c)
      (λ s a b. index_stops p h s (place_of_slot t) t.size
      (λ is_array size_is. record { token = a; slot = t; declared = ap (slot_in ds) b ∙ found.0; kind = found.1; size = size_is; place = refl })
      (advanced i) e)

  place_stops : (p : ℕ → Parser Term) → AllViable p → (i : Input) → i.decls ≡ ds → token i ≡ Name → Stops C (AtLevel ds 0) i (place_inside p i)
  unfolding place_inside
  place_stops p h i e is = seek_stops ds C (AtLevel ds 0) Variable _ i e (λ t found. place_case p h i e is t found) (term_here 0)

  rounds_stops : (p : ℕ → Parser Term) → AllViable p → (i : Input) → i.decls ≡ ds → token i ≡ Is m.RoundOpen → Stops C (AtLevel ds 0) i (rounds p i)
  unfolding rounds
  rounds_stops p h i e is =
      in_larger C (Inside (One (HasToken (Is m.RoundOpen))) (One (HasToken (Is m.RoundClose)))) (AtLevel ds 0) i _ (round_in ds)
      (stops_then ds C (One (HasToken (Is m.RoundOpen))) (Seq (AtLevel ds 5) (One (HasToken (Is m.RoundClose)))) i (spend i) _ less
      (spend_stops C (One (HasToken (Is m.RoundOpen))) i (Is m.RoundOpen) is (λ x. absurd (cc)) refl (λ s x. one s x) (λ c. symbol_default m.RoundOpen)) e
      (λ x. closed_viable (p 5) (h 5) m.RoundClose refl (λ t. t)) (λ us c. closed_default _ (symbol_default m.RoundClose)))

  unary_stops : (p : ℕ → Parser Term) → AllViable p → (op : UnaryOp) (t : Token) (i : Input) → i.decls ≡ ds → token i ≡ t → t ≢ End → declares t ≡ None → sign t ≡ Some op
      → Stops C (AtLevel ds 0) i (unary p op i)
  unfolding unary
  unary_stops p h op t i e is some bare sign_is =
      in_larger C (Seq (One (HasToken t)) (AtLevel ds 0)) (AtLevel ds 0) i _ (sign_in ds t op sign_is)
      (stops_then ds C (One (HasToken t)) (AtLevel ds 0) i (spend i) _ less (spend_stops C (One (HasToken t)) i t is some bare (λ s x. one s x) (λ c. some_token t)) e
      (λ x j f. stops_as C (AtLevel ds 0) (AtLevel ds 0) j (p 0 j) (λ a. op1 op a) (λ ss w. w) (h 0 j f)) (λ us c. some_term ds 0))

  taken : (i : Input) (t : Token) (a : Term) → token i ≡ t → t ≢ End → declares t ≡ None → ((s : Spot) → s.token ≡ t → WrittenTerm ds 0 (s ∷ []) a) → Reads (AtLevel ds 0) i (advanced i)
  taken i t a is some bare w = next_read (AtLevel ds 0) i t is some bare (λ s h g. (a, w s h))

  atom_case : (p : ℕ → Parser Term) → AllViable p → (t : Token) (i : Input) → i.decls ≡ ds → token i ≡ t → Stops C (AtLevel ds 0) i (atom_by p t i)
  atom_case p h (Number n) i e is = taken i (Number n) (lit n) is (λ x. absurd (cc)) refl (λ s a. number s n a)
  atom_case p h (Is m.Rank) i e is = taken i (Is m.Rank) own_rank is (λ x. absurd (cc)) refl (λ s a. rank s a)
  atom_case p h (Is m.Size) i e is = taken i (Is m.Size) size is (λ x. absurd (cc)) refl (λ s a. ranks s a)
  atom_case p h Name i e is = place_stops p h i e is
  atom_case p h (Is m.RoundOpen) i e is = rounds_stops p h i e is
  atom_case p h (Is m.Minus) i e is = unary_stops p h u.Negate (Is m.Minus) i e is (λ x. absurd (cc)) refl refl
  atom_case p h (Is m.Not) i e is = unary_stops p h u.Not (Is m.Not) i e is (λ x. absurd (cc)) refl refl
  atom_case p h _ i e is = refused_here C (AtLevel ds 0) i (term_here 0)

  atom_viable : (p : ℕ → Parser Term) → AllViable p → IsViable ds C (AtLevel ds 0) (atom p)
  unfolding atom
  atom_viable p h i e = atom_case p h (token i) i e refl

  few_turns : (k : ℕ) (i : Input) → k ≡ 2 → turns (suc k) i ≤ 1
  few_turns k i e = rw e (omega arith)

  level_viable : (p : ℕ → Parser Term) → AllViable p → AllViable (level p)
  unfolding level
  level_viable p h zero i e = atom_viable p h i e
  level_viable p h (suc k) i e =
      in_larger C (Seq (AtLevel ds k) (Tails ds k)) (AtLevel ds (suc k)) i _ (level_in ds k)
      (then_viable ds C (AtLevel ds k) (Tails ds k) (level p k) _ less (level_viable p h k)
      (λ left j f. in_larger C (Tail ds k (turns (suc k) j)) (Tails ds k) j _ (λ ss w. (turns (suc k) j, few_turns k j, w)) (chain_viable k (turns (suc k) j) (level p k) (level_viable p h k) left j f))
      (λ us c. record { tokens = []; written = (0, (λ x. omega arith), tail_end 0) }) i e)

  expr_viable : (n : ℕ) → AllViable (expr n)
  unfolding expr
  expr_viable zero k i e = stuck_here C (AtLevel ds k) TooDeep i (term_here k)
  expr_viable (suc n) k i e = level_viable (expr n) (expr_viable n) k i e

  budgeted : (i : Input) (n : ℕ) (o : Outcome Term) → Stops C (AtLevel ds 5) (record i { budget = n }) o → Stops C (AtLevel ds 5) i o
  budgeted i n (Ok p) h = record { used = h.used; is = h.is; decls = h.decls; end = h.end; plain = h.plain; written = h.written }
  budgeted i n (Err f) h = record { used = h.used; rest = h.rest; is = h.is; at = h.at; plain = h.plain; go = h.go }

  pub expression_viable : IsViable ds C (AtLevel ds 5) expression
  expression_viable i e = budgeted i max_budget _ (expr_viable (suc NESTING_MAX) 5 (record i { budget = max_budget }) e)
