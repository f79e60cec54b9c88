-- What the grammar's functions read as an expression is written so.
use Rattle.std.proofs.Common.{◌≡◌, ◌≢◌, ℕ, zero, suc, ◌-◌, ◌≤◌, ◌==◌, Bool, true, false, cond, List, [], ◌∷◌, ◌++◌, Option, Some, None, is_some, Ok, Err, refl, ap, sym, ◌∙◌, append_assoc, arith, rules, inl, inr}
use Rattle.std.proofs.lemmas.Bool.{cases_Bool}
use Rattle.std.proofs.lemmas.Bool.Decides.{nat_tests}
use denote.Enum.Bare.{same_true}
use Rattle.mpd_model.specs.contracts.token.Symbol.{the_type}
use Rattle.mpd_model.specs.declared.expr.BinaryOp.{BinaryOp}
use Rattle.mpd_model.specs.declared.expr.UnaryOp.{UnaryOp}
use Rattle.mpd_model.specs.declared.expr.UnaryOp.TheVariants as u
use Rattle.mpd_model.specs.declared.place.DeclKind.{DeclKind}
use Rattle.mpd_model.specs.declared.place.DeclKind.TheVariants.{Variable, Handle}
use Rattle.mpd_model.specs.declared.place.Place.{Place}
use Rattle.mpd_model.specs.declared.read_fault.FaultCode.TheVariants.{UnknownName}
use Rattle.mpd_model.specs.declared.read_fault.ReadFault.{ReadFault}
use Rattle.mpd_model.specs.declared.slot.Slot.{Slot}
use Rattle.mpd_model.specs.declared.token.Symbol.{Symbol}
use Rattle.mpd_model.specs.declared.token.Symbol.TheVariants as m
use Rattle.mpd_model.specs.declared.token.Token.{Token}
use Rattle.mpd_model.specs.declared.token.Token.TheVariants.{Number, Name, Is, Bad, End}
use Rattle.mpd_model.specs.grammar.Grammar.{atom_by, atom, bracket, index_inside, place_inside, place_of_slot, rounds, unary, sign, chain, chain_by, level, expr, turns, operator_at}
use Rattle.mpd_model.specs.script.Declaration.{Declared}
use Rattle.mpd_model.specs.grammar.Input.{Input, Outcome, Parser, and_then, token, token_of, text_of, spelling, advanced, behind, spend, expect, sees, is_symbol, same_symbol, same_kind, sought, seek, slot_in, pure, fail, refuse}
use Rattle.mpd_model.specs.script.Term.{Term, lit, own_rank, size, cell, element, op1, op2}
use Rattle.mpd_model.specs.grammar.Tokens.{Spot}
use Rattle.mpd_model.specs.grammar.Written.{Names, WrittenTerm, number, rank, ranks, name, entry, round, signs, higher, joins, TermBetween, IsSound, left_level}

-- ---- what a success of a step says

pub bind_ok : {A B : Type 0} (o : Outcome A) (f : A → Parser B) (y : B × Input) → and_then o f ≡ Ok y → (x : A × Input) × (o ≡ Ok x) × (f x.0 x.1 ≡ Ok y)
bind_ok (Ok p) f y h = (p, refl, h)
bind_ok (Err e) f y h = absurd (cc)

abbrev pub ok_of : {A : Type 0} → A × Input → Outcome A
ok_of x = Ok x

pub ok_parts : {A : Type 0} (x y : A × Input) → ok_of x ≡ ok_of y → (x.0 ≡ y.0) × (x.1 ≡ y.1)
ok_parts x y h = let e : x ≡ y = cc in (ap (λ p. p.0) e, ap (λ p. p.1) e)

pub guard_ok : {A : Type 0} (b : Bool) (e : ReadFault) (x y : A × Input) → cond b (Err e) (Ok x) ≡ Ok y → (b ≡ false) × (x ≡ y)
guard_ok true e x y h = absurd (cc)
guard_ok false e x y h = (refl, cc)

pub test_ok : {A : Type 0} (b : Bool) (e : ReadFault) (x y : A × Input) → cond b (Ok x) (Err e) ≡ Ok y → (b ≡ true) × (x ≡ y)
test_ok true e x y h = (refl, cc)
test_ok false e x y h = absurd (cc)

pub first_spot : (ss : List Spot) → token_of ss ≢ End → (s : Spot) × (ss ≡ s ∷ behind ss) × (s.token ≡ token_of ss) × (s.text ≡ text_of ss)
first_spot [] h = absurd (h refl)
first_spot (s ∷ ss) h = (s, refl, refl, refl)

-- what holds of what was read, under its other name
pub carried : {A : Type 0} (P : A → Input → Type 0) (a b : A) (k j : Input) → a ≡ b → k ≡ j → P a k → P b j
carried P a b k j e f x = rw (← e, ← f) x

-- ---- the tokens between two states of the input, where nothing else has changed

pub record Moves (used : List Spot) (i j : Input) : Type 0 where
  pub is : i.tokens ≡ used ++ j.tokens
  pub version : j.version ≡ i.version
  pub decls : j.decls ≡ i.decls
  pub lines : j.lines ≡ i.lines

pub no_move : (i j : Input) → i ≡ j → Moves [] i j
no_move i j e = record { is = ap (λ k. k.tokens) e; version = sym (ap (λ k. k.version) e); decls = sym (ap (λ k. k.decls) e); lines = sym (ap (λ k. k.lines) e) }

pub then_moves : (a b : List Spot) (i j k : Input) → Moves a i j → Moves b j k → Moves (a ++ b) i k
then_moves a b i j k x y = record {
  is = x.is ∙ ap (λ r. a ++ r) y.is ∙ sym (append_assoc a b k.tokens);
  version = y.version ∙ x.version;
  decls = y.decls ∙ x.decls;
  lines = y.lines ∙ x.lines;
}

-- one token on, by its spot
pub record Step (i j : Input) : Type 0 where
  pub spot : Spot
  pub moves : Moves (spot ∷ []) i j
  pub token : spot.token ≡ token i
  pub text : spot.text ≡ spelling i

pub step : (i j : Input) → token i ≢ End → j.tokens ≡ behind i.tokens → j.version ≡ i.version → j.decls ≡ i.decls → j.lines ≡ i.lines → Step i j
unfolding token spelling
step i j some a v b c =
    let f = first_spot i.tokens some in
    record { spot = f.0; moves = record { is = f.1 ∙ ap (λ r. f.0 ∷ r) (sym a); version = v; decls = b; lines = c }; token = f.2; text = f.3 }

pub next_step : (i j : Input) → token i ≢ End → j ≡ advanced i → Step i j
unfolding advanced
next_step i j some e = step i j some (ap (λ k. k.tokens) e) (ap (λ k. k.version) e) (ap (λ k. k.decls) e) (ap (λ k. k.lines) e)

pub spend_ok : (i : Input) (y : Unit {0} × Input) → spend i ≡ Ok y → (y.1.tokens ≡ behind i.tokens) × (y.1.version ≡ i.version) × (y.1.decls ≡ i.decls) × (y.1.lines ≡ i.lines)
unfolding spend advanced
spend_ok i y h =
    let e = guard_ok (i.budget == 0) _ _ y h in
    (sym (ap (λ p. p.1.tokens) e.1), sym (ap (λ p. p.1.version) e.1), sym (ap (λ p. p.1.decls) e.1), sym (ap (λ p. p.1.lines) e.1))

-- a bracket or an operator takes one from the budget
pub spend_takes : (i : Input) (y : Unit {0} × Input) → spend i ≡ Ok y → i.budget ≡ suc y.1.budget
unfolding spend advanced
spend_takes i y h =
    let e = guard_ok (i.budget == 0) _ _ y h in
    let left : y.1.budget ≡ i.budget - 1 = sym (ap (λ p. p.1.budget) e.1) in
    let some : i.budget ≢ 0 = λ z. grind (arith, nat_tests) in
    omega (arith, left, some)

pub spend_step : (i : Input) (y : Unit {0} × Input) → token i ≢ End → spend i ≡ Ok y → Step i y.1
spend_step i y some h = let s = spend_ok i y h in step i y.1 some s.0 s.1 s.2 s.3

symbol_is : (wanted : Symbol) (t : Token) → is_symbol wanted t ≡ true → t ≡ Is wanted
unfolding same_symbol
symbol_is wanted (Is k) h = ap Is (same_true the_type (search rules) k wanted h)
symbol_is wanted (Number n) h = absurd (cc)
symbol_is wanted Name h = absurd (cc)
symbol_is wanted Bad h = absurd (cc)
symbol_is wanted End h = absurd (cc)

pub sees_is : (wanted : Symbol) (i : Input) → sees wanted i ≡ true → token i ≡ Is wanted
unfolding sees
sees_is wanted i h = symbol_is wanted (token i) h

pub expect_ok : (wanted : Symbol) (i : Input) (y : Unit {0} × Input) → expect wanted i ≡ Ok y → (token i ≡ Is wanted) × (y.1 ≡ advanced i)
unfolding expect
expect_ok wanted i y h =
    let e = test_ok (sees wanted i) _ _ y h in
    (sees_is wanted i e.0, sym (ap (λ p. p.1) e.1))

-- a symbol that was expected is there
pub expect_step : (wanted : Symbol) (i : Input) (y : Unit {0} × Input) → expect wanted i ≡ Ok y → (s : Step i y.1) × (s.spot.token ≡ Is wanted)
expect_step wanted i y h =
    let e = expect_ok wanted i y h in
    let s = next_step i y.1 (λ x. absurd (cc)) e.1 in
    (s, s.token ∙ e.0)

-- ---- names

sought_case : (kind k : DeclKind) (s : Slot) (i : Input) (y : Slot × Input) → s.kind ≡ k → cond (same_kind kind k) (pure s) (fail UnknownName) i ≡ Ok y
    → (s ≡ y.0) × (s.kind ≡ kind) × (i ≡ y.1)
sought_case Variable Variable s i y e h = let o = ok_parts (s, i) y h in (o.0, e, o.1)
sought_case Handle Handle s i y e h = let o = ok_parts (s, i) y h in (o.0, e, o.1)
sought_case Variable Handle s i y e h = absurd (cc)
sought_case Handle Variable s i y e h = absurd (cc)

sought_ok : (kind : DeclKind) (o : Option Slot) (i : Input) (y : Slot × Input) → sought kind o i ≡ Ok y → (o ≡ Some y.0) × (y.0.kind ≡ kind) × (i ≡ y.1)
sought_ok kind None i y h = absurd (cc)
sought_ok kind (Some s) i y h = let c = sought_case kind s.kind s i y refl h in (ap Some c.0, sym (ap (λ t. t.kind) c.0) ∙ c.1, c.2)

pub seek_ok : (kind : DeclKind) (i : Input) (y : Slot × Input) → seek kind i ≡ Ok y → (slot_in i.decls (spelling i) ≡ Some y.0) × (y.0.kind ≡ kind) × (i ≡ y.1)
unfolding seek
seek_ok kind i y h = sought_ok kind (slot_in i.decls (spelling i)) i y h

-- the token is the name that was declared as the slot, which is of the kind
abbrev pub NamedBy : List Declared → DeclKind → Slot → Spot → Type 0
NamedBy ds kind slot s = (is_array : Bool) → is_some slot.size ≡ is_array → Names ds kind s is_array (place_of_slot slot)

-- the name of something of the kind
pub name_step : (kind : DeclKind) (i : Input) (y : Slot × Input) → token i ≡ Name → seek kind i ≡ Ok y → (s : Step i (advanced y.1)) × NamedBy i.decls kind y.0 s.spot
name_step kind i y e h =
    let k = seek_ok kind i y h in
    let s = next_step i (advanced y.1) (λ x. absurd (cc)) (ap advanced (sym k.2)) in
    (s, λ is_array is. record { token = s.token ∙ e; slot = y.0; declared = ap (slot_in i.decls) s.text ∙ k.0; kind = k.1; size = is; place = refl })

-- ---- expressions

-- what is written between two states
pub takes : (k : ℕ) (t : Term) (used : List Spot) (i j : Input) → Moves used i j → WrittenTerm i.decls k used t → TermBetween k t i j
takes k t used i j x w = record { used = used; is = x.is; written = w; version = x.version; decls = x.decls; lines = x.lines }

pub moves_of : (k : ℕ) (t : Term) (i j : Input) (x : TermBetween k t i j) → Moves x.used i j
moves_of k t i j x = record { is = x.is; version = x.version; decls = x.decls; lines = x.lines }

-- one token writes the term
one : (t : Term) (i j : Input) (s : Step i j) → WrittenTerm i.decls 0 (s.spot ∷ []) t → TermBetween 0 t i j
one t i j s w = takes 0 t (s.spot ∷ []) i j s.moves w

renamed : (t t' : Term) (i j : Input) → t ≡ t' → TermBetween 0 t i j → TermBetween 0 t' i j
renamed t t' i j e x = rw (← e) x

round_takes : (i x1 x2 j : Input) (t : Term) → token i ≡ Is m.RoundOpen → Step i x1 → TermBetween 5 t x1 x2 → (c : Step x2 j) → c.spot.token ≡ Is m.RoundClose → TermBetween 0 t i j
round_takes i x1 x2 j t e a tk c d =
    takes 0 t (a.spot ∷ tk.used ++ c.spot ∷ []) i j
    (then_moves (a.spot ∷ []) (tk.used ++ c.spot ∷ []) i x1 j a.moves (then_moves tk.used (c.spot ∷ []) x1 x2 j (moves_of 5 t x1 x2 tk) c.moves))
    (round a.spot c.spot tk.used t (a.token ∙ e) d (rw (← a.moves.decls) tk.written))

-- sound at every level
abbrev AllSound : (ℕ → Parser Term) → Type 0
AllSound p = (k : ℕ) → IsSound k (p k)

rounds_sound : (p : ℕ → Parser Term) → AllSound p → (i j : Input) (t : Term) → token i ≡ Is m.RoundOpen → rounds p i ≡ Ok (t, j) → TermBetween 0 t i j
unfolding rounds
rounds_sound p s i j t e h =
    let b = bind_ok (spend i) _ (t, j) h in
    let c = bind_ok (p 5 b.0.1) _ (t, j) b.2 in
    let d = bind_ok (expect m.RoundClose c.0.1) _ (t, j) c.2 in
    let o = ok_parts (c.0.0, d.0.1) (t, j) d.2 in
    let x = expect_step m.RoundClose c.0.1 d.0 d.1 in
    carried (λ t j. TermBetween 0 t i j) _ _ _ _ o.0 o.1 (round_takes i b.0.1 c.0.1 d.0.1 c.0.0 e (spend_step i b.0 (λ x. absurd (cc)) b.1) (s 5 b.0.1 c.0.1 c.0.0 c.1) x.0 x.1)

bracket_case : (found : Bool) (i : Input) (y : Unit {0} × Input) → sees m.SquareOpen i ≡ found → cond found (spend i) (refuse i) ≡ Ok y
    → (s : Step i y.1) × (s.spot.token ≡ Is m.SquareOpen)
bracket_case true i y e h =
    let is = sees_is m.SquareOpen i e in
    let s = spend_step i y (λ x. absurd (cc)) h in
    (s, s.token ∙ is)
bracket_case false i y e h = absurd (cc)

bracket_step : (i : Input) (y : Unit {0} × Input) → bracket i ≡ Ok y → (s : Step i y.1) × (s.spot.token ≡ Is m.SquareOpen)
unfolding bracket
bracket_step i y h = bracket_case (sees m.SquareOpen i) i y refl h

entry_takes : (i x1 x2 x3 j : Input) (p : Place) (t : Term) → (s : Step i x1) → Names i.decls Variable s.spot true p → (a : Step x1 x2) → a.spot.token ≡ Is m.SquareOpen
    → TermBetween 5 t x2 x3 → (c : Step x3 j) → c.spot.token ≡ Is m.SquareClose → TermBetween 0 (element p t) i j
entry_takes i x1 x2 x3 j p t s n a ea tk c ec =
    takes 0 (element p t) (s.spot ∷ a.spot ∷ tk.used ++ c.spot ∷ []) i j
    (then_moves (s.spot ∷ []) (a.spot ∷ tk.used ++ c.spot ∷ []) i x1 j s.moves
    (then_moves (a.spot ∷ []) (tk.used ++ c.spot ∷ []) x1 x2 j a.moves (then_moves tk.used (c.spot ∷ []) x2 x3 j (moves_of 5 t x2 x3 tk) c.moves)))
    (entry s.spot a.spot c.spot tk.used p t n ea ec (rw (← s.moves.decls, ← a.moves.decls) tk.written))

-- a name, and the index of an array behind it
index_inside_sound : (p : ℕ → Parser Term) → AllSound p → (slot : Slot) (cells : Option ℕ) (i x j : Input) (t : Term) → (s : Step i x)
    → ((is_array : Bool) → is_some cells ≡ is_array → Names i.decls Variable s.spot is_array (place_of_slot slot)) → index_inside p (place_of_slot slot) cells x ≡ Ok (t, j) → TermBetween 0 t i j
index_inside_sound p q slot None i x j t s n h =
    let o = ok_parts (cell (place_of_slot slot), x) (t, j) h in
    carried (λ t j. TermBetween 0 t i j) _ _ _ _ o.0 o.1 (one (cell (place_of_slot slot)) i x s (name s.spot (place_of_slot slot) (n false refl)))
index_inside_sound p q slot (Some cells) i x j t s n h =
    let a = bind_ok (bracket x) _ (t, j) h in
    let b = bind_ok (p 5 a.0.1) _ (t, j) a.2 in
    let c = bind_ok (expect m.SquareClose b.0.1) _ (t, j) b.2 in
    let o = ok_parts (element (place_of_slot slot) b.0.0, c.0.1) (t, j) c.2 in
    let opens = bracket_step x a.0 a.1 in
    let ends = expect_step m.SquareClose b.0.1 c.0 c.1 in
    carried (λ t j. TermBetween 0 t i j) _ _ _ _ o.0 o.1
    (entry_takes i x a.0.1 b.0.1 c.0.1 (place_of_slot slot) b.0.0 s (n true refl) opens.0 opens.1 (q 5 a.0.1 b.0.1 b.0.0 b.1) ends.0 ends.1)

name_sound : (p : ℕ → Parser Term) → AllSound p → (i j : Input) (t : Term) → token i ≡ Name → place_inside p i ≡ Ok (t, j) → TermBetween 0 t i j
unfolding place_inside
name_sound p q i j t e h =
    let b = bind_ok (seek Variable i) _ (t, j) h in
    let v = name_step Variable i b.0 e b.1 in
    index_inside_sound p q b.0.0 b.0.0.size i (advanced b.0.1) j t v.0 v.1 b.2

unary_takes : (op : UnaryOp) (i x j : Input) (t : Term) → sign (token i) ≡ Some op → Step i x → TermBetween 0 t x j → TermBetween 0 (op1 op t) i j
unary_takes op i x j t e s tk =
    takes 0 (op1 op t) (s.spot ∷ tk.used) i j
    (then_moves (s.spot ∷ []) tk.used i x j s.moves (moves_of 0 t x j tk))
    (signs s.spot tk.used op t (ap sign s.token ∙ e) (rw (← s.moves.decls) tk.written))

unary_sound : (p : ℕ → Parser Term) → AllSound p → (op : UnaryOp) (i j : Input) (t : Term) → token i ≢ End → sign (token i) ≡ Some op → unary p op i ≡ Ok (t, j) → TermBetween 0 t i j
unfolding unary
unary_sound p s op i j t some e h =
    let b = bind_ok (spend i) _ (t, j) h in
    let c = bind_ok (p 0 b.0.1) _ (t, j) b.2 in
    let o = ok_parts (op1 op c.0.0, c.0.1) (t, j) c.2 in
    carried (λ t j. TermBetween 0 t i j) _ _ _ _ o.0 o.1 (unary_takes op i b.0.1 c.0.1 c.0.0 e (spend_step i b.0 some b.1) (s 0 b.0.1 c.0.1 c.0.0 c.1))

simple : (i j : Input) (t t' : Term) → token i ≢ End → ok_of (t, advanced i) ≡ Ok (t', j) → ((s : Spot) → s.token ≡ token i → WrittenTerm i.decls 0 (s ∷ []) t) → TermBetween 0 t' i j
simple i j t t' some h w =
    let o = ok_parts (t, advanced i) (t', j) h in
    let s = next_step i j some (sym o.1) in
    renamed t t' i j o.0 (one t i j s (w s.spot s.token))

atom_case : (p : ℕ → Parser Term) → AllSound p → (tk : Token) (i j : Input) (t : Term) → token i ≡ tk → atom_by p tk i ≡ Ok (t, j) → TermBetween 0 t i j
atom_case p s (Number n) i j t e h = simple i j (lit n) t (λ x. absurd (cc)) h (λ v a. number v n (a ∙ e))
atom_case p s (Is m.Rank) i j t e h = simple i j own_rank t (λ x. absurd (cc)) h (λ v a. rank v (a ∙ e))
atom_case p s (Is m.Size) i j t e h = simple i j size t (λ x. absurd (cc)) h (λ v a. ranks v (a ∙ e))
atom_case p s Name i j t e h = name_sound p s i j t e h
atom_case p s (Is m.RoundOpen) i j t e h = rounds_sound p s i j t e h
atom_case p s (Is m.Minus) i j t e h = unary_sound p s u.Negate i j t (λ x. absurd (cc)) (ap sign e) h
atom_case p s (Is m.Not) i j t e h = unary_sound p s u.Not i j t (λ x. absurd (cc)) (ap sign e) h
atom_case p s _ i j t e h = absurd (cc)

atom_sound : (p : ℕ → Parser Term) → AllSound p → IsSound 0 (atom p)
unfolding atom
atom_sound p s i j t h = atom_case p s (token i) i j t refl h

no_operator : (k : ℕ) (op : BinaryOp) (t : Token) → t ≡ End → operator_at (suc k) t ≡ Some op → ⊥
no_operator k op t e o = let f = rw e at o in absurd (cc)

chain_by_takes : (k : ℕ) (op : BinaryOp) (i x y j : Input) (a b : Term) → TermBetween (left_level k) a i x → operator_at (suc k) (token x) ≡ Some op
    → Step x y → TermBetween k b y j → TermBetween (suc k) (op2 op a b) i j
chain_by_takes k op i x y j a b l o s r =
    takes (suc k) (op2 op a b) (l.used ++ s.spot ∷ r.used) i j
    (then_moves l.used (s.spot ∷ r.used) i x j (moves_of (left_level k) a i x l) (then_moves (s.spot ∷ []) r.used x y j s.moves (moves_of k b y j r)))
    (joins k l.used r.used s.spot op a b (ap (operator_at (suc k)) s.token ∙ o) l.written (rw (← l.decls, ← s.moves.decls) r.written))

raised : (k : ℕ) (t : Term) (i j : Input) → TermBetween k t i j → TermBetween (suc k) t i j
raised k t i j x = record { used = x.used; is = x.is; written = higher k x.used t x.written; version = x.version; decls = x.decls; lines = x.lines }

-- a left side that may stand before an operator of the level
abbrev MayGoOn : ℕ → ℕ → Term → Input → Input → Type 0
MayGoOn k n t i j = n ≢ 0 → TermBetween (left_level k) t i j

ended : (k : ℕ) (i x j : Input) (left t : Term) → left ≡ t → x ≡ j → TermBetween (suc k) left i x → TermBetween (suc k) t i j
ended k i x j left t a b h = rw (← a, ← b) h

may_go : (k n : ℕ) (t : Term) (i j : Input) → (k ≡ 2 → suc n ≤ 1) → TermBetween (suc k) t i j → MayGoOn k n t i j
may_go k n t i j few x some =
    elim (cases_Bool (k == 2)) [
      | inl is ↦ let e : k ≡ 2 = grind (arith, nat_tests) in let f = few e in absurd (some (omega arith))
      | inr other ↦ rw other x
    ]

chain_by_case : (k : ℕ) (p : Parser Term) → IsSound k p → (n : ℕ) → (k ≡ 2 → suc n ≤ 1) → (left : Term) (i x j : Input) (t : Term) (o : Option BinaryOp)
    → operator_at (suc k) (token x) ≡ o → TermBetween (suc k) left i x → TermBetween (left_level k) left i x
    → ((l : Term) (y : Input) → TermBetween (suc k) l i y → MayGoOn k n l i y → chain p (suc k) n l y ≡ Ok (t, j) → TermBetween (suc k) t i j)
    → chain_by (chain p (suc k) n) p left o x ≡ Ok (t, j) → TermBetween (suc k) t i j
chain_by_case k p s n few left i x j t None is a b more h = let o = ok_parts (left, x) (t, j) h in ended k i x j left t o.0 o.1 a
chain_by_case k p s n few left i x j t (Some op) is a b more h =
    let c = bind_ok (spend x) _ (t, j) h in
    let d = bind_ok (p c.0.1) _ (t, j) c.2 in
    let st = spend_step x c.0 (λ e. no_operator k op (token x) e is) c.1 in
    let whole = chain_by_takes k op i x c.0.1 d.0.1 left d.0.0 b is st (s c.0.1 d.0.1 d.0.0 d.1) in
    more (op2 op left d.0.0) d.0.1 whole (may_go k n (op2 op left d.0.0) i d.0.1 few whole) d.2

chain_sound : (k : ℕ) (p : Parser Term) → IsSound k p → (n : ℕ) → (k ≡ 2 → n ≤ 1) → (left : Term) (i x j : Input) (t : Term)
    → TermBetween (suc k) left i x → MayGoOn k n left i x → chain p (suc k) n left x ≡ Ok (t, j) → TermBetween (suc k) t i j
unfolding chain
chain_sound k p s zero few left i x j t a b h = let o = ok_parts (left, x) (t, j) h in ended k i x j left t o.0 o.1 a
chain_sound k p s (suc n) few left i x j t a b h =
    chain_by_case k p s n few left i x j t (operator_at (suc k) (token x)) refl a (b (λ e. absurd (omega arith)))
    (λ l y c d. chain_sound k p s n (λ e. let f = few e in omega arith) l i y j t c d) h

first_left : (k n : ℕ) (t : Term) (i j : Input) → TermBetween k t i j → MayGoOn k n t i j
first_left k n t i j x some =
    elim (cases_Bool (k == 2)) [
      | inl is ↦ let e : k ≡ 2 = grind (arith, nat_tests) in let y : TermBetween 2 t i j = rw e at x in rw is y
      | inr other ↦ rw other (raised k t i j x)
    ]

few_turns : (k : ℕ) (i : Input) → k ≡ 2 → turns (suc k) i ≤ 1
few_turns k i e = rw e (omega arith)

level_sound : (p : ℕ → Parser Term) → AllSound p → (k : ℕ) → IsSound k (level p k)
unfolding level
level_sound p s zero i j t h = atom_sound p s i j t h
level_sound p s (suc k) i j t h =
    let b = bind_ok (level p k i) _ (t, j) h in
    let tk = level_sound p s k i b.0.1 b.0.0 b.1 in
    chain_sound k (level p k) (level_sound p s k) (turns (suc k) b.0.1) (few_turns k b.0.1) b.0.0 i b.0.1 j t
    (raised k b.0.0 i b.0.1 tk) (first_left k (turns (suc k) b.0.1) b.0.0 i b.0.1 tk) b.2

pub expr_sound : (n k : ℕ) → IsSound k (expr n k)
unfolding expr
expr_sound zero k i j t h = absurd (cc)
expr_sound (suc n) k i j t h = level_sound (expr n) (expr_sound n) k i j t h
