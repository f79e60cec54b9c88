-- What a reader makes of an input rests on the tokens up to where it stops, and not on those behind.
use Rattle.std.proofs.Common.{◌≡◌, ◌⊎◌, ℕ, ◌-◌, ◌<◌, ◌≤◌, ◌==◌, Bool, true, false, cond, nat_lt, List, [], ◌∷◌, ◌++◌, length, Option, Some, None, Ok, Err, inl, inr, refl, ap, sym, subst}
use Rattle.mpd_model.specs.declared.place.DeclKind.{DeclKind}
use Rattle.mpd_model.specs.declared.read_fault.FaultCode.{FaultCode}
use Rattle.mpd_model.specs.declared.read_fault.FaultCode.TheVariants.{UnknownName, TooDeep, TooMany}
use Rattle.mpd_model.specs.declared.read_fault.ReadFault.{ReadFault}
use Rattle.mpd_model.specs.declared.slot.Slot.{Slot}
use Rattle.mpd_model.specs.declared.token.Symbol.{Symbol}
use Rattle.mpd_model.specs.grammar.Faults.{fault}
use Rattle.mpd_model.specs.grammar.Grammar.{written_in}
use Rattle.mpd_model.specs.grammar.Input.{Input, Outcome, Parser, and_then, token, place_of, spelling, place, advanced, behind, pure, fail, refusal, refuse, peek, advance, sees, after, eat, expect, max_budget, begin, spend, max_statements, count, first_line, same_kind, sought, seek, slot_in, cells_fit, add, ◌>>=◌}
use Rattle.mpd_model.specs.grammar.Tokens.{Spot}

-- ---- two inputs that are alike up to a place

-- the input with other tokens, in a text of another length
abbrev pub has : List Spot → ℕ → Input → Input
has ss e b = record b { tokens = ss; end = e }

abbrev pub AllBehind : ℕ → List Spot → Type 0
AllBehind late [] = Unit {0}
AllBehind late (s ∷ ss) = (late < s.place) × AllBehind late ss

-- the last of these tokens, if there is one, doesn't stand before the place
abbrev pub EndsLate : ℕ → List Spot → Type 0
EndsLate late [] = Unit {0}
EndsLate late (s ∷ []) = late ≤ s.place
EndsLate late (s ∷ t ∷ ss) = EndsLate late (t ∷ ss)

pub ends_behind : (late : ℕ) (s : Spot) (f : List Spot) → EndsLate late (s ∷ f) → EndsLate late f
ends_behind late s [] h = tt
ends_behind late s (t ∷ f) h = h

-- all that is left stands behind the place
pub record Beyond (late : ℕ) (i : Input) : Type 0 where
  pub all : AllBehind late i.tokens
  pub end : late < i.end

-- the fault is behind the place; or it is one of cells, which a name may have whose next token is behind it
abbrev pub IsLate : ℕ → ReadFault → Type 0
IsLate late f = (late < f.place) ⊎ ((f.code ≡ TooMany) × (late ≤ f.place))

abbrev pub Later : {A : Type 0} → ℕ → Outcome A → Type 0
Later late (Ok p) = Beyond late p.1
Later late (Err f) = IsLate late f

-- the same was read, and the inputs behind it are alike
pub record SameOk {A : Type 0} (late : ℕ) (a : A) (j : Input) (o : Outcome A) : Type 0 where
  pub front : List Spot
  pub xs : List Spot
  pub ys : List Spot
  pub e : ℕ
  pub e' : ℕ
  pub base : Input
  pub ends : EndsLate late front
  pub all : AllBehind late xs
  pub end : late < e
  pub here : j ≡ has (front ++ xs) e base
  pub there : o ≡ Ok (a, has (front ++ ys) e' base)

abbrev pub Same : {A : Type 0} → ℕ → Outcome A → Outcome A → Type 0
Same late (Ok p) o = SameOk late p.0 p.1 o
Same late (Err f) o = o ≡ Err f

abbrev pub Tied : {A : Type 0} → ℕ → Outcome A → Outcome A → Type 0
Tied late o p = Same late o p ⊎ Later late o

-- the same of a parser on any two inputs that are alike
abbrev pub OnAlike : {A : Type 0} → ℕ → Parser A → List Spot → Type 0
OnAlike late p front =
    (xs ys : List Spot) (e e' : ℕ) (b : Input) → EndsLate late front → AllBehind late xs → late < e → Tied late (p (has (front ++ xs) e b)) (p (has (front ++ ys) e' b))

pub record IsLocal {A : Type 0} (late : ℕ) (p : Parser A) : Type 0 where
  pub later : (i : Input) → Beyond late i → Later late (p i)
  pub same : (front : List Spot) → OnAlike late p front

module _ (late : ℕ) where
  -- ---- one after another

  pub later_bind : {A B : Type 0} (o : Outcome A) (k : A → Parser B) → Later late o → ((a : A) (i : Input) → Beyond late i → Later late (k a i)) → Later late (and_then o k)
  later_bind (Ok p) k h next = next p.0 p.1 h
  later_bind (Err f) k h next = h

  pub same_bind : {A B : Type 0} (o p : Outcome A) (k : A → Parser B) → Same late o p → ((a : A) (front : List Spot) → OnAlike late (k a) front) → Tied late (and_then o k) (and_then p k)
  same_bind (Ok x) p k h next =
      let t = next x.0 h.front h.xs h.ys h.e h.e' h.base h.ends h.all h.end in
      let u : Tied late (k x.0 x.1) (k x.0 (has (h.front ++ h.ys) h.e' h.base)) = subst (λ i. Tied late (k x.0 i) (k x.0 (has (h.front ++ h.ys) h.e' h.base))) (sym h.here) t in
      subst (λ q. Tied late (k x.0 x.1) (and_then q k)) (sym h.there) u
  same_bind (Err f) p k h next = inl (ap (λ q. and_then q k) h)

  pub tied_bind : {A B : Type 0} (o p : Outcome A) (k : A → Parser B) → Tied late o p → ((a : A) → IsLocal late (k a)) → Tied late (and_then o k) (and_then p k)
  tied_bind o p k (inl h) next = same_bind o p k h (λ a. (next a).same)
  tied_bind o p k (inr h) next = inr (later_bind o k h (λ a. (next a).later))

  pub then_local : {A B : Type 0} (p : Parser A) (k : A → Parser B) → IsLocal late p → ((a : A) → IsLocal late (k a)) → IsLocal late (p >>= k)
  then_local p k h next = record {
    later = λ i x. later_bind (p i) k (h.later i x) (λ a. (next a).later);
    same = λ front xs ys e e' b ends all end. tied_bind (p (has (front ++ xs) e b)) (p (has (front ++ ys) e' b)) k (h.same front xs ys e e' b ends all end) next;
  }

  -- ---- by the next token

  beyond_of : (xs : List Spot) (e : ℕ) (b : Input) → AllBehind late xs → late < e → Beyond late (has xs e b)
  beyond_of xs e b all end = record { all = all; end = end }

  -- where no token is left that both have, the first input is behind the place
  pub local_of : {A : Type 0} (p : Parser A) → ((i : Input) → Beyond late i → Later late (p i)) → ((s : Spot) (f : List Spot) → OnAlike late p (s ∷ f)) → IsLocal late p
  local_of p later first = record { later = later; same = λ front. by_front front }
    where
      by_front : (front : List Spot) → OnAlike late p front
      by_front [] xs ys e e' b ends all end = inr (later (has xs e b) (beyond_of xs e b all end))
      by_front (s ∷ f) xs ys e e' b ends all end = first s f xs ys e e' b ends all end

  -- what is read off an input by its first token and what was counted
  abbrev pub IsSeen : {B : Type 0} → (Input → B) → Type 0
  IsSeen g = (s : Spot) (f xs ys : List Spot) (e e' : ℕ) (b : Input) → g (has (s ∷ f ++ xs) e b) ≡ g (has (s ∷ f ++ ys) e' b)

  pub seen_local : {A B : Type 0} (g : Input → B) (p : B → Parser A) → IsSeen g → ((x : B) → IsLocal late (p x)) → IsLocal late (λ i. p (g i) i)
  seen_local g p seen each =
      local_of (λ i. p (g i) i) (λ i x. (each (g i)).later i x)
      (λ s f xs ys e e' b ends all end.
      subst (λ x. Tied late (p (g (has (s ∷ f ++ xs) e b)) (has (s ∷ f ++ xs) e b)) (p x (has (s ∷ f ++ ys) e' b))) (seen s f xs ys e e' b)
      ((each (g (has (s ∷ f ++ xs) e b))).same (s ∷ f) xs ys e e' b ends all end))

  pub if_local : {A : Type 0} (c : Bool) (p q : Parser A) → IsLocal late p → IsLocal late q → IsLocal late (cond c p q)
  if_local true p q h k = h
  if_local false p q h k = k

  pub if_at : {A : Type 0} (c : Bool) (p q : Parser A) → IsLocal late p → IsLocal late q → IsLocal late (λ i. cond c (p i) (q i))
  if_at true p q h k = h
  if_at false p q h k = k

  -- ---- the steps that every rule is made of

  stays : {A : Type 0} (a : A) (front xs ys : List Spot) (e e' : ℕ) (b : Input) → EndsLate late front → AllBehind late xs → late < e → Same late (Ok (a, has (front ++ xs) e b)) (Ok (a, has (front ++ ys) e' b))
  stays a front xs ys e e' b ends all end = record { front = front; xs = xs; ys = ys; e = e; e' = e'; base = b; ends = ends; all = all; end = end; here = refl; there = refl }

  place_behind : (e : ℕ) (ss : List Spot) → AllBehind late ss → late < e → late < place_of e ss
  place_behind e [] h k = k
  place_behind e (s ∷ ss) h k = h.0

  pub place_late : (i : Input) → Beyond late i → late < place i
  unfolding place
  place_late i x = place_behind i.end i.tokens x.all x.end

  all_behind : (ss : List Spot) → AllBehind late ss → AllBehind late (behind ss)
  all_behind [] h = tt
  all_behind (s ∷ ss) h = h.1

  next_beyond : (i : Input) → Beyond late i → Beyond late (advanced i)
  unfolding advanced
  next_beyond i x = record { all = all_behind i.tokens x.all; end = x.end }

  pub pure_local : {A : Type 0} (a : A) → IsLocal late (pure a)
  pure_local a = local_of (pure a) (λ i x. x) (λ s f xs ys e e' b ends all end. inl (stays a (s ∷ f) xs ys e e' b ends all end))

  pub fail_local : {A : Type 0} (c : FaultCode) → IsLocal late (fail {A = A} c)
  unfolding place
  fail_local c = local_of (fail c) (λ i x. inl (place_late i x)) (λ s f xs ys e e' b ends all end. inl refl)

  pub refuse_local : {A : Type 0} → IsLocal late (refuse {A = A})
  unfolding refusal place token
  refuse_local = local_of refuse (λ i x. inl (place_late i x)) (λ s f xs ys e e' b ends all end. inl refl)

  pub peek_local : IsLocal late peek
  unfolding token
  peek_local = local_of peek (λ i x. x) (λ s f xs ys e e' b ends all end. inl (stays s.token (s ∷ f) xs ys e e' b ends all end))

  pub give_local : {A : Type 0} (a : A) → IsLocal late (λ i. Ok (a, advanced i))
  unfolding advanced
  give_local a = local_of (λ i. Ok (a, advanced i)) (λ i x. next_beyond i x) (λ s f xs ys e e' b ends all end. inl (stays a f xs ys e e' b (ends_behind late s f ends) all end))

  pub advance_local : IsLocal late advance
  advance_local = give_local tt

  eaten : (c : Bool) → IsLocal late (λ i. Ok (c, cond c (advanced i) i))
  eaten true = give_local true
  eaten false = pure_local false

  sees_seen : (k : Symbol) → IsSeen (sees k)
  unfolding sees token
  sees_seen k s f xs ys e e' b = refl

  pub eat_local : (k : Symbol) → IsLocal late (eat k)
  unfolding after
  eat_local k = seen_local (sees k) (λ c i. Ok (c, cond c (advanced i) i)) (sees_seen k) eaten

  -- by whether the symbol comes next
  pub sees_local : {A : Type 0} (k : Symbol) (p q : Parser A) → IsLocal late p → IsLocal late q → IsLocal late (λ i. cond (sees k i) (p i) (q i))
  sees_local k p q h r = seen_local (sees k) (λ c i. cond c (p i) (q i)) (sees_seen k) (λ c. if_at c p q h r)

  pub expect_local : (k : Symbol) → IsLocal late (expect k)
  unfolding expect
  expect_local k = sees_local k advance refuse advance_local refuse_local

  pub begin_local : IsLocal late begin
  begin_local = local_of begin (λ i x. record { all = x.all; end = x.end }) (λ s f xs ys e e' b ends all end. inl (stays tt (s ∷ f) xs ys e e' (record b { budget = max_budget }) ends all end))

  lower_local : (n : ℕ) → IsLocal {A = Unit {0}} late (λ i. Ok (tt, record (advanced i) { budget = n }))
  unfolding advanced
  lower_local n =
      local_of (λ i. Ok (tt, record (advanced i) { budget = n })) (λ i x. record { all = all_behind i.tokens x.all; end = x.end })
      (λ s f xs ys e e' b ends all end. inl (stays tt f xs ys e e' (record b { budget = n }) (ends_behind late s f ends) all end))

  pub spend_local : IsLocal late spend
  unfolding spend
  spend_local =
      seen_local (λ i. i.budget) (λ n i. cond (n == 0) (fail TooDeep i) (Ok (tt, record (advanced i) { budget = n - 1 }))) (λ s f xs ys e e' b. refl)
      (λ n. if_at (n == 0) (fail TooDeep) (λ i. Ok (tt, record (advanced i) { budget = n - 1 })) (fail_local TooDeep) (lower_local (n - 1)))

  lines_local : (ls : List ℕ) → IsLocal {A = Unit {0}} late (λ i. Ok (tt, record i { lines = ls }))
  lines_local ls =
      local_of (λ i. Ok (tt, record i { lines = ls })) (λ i x. record { all = x.all; end = x.end })
      (λ s f xs ys e e' b ends all end. inl (stays tt (s ∷ f) xs ys e e' (record b { lines = ls }) ends all end))

  pub written_in_local : (n : ℕ) → IsLocal late (written_in n)
  written_in_local n =
      local_of (written_in n) (λ i x. record { all = x.all; end = x.end }) (λ s f xs ys e e' b ends all end. inl (stays tt (s ∷ f) xs ys e e' (record b { version = n }) ends all end))

  -- the lines so far, and that of the next token
  abbrev Counted : Type 0
  Counted = List ℕ × ℕ

  abbrev counted : Input → Counted
  counted i = (i.lines, first_line i.tokens)

  abbrev counting : Counted → Parser (Unit {0})
  counting x = λ i. cond (nat_lt (length x.0) max_statements) (Ok (tt, record i { lines = x.0 ++ x.1 ∷ [] })) (fail TooMany i)

  pub count_local : IsLocal late count
  unfolding count
  count_local =
      seen_local counted counting (λ s f xs ys e e' b. refl)
      (λ x. if_at (nat_lt (length x.0) max_statements) (λ i. Ok (tt, record i { lines = x.0 ++ x.1 ∷ [] })) (fail TooMany) (lines_local (x.0 ++ x.1 ∷ [])) (fail_local TooMany))

  -- ---- names

  sought_local : (kind : DeclKind) (o : Option Slot) → IsLocal late (sought kind o)
  sought_local kind None = fail_local UnknownName
  sought_local kind (Some s) = if_local (same_kind kind s.kind) (pure s) (fail UnknownName) (pure_local s) (fail_local UnknownName)

  pub seek_local : (kind : DeclKind) → IsLocal late (seek kind)
  unfolding seek spelling
  seek_local kind = seen_local (λ i. slot_in i.decls (spelling i)) (sought kind) (λ s f xs ys e e' b. refl) (sought_local kind)

  pub add_later : (kind : DeclKind) (name : List ℕ) (size : Option ℕ) (at : ℕ) (i : Input) → late ≤ at → Beyond late i → Later late (add kind name size at i)
  unfolding add
  add_later kind name size at i le x = by_room (cells_fit kind size i.decls)
    where
      by_room : (c : Bool) → Later {A = Unit {0}} late (cond c (Ok (tt, record i { decls = i.decls ++ record { kind = kind; name = name; size = size } ∷ [] })) (Err (fault TooMany at)))
      by_room true = record { all = x.all; end = x.end }
      by_room false = inr (refl, le)

  pub add_same : (kind : DeclKind) (name : List ℕ) (size : Option ℕ) (at : ℕ) (front xs ys : List Spot) (e e' : ℕ) (b : Input) → EndsLate late front → AllBehind late xs → late < e
      → Same late (add kind name size at (has (front ++ xs) e b)) (add kind name size at (has (front ++ ys) e' b))
  unfolding add
  add_same kind name size at front xs ys e e' b ends all end = by_room (cells_fit kind size b.decls)
    where
      by_room : (c : Bool)
          → Same {A = Unit {0}} late (cond c (Ok (tt, has (front ++ xs) e (record b { decls = b.decls ++ record { kind = kind; name = name; size = size } ∷ [] }))) (Err (fault TooMany at)))
          (cond c (Ok (tt, has (front ++ ys) e' (record b { decls = b.decls ++ record { kind = kind; name = name; size = size } ∷ [] }))) (Err (fault TooMany at)))
      by_room true = stays tt front xs ys e e' (record b { decls = b.decls ++ record { kind = kind; name = name; size = size } ∷ [] }) ends all end
      by_room false = refl
