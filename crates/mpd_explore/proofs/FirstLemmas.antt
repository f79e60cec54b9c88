-- Leaves that end as no leaf before them does: those of two lists, one after the other, whether they have an end, and where they stand.
use Rattle.std.proofs.Common.{◌≡◌, ℕ, zero, suc, ◌==◌, Bool, true, false, cond, ◌&&◌, ◌||◌, not, Some, List, [], ◌∷◌, ◌++◌, take, slice_get, append-nil, refl, sym, ap, ◌∙◌}
use Rattle.std.specs.List.{filter, list_all, AllByRecursion}
use Rattle.std.specs.Cmp.Lexicographic.{pointwise}
use Rattle.std.proofs.lemmas.Bool.{and_parts, not-true, eqb-true}
use Rattle.std.proofs.lemmas.List.Elements.{filter-append}
use Rattle.mpd_laws.proofs.ordered.Orderly.{same_id}
use Rattle.mpd_model.specs.declared.step.CallId.{CallId}
use Rattle.mpd_model.specs.declared.outcome.Outcome.{Outcome}
use Rattle.mpd_model.specs.declared.outcome.Outcome.TheVariants as outcome_is
use Rattle.mpd_model.specs.declared.outcome.IssuedCall.{IssuedCall}
use Rattle.mpd_model.specs.declared.outcome.TrappedRank.{TrappedRank}
use Rattle.mpd_model.specs.steps.World.{id_eq}
use Rattle.mpd_policy.specs.declared.ending.Ending.{Ending}
use Rattle.mpd_policy.specs.declared.ending.Ending.TheVariants.{Ended, Cut}
use Rattle.mpd_explore.specs.declared.report.SearchLeaf.{SearchLeaf}
use Rattle.mpd_explore.specs.Traps.{trap_eq}
use Rattle.mpd_explore.specs.Ends.{trapped_eq, issued_eq, outcome_eq, ending_eq, same_end, firsts, has_end, before}
use Rattle.mpd_explore.proofs.EndLemmas.{trap_same, trap_each, number_each}

-- ---- the test of ends is one of equality

trapped_same : (a b : TrappedRank) → trapped_eq a b ≡ true → a ≡ b
trapped_same a b e =
    let parts = and_parts (a.rank == b.rank) ((a.statement == b.statement) && trap_eq a.trap b.trap) e in
    let rest = and_parts (a.statement == b.statement) (trap_eq a.trap b.trap) parts.1 in
    λ i. record { rank = eqb-true a.rank b.rank parts.0 i; statement = eqb-true a.statement b.statement rest.0 i; trap = trap_same a.trap b.trap rest.1 i }

trapped_each : (a : TrappedRank) → trapped_eq a a ≡ true
trapped_each a = λ j. number_each a.rank j && (number_each a.statement j && trap_each a.trap j)

id_each : (c : CallId) → id_eq c c ≡ true
id_each c = λ j. number_each c.rank j && number_each c.index j

issued_same : (c d : IssuedCall) → issued_eq c d ≡ true → c ≡ d
issued_same c d e =
    let parts = and_parts (c.statement == d.statement) (id_eq c.id d.id) e in
    λ i. record { id = same_id c.id d.id parts.1 i; statement = eqb-true c.statement d.statement parts.0 i }

issued_each : (c : IssuedCall) → issued_eq c c ≡ true
issued_each c = λ j. number_each c.statement j && id_each c.id j

lists_same : {A : Type 0} (E : A → A → Bool) → ((a b : A) → E a b ≡ true → a ≡ b) → (xs ys : List A) → pointwise E xs ys ≡ true → xs ≡ ys
lists_same E same [] [] e = refl
lists_same E same [] (y ∷ ys) e = absurd (cc)
lists_same E same (x ∷ xs) [] e = absurd (cc)
lists_same E same (x ∷ xs) (y ∷ ys) e = let parts = and_parts (E x y) (pointwise E xs ys) e in λ i. same x y parts.0 i ∷ lists_same E same xs ys parts.1 i

lists_each : {A : Type 0} (E : A → A → Bool) → ((a : A) → E a a ≡ true) → (xs : List A) → pointwise E xs xs ≡ true
lists_each E each [] = refl
lists_each E each (x ∷ xs) = λ j. each x j && lists_each E each xs j

outcome_same : (o k : Outcome) → outcome_eq o k ≡ true → o ≡ k
outcome_same outcome_is.Done outcome_is.Done e = refl
outcome_same (outcome_is.Leftovers cs) (outcome_is.Leftovers ds) e = ap (λ l. outcome_is.Leftovers l) (lists_same issued_eq issued_same cs ds e)
outcome_same (outcome_is.Deadlock cs) (outcome_is.Deadlock ds) e = ap (λ l. outcome_is.Deadlock l) (lists_same issued_eq issued_same cs ds e)
outcome_same (outcome_is.Trap ts) (outcome_is.Trap us) e = ap (λ l. outcome_is.Trap l) (lists_same trapped_eq trapped_same ts us e)
outcome_same o k e = absurd (cc)

outcome_each : (o : Outcome) → outcome_eq o o ≡ true
outcome_each outcome_is.Done = refl
outcome_each (outcome_is.Leftovers cs) = lists_each issued_eq issued_each cs
outcome_each (outcome_is.Deadlock cs) = lists_each issued_eq issued_each cs
outcome_each (outcome_is.Trap ts) = lists_each trapped_eq trapped_each ts

pub ending_same : (e f : Ending) → ending_eq e f ≡ true → e ≡ f
ending_same Cut Cut h = refl
ending_same (Ended o) (Ended k) h = ap (λ z. Ended z) (outcome_same o k h)
ending_same e f h = absurd (cc)

pub ending_each : (e : Ending) → ending_eq e e ≡ true
ending_each Cut = refl
ending_each (Ended o) = outcome_each o

-- ---- lists

both_false : {A : Type 0} (b : Bool) → b ≡ true → b ≡ false → A
both_false b t f = absurd (cc)

filter_both : {A : Type 0} (p q : A → Bool) (xs : List A) → filter p (filter q xs) ≡ filter (λ x. p x && q x) xs
filter_both p q [] = refl
filter_both p q (x ∷ xs) = one (q x) (p x) (filter_both p q xs)
  where
    one : (b c : Bool) → filter p (filter q xs) ≡ filter (λ y. p y && q y) xs → filter p (cond b (x ∷ filter q xs) (filter q xs)) ≡ cond (p x && b) (x ∷ filter (λ y. p y && q y) xs) (filter (λ y. p y && q y) xs)
    one true c e = (λ j. cond (p x) (x ∷ e j) (e j)) ∙ (λ j. cond (sym (and_true (p x)) j) (x ∷ filter (λ y. p y && q y) xs) (filter (λ y. p y && q y) xs))
      where
        and_true : (a : Bool) → (a && true) ≡ a
        and_true true = refl
        and_true false = refl
    one false c e = e ∙ (λ j. cond (sym (and_false (p x)) j) (x ∷ filter (λ y. p y && q y) xs) (filter (λ y. p y && q y) xs))
      where
        and_false : (a : Bool) → (a && false) ≡ false
        and_false true = refl
        and_false false = refl

all_filtered : {A : Type 0} (p q : A → Bool) (xs : List A) → list_all p xs ≡ true → list_all p (filter q xs) ≡ true
all_filtered p q [] h = refl
all_filtered p q (x ∷ xs) h = let parts = and_parts (p x) (list_all p xs) h in one (q x) parts.0 (all_filtered p q xs parts.1)
  where
    one : (b : Bool) → p x ≡ true → list_all p (filter q xs) ≡ true → list_all p (cond b (x ∷ filter q xs) (filter q xs)) ≡ true
    one true here more = λ j. here j && more j
    one false here more = more

all_passing : {A : Type 0} (p : A → Bool) (xs : List A) → list_all p (filter p xs) ≡ true
all_passing p [] = refl
all_passing p (x ∷ xs) = one (p x) refl (all_passing p xs)
  where
    one : (b : Bool) → p x ≡ b → list_all p (filter p xs) ≡ true → list_all p (cond b (x ∷ filter p xs) (filter p xs)) ≡ true
    one true is more = λ j. is j && more j
    one false is more = more

none_left : {A : Type 0} (p : A → Bool) (xs : List A) → list_all p xs ≡ true → filter (λ x. not (p x)) xs ≡ []
none_left p [] h = refl
none_left p (x ∷ xs) h = let parts = and_parts (p x) (list_all p xs) h in (λ j. cond (not (parts.0 j)) (x ∷ filter (λ y. not (p y)) xs) (filter (λ y. not (p y)) xs)) ∙ none_left p xs parts.1

pub all_at : {A : Type 0} (p : A → Bool) (xs : List A) (k : ℕ) (x : A) → list_all p xs ≡ true → slice_get xs k ≡ Some x → p x ≡ true
all_at p [] k x h e = absurd (cc)
all_at p (y ∷ ys) zero x h e = let is : y ≡ x = cc in ap p (sym is) ∙ (and_parts (p y) (list_all p ys) h).0
all_at p (y ∷ ys) (suc k) x h e = all_at p ys k x (and_parts (p y) (list_all p ys) h).1 e

-- ---- firsts

firsts_within : (p : SearchLeaf → Bool) (xs : List SearchLeaf) → list_all p xs ≡ true → list_all p (firsts xs) ≡ true
firsts_within p [] h = refl
firsts_within p (x ∷ xs) h = let parts = and_parts (p x) (list_all p xs) h in λ j. parts.0 j && all_filtered p (λ m. not (same_end x m)) (firsts xs) (firsts_within p xs parts.1) j

not_or : (a b : Bool) → (not a && not b) ≡ not (a || b)
not_or true b = refl
not_or false b = refl

all_kept : {A : Type 0} (xs : List A) → filter (λ x. true) xs ≡ xs
all_kept [] = refl
all_kept (x ∷ xs) = ap (λ l. x ∷ l) (all_kept xs)

pub firsts_joined : (xs ys : List SearchLeaf) → firsts (xs ++ ys) ≡ firsts xs ++ filter (λ m. not (has_end xs m.ending)) (firsts ys)
firsts_joined [] ys = sym (all_kept (firsts ys))
firsts_joined (x ∷ xs) ys =
    ap (λ l. x ∷ l)
    (ap (filter (λ m. not (same_end x m))) (firsts_joined xs ys)
    ∙ filter-append (λ m. not (same_end x m)) (firsts xs) (filter (λ m. not (has_end xs m.ending)) (firsts ys))
    ∙ ap (λ l. filter (λ m. not (same_end x m)) (firsts xs) ++ l)
    (filter_both (λ m. not (same_end x m)) (λ m. not (has_end xs m.ending)) (firsts ys) ∙ (λ j. filter (λ m. not_or (same_end x m) (has_end xs m.ending) j) (firsts ys))))

-- what ends as leaves do that are known already adds nothing
pub firsts_known : (xs ys : List SearchLeaf) → list_all (λ m. has_end xs m.ending) ys ≡ true → firsts (xs ++ ys) ≡ firsts xs
firsts_known xs ys h =
    firsts_joined xs ys ∙ ap (λ l. firsts xs ++ l) (none_left (λ m. has_end xs m.ending) (firsts ys) (firsts_within (λ m. has_end xs m.ending) ys h)) ∙ append-nil (firsts xs)

-- a leaf that ends as none before it does is a first
pub firsts_new : (xs : List SearchLeaf) (l : SearchLeaf) → has_end xs l.ending ≡ false → firsts (xs ++ l ∷ []) ≡ firsts xs ++ l ∷ []
firsts_new xs l h = firsts_joined xs (l ∷ []) ∙ ap (λ (b : Bool). firsts xs ++ cond (not b) (l ∷ []) []) h

-- ---- whether they have an end

or_false : (a b : Bool) → a ≡ false → (a || b) ≡ b
or_false a b e = λ j. e j || b

any_left : (x : SearchLeaf) (e : Ending) (ls : List SearchLeaf) → ending_eq x.ending e ≡ false → has_end (filter (λ m. not (same_end x m)) ls) e ≡ has_end ls e
any_left x e [] ne = refl
any_left x e (d ∷ ls) ne = one (same_end x d) refl (any_left x e ls ne)
  where
    apart : (b : Bool) → ending_eq d.ending e ≡ b → same_end x d ≡ true → ending_eq d.ending e ≡ false
    apart false is at = is
    apart true is at = both_false (ending_eq x.ending e) (ap (λ (z : Ending). ending_eq x.ending z) (sym (ending_same d.ending e is)) ∙ at) ne

    one : (b : Bool) → same_end x d ≡ b → has_end (filter (λ m. not (same_end x m)) ls) e ≡ has_end ls e
        → has_end (cond (not b) (d ∷ filter (λ m. not (same_end x m)) ls) (filter (λ m. not (same_end x m)) ls)) e ≡ (ending_eq d.ending e || has_end ls e)
    one true is more = more ∙ sym (or_false (ending_eq d.ending e) (has_end ls e) (apart (ending_eq d.ending e) refl is))
    one false is more = ap (λ (b : Bool). ending_eq d.ending e || b) more

pub firsts_ends : (xs : List SearchLeaf) (e : Ending) → has_end (firsts xs) e ≡ has_end xs e
firsts_ends [] e = refl
firsts_ends (x ∷ xs) e = one (ending_eq x.ending e) refl (firsts_ends xs e)
  where
    one : (b : Bool) → ending_eq x.ending e ≡ b → has_end (firsts xs) e ≡ has_end xs e → (ending_eq x.ending e || has_end (filter (λ m. not (same_end x m)) (firsts xs)) e) ≡ (ending_eq x.ending e || has_end xs e)
    one true is more = (λ j. is j || has_end (filter (λ m. not (same_end x m)) (firsts xs)) e) ∙ (λ j. sym is j || has_end xs e)
    one false is more = ap (λ (b : Bool). ending_eq x.ending e || b) (any_left x e (firsts xs) is ∙ more)

-- ---- no two firsts end in the same way

abbrev pub AllApart : List SearchLeaf → Type 0
AllApart [] = Unit {0}
AllApart (l ∷ ls) = (list_all (λ m. not (same_end l m)) ls ≡ true) × AllApart ls

apart_filtered : (q : SearchLeaf → Bool) (ls : List SearchLeaf) → AllApart ls → AllApart (filter q ls)
apart_filtered q [] h = tt
apart_filtered q (l ∷ ls) h = one (q l) (apart_filtered q ls h.1)
  where
    one : (b : Bool) → AllApart (filter q ls) → AllApart (cond b (l ∷ filter q ls) (filter q ls))
    one true more = (all_filtered (λ m. not (same_end l m)) q ls h.0, more)
    one false more = more

pub firsts_apart : (xs : List SearchLeaf) → AllApart (firsts xs)
firsts_apart [] = tt
firsts_apart (x ∷ xs) = (all_passing (λ m. not (same_end x m)) (firsts xs), apart_filtered (λ m. not (same_end x m)) (firsts xs) (firsts_apart xs))

same_back : (l m : SearchLeaf) → same_end l m ≡ true → same_end m l ≡ true
same_back l m h = ap (λ (z : Ending). ending_eq z l.ending) (sym (ending_same l.ending m.ending h)) ∙ ending_each l.ending

pub one_place : (ls : List SearchLeaf) → AllApart ls → (j k : ℕ) (l m : SearchLeaf) → slice_get ls j ≡ Some l → slice_get ls k ≡ Some m → same_end l m ≡ true → j ≡ k
one_place [] h j k l m e f is = absurd (cc)
one_place (x ∷ xs) h zero zero l m e f is = refl
one_place (x ∷ xs) h zero (suc k) l m e f is =
    let at : x ≡ l = cc in
    both_false (same_end l m) is (not-true (same_end l m) (ap (λ (z : SearchLeaf). not (same_end z m)) (sym at) ∙ all_at (λ z. not (same_end x z)) xs k m h.0 f))
one_place (x ∷ xs) h (suc j) zero l m e f is =
    let at : x ≡ m = cc in
    both_false (same_end m l) (same_back l m is) (not-true (same_end m l) (ap (λ (z : SearchLeaf). not (same_end z l)) (sym at) ∙ all_at (λ z. not (same_end x z)) xs j l h.0 e))
one_place (x ∷ xs) h (suc j) (suc k) l m e f is = ap suc (one_place xs h.1 j k l m e f is)

-- ---- where they stand

neither : (a b : Bool) → (a || b) ≡ false → (a ≡ false) × (b ≡ false)
neither true b f = absurd (cc)
neither false b f = (refl, f)

-- one that ends as none before it does stands where the first does that ends so
pub before_new : (ls : List SearchLeaf) (n : ℕ) (l : SearchLeaf) → slice_get ls n ≡ Some l → has_end (take n ls) l.ending ≡ false → before ls l ≡ n
before_new [] n l at none = absurd (cc)
before_new (m ∷ ls) zero l at none = let is : m ≡ l = cc in λ j. cond ((ap (λ (z : SearchLeaf). same_end z l) is ∙ ending_each l.ending) j) 0 (suc (before ls l))
before_new (m ∷ ls) (suc n) l at none =
    let parts = neither (same_end m l) (has_end (take n ls) l.ending) none in
    (λ j. cond (parts.0 j) 0 (suc (before ls l))) ∙ ap suc (before_new ls n l at parts.1)

-- each first stands there itself
abbrev pub StandThere : List SearchLeaf → List SearchLeaf → Type 0
StandThere leaves ls = AllByRecursion (λ l. slice_get leaves (before leaves l) ≡ Some l) ls

stand_below : (x : SearchLeaf) (xs ls : List SearchLeaf) → StandThere xs ls → StandThere (x ∷ xs) (filter (λ m. not (same_end x m)) ls)
stand_below x xs [] h = tt
stand_below x xs (l ∷ ls) h = one (same_end x l) refl (stand_below x xs ls h.1)
  where
    one : (b : Bool) → same_end x l ≡ b → StandThere (x ∷ xs) (filter (λ m. not (same_end x m)) ls) → StandThere (x ∷ xs) (cond (not b) (l ∷ filter (λ m. not (same_end x m)) ls) (filter (λ m. not (same_end x m)) ls))
    one true is more = more
    one false is more = ((λ j. slice_get (x ∷ xs) (cond (is j) 0 (suc (before xs l)))) ∙ h.0, more)

pub firsts_stand : (leaves : List SearchLeaf) → StandThere leaves (firsts leaves)
firsts_stand [] = tt
firsts_stand (x ∷ xs) = ((λ j. slice_get (x ∷ xs) (cond (ending_each x.ending j) 0 (suc (before xs x)))), stand_below x xs (firsts xs) (firsts_stand xs))
