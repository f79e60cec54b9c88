-- Matches that pass a test: of one receive, along a line of free receives, and of all receivers.
use Rattle.std.proofs.Common.{◌≡◌, ℕ, zero, suc, ◌+◌, ◌-◌, ◌<◌, ◌≤◌, Bool, true, false, cond, Option, Some, None, is_some, List, [], ◌∷◌, ◌++◌, inl, inr, refl, sym, ap, subst, ◌∙◌, map, length, append-nil, arith}
use Rattle.std.proofs.lemmas.List.Elements.{filter-append}
use Rattle.std.proofs.lemmas.Bool.{cases_lt}
use Rattle.std.proofs.lemmas.Bool.Decides.{eqb_tells}
use Rattle.std.specs.List.{filter, flat_map, range_with_len}
use Rattle.std.specs.Option.{option_map, option_to_list}
use Rattle.mpd_model.specs.declared.step.CallId.{CallId}
use Rattle.mpd_model.specs.declared.step.Step.{Step}
use Rattle.mpd_model.specs.declared.step.Step.TheVariants.{Match}
use Rattle.mpd_model.specs.declared.call.CallKind.{CallKind}
use Rattle.mpd_model.specs.declared.call.CallKind.TheVariants.{Recv}
use Rattle.mpd_model.specs.steps.World.{Board, call_id, kind_at, call_numbers, rank_numbers, is_any_or, is_posted, posted}
use Rattle.mpd_model.specs.steps.Why.{first_in, or_else}
use Rattle.mpd_model.specs.runs.Decisions.{names_source, takes_any, is_named_match, is_open_match}
use Rattle.mpd_queue.specs.InOrder.{places_in, first_of, next_of, HasSpot}
use Rattle.mpd_queue.proofs.Spots.{first_spot, next_spot}
use Rattle.mpd_match.specs.Lines.{takes_from}
use Rattle.mpd_match.specs.Matches.{matches_from, matches_with, matches_at, matches_on}
use Rattle.mpd_match.specs.Picked.{named_source, picked_with, picked_at, picked_on}
use Rattle.mpd_match.proofs.Walks.{rest, rest_none, rest_first, rest_step}
use Rattle.mpd_match.proofs.Candidates.{not_taken}
use Rattle.mpd_match.proofs.Listed.{candidates, joined_passed, not_posted_none}

-- ---- what passes of lists that are joined

pub picked_joined : {A B : Type 0} (t : B → Bool) (f : A → List B) (xs : List A) → filter t (flat_map f xs) ≡ flat_map (λ x. filter t (f x)) xs
picked_joined t f [] = refl
picked_joined t f (x ∷ xs) = filter-append t (f x) (flat_map f xs) ∙ ap (λ ys. filter t (f x) ++ ys) (picked_joined t f xs)

joined_same : {A B : Type 0} (f g : A → List B) → ((x : A) → f x ≡ g x) → (xs : List A) → flat_map f xs ≡ flat_map g xs
joined_same f g each [] = refl
joined_same f g each (x ∷ xs) = ap (λ ys. ys ++ flat_map f xs) (each x) ∙ ap (λ ys. g x ++ ys) (joined_same f g each xs)

-- the matches of all receivers that pass are those of each that do
pub picked_all : (test : Board → Step → Bool) (b : Board) → picked_on test b ≡ filter (test b) (matches_on b)
picked_all test b =
    sym (picked_joined (test b) (matches_at b) (rank_numbers b)
    ∙ joined_same (λ q. filter (test b) (matches_at b q)) (picked_at test b) (λ q. picked_joined (test b) (λ j. matches_with b (call_id q j)) (call_numbers b q)) (rank_numbers b))

-- ---- where a test tells the same of all

same_mapped : {A B : Type 0} (t : B → Bool) (g : A → B) (c : Bool) → ((x : A) → t (g x) ≡ c) → (xs : List A) → filter t (map g xs) ≡ cond c (map g xs) []
same_mapped t g true each [] = refl
same_mapped t g true each (x ∷ xs) = ap (λ (d : Bool). cond d (g x ∷ filter t (map g xs)) (filter t (map g xs))) (each x) ∙ ap (λ ys. g x ∷ ys) (same_mapped t g true each xs)
same_mapped t g false each [] = refl
same_mapped t g false each (x ∷ xs) = ap (λ (d : Bool). cond d (g x ∷ filter t (map g xs)) (filter t (map g xs))) (each x) ∙ same_mapped t g false each xs

same_joined : {A B : Type 0} (t : B → Bool) (f : A → List B) (c : Bool) → ((x : A) → filter t (f x) ≡ cond c (f x) []) → (xs : List A) → filter t (flat_map f xs) ≡ cond c (flat_map f xs) []
same_joined t f true each [] = refl
same_joined t f true each (x ∷ xs) = filter-append t (f x) (flat_map f xs) ∙ ap (λ ys. ys ++ filter t (flat_map f xs)) (each x) ∙ ap (λ ys. f x ++ ys) (same_joined t f true each xs)
same_joined t f false each [] = refl
same_joined t f false each (x ∷ xs) = filter-append t (f x) (flat_map f xs) ∙ ap (λ ys. ys ++ filter t (flat_map f xs)) (each x) ∙ same_joined t f false each xs

-- of one receive all matches pass, or none
pub named_with : (b : Board) (r : CallId) → picked_with is_named_match b r ≡ cond (names_source (kind_at b r)) (matches_with b r) []
named_with b r =
    same_joined (is_named_match b) (matches_from b r) (names_source (kind_at b r))
    (λ p. same_mapped (is_named_match b) (λ i. Match (call_id p i) r) (names_source (kind_at b r)) (λ i. refl) (candidates b p r)) (rank_numbers b)

pub open_with : (b : Board) (r : CallId) → picked_with is_open_match b r ≡ cond (takes_any (kind_at b r)) (matches_with b r) []
open_with b r =
    same_joined (is_open_match b) (matches_from b r) (takes_any (kind_at b r))
    (λ p. same_mapped (is_open_match b) (λ i. Match (call_id p i) r) (takes_any (kind_at b r)) (λ i. refl) (candidates b p r)) (rank_numbers b)

-- ---- a receive that names its source

named_is : (k : Option CallKind) (p : ℕ) → named_source k ≡ Some p → names_source k ≡ true
named_is (Some (Recv r)) p e = ap is_some e
named_is k p e = absurd (cc)

named_not : (k : Option CallKind) → named_source k ≡ None → names_source k ≡ false
named_not (Some (Recv r)) e = ap is_some e
named_not k e = refl

-- it takes no message of another rank
other_source : (k : Option CallKind) (p q : ℕ) → named_source k ≡ Some p → (p ≡ q → ⊥) → takes_from k q ≡ false
other_source (Some (Recv r)) p q e other =
    ap (λ (o : Option ℕ). is_any_or o q) e ∙ elim (eqb_tells p q) [ inl t ↦ absurd (other t.1) | inr t ↦ t.0 ]
other_source k p q e other = refl

from_other : (b : Board) (r : CallId) (p q : ℕ) → named_source (kind_at b r) ≡ Some p → (p ≡ q → ⊥) → matches_from b r q ≡ []
from_other b r p q e other = ap (map (λ i. Match (call_id q i) r)) (not_taken b q r (other_source (kind_at b r) p q e other))

-- of the numbers of a range one alone gives something, or none does
none_gives : {A : Type 0} (f : ℕ → List A) (p : ℕ) → ((q : ℕ) → (p ≡ q → ⊥) → f q ≡ []) → (a n : ℕ) → p < a → flat_map f (range_with_len a n) ≡ []
none_gives f p other a zero out = refl
none_gives f p other a (suc n) out =
    ap (λ ys. ys ++ flat_map f (range_with_len (a + 1) n)) (other a (λ e. omega (arith, e))) ∙ none_gives f p other (a + 1) n (omega arith)

none_past : {A : Type 0} (f : ℕ → List A) (p : ℕ) → ((q : ℕ) → (p ≡ q → ⊥) → f q ≡ []) → (a n : ℕ) → a + n ≤ p → flat_map f (range_with_len a n) ≡ []
none_past f p other a zero out = refl
none_past f p other a (suc n) out =
    ap (λ ys. ys ++ flat_map f (range_with_len (a + 1) n)) (other a (λ e. omega (arith, e))) ∙ none_past f p other (a + 1) n (omega arith)

one_gives : {A : Type 0} (f : ℕ → List A) (p : ℕ) → ((q : ℕ) → (p ≡ q → ⊥) → f q ≡ []) → (a n : ℕ) → a ≤ p → p < a + n → flat_map f (range_with_len a n) ≡ f p
one_gives f p other a zero low high = absurd (omega arith)
one_gives f p other a (suc n) low high =
    elim (eqb_tells p a) [
      | inl t ↦
          ap (λ ys. f a ++ ys) (none_gives f p other (a + 1) n (omega (arith, t.1)))
          ∙ ap (λ (k : ℕ). f k ++ []) (sym t.1)
          ∙ append-nil (f p)
      | inr t ↦
          let differs : p ≡ a → ⊥ = t.1 in
          ap (λ ys. ys ++ flat_map f (range_with_len (a + 1) n)) (other a differs)
          ∙ one_gives f p other (a + 1) n (elim (cases_lt a p) [ inl lt ↦ omega arith | inr ge ↦ absurd (differs (omega arith)) ]) (omega arith)
    ]

-- ---- the first of a list

pub first_joined : {A : Type 0} (xs ys : List A) → first_in (xs ++ ys) ≡ or_else (first_in xs) (first_in ys)
first_joined [] ys = refl
first_joined (x ∷ xs) ys = refl

first_mapped : {A B : Type 0} (g : A → B) (o : Option A) → first_in (map g (option_to_list o)) ≡ option_map g o
first_mapped g None = refl
first_mapped g (Some x) = refl

pub not_named : (b : Board) (r : CallId) (o : Option ℕ) → o ≡ named_source (kind_at b r) → o ≡ None → None ≡ first_in (picked_with is_named_match b r)
not_named b r o is none = sym (ap first_in (named_with b r) ∙ ap (λ (c : Bool). first_in (cond c (matches_with b r) [])) (named_not (kind_at b r) (sym is ∙ none)))

named_all : (b : Board) (r : CallId) (p : ℕ) → named_source (kind_at b r) ≡ Some p → first_in (picked_with is_named_match b r) ≡ first_in (matches_with b r)
named_all b r p e = ap first_in (named_with b r) ∙ ap (λ (c : Bool). first_in (cond c (matches_with b r) [])) (named_is (kind_at b r) p e)

pub named_nobody : (b : Board) (r : CallId) (o : Option ℕ) (p : ℕ) → o ≡ named_source (kind_at b r) → o ≡ Some p → length b.calls ≤ p → None ≡ first_in (picked_with is_named_match b r)
named_nobody b r o p is some past =
    let e : named_source (kind_at b r) ≡ Some p = sym is ∙ some in
    sym (named_all b r p e ∙ ap first_in (none_past (matches_from b r) p (λ q other. from_other b r p q e other) 0 (length b.calls) (omega (arith, past))))

pub named_found : (b : Board) (r : CallId) (o : Option ℕ) (p : ℕ) (found : Option ℕ) → o ≡ named_source (kind_at b r) → o ≡ Some p → p < length b.calls → candidates b p r ≡ option_to_list found
    → option_map (λ i. Match (call_id p i) r) found ≡ first_in (picked_with is_named_match b r)
named_found b r o p found is some within listed =
    let e : named_source (kind_at b r) ≡ Some p = sym is ∙ some in
    sym (named_all b r p e
    ∙ ap first_in (one_gives (matches_from b r) p (λ q other. from_other b r p q e other) 0 (length b.calls) (omega arith) (omega (arith, within)))
    ∙ ap (λ (is : List ℕ). first_in (map (λ i. Match (call_id p i) r) is)) listed
    ∙ first_mapped (λ i. Match (call_id p i) r) found)

pub named_none : (b : Board) (r : CallId) (o : Option ℕ) (p : ℕ) (found : Option ℕ) → o ≡ named_source (kind_at b r) → o ≡ Some p → p < length b.calls → candidates b p r ≡ option_to_list found → found ≡ None
    → None ≡ first_in (picked_with is_named_match b r)
named_none b r o p found is some within listed none = sym (ap (option_map (λ i. Match (call_id p i) r)) none) ∙ named_found b r o p found is some within listed

pub named_one : (b : Board) (r : CallId) (o : Option ℕ) (p i : ℕ) (found : Option ℕ) → o ≡ named_source (kind_at b r) → o ≡ Some p → p < length b.calls → candidates b p r ≡ option_to_list found → found ≡ Some i
    → Some (Match (call_id p i) r) ≡ first_in (picked_with is_named_match b r)
named_one b r o p i found is some within listed e = sym (ap (option_map (λ i. Match (call_id p i) r)) e) ∙ named_found b r o p found is some within listed

pub ruleset naming = (not_named, named_nobody, named_none, named_one)

-- ---- a receive of any source

pub open_none : (b : Board) (r : CallId) (k : Option CallKind) (out : List Step) → k ≡ kind_at b r → takes_any k ≡ false → out ≡ out ++ picked_with is_open_match b r
open_none b r k out is not = sym (ap (λ (ys : List Step). out ++ ys) (open_with b r ∙ ap (λ (c : Bool). cond c (matches_with b r) []) (ap takes_any (sym is) ∙ not)) ∙ append-nil out)

open_all : (b : Board) (r : CallId) (k : Option CallKind) → k ≡ kind_at b r → takes_any k ≡ true → picked_with is_open_match b r ≡ matches_with b r
open_all b r k is any = open_with b r ∙ ap (λ (c : Bool). cond c (matches_with b r) []) (ap takes_any (sym is) ∙ any)

pub open_more : (b : Board) (r : CallId) (k : Option CallKind) (out now : List Step) → k ≡ kind_at b r → takes_any k ≡ true → now ≡ out ++ matches_with b r → now ≡ out ++ picked_with is_open_match b r
open_more b r k out now is any more = more ∙ ap (λ (ys : List Step). out ++ ys) (sym (open_all b r k is any))

pub open_some : (b : Board) (r : CallId) (k : Option CallKind) → k ≡ kind_at b r → takes_any k ≡ true → 0 < length (matches_with b r) → 0 < length (picked_with is_open_match b r)
open_some b r k is any some = subst (λ (ys : List Step). 0 < length ys) (sym (open_all b r k is any)) some

pub ruleset opening = (open_none, open_more, open_some)

-- ---- a walk along a line that looks for the first that is given

pub record Finding (f : ℕ → List Step) (xs : List ℕ) (here : Option ℕ) : Type 0 where
  pub stands : HasSpot xs here
  pub same : first_in (flat_map f xs) ≡ first_in (flat_map f (rest here xs))

pub find_begins : (f : ℕ → List Step) (xs : List ℕ) (here : Option ℕ) → here ≡ first_of xs → Finding f xs here
find_begins f xs here e = subst (Finding f xs) (sym e) (record { stands = first_spot xs; same = ap (λ (zs : List ℕ). first_in (flat_map f zs)) (sym (rest_first xs)) })

find_step : (f : ℕ → List Step) (xs : List ℕ) (x : ℕ) → ((z : ℕ) → places_in xs z ≤ 1) → Finding f xs (Some x) → first_in (flat_map f xs) ≡ or_else (first_in (f x)) (first_in (flat_map f (rest (next_of xs x) xs)))
find_step f xs x once s = s.same ∙ ap (λ (zs : List ℕ). first_in (flat_map f zs)) (rest_step x xs s.stands once) ∙ first_joined (f x) (flat_map f (rest (next_of xs x) xs))

pub find_goes_on : (f : ℕ → List Step) (xs : List ℕ) (x : ℕ) (here : Option ℕ) → ((z : ℕ) → places_in xs z ≤ 1) → Finding f xs (Some x) → first_in (f x) ≡ None → here ≡ next_of xs x → Finding f xs here
find_goes_on f xs x here once s none e =
    subst (Finding f xs) (sym e) (record {
      stands = next_spot x xs;
      same = find_step f xs x once s ∙ ap (λ (o : Option Step). or_else o (first_in (flat_map f (rest (next_of xs x) xs)))) none;
    })

some_first : (o p : Option Step) → is_some o ≡ true → or_else o p ≡ o
some_first None p e = absurd (cc)
some_first (Some a) p e = refl

pub find_finds : (f : ℕ → List Step) (xs : List ℕ) (x : ℕ) (found : Option Step) → ((z : ℕ) → places_in xs z ≤ 1) → Finding f xs (Some x) → found ≡ first_in (f x) → is_some found ≡ true → found ≡ first_in (flat_map f xs)
find_finds f xs x found once s e some =
    sym (find_step f xs x once s ∙ some_first (first_in (f x)) (first_in (flat_map f (rest (next_of xs x) xs))) (ap is_some (sym e) ∙ some) ∙ sym e)

pub find_ends : (f : ℕ → List Step) (xs : List ℕ) → Finding f xs None → None ≡ first_in (flat_map f xs)
find_ends f xs s = sym (s.same ∙ ap (λ (zs : List ℕ). first_in (flat_map f zs)) (rest_none xs))

pub none_is : (o : Option Step) → is_some o ≡ false → o ≡ None
none_is None e = refl
none_is (Some a) e = absurd (cc)

-- the free receives of a rank are enough
not_posted_passes : (test : Board → Step → Bool) (b : Board) (q j : ℕ) → is_posted b q j ≡ false → picked_with test b (call_id q j) ≡ []
not_posted_passes test b q j e = ap (filter (test b)) (not_posted_none b q j e)

pub posted_picks : (test : Board → Step → Bool) (b : Board) (q : ℕ) → flat_map (λ j. picked_with test b (call_id q j)) (posted b q) ≡ picked_at test b q
posted_picks test b q = joined_passed (is_posted b q) (λ j. picked_with test b (call_id q j)) (call_numbers b q) (λ j e. not_posted_passes test b q j e)

-- ---- one receiver after another

abbrev pub first_from : (ℕ → List Step) → ℕ → ℕ → Option Step
first_from f i n = first_in (flat_map f (range_with_len i n))

first_next : (f : ℕ → List Step) (i n : ℕ) → i < n → first_from f i (n - i) ≡ or_else (first_in (f i)) (first_from f (i + 1) (n - (i + 1)))
first_next f i n lt =
    let k : n - i ≡ suc (n - (i + 1)) = omega arith in
    ap (first_from f i) k ∙ first_joined (f i) (flat_map f (range_with_len (i + 1) (n - (i + 1))))

pub first_on : (f : ℕ → List Step) (i n : ℕ) (total found : Option Step) → i < n → first_from f i (n - i) ≡ total → found ≡ first_in (f i) → is_some found ≡ false → first_from f (i + 1) (n - (i + 1)) ≡ total
first_on f i n total found lt e is misses =
    sym (first_next f i n lt ∙ ap (λ (o : Option Step). or_else o (first_from f (i + 1) (n - (i + 1)))) (sym is ∙ none_is found misses)) ∙ e

pub first_now : (f : ℕ → List Step) (i n : ℕ) (total found : Option Step) → i < n → first_from f i (n - i) ≡ total → found ≡ first_in (f i) → is_some found ≡ true → found ≡ total
first_now f i n total found lt e is hits =
    is ∙ sym (some_first (first_in (f i)) (first_from f (i + 1) (n - (i + 1))) (ap is_some (sym is) ∙ hits)) ∙ sym (first_next f i n lt) ∙ e

pub ruleset picking = (picked_all)

pub picked_begins : (test : Board → Step → Bool) (b : Board) (n : ℕ) (out : List Step) → n ≡ length b.calls → out ++ flat_map (picked_at test b) (range_with_len 0 (n - 0)) ≡ out ++ filter (test b) (matches_on b)
picked_begins test b n out e =
    let k : n - 0 ≡ length b.calls = omega (arith, e) in
    ap (λ (k : ℕ). out ++ flat_map (picked_at test b) (range_with_len 0 k)) k ∙ ap (λ ys. out ++ ys) (picked_all test b)
