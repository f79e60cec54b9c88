-- Lists that are gathered: of the numbers of a range, and along a line of free calls.
use Rattle.std.proofs.Common.{◌≡◌, ℕ, ◌<◌, Bool, true, false, Option, Some, None, List, [], ◌∷◌, ◌++◌, inl, inr, refl, sym, ap, ◌∙◌, map, length, arith, append-nil}
use Rattle.std.proofs.lemmas.Bool.{cases_Bool}
use Rattle.std.specs.List.{filter, flat_map}
use Rattle.std.specs.Option.{option_to_list}
use Rattle.mpd_model.specs.declared.step.CallId.{CallId}
use Rattle.mpd_model.specs.declared.step.Step.{Step}
use Rattle.mpd_model.specs.declared.step.Step.TheVariants.{Match}
use Rattle.mpd_model.specs.steps.World.{Board, call_id, call_numbers, rank_numbers, is_posted, posted, eligible}
use Rattle.mpd_match.specs.Matches.{matches_from, matches_with, matches_at}
use Rattle.mpd_match.proofs.Passed.{passed_here, passed_there}
use Rattle.mpd_match.proofs.Matches.{eligible_posted}

-- ---- the match with a send of one rank

abbrev pub candidates : Board → ℕ → CallId → List ℕ
candidates b p r = filter (λ i. eligible b (call_id p i) r) (call_numbers b p)

pub found_none : (b : Board) (p : ℕ) (r : CallId) (o : Option ℕ) (out : List Step) → candidates b p r ≡ option_to_list o → o ≡ None → out ≡ out ++ matches_from b r p
found_none b p r o out e none = sym (ap (λ (is : List ℕ). out ++ map (λ i. Match (call_id p i) r) is) (e ∙ ap option_to_list none) ∙ append-nil out)

pub found_some : (b : Board) (p : ℕ) (r : CallId) (o : Option ℕ) (i : ℕ) (out now : List Step) → candidates b p r ≡ option_to_list o → o ≡ Some i → now ≡ out ++ Match (call_id p i) r ∷ [] → now ≡ out ++ matches_from b r p
found_some b p r o i out now e some m = m ∙ sym (ap (λ (is : List ℕ). out ++ map (λ i. Match (call_id p i) r) is) (e ∙ ap option_to_list some))

pub found_one : (b : Board) (p : ℕ) (r : CallId) (o : Option ℕ) (i : ℕ) → candidates b p r ≡ option_to_list o → o ≡ Some i → 0 < length (matches_from b r p)
found_one b p r o i e some =
    let k : length (matches_from b r p) ≡ 1 = ap (λ (is : List ℕ). length (map (λ i. Match (call_id p i) r) is)) (e ∙ ap option_to_list some) in omega (arith, k)

-- ---- the free receives of a rank are enough

nothing_filtered : (t : ℕ → Bool) (xs : List ℕ) → ((i : ℕ) → t i ≡ false) → filter t xs ≡ []
nothing_filtered t [] none = refl
nothing_filtered t (x ∷ xs) none = passed_there t x xs (none x) ∙ nothing_filtered t xs none

nothing_joined : {A : Type 0} (f : ℕ → List A) (xs : List ℕ) → ((i : ℕ) → f i ≡ []) → flat_map f xs ≡ []
nothing_joined f [] none = refl
nothing_joined f (x ∷ xs) none = ap (λ ys. ys ++ flat_map f xs) (none x) ∙ nothing_joined f xs none

not_true : (b c : Bool) → (b ≡ true → c ≡ true) → c ≡ false → b ≡ false
not_true true c h e = absurd (let k : c ≡ true = h refl in cc)
not_true false c h e = refl

pub not_posted_none : (b : Board) (q j : ℕ) → is_posted b q j ≡ false → matches_with b (call_id q j) ≡ []
not_posted_none b q j e =
    nothing_joined (matches_from b (call_id q j)) (rank_numbers b) (λ p.
    ap (map (λ i. Match (call_id p i) (call_id q j)))
    (nothing_filtered (λ i. eligible b (call_id p i) (call_id q j)) (call_numbers b p) (λ i.
    not_true (eligible b (call_id p i) (call_id q j)) (is_posted b q j) (λ h. eligible_posted b (call_id p i) q j h) e)))

pub joined_passed : {A : Type 0} (t : ℕ → Bool) (f : ℕ → List A) (xs : List ℕ) → ((i : ℕ) → t i ≡ false → f i ≡ []) → flat_map f (filter t xs) ≡ flat_map f xs
joined_passed t f [] none = refl
joined_passed t f (x ∷ xs) none =
    elim (cases_Bool (t x)) [
      | inl h ↦ ap (flat_map f) (passed_here t x xs h) ∙ ap (λ ys. f x ++ ys) (joined_passed t f xs none)
      | inr h ↦ ap (flat_map f) (passed_there t x xs h) ∙ joined_passed t f xs none ∙ ap (λ ys. ys ++ flat_map f xs) (sym (none x h))
    ]

pub posted_gives : (b : Board) (q : ℕ) → flat_map (λ j. matches_with b (call_id q j)) (posted b q) ≡ matches_at b q
posted_gives b q = joined_passed (is_posted b q) (λ j. matches_with b (call_id q j)) (call_numbers b q) (λ j e. not_posted_none b q j e)

pub ruleset matching = (found_none, found_some, found_one)
