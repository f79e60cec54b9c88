-- Lists that are gathered, of the numbers of a range or along a line of free calls.
use Rattle.std.proofs.Common.{◌≡◌, ℕ, suc, ◌+◌, ◌-◌, ◌<◌, ◌≤◌, Bool, cond, Option, Some, None, List, [], ◌∷◌, ◌++◌, inl, inr, refl, sym, ap, subst, ◌∙◌, map, length, arith, append_assoc, append-nil, Result, Ok, Err, OnErr}
use Rattle.std.proofs.lemmas.Bool.{cases_Bool}
use Rattle.std.proofs.lemmas.List.{length-append}
use Rattle.std.specs.List.{filter, flat_map, range_with_len}
use Rattle.mpd_queue.specs.InOrder.{places_in, first_of, next_of, HasSpot}
use Rattle.mpd_queue.proofs.Spots.{first_spot, next_spot}
use Rattle.mpd_match.proofs.Passed.{passed_here, passed_there}
use Rattle.mpd_match.proofs.Walks.{rest, rest_none, rest_first, rest_step, walk_falls}

-- ---- numbers of a range, one after another

pub given_more : {A : Type 0} (f : ℕ → List A) (i n : ℕ) (so_far now total : List A) → i < n → so_far ++ flat_map f (range_with_len i (n - i)) ≡ total → now ≡ so_far ++ f i
    → now ++ flat_map f (range_with_len (i + 1) (n - (i + 1))) ≡ total
given_more f i n so_far now total h e more =
    let k : n - i ≡ suc (n - (i + 1)) = omega arith in
    let u : flat_map f (range_with_len i (n - i)) ≡ f i ++ flat_map f (range_with_len (i + 1) (n - (i + 1))) = rw k refl in
    ap (λ xs. xs ++ flat_map f (range_with_len (i + 1) (n - (i + 1)))) more ∙ append_assoc so_far (f i) (flat_map f (range_with_len (i + 1) (n - (i + 1)))) ∙ ap (λ xs. so_far ++ xs) (sym u) ∙ e

-- what is behind a beginning that only grew has an entry where its next part has one
part_some : {A : Type 0} (old so_far part more total : List A) → length old ≤ length so_far → so_far ++ (part ++ more) ≡ old ++ total → 0 < length part → 0 < length total
part_some old so_far part more total grows e some =
    omega (arith, ap length e, grows, some, length-append so_far (part ++ more), length-append part more, length-append old total)

pub given_some : {A : Type 0} (f : ℕ → List A) (i n : ℕ) (old so_far total : List A) → i < n → length old ≤ length so_far → so_far ++ flat_map f (range_with_len i (n - i)) ≡ old ++ total → 0 < length (f i) → 0 < length total
given_some f i n old so_far total h grows e some =
    let k : n - i ≡ suc (n - (i + 1)) = omega arith in
    let u : flat_map f (range_with_len i (n - i)) ≡ f i ++ flat_map f (range_with_len (i + 1) (n - (i + 1))) = rw k refl in
    part_some old so_far (f i) _ total grows (ap (λ xs. so_far ++ xs) (sym u) ∙ e) some

pub grows_more : {A : Type 0} (old so_far now more : List A) → length old ≤ length so_far → now ≡ so_far ++ more → length old ≤ length now
grows_more old so_far now more grows e = omega (arith, ap length e, grows, length-append so_far more)

pub refused_with : {T E : Type 0} {P : Type 0} (r : Result T E) → P → OnErr r P
refused_with (Ok x) p = tt
refused_with (Err e) p = p

-- ---- what a walk along a line keeps that gathers: where it stands is in the line, and what is gathered and what the rest gives are all

pub record Gathering {A : Type 0} (f : ℕ → List A) (xs : List ℕ) (old total now : List A) (here : Option ℕ) : Type 0 where
  pub stands : HasSpot xs here
  pub given : now ++ flat_map f (rest here xs) ≡ old ++ total
  pub grows : length old ≤ length now

pub gather_begins : {A : Type 0} (f : ℕ → List A) (xs : List ℕ) (old total : List A) (here : Option ℕ) → here ≡ first_of xs → flat_map f xs ≡ total → Gathering f xs old total old here
gather_begins f xs old total here e all = record {
  stands = subst (HasSpot xs) (sym e) (first_spot xs);
  given = ap (λ (o : Option ℕ). old ++ flat_map f (rest o xs)) e ∙ ap (λ (zs : List ℕ). old ++ flat_map f zs) (rest_first xs) ∙ ap (λ zs. old ++ zs) all;
  grows = omega arith;
}

pub gather_stands : {A : Type 0} (f : ℕ → List A) (xs : List ℕ) (old total now : List A) (x : ℕ) (here : Option ℕ) → here ≡ Some x → Gathering f xs old total now here → 0 < places_in xs x
gather_stands f xs old total now x here at w = subst (HasSpot xs) at w.stands

gather_split : {A : Type 0} (f : ℕ → List A) (xs : List ℕ) (old total now : List A) (x : ℕ) (here : Option ℕ) → ((z : ℕ) → places_in xs z ≤ 1) → here ≡ Some x → Gathering f xs old total now here
    → now ++ (f x ++ flat_map f (rest (next_of xs x) xs)) ≡ old ++ total
gather_split f xs old total now x here once at w =
    ap (λ (zs : List ℕ). now ++ flat_map f zs) (sym (rest_step x xs (gather_stands f xs old total now x here at w) once)) ∙ ap (λ (o : Option ℕ). now ++ flat_map f (rest o xs)) (sym at) ∙ w.given

pub gather_falls : {A : Type 0} (f : ℕ → List A) (xs : List ℕ) (old total now : List A) (x : ℕ) (here next : Option ℕ) → ((z : ℕ) → places_in xs z ≤ 1) → here ≡ Some x → Gathering f xs old total now here → next ≡ next_of xs x
    → length (rest next xs) < length (rest here xs)
gather_falls f xs old total now x here next once at w e =
    subst (λ (o : Option ℕ). length (rest next xs) < length (rest o xs)) (sym at) (walk_falls x xs next once (gather_stands f xs old total now x here at w) e)

pub gather_steps : {A : Type 0} (f : ℕ → List A) (xs : List ℕ) (old total now more : List A) (x : ℕ) (here next : Option ℕ) → ((z : ℕ) → places_in xs z ≤ 1) → here ≡ Some x → Gathering f xs old total now here → next ≡ next_of xs x
    → more ≡ now ++ f x → Gathering f xs old total more next
gather_steps f xs old total now more x here next once at w e m = record {
  stands = subst (HasSpot xs) (sym e) (next_spot x xs);
  given =
      ap (λ zs. zs ++ flat_map f (rest next xs)) m
      ∙ append_assoc now (f x) (flat_map f (rest next xs))
      ∙ ap (λ (o : Option ℕ). now ++ (f x ++ flat_map f (rest o xs))) e
      ∙ gather_split f xs old total now x here once at w;
  grows = grows_more old now more (f x) w.grows m;
}

pub gather_some : {A : Type 0} (f : ℕ → List A) (xs : List ℕ) (old total now : List A) (x : ℕ) (here : Option ℕ) → ((z : ℕ) → places_in xs z ≤ 1) → here ≡ Some x → Gathering f xs old total now here → 0 < length (f x) → 0 < length total
gather_some f xs old total now x here once at w some = part_some old now (f x) _ total w.grows (gather_split f xs old total now x here once at w) some

pub gather_ends : {A : Type 0} (f : ℕ → List A) (xs : List ℕ) (old total now : List A) (here : Option ℕ) → here ≡ None → Gathering f xs old total now here → now ≡ old ++ total
gather_ends f xs old total now here at w =
    sym (append-nil now) ∙ ap (λ (zs : List ℕ). now ++ flat_map f zs) (sym (rest_none xs)) ∙ ap (λ (o : Option ℕ). now ++ flat_map f (rest o xs)) (sym at) ∙ w.given

-- ---- one entry for each number that passes

pub given_passed : {A : Type 0} (t : ℕ → Bool) (g : ℕ → A) (xs : List ℕ) → flat_map (λ i. cond (t i) (g i ∷ []) []) xs ≡ map g (filter t xs)
given_passed t g [] = refl
given_passed t g (x ∷ xs) =
    elim (cases_Bool (t x)) [
      | inl h ↦
          ap (λ (b : Bool). cond b (g x ∷ []) [] ++ flat_map (λ i. cond (t i) (g i ∷ []) []) xs) h
          ∙ ap (λ ys. g x ∷ ys) (given_passed t g xs)
          ∙ sym (ap (map g) (passed_here t x xs h))
      | inr h ↦
          ap (λ (b : Bool). cond b (g x ∷ []) [] ++ flat_map (λ i. cond (t i) (g i ∷ []) []) xs) h
          ∙ given_passed t g xs
          ∙ sym (ap (map g) (passed_there t x xs h))
    ]
