-- The first number of a line that passes a test, and a walk that looks for it.
use Rattle.std.proofs.Common.{◌≡◌, ℕ, ◌+◌, ◌<◌, ◌≤◌, Bool, true, false, cond, ◌||◌, Option, Some, None, List, [], ◌∷◌, inl, inr, refl, sym, ap, subst, ◌∙◌, length, arith}
use Rattle.std.proofs.lemmas.Bool.{cases_Bool}
use Rattle.std.proofs.lemmas.Bool.Decides.{eqb_tells}
use Rattle.std.specs.List.{filter, list_any}
use Rattle.mpd_model.specs.steps.Why.{first_in}
use Rattle.mpd_queue.specs.InOrder.{places_in, first_of, next_of, HasSpot}
use Rattle.mpd_queue.proofs.Places.{places_here, places_there, places_more}
use Rattle.mpd_queue.proofs.Spots.{first_spot, next_spot}
use Rattle.mpd_match.specs.Lines.{ahead}
use Rattle.mpd_match.proofs.Passed.{passed_here, passed_there}
use Rattle.mpd_match.proofs.Walks.{AllFrom, Rising, rest, rest_none, rest_first, rest_step, walk_falls}

-- ---- what stands in a list

or_true : (a b : Bool) → b ≡ true → (a || b) ≡ true
or_true true b e = refl
or_true false b e = e

pub any_stands : (t : ℕ → Bool) (x : ℕ) (xs : List ℕ) → 0 < places_in xs x → t x ≡ true → list_any t xs ≡ true
any_stands t x [] has hits = absurd (omega arith)
any_stands t x (y ∷ ys) has hits =
    elim (eqb_tells x y) [
      | inl k ↦ ap (λ (b : Bool). b || list_any t ys) (ap t (sym k.1) ∙ hits)
      | inr k ↦ or_true (t y) (list_any t ys) (any_stands t x ys (omega (arith, places_there x y ys k.1)) hits)
    ]

pub none_stands : (t : ℕ → Bool) (xs : List ℕ) → ((x : ℕ) → 0 < places_in xs x → t x ≡ false) → list_any t xs ≡ false
none_stands t [] misses = refl
none_stands t (x ∷ xs) misses =
    ap (λ (b : Bool). b || list_any t xs) (misses x (omega (arith, places_here x xs)))
    ∙ none_stands t xs (λ y has. misses y (omega (arith, places_more y x xs)))

from_stands : (k : ℕ) (xs : List ℕ) (i : ℕ) → AllFrom k xs → 0 < places_in xs i → k ≤ i
from_stands k [] i all has = absurd (omega arith)
from_stands k (x ∷ xs) i all has =
    elim (eqb_tells i x) [
      | inl e ↦ omega (arith, e.1, all.0)
      | inr e ↦ from_stands k xs i all.1 (omega (arith, places_there i x xs e.1))
    ]

-- ---- the first that passes

first_here : (t : ℕ → Bool) (x : ℕ) (xs : List ℕ) → t x ≡ true → first_in (filter t (x ∷ xs)) ≡ Some x
first_here t x xs e = ap first_in (passed_here t x xs e)

first_there : (t : ℕ → Bool) (x : ℕ) (xs : List ℕ) → t x ≡ false → first_in (filter t (x ∷ xs)) ≡ first_in (filter t xs)
first_there t x xs e = ap first_in (passed_there t x xs e)

same_some : (x y : ℕ) (o : Option ℕ) → o ≡ Some x → o ≡ Some y → x ≡ y
same_some x y o e f = cc

pub first_passes : (t : ℕ → Bool) (xs : List ℕ) (k : ℕ) → first_in (filter t xs) ≡ Some k → t k ≡ true
first_passes t [] k e = absurd (cc)
first_passes t (x ∷ xs) k e =
    elim (cases_Bool (t x)) [
      | inl h ↦ ap t (sym (same_some x k _ (first_here t x xs h) e)) ∙ h
      | inr h ↦ first_passes t xs k (sym (first_there t x xs h) ∙ e)
    ]

pub first_stands : (t : ℕ → Bool) (xs : List ℕ) (k : ℕ) → first_in (filter t xs) ≡ Some k → 0 < places_in xs k
first_stands t [] k e = absurd (cc)
first_stands t (x ∷ xs) k e =
    elim (cases_Bool (t x)) [
      | inl h ↦ subst (λ (n : ℕ). 0 < places_in (x ∷ xs) n) (same_some x k _ (first_here t x xs h) e) (omega (arith, places_here x xs))
      | inr h ↦ omega (arith, first_stands t xs k (sym (first_there t x xs h) ∙ e), places_more k x xs)
    ]

pub first_least : (t : ℕ → Bool) (xs : List ℕ) (k i : ℕ) → Rising xs → first_in (filter t xs) ≡ Some k → 0 < places_in xs i → t i ≡ true → k ≤ i
first_least t [] k i rising e has hits = absurd (cc)
first_least t (x ∷ xs) k i rising e has hits =
    elim (cases_Bool (t x)) [
      | inl h ↦
          let same : x ≡ k = same_some x k _ (first_here t x xs h) e in
          elim (eqb_tells i x) [
            | inl q ↦ omega (arith, q.1, same)
            | inr q ↦ omega (arith, from_stands (x + 1) xs i rising.0 (omega (arith, places_there i x xs q.1)), same)
          ]
      | inr h ↦
          elim (eqb_tells i x) [
            | inl q ↦ absurd (let u : t x ≡ true = ap t (sym q.1) ∙ hits in cc)
            | inr q ↦ first_least t xs k i rising.1 (sym (first_there t x xs h) ∙ e) (omega (arith, places_there i x xs q.1)) hits
          ]
    ]

pub first_none : (t : ℕ → Bool) (xs : List ℕ) (i : ℕ) → first_in (filter t xs) ≡ None → 0 < places_in xs i → t i ≡ true → ⊥
first_none t [] i e has hits = absurd (omega arith)
first_none t (x ∷ xs) i e has hits =
    elim (cases_Bool (t x)) [
      | inl h ↦ absurd (let u : Some x ≡ None = sym (first_here t x xs h) ∙ e in cc)
      | inr h ↦
          elim (eqb_tells i x) [
            | inl q ↦ absurd (let u : t x ≡ true = ap t (sym q.1) ∙ hits in cc)
            | inr q ↦ first_none t xs i (sym (first_there t x xs h) ∙ e) (omega (arith, places_there i x xs q.1)) hits
          ]
    ]

pub few_ahead : (t : ℕ → Bool) (xs : List ℕ) → ahead t xs ≤ length xs
few_ahead t [] = omega arith
few_ahead t (x ∷ xs) =
    elim (t x) as (λ b. cond b 0 (1 + ahead t xs) ≤ length (x ∷ xs)) [ true ↦ omega arith | false ↦ omega (arith, few_ahead t xs) ]

-- ---- what a walk keeps that looks for the first: where it stands is in the line, nothing behind it was found, and its looks are counted

pub record Finding (t : ℕ → Bool) (xs : List ℕ) (begun looks : ℕ) (here : Option ℕ) : Type 0 where
  pub stands : HasSpot xs here
  pub same : first_in (filter t xs) ≡ first_in (filter t (rest here xs))
  pub counted : looks + ahead t (rest here xs) ≡ begun + 1 + ahead t xs

pub find_begins : (t : ℕ → Bool) (xs : List ℕ) (begun looks : ℕ) (here : Option ℕ) → here ≡ first_of xs → looks ≡ begun + 1 → Finding t xs begun looks here
find_begins t xs begun looks here e n =
    let all : rest here xs ≡ xs = ap (λ (o : Option ℕ). rest o xs) e ∙ rest_first xs in
    record {
      stands = subst (HasSpot xs) (sym e) (first_spot xs);
      same = ap (λ (zs : List ℕ). first_in (filter t zs)) (sym all);
      counted = let k : ahead t (rest here xs) ≡ ahead t xs = ap (ahead t) all in omega (arith, n);
    }

module _ (t : ℕ → Bool) (xs : List ℕ) (begun looks x : ℕ) (here : Option ℕ) (once : (z : ℕ) → places_in xs z ≤ 1) (at : here ≡ Some x) (w : Finding t xs begun looks here) where
  pub find_stands : 0 < places_in xs x
  find_stands = subst (HasSpot xs) at w.stands

  opened : rest here xs ≡ x ∷ rest (next_of xs x) xs
  opened = ap (λ (o : Option ℕ). rest o xs) at ∙ rest_step x xs find_stands once

  pub find_falls : (next : Option ℕ) → next ≡ next_of xs x → length (rest next xs) < length (rest here xs)
  find_falls next e = subst (λ (o : Option ℕ). length (rest next xs) < length (rest o xs)) (sym at) (walk_falls x xs next once find_stands e)

  pub find_steps : (next : Option ℕ) (more : ℕ) → t x ≡ false → next ≡ next_of xs x → more ≡ looks + 1 → Finding t xs begun more next
  find_steps next more misses e n =
      let step : rest here xs ≡ x ∷ rest next xs = opened ∙ ap (λ (o : Option ℕ). x ∷ rest o xs) (sym e) in
      record {
        stands = subst (HasSpot xs) (sym e) (next_spot x xs);
        same = w.same ∙ ap (λ (zs : List ℕ). first_in (filter t zs)) step ∙ first_there t x (rest next xs) misses;
        counted =
            let k : ahead t (rest here xs) ≡ 1 + ahead t (rest next xs) = ap (ahead t) step ∙ ap (λ (b : Bool). cond b 0 (1 + ahead t (rest next xs))) misses in
            omega (arith, w.counted, n);
      }

  pub find_hits : t x ≡ true → Some x ≡ first_in (filter t xs)
  find_hits hits = sym (w.same ∙ ap (λ (zs : List ℕ). first_in (filter t zs)) opened ∙ first_here t x (rest (next_of xs x) xs) hits)

  pub looks_hit : t x ≡ true → looks ≡ begun + 1 + ahead t xs
  looks_hit hits =
      let k : ahead t (rest here xs) ≡ 0 = ap (ahead t) opened ∙ ap (λ (b : Bool). cond b 0 (1 + ahead t (rest (next_of xs x) xs))) hits in
      omega (arith, w.counted)

pub find_ends : (t : ℕ → Bool) (xs : List ℕ) (begun looks : ℕ) (here : Option ℕ) → here ≡ None → Finding t xs begun looks here → None ≡ first_in (filter t xs)
find_ends t xs begun looks here at w =
    sym (w.same ∙ ap (λ (zs : List ℕ). first_in (filter t zs)) (ap (λ (o : Option ℕ). rest o xs) at ∙ rest_none xs))

pub looks_end : (t : ℕ → Bool) (xs : List ℕ) (begun looks : ℕ) (here : Option ℕ) → here ≡ None → Finding t xs begun looks here → looks ≡ begun + 1 + ahead t xs
looks_end t xs begun looks here at w =
    let k : ahead t (rest here xs) ≡ 0 = ap (ahead t) (ap (λ (o : Option ℕ). rest o xs) at ∙ rest_none xs) in omega (arith, w.counted)
