-- Barriers and their releases, counted: what a list has with an item more.
use Rattle.std.proofs.Common.{◌≡◌, ℕ, zero, suc, ◌+◌, ◌<◌, ◌≤◌, Bool, true, false, cond, Some, List, [], ◌∷◌, ◌++◌, take, length, slice_get, inl, inr, refl, ap, ◌∙◌, arith}
use Rattle.std.proofs.lemmas.Bool.{and_parts}
use Rattle.std.proofs.lemmas.Bool.Decides.{eqb_tells}
use Rattle.std.specs.List.{list_all, range_with_len}
use Rattle.std.proofs.lemmas.List.Sums.{sum_by-append}
use Rattle.mpd_model.specs.declared.call.Call.{Call}
use Rattle.mpd_model.specs.declared.call.MatchSet.{MatchSet}
use Rattle.mpd_model.specs.steps.World.{is_barrier, kind_of}
use Rattle.mpd_model.specs.steps.Order.{is_release, releases, barriers}

abbrev pub one_if : Bool → ℕ
one_if b = cond b 1 0

pub releases_more : (sets : List MatchSet) (m : MatchSet) → releases (sets ++ m ∷ []) ≡ releases sets + one_if (is_release m)
releases_more sets m =
    let more = sum_by-append (λ (n : MatchSet). one_if (is_release n)) sets (m ∷ []) in
    omega (arith, more)

pub releases_same : (sets : List MatchSet) (m : MatchSet) → is_release m ≡ false → releases (sets ++ m ∷ []) ≡ releases sets
releases_same sets m e =
    let more = releases_more sets m in
    let none : one_if (is_release m) ≡ 0 = ap one_if e in
    omega (arith, more, none)

pub releases_cut : (sets front : List MatchSet) (m : MatchSet) (behind : List MatchSet) → sets ≡ front ++ (m ∷ behind) → releases front + one_if (is_release m) ≤ releases sets
releases_cut sets front m behind e =
    let whole = ap releases e in
    let more : releases (front ++ (m ∷ behind)) ≡ releases front + releases (m ∷ behind) = sum_by-append (λ (n : MatchSet). one_if (is_release n)) front (m ∷ behind) in
    let first : releases (m ∷ behind) ≡ 0 + one_if (is_release m) + releases behind = sum_by-append (λ (n : MatchSet). one_if (is_release n)) (m ∷ []) behind in
    omega (arith, whole, more, first)

pub barriers_more : (calls : List Call) (c : Call) → barriers (calls ++ c ∷ []) ≡ barriers calls + one_if (is_barrier (Some c.kind))
barriers_more calls c =
    let more = sum_by-append (λ (d : Call). one_if (is_barrier (Some d.kind))) calls (c ∷ []) in
    omega (arith, more)

barriers_first : (c : Call) (calls : List Call) → barriers (c ∷ calls) ≡ 0 + one_if (is_barrier (Some c.kind)) + barriers calls
barriers_first c calls = sum_by-append (λ (d : Call). one_if (is_barrier (Some d.kind))) (c ∷ []) calls

-- the last call of some, and those before it
pub barriers_last : (calls : List Call) (i : ℕ) → length calls ≡ suc i → barriers calls ≡ barriers (take i calls) + one_if (is_barrier (kind_of (slice_get calls i)))
barriers_last [] i e = absurd (cc)
barriers_last (c ∷ []) zero e = omega arith
barriers_last (c ∷ d ∷ calls) zero e = absurd (cc)
barriers_last (c ∷ calls) (suc i) e =
    let more = barriers_last calls i (omega (arith, e)) in
    let all = barriers_first c calls in
    let ahead : barriers (take (suc i) (c ∷ calls)) ≡ 0 + one_if (is_barrier (Some c.kind)) + barriers (take i calls) = barriers_first c (take i calls) in
    let last : one_if (is_barrier (kind_of (slice_get (c ∷ calls) (suc i)))) ≡ one_if (is_barrier (kind_of (slice_get calls i))) = refl in
    omega (arith, more, all, ahead, last)

-- ---- what holds of all ranks holds of each

pub one_of_all : (t : ℕ → Bool) (a n p : ℕ) → list_all t (range_with_len a n) ≡ true → a ≤ p → p < a + n → t p ≡ true
one_of_all t a zero p e le lt = absurd (omega arith)
one_of_all t a (suc n) p e le lt =
    let parts = and_parts (t a) (list_all t (range_with_len (a + 1) n)) e in
    elim (eqb_tells p a) [
      | inl k ↦ ap t k.1 ∙ parts.0
      | inr k ↦
          let ne = k.1 in
          one_of_all t (a + 1) n p parts.1 (omega (arith, ne)) (omega arith)
    ]
