-- Changes of places, reasons and cells, applied to what was before, give what is after.
use Rattle.std.proofs.Common.{◌≡◌, ℕ, ◌+◌, ◌≤◌, min, Bool, true, false, List, [], ◌∷◌, ◌++◌, length, drop, set, slice_get, Some, cond, refl, sym, ap, ◌∙◌, arith, append_assoc}
use Rattle.std.proofs.lemmas.List.{length-append}
use Rattle.std.proofs.Math.Seq.{drop-append_seam}
use Rattle.std.specs.List.{flat_map, range_with_len}
use Rattle.mpd_page.specs.Applied.{other_by, other_at, other_cells, set_last, set_cells}
use Rattle.mpd_page.specs.Changes.{values_behind}

-- ---- what is told whole

-- told where it is another
abbrev pub other_if : {A : Type 0} → (A → A → Bool) → A → A → List A
other_if same was now = cond (same was now) [] (now ∷ [])

whole_by : {A : Type 0} (b : Bool) (was now : A) → (b ≡ true → was ≡ now) → set_last was (cond b [] (now ∷ [])) ≡ now
whole_by true was now h = h refl
whole_by false was now h = refl

pub whole_set : {A : Type 0} (same : A → A → Bool) → ((x y : A) → same x y ≡ true → x ≡ y) → (was now : A) → set_last was (other_if same was now) ≡ now
whole_set same is was now = whole_by (same was now) was now (is was now)

-- ---- cells

module _ {A : Type 0} (same : A → A → Bool) (is_same : (x y : A) → same x y ≡ true → x ≡ y) where
  cell_read : (before : List A) (x : A) (xs : List A) → slice_get (before ++ x ∷ xs) (length before) ≡ Some x
  cell_read [] x xs = refl
  cell_read (b ∷ before) x xs = cell_read before x xs

  cell_put : (before : List A) (x y : A) (xs : List A) → set (before ++ x ∷ xs) (length before) y ≡ before ++ y ∷ xs
  cell_put [] x y xs = refl
  cell_put (b ∷ before) x y xs = ap (λ ys. b ∷ ys) (cell_put before x y xs)

  -- one cell, told by the test
  one_set : (b : Bool) (before : List A) (x y : A) (xs : List A) (rest : List (ℕ × A)) → (b ≡ true → x ≡ y)
      → set_cells (before ++ x ∷ xs) (cond b [] ((length before, y) ∷ []) ++ rest) ≡ set_cells ((before ++ y ∷ []) ++ xs) rest
  one_set true before x y xs rest h = ap (λ z. set_cells (before ++ z ∷ xs) rest) (h refl) ∙ ap (λ ys. set_cells ys rest) (sym (append_assoc before (y ∷ []) xs))
  one_set false before x y xs rest h = ap (λ ys. set_cells ys rest) (cell_put before x y xs ∙ sym (append_assoc before (y ∷ []) xs))

  one_longer : (before : List A) (y : A) → length (before ++ y ∷ []) ≡ length before + 1
  one_longer before y = length-append before (y ∷ [])

  -- cells from a place on, where those before it are set
  set_from : (was now : List A) (old done : List A) → length old ≡ length done → length was ≡ length now
      → set_cells (done ++ was) (flat_map (other_at same (old ++ was) (done ++ now)) (range_with_len (length done) (length now))) ≡ done ++ now
  set_from [] [] old done k h = refl
  set_from [] (y ∷ now) old done k h = absurd (omega (arith, h))
  set_from (x ∷ was) [] old done k h = absurd (omega (arith, h))
  set_from (x ∷ was) (y ∷ now) old done k h =
      let n : ℕ = length done in
      let rest : List (ℕ × A) = flat_map (other_at same (old ++ x ∷ was) (done ++ y ∷ now)) (range_with_len (n + 1) (length now)) in
      let before : slice_get (old ++ x ∷ was) n ≡ Some x = ap (slice_get (old ++ x ∷ was)) (sym k) ∙ cell_read old x was in
      let here : other_at same (old ++ x ∷ was) (done ++ y ∷ now) n ≡ cond (same x y) [] ((n, y) ∷ []) =
      ap (λ o. other_by same n o (slice_get (done ++ y ∷ now) n)) before ∙ ap (other_by same n (Some x)) (cell_read done y now) in
      let further : flat_map (other_at same ((old ++ x ∷ []) ++ was) ((done ++ y ∷ []) ++ now)) (range_with_len (length (done ++ y ∷ [])) (length now)) ≡ rest =
      ap (λ xs. flat_map (other_at same xs ((done ++ y ∷ []) ++ now)) (range_with_len (length (done ++ y ∷ [])) (length now))) (append_assoc old (x ∷ []) was)
      ∙ ap (λ ys. flat_map (other_at same (old ++ x ∷ was) ys) (range_with_len (length (done ++ y ∷ [])) (length now))) (append_assoc done (y ∷ []) now)
      ∙ ap (λ m. flat_map (other_at same (old ++ x ∷ was) (done ++ y ∷ now)) (range_with_len m (length now))) (one_longer done y) in
      let lengths : length (old ++ x ∷ []) ≡ length (done ++ y ∷ []) = one_longer old x ∙ ap (λ m. m + 1) k ∙ sym (one_longer done y) in
      let fewer : length was ≡ length now = omega (arith, h) in
      ap (λ cs. set_cells (done ++ x ∷ was) (cs ++ rest)) here
      ∙ one_set (same x y) done x y was rest (is_same x y)
      ∙ ap (set_cells ((done ++ y ∷ []) ++ was)) (sym further)
      ∙ set_from was now (old ++ x ∷ []) (done ++ y ∷ []) lengths fewer
      ∙ append_assoc done (y ∷ []) now

  -- all cells
  pub cells_set : (was now : List A) → length was ≡ length now → set_cells was (other_cells same was now) ≡ now
  cells_set was now h = set_from was now [] [] refl h

-- ---- what was printed

least : (m n : ℕ) → m ≤ n → min m n ≡ m
least m n h = omega (arith, h)

pub printed_since : {A : Type 0} (was now more : List A) → now ≡ was ++ more → was ++ values_behind (length was) now ≡ now
printed_since was now more e =
    let within : length was ≤ length now = omega (arith, ap length e, length-append was more) in
    let k : min (length was) (length now) ≡ length was = least (length was) (length now) within in
    ap (λ n. was ++ drop n now) k ∙ ap (λ xs. was ++ drop (length was) xs) e ∙ ap (λ xs. was ++ xs) (drop-append_seam was more) ∙ sym e
