-- As many receipts as entries, all of entries and no two of one: so each entry has one.
use Rattle.std.proofs.Common.{◌≡◌, ◌≢◌, ◌<◌, ◌≤◌, ◌+◌, ℕ, eqb, suc, Bool, true, false, ◌||◌, List, [], ◌∷◌, ◌++◌, length, get_or, refl, ap, sym, subst, ◌∙◌, arith}
use Rattle.std.specs.Prelude.{⊤}
use Rattle.std.specs.List.{All, AllPairs, Any, list_any}
use Rattle.std.proofs.lemmas.Bool.{eqb-true, eqb-false}
use Rattle.std.proofs.lemmas.Option.{slice_get_within}
use Rattle.std.proofs.lemmas.List.{length-append}
use Rattle.std.proofs.lemmas.List.Folds.{list_any-append}
use Rattle.std.proofs.lemmas.List.Sums.{sum_by-cons}
use Rattle.std.proofs.lemmas.Map.Steps.{length-le_from_distinct_below}
use Rattle.std.proofs.lemmas.Map.Made.{IsDistinct-from_AllPairs}
use Rattle.std.proofs.lemmas.List.Elements.{All-cons, All-nil}
use Rattle.std.proofs.lemmas.List.Kept.{AllPairs-cons}
use Rattle.std.proofs.lemmas.Bool.Decides.{Decides-eqb}
use Rattle.mpd_session.specs.declared.history.Entry.{Entry}
use Rattle.mpd_session.specs.declared.history.Receipt.{Receipt}
use Rattle.mpd_session.specs.History.{Noted}
use Rattle.mpd_session.specs.Audit.{IsOf, IsRising, IsApart, IsKept, Agrees, HasReceipt, receipts_in}

-- ---- numbers of receipts

-- the entry numbers of receipts, and of those of all logs
abbrev numbers : List Receipt → List ℕ
numbers [] = []
numbers (r ∷ rs) = r.entry ∷ numbers rs

length-numbers : (rs : List Receipt) → length (numbers rs) ≡ length rs
length-numbers [] = refl
length-numbers (r ∷ rs) = ap suc (length-numbers rs)

abbrev Other : ℕ → List ℕ → Type 0
Other n [] = ⊤
Other n (m ∷ ms) = (n ≢ m) × Other n ms

abbrev Others : List ℕ → List ℕ → Type 0
Others [] ms = ⊤
Others (n ∷ ns) ms = Other n ms × Others ns ms

abbrev Distinct : List ℕ → Type 0
Distinct [] = ⊤
Distinct (n ∷ ns) = Other n ns × Distinct ns

other_on : (n : ℕ) (xs ys : List ℕ) → Other n xs → Other n ys → Other n (xs ++ ys)
other_on n [] ys h k = k
other_on n (x ∷ xs) ys h k = (h.0, other_on n xs ys h.1 k)

distinct_on : (xs ys : List ℕ) → Distinct xs → Distinct ys → Others xs ys → Distinct (xs ++ ys)
distinct_on [] ys h k apart = k
distinct_on (x ∷ xs) ys h k apart = (other_on x xs ys h.0 apart.0, distinct_on xs ys h.1 k apart.1)

other_numbers : (n : ℕ) (rs : List Receipt) → All (λ r. n ≢ r.entry) rs → Other n (numbers rs)
other_numbers n [] h = tt
other_numbers n (r ∷ rs) h = (h 0 r (omega arith), other_numbers n rs (λ k d lt. h (suc k) d (omega arith)))

rising_distinct : (rs : List Receipt) → IsRising rs → Distinct (numbers rs)
rising_distinct [] h = tt
rising_distinct (r ∷ rs) h = (
  other_numbers r.entry rs (λ k d lt same. let above : r.entry < (get_or rs k d).entry = h 0 (suc k) d (omega arith) (omega arith) in absurd (omega arith)),
  rising_distinct rs (λ i j d lt within. h (suc i) (suc j) d (omega arith) (omega arith)),
)

all_other : (n : ℕ) (ms : List ℕ) → Other n ms → All (λ m. n ≢ m) ms
all_other n [] h = All-nil (λ m. n ≢ m)
all_other n (m ∷ ms) h = All-cons (λ x. n ≢ x) m ms h.0 (all_other n ms h.1)

every_two : (ns : List ℕ) → Distinct ns → AllPairs (λ n m. n ≢ m) ns
every_two [] h = λ i j d lt within. absurd (omega arith)
every_two (n ∷ ns) h = AllPairs-cons (λ n m. n ≢ m) n ns (all_other n ns h.0) (every_two ns h.1)

in_either : (b : Bool) (t : Bool) → b || t ≡ true → b ≡ false → t ≡ true
in_either true t e differs = absurd cc
in_either false t e differs = e

at_first : (n : ℕ) (r : Receipt) (rs : List Receipt) (b : Bool) → eqb n r.entry ≡ b → (b ≡ false → Any (λ (s : Receipt). s.entry ≡ n) rs) → Any (λ (s : Receipt). s.entry ≡ n) (r ∷ rs)
at_first n r rs true is rest = (0, r, omega arith, refl, sym (eqb-true n r.entry is))
at_first n r rs false differs rest = let h : Any (λ (s : Receipt). s.entry ≡ n) rs = rest refl in let lt : h.0 < length rs = h.2 in (suc h.0, h.1, omega arith, h.3, h.4)

in_numbers : (n : ℕ) (rs : List Receipt) → list_any (eqb n) (numbers rs) ≡ true → Any (λ (r : Receipt). r.entry ≡ n) rs
in_numbers n [] e = absurd cc
in_numbers n (r ∷ rs) e = at_first n r rs (eqb n r.entry) refl (λ differs. in_numbers n rs (in_either (eqb n r.entry) (list_any (eqb n) (numbers rs)) e differs))

neither : (b t : Bool) → b || t ≡ false → (b ≡ false) × (t ≡ false)
neither true t e = absurd cc
neither false t e = (refl, e)

not_there : (n : ℕ) (ms : List ℕ) → list_any (eqb n) ms ≡ false → Other n ms
not_there n [] e = tt
not_there n (m ∷ ms) e = let h : (eqb n m ≡ false) × (list_any (eqb n) ms ≡ false) = neither (eqb n m) (list_any (eqb n) ms) e in (eqb-false n m h.0, not_there n ms h.1)

below_first : (history : List Entry) (n q : ℕ) (b : Bool) → n < length history → eqb q n ≡ b → (b ≡ false → q < length history) → q < length history
below_first history n q true within is rest = subst (λ m. m < length history) (sym (eqb-true q n is)) within
below_first history n q false within differs rest = rest refl

-- ---- those of all logs

module _ {X : Type 0} (f : X → Noted) where
  abbrev all_numbers : List X → List ℕ
  all_numbers [] = []
  all_numbers (l ∷ logs) = numbers (f l).receipts ++ all_numbers logs

  length-all : (logs : List X) → length (all_numbers logs) ≡ receipts_in f logs
  length-all [] = refl
  length-all (l ∷ logs) =
      let one : length (numbers (f l).receipts) ≡ length (f l).receipts = length-numbers (f l).receipts in
      let rest : length (all_numbers logs) ≡ receipts_in f logs = length-all logs in
      length-append (numbers (f l).receipts) (all_numbers logs) ∙ (λ i. one i + rest i) ∙ sym (sum_by-cons (λ (m : X). length (f m).receipts) l logs)

  other_all : (n : ℕ) (logs : List X) → All (λ l. All (λ r. n ≢ r.entry) (f l).receipts) logs → Other n (all_numbers logs)
  other_all n [] h = tt
  other_all n (l ∷ logs) h = other_on n (numbers (f l).receipts) (all_numbers logs) (other_numbers n (f l).receipts (h 0 l (omega arith))) (other_all n logs (λ k d lt. h (suc k) d (omega arith)))

  apart_all : (rs : List Receipt) (logs : List X) → All (λ l. IsApart rs (f l).receipts) logs → Others (numbers rs) (all_numbers logs)
  apart_all [] logs h = tt
  apart_all (r ∷ rs) logs h = (other_all r.entry logs (λ k d lt. h k d lt 0 r (omega arith)), apart_all rs logs (λ k d lt i e within. h k d lt (suc i) e (omega arith)))

  all_distinct : (logs : List X) → All (λ l. IsRising (f l).receipts) logs → AllPairs (λ l m. IsApart (f l).receipts (f m).receipts) logs → Distinct (all_numbers logs)
  all_distinct [] rising apart = tt
  all_distinct (l ∷ logs) rising apart =
      distinct_on (numbers (f l).receipts) (all_numbers logs) (rising_distinct (f l).receipts (rising 0 l (omega arith)))
      (all_distinct logs (λ k d lt. rising (suc k) d (omega arith)) (λ i j d lt within. apart (suc i) (suc j) d (omega arith) (omega arith)))
      (apart_all (f l).receipts logs (λ k d lt. apart 0 (suc k) d (omega arith) (omega arith)))

  at_log : (n : ℕ) (l : X) (logs : List X) (b : Bool) → list_any (eqb n) (numbers (f l).receipts) ≡ b → (b ≡ false → HasReceipt f logs n) → HasReceipt f (l ∷ logs) n
  at_log n l logs true is rest = (0, l, omega arith, refl, in_numbers n (f l).receipts is)
  at_log n l logs false differs rest = let h : HasReceipt f logs n = rest refl in let lt : h.0 < length logs = h.2 in (suc h.0, h.1, omega arith, h.3, h.4)

  in_all : (n : ℕ) (logs : List X) → list_any (eqb n) (all_numbers logs) ≡ true → HasReceipt f logs n
  in_all n [] e = absurd cc
  in_all n (l ∷ logs) e =
      let here : Bool = list_any (eqb n) (numbers (f l).receipts) in
      at_log n l logs here refl (λ differs. in_all n logs (in_either here (list_any (eqb n) (all_numbers logs)) (sym (list_any-append (eqb n) (numbers (f l).receipts) (all_numbers logs)) ∙ e) differs))

  within_history : (history : List Entry) (logs : List X) → All (λ x. IsKept history (f x)) logs → (n : ℕ) → HasReceipt f logs n → n < length history
  within_history history logs kept n h =
      let l : X = h.1 in
      let k : IsKept history (f l) = subst (λ x. IsKept history (f x)) h.3 (kept h.0 l h.2) in
      let r : Receipt = h.4.1 in
      let of : IsOf history (f l).client r = subst (IsOf history (f l).client) h.4.3 (k.0 h.4.0 r h.4.2) in
      subst (λ m. m < length history) h.4.4 (slice_get_within history r.entry _ of)

  below_history : (history : List Entry) (logs : List X) → All (λ x. IsKept history (f x)) logs → (n q : ℕ) → n < length history → list_any (eqb q) (n ∷ all_numbers logs) ≡ true → q < length history
  below_history history logs kept n q within e = below_first history n q (eqb q n) within refl (λ differs. within_history history logs kept q (in_all q logs (in_either (eqb q n) (list_any (eqb q) (all_numbers logs)) e differs)))

  there_or_not : (history : List Entry) (logs : List X) (n : ℕ) (b : Bool) → receipts_in f logs ≡ length history → Agrees f history logs → n < length history → list_any (eqb n) (all_numbers logs) ≡ b → HasReceipt f logs n
  there_or_not history logs n true count agrees within is = in_all n logs is
  there_or_not history logs n false count agrees within missing =
      let distinct : Distinct (n ∷ all_numbers logs) = (not_there n (all_numbers logs) missing, all_distinct logs (λ k d lt. (agrees.0 k d lt).1) agrees.1) in
      let few : length (n ∷ all_numbers logs) ≤ length history = length-le_from_distinct_below (n ∷ all_numbers logs) (length history) (IsDistinct-from_AllPairs Decides-eqb (n ∷ all_numbers logs) (every_two (n ∷ all_numbers logs) distinct)) (λ q e. below_history history logs agrees.0 n q within e) in
      let long : length (all_numbers logs) ≡ length history = length-all logs ∙ count in
      absurd (omega arith)

  pub each_has : (history : List Entry) (logs : List X) → receipts_in f logs ≡ length history → Agrees f history logs → (n : ℕ) → n < length history → HasReceipt f logs n
  each_has history logs count agrees n within = there_or_not history logs n (list_any (eqb n) (all_numbers logs)) count agrees within refl
