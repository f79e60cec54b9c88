-- What a walk along a list has found so far of all that it holds, and of every two; and receipts that rise.
use Rattle.std.proofs.Common.{⊎_elim, nat_eq, ◌==◌, ◌≡◌, ◌≢◌, ◌<◌, ◌≤◌, ◌+◌, ◌-◌, ℕ, Bool, true, false, not, List, length, get_or, take, refl, ap, sym, subst, ◌∙◌, arith}
use Rattle.std.proofs.lemmas.List.{get_or-take, get_or_default, take_all, take_more, length-take}
use Rattle.std.proofs.lemmas.Bool.{cases_eq, cases_lt}
use Rattle.std.proofs.lemmas.List.Elements.{All-get_or, All-more, All-weaker}
use Rattle.std.proofs.lemmas.List.Quantifiers.{all_pairs_push}
use Rattle.std.proofs.lemmas.List.Sums.{sum_by_more, sum_by-take-le}
use Rattle.std.proofs.lemmas.Bool.Decides.{Decides-eqb, Decides-like, Decides-not}
use Rattle.std.specs.Bool.{Decides}
use Rattle.std.specs.List.{All, AllPairs, HoldsAt}
use Rattle.mpd_session.specs.declared.history.Entry.{Entry}
use Rattle.mpd_session.specs.declared.history.Receipt.{Receipt}
use Rattle.mpd_session.specs.History.{Noted}
use Rattle.mpd_session.specs.Audit.{IsRising, IsApart, Agrees, receipts_in}

-- ---- all of a list

module _ {X : Type 0} (P : X → Type 0) (xs : List X) where
  pub some_fails : (i : ℕ) (x : X) (test : Bool) → i < length xs → x ≡ get_or xs i x → Decides test (P x) → test ≡ false → Decides false (All P xs)
  some_fails i x test within at decides fails = (λ e. cc, λ all. sym fails ∙ decides.1 (subst P (sym at) (All-get_or P xs i x within all)))

  pub one_more : (i : ℕ) (x : X) (test : Bool) → i < length xs → x ≡ get_or xs i x → Decides test (P x) → test ≡ true → All P (take i xs) → All P (take (i + 1) xs)
  one_more i x test within at decides holds before = All-more P xs i x within before (subst P at (decides.0 holds))

  pub all_hold : (n : ℕ) → length xs ≤ n → All P (take n xs) → Decides true (All P xs)
  all_hold n end all = (λ e. subst (All P) (take_all n xs end) all, λ h. refl)

-- ---- every two of a list

module _ {X : Type 0} (R : X → X → Type 0) (xs : List X) where
  pub pairs_more : (i : ℕ) (x : X) → i < length xs → x ≡ get_or xs i x → All (λ y. R y x) (take i xs) → AllPairs R (take i xs) → AllPairs R (take (i + 1) xs)
  pairs_more i x within at new before =
      subst (AllPairs R) (sym (take_more xs i x within)) (all_pairs_push R (take i xs) (get_or xs i x) before (λ k d lt. subst (R (get_or (take i xs) k d)) at (new k d lt)))

  pub pairs_before : (i : ℕ) (x : X) → i < length xs → x ≡ get_or xs i x → AllPairs R xs → All (λ y. R y x) (take i xs)
  pairs_before i x within at all k d lt =
      let short : k < i = omega (arith, length-take i xs) in
      let there : get_or (take i xs) k d ≡ get_or xs k d = get_or-take i xs k d short in
      let last : get_or xs i d ≡ x = get_or_default xs i d x within ∙ sym at in
      subst (λ y. R y x) (sym there) (subst (R (get_or xs k d)) last (all k i d short within))

  pub pair_fails : (i : ℕ) (x : X) (test : Bool) → i < length xs → x ≡ get_or xs i x → Decides test (All (λ y. R y x) (take i xs)) → test ≡ false → Decides false (AllPairs R xs)
  pair_fails i x test within at decides fails = (λ e. cc, λ all. sym fails ∙ decides.1 (pairs_before i x within at all))

  pub pair_more : (i : ℕ) (x : X) (test : Bool) → i < length xs → x ≡ get_or xs i x → Decides test (All (λ y. R y x) (take i xs)) → test ≡ true → AllPairs R (take i xs) → AllPairs R (take (i + 1) xs)
  pair_more i x test within at decides holds before = pairs_more i x within at (decides.0 holds) before

  pub pairs_hold : (n : ℕ) → length xs ≤ n → AllPairs R (take n xs) → Decides true (AllPairs R xs)
  pairs_hold n end all = (λ e. subst (AllPairs R) (take_all n xs end) all, λ h. refl)

-- ---- how many receipts there are

module _ {X : Type 0} (f : X → Noted) (xs : List X) where
  with_next : (i : ℕ) (x : X) → i < length xs → x ≡ get_or xs i x → receipts_in f (take (i + 1) xs) ≡ receipts_in f (take i xs) + length (f x).receipts
  with_next i x within at = sum_by_more (λ y. length (f y).receipts) xs i x within ∙ ap (λ y. receipts_in f (take i xs) + length (f y).receipts) (sym at)

  pub too_many : (i n left count : ℕ) (x : X) → i < length xs → x ≡ get_or xs i x → n ≡ length (f x).receipts → receipts_in f (take i xs) + left ≡ count → left < n → Decides false (receipts_in f xs ≡ count)
  too_many i n left count x within at is before lt =
      let le : receipts_in f (take (i + 1) xs) ≤ receipts_in f xs = sum_by-take-le (λ y. length (f y).receipts) xs (i + 1) in
      let more : receipts_in f (take (i + 1) xs) ≡ receipts_in f (take i xs) + length (f x).receipts = with_next i x within at in
      (λ e. cc, λ e. absurd (omega (arith, le, more, is, before, lt, e)))

  pub fewer_left : (i n left count : ℕ) (x : X) → i < length xs → x ≡ get_or xs i x → n ≡ length (f x).receipts → receipts_in f (take i xs) + left ≡ count → n ≤ left → receipts_in f (take (i + 1) xs) + (left - n) ≡ count
  fewer_left i n left count x within at is before le =
      let more : receipts_in f (take (i + 1) xs) ≡ receipts_in f (take i xs) + length (f x).receipts = with_next i x within at in
      omega (arith, more, is, before, le)

  pub all_counted : (i left count : ℕ) → length xs ≤ i → receipts_in f (take i xs) + left ≡ count → Decides (left == 0) (receipts_in f xs ≡ count)
  all_counted i left count end before =
      let all : receipts_in f (take i xs) ≡ receipts_in f xs = ap (receipts_in f) (take_all i xs end) in
      let none : Decides (left == 0) (left ≡ 0) = Decides-eqb left 0 in
      (λ e. let z : left ≡ 0 = none.0 e in omega (arith, all, before, z), λ e. none.1 (omega (arith, all, before, e)))

-- ---- receipts that rise

-- what is above the last one is above all before it
all_below : (rs : List Receipt) (i : ℕ) (x y : Receipt) → 0 < i → i < length rs → y ≡ get_or rs (i - 1) y → y.entry < x.entry → IsRising (take i rs) → All (λ r. r.entry < x.entry) (take i rs)
all_below rs i x y some within last below rising k d lt =
    let short : k < i = omega (arith, length-take i rs) in
    let ends : get_or (take i rs) (i - 1) d ≡ y = get_or-take i rs (i - 1) d (omega arith) ∙ get_or_default rs (i - 1) d y (omega arith) ∙ sym last in
    ⊎_elim
    (λ is_last. subst (λ (r : Receipt). r.entry < x.entry) (sym (ap (λ n. get_or (take i rs) n d) is_last ∙ ends)) below)
    (λ earlier.
    let r : Receipt = get_or (take i rs) k d in
    let h : r.entry < y.entry = subst (λ (s : Receipt). r.entry < s.entry) ends (rising k (i - 1) d (omega (arith, length-take i rs)) (omega (arith, length-take i rs))) in
    omega arith)
    (cases_eq k (i - 1))

pub rising_more : (rs : List Receipt) (i : ℕ) (x y : Receipt) → 0 < i → i < length rs → x ≡ get_or rs i x → y ≡ get_or rs (i - 1) y → (get_or rs (i - 1) y).entry < (get_or rs i x).entry → IsRising (take i rs) → IsRising (take (i + 1) rs)
rising_more rs i x y some within at last above rising =
    let below : y.entry < x.entry = subst (λ (r : Receipt). y.entry < r.entry) (sym at) (subst (λ (r : Receipt). r.entry < (get_or rs i x).entry) (sym last) above) in
    pairs_more (λ r s. r.entry < s.entry) rs i x within at (all_below rs i x y some within last below rising) rising

-- ---- two lists of receipts that rise, walked along side by side

-- the first receipts of one list, of which so many are behind, are below all that are left of the other
pub record Walked (rs others : List Receipt) (i next : ℕ) : Type 0 where
  pub apart : IsApart (take i rs) others
  pub within : next ≤ length others
  pub below : (k : ℕ) (d : Receipt) → i ≤ k → k < length rs → All (λ s. s.entry < (get_or rs k d).entry) (take next others)

pub walk_begins : (rs others : List Receipt) → Walked rs others 0 0
walk_begins rs others = record { apart = λ k d lt. absurd (omega arith); within = omega arith; below = λ k d from lt j e short. absurd (omega arith) }

pub walk_below : (rs others : List Receipt) (i next : ℕ) (r : Receipt) → i < length rs → r ≡ get_or rs i r → Walked rs others i next → All (λ s. s.entry < r.entry) (take next others)
walk_below rs others i next r within at walked = subst (λ (x : Receipt). All (λ s. s.entry < x.entry) (take next others)) (sym at) (walked.below i r (omega arith) within)

pub walk_more : (rs others : List Receipt) (i next after : ℕ) (r : Receipt) (free : Bool)
    → IsRising rs → i < length rs → r ≡ get_or rs i r → Walked rs others i next → after ≤ length others → All (λ s. s.entry < r.entry) (take after others)
    → Decides free (All (λ s. r.entry ≢ s.entry) others) → free ≡ true → Walked rs others (i + 1) after
walk_more rs others i next after r free rising within at walked inside below decides is_free = record {
  apart = one_more (λ x. All (λ s. x.entry ≢ s.entry) others) rs i r free within at decides is_free walked.apart;
  within = inside;
  below = λ k d from lt.
      let x : Receipt = get_or rs k d in
      let is : get_or rs i d ≡ r = get_or_default rs i d r within ∙ sym at in
      let above : r.entry < x.entry = subst (λ (y : Receipt). y.entry < x.entry) is (rising i k d (omega arith) lt) in
      All-weaker (λ s. s.entry < r.entry) (λ s. s.entry < x.entry) (λ s h. omega arith) (take after others) below;
}

pub walk_ends : (rs others : List Receipt) (i next : ℕ) → length rs ≤ i → Walked rs others i next → Decides true (IsApart rs others)
walk_ends rs others i next end walked = all_hold (λ r. All (λ s. r.entry ≢ s.entry) others) rs i end walked.apart

-- smaller numbers before a place and a larger one on it: what rises has no such number
pub none_from : (rs : List Receipt) (n entry : ℕ) (x : Receipt) → n < length rs → x ≡ get_or rs n x → All (λ s. s.entry < entry) (take n rs) → entry < x.entry → IsRising rs → All (λ s. entry ≢ s.entry) rs
none_from rs n entry x within at below above rising k d lt same =
    let y : Receipt = get_or rs k d in
    let is : get_or rs n d ≡ x = get_or_default rs n d x within ∙ sym at in
    ⊎_elim
    (λ before.
    let there : get_or (take n rs) k d ≡ y = get_or-take n rs k d before in
    let h : y.entry < entry = subst (λ (s : Receipt). s.entry < entry) there (below k d (omega (arith, length-take n rs))) in
    absurd (omega arith))
    (λ behind. ⊎_elim
    (λ is_last. let e : y ≡ x = ap (λ m. get_or rs m d) is_last ∙ is in let f : y.entry ≡ x.entry = ap (λ (s : Receipt). s.entry) e in absurd (omega arith))
    (λ later. let h : x.entry < y.entry = subst (λ (s : Receipt). s.entry < y.entry) is (rising n k d (omega arith) lt) in absurd (omega arith))
    (cases_eq k n))
    (cases_lt k n)

pub free_there : (rs : List Receipt) (n entry : ℕ) (x : Receipt) → n < length rs → All (λ s. s.entry < entry) (take n rs) → HoldsAt (λ s. entry ≤ s.entry) rs n → IsRising rs → Decides (not (nat_eq (get_or rs n x).entry entry)) (All (λ s. entry ≢ s.entry) rs)
free_there rs n entry x within below there rising =
    let y : Receipt = get_or rs n x in
    let at : y ≡ get_or rs n y = get_or_default rs n x y within in
    let least : entry ≤ y.entry = there x in
    Decides-like
    (not (nat_eq y.entry entry))
    (λ apart. none_from rs n entry y within at below (omega arith) rising)
    (λ all same. all n x within (sym same))
    (Decides-not (nat_eq y.entry entry) (Decides-eqb y.entry entry))

-- ---- both tests of an audit

pub agreed : {X : Type 0} (f : X → Noted) (kept history : List Entry) (logs : List X) (size : ℕ) (counted agreeing : Bool) → kept ≡ history → length kept ≡ size → Decides counted (receipts_in f logs ≡ size) → counted ≡ true → Decides agreeing (Agrees f kept logs) → agreeing ≡ true → (receipts_in f logs ≡ length history) × Agrees f history logs
agreed f kept history logs size counted agreeing same long counts is_counted decides is_agreeing = (counts.0 is_counted ∙ sym long ∙ ap length same, subst (λ (es : List Entry). Agrees f es logs) same (decides.0 is_agreeing))
