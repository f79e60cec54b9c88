-- Lists of words that tell where they end: what stands behind them can be told from them.
use Rattle.std.proofs.Common.{◌≡◌, ℕ, ◌-◌, ◌^◌, Bool, true, false, List, [], ◌∷◌, ◌++◌, length, refl, sym, ap, ◌∙◌, arith, append_assoc, Option, Some, None, is_some}
use Rattle.std.specs.Prelude.{ℤ, pos, negsuc, nat_lt, if◌then◌else◌}
use Rattle.std.proofs.lemmas.Bool.{ltb-false}
use Rattle.mpd_outcomes.specs.Words.{number_word, flag_word, number_or_zero, sized}

-- Where two lists stand in front of any others and the wholes are equal, this is so, and what stands behind is equal.
pub record Splits (a b : List ℤ) (P : Type 0) : Type 0 where
  pub split : (u v : List ℤ) → a ++ u ≡ b ++ v → P × (u ≡ v)

-- one behind the other, where the second may need what the first tells
pub both : {a b c d : List ℤ} {P Q : Type 0} → Splits a b P → (P → Splits c d Q) → Splits (a ++ c) (b ++ d) (P × Q)
both {a = a} {b = b} {c = c} {d = d} s t = record {
  split = λ u v e.
      let one = s.split (c ++ u) (d ++ v) (sym (append_assoc a c u) ∙ e ∙ append_assoc b d v) in
      let two = (t one.0).split u v one.1 in
      ((one.0, two.0), two.1);
}

pub mapped : {a b : List ℤ} {P Q : Type 0} → (P → Q) → Splits a b P → Splits a b Q
mapped f s = record { split = λ u v e. let t = s.split u v e in (f t.0, t.1) }

-- a word in front, of which it is known what it tells
pub behind : {a b : List ℤ} {P Q : Type 0} (x y : ℤ) → (x ≡ y → P) → (P → Splits a b Q) → Splits (x ∷ a) (y ∷ b) (P × Q)
behind x y f s = record {
  split = λ u v e.
      let p = f (cc) in
      let t = (s p).split u v (cc) in
      ((p, t.0), t.1);
}

-- other words in front
pub apart : {a b : List ℤ} {P : Type 0} (x y : ℤ) → (x ≡ y → ⊥) → Splits (x ∷ a) (y ∷ b) P
apart x y f = record { split = λ u v e. absurd (f (cc)) }

-- lists that are the same where they are equally long
pub listed : (xs ys : List ℤ) → length xs ≡ length ys → Splits xs ys (xs ≡ ys)
listed [] [] e = record { split = λ u v h. (refl, h) }
listed [] (y ∷ ys) e = absurd (omega (arith, e))
listed (x ∷ xs) [] e = absurd (omega (arith, e))
listed (x ∷ xs) (y ∷ ys) e =
    let rest = listed xs ys (omega (arith, e)) in
    record {
      split = λ u v h.
          let t = rest.split u v (cc) in
          let same : xs ≡ ys = t.0 in
          ((cc), t.1);
    }

-- ---- single words

-- A number is told by its word.
number_by : (half m n : ℕ) (s t : Bool) → nat_lt m half ≡ s → nat_lt n half ≡ t → (if s then pos m else negsuc (m - half)) ≡ (if t then pos n else negsuc (n - half)) → m ≡ n
number_by half m n true true small low e = cc
number_by half m n true false small low e = absurd (cc)
number_by half m n false true small low e = absurd (cc)
number_by half m n false false small low e =
    let left : m - half ≡ n - half = cc in
    omega (arith, left, ltb-false m half small, ltb-false n half low)

pub number_told : (m n : ℕ) → number_word m ≡ number_word n → m ≡ n
unfolding number_word
number_told m n e = number_by (2 ^ 63) m n (nat_lt m (2 ^ 63)) (nat_lt n (2 ^ 63)) refl refl e

pub flag_told : (a b : Bool) → flag_word a ≡ flag_word b → a ≡ b
flag_told false false e = refl
flag_told false true e = absurd (cc)
flag_told true false e = absurd (cc)
flag_told true true e = refl

-- a number that may be missing, by its two words
pub option_told : (m n : Option ℕ) → flag_word (is_some m) ≡ flag_word (is_some n) → number_or_zero m ≡ number_or_zero n → m ≡ n
option_told None None f e = refl
option_told None (Some n) f e = absurd (cc)
option_told (Some m) None f e = absurd (cc)
option_told (Some m) (Some n) f e = ap (λ i. Some i) (number_told m n e)

pub sized_told : (xs ys : List ℤ) → Splits (sized xs) (sized ys) (xs ≡ ys)
sized_told xs ys = mapped (λ t. t.1) (behind (number_word (length xs)) (number_word (length ys)) (number_told (length xs) (length ys)) (listed xs ys))
