-- The lowest number of a range that passes a test.
use Rattle.std.proofs.Common.{◌≡◌, ℕ, zero, suc, ◌+◌, ◌-◌, ◌<◌, ◌≤◌, Bool, true, false, ◌||◌, cond, Option, Some, None, IfSome, List, ◌∷◌, length, refl, sym, ap, subst, ◌∙◌, arith}
use Rattle.std.proofs.lemmas.Bool.{lt-ltb, le-ltb}
use Rattle.std.specs.List.{filter, range_with_len}
use Rattle.mpd_model.specs.declared.step.Step.{Step}
use Rattle.mpd_model.specs.declared.breakpoint.Breakpoint.{Breakpoint}
use Rattle.mpd_model.specs.script.Program.{Program}
use Rattle.mpd_model.specs.steps.World.{World}
use Rattle.mpd_model.specs.runs.Breakpoints.{break_at, hit_by, lowest_hit}
use Rattle.mpd_model.specs.runs.Running.{hit_of}
use Rattle.mpd_model.specs.steps.Why.{first_in}
use Rattle.mpd_policy.specs.Places.{lower}

abbrev pub number_from : (ℕ → Bool) → ℕ → ℕ → Option ℕ
number_from t i n = first_in (filter t (range_with_len i n))

taken : (b : Bool) (i : ℕ) (xs : List ℕ) → first_in (cond b (i ∷ xs) xs) ≡ cond b (Some i) (first_in xs)
taken true i xs = refl
taken false i xs = refl

number_step : (t : ℕ → Bool) (i n : ℕ) → number_from t i (suc n) ≡ cond (t i) (Some i) (number_from t (i + 1) n)
number_step t i n = taken (t i) i (filter t (range_with_len (i + 1) n))

number_next : (t : ℕ → Bool) (i n : ℕ) → i < n → number_from t i (n - i) ≡ cond (t i) (Some i) (number_from t (i + 1) (n - (i + 1)))
number_next t i n lt = let k : n - i ≡ suc (n - (i + 1)) = omega arith in ap (number_from t i) k ∙ number_step t i (n - (i + 1))

pub number_on : (t : ℕ → Bool) (i n : ℕ) (total : Option ℕ) → i < n → number_from t i (n - i) ≡ total → t i ≡ false → number_from t (i + 1) (n - (i + 1)) ≡ total
number_on t i n total lt e misses = sym (number_next t i n lt ∙ ap (λ (b : Bool). cond b (Some i) (number_from t (i + 1) (n - (i + 1)))) misses) ∙ e

pub number_now : (t : ℕ → Bool) (i n : ℕ) (total : Option ℕ) → i < n → number_from t i (n - i) ≡ total → t i ≡ true → Some i ≡ total
number_now t i n total lt e hits = sym (number_next t i n lt ∙ ap (λ (b : Bool). cond b (Some i) (number_from t (i + 1) (n - (i + 1)))) hits) ∙ e

number_none : (t : ℕ → Bool) (i n : ℕ) → ((k : ℕ) → i ≤ k → t k ≡ false) → number_from t i n ≡ None
number_none t i zero none = refl
number_none t i (suc n) none =
    number_step t i n ∙ ap (λ (b : Bool). cond b (Some i) (number_from t (i + 1) n)) (none i (omega arith)) ∙ number_none t (i + 1) n (λ k le. none k (omega (arith, le)))

-- where no number from here on passes
pub number_end : (t : ℕ → Bool) (i n : ℕ) (total : Option ℕ) → ((k : ℕ) → i ≤ k → t k ≡ false) → number_from t i n ≡ total → None ≡ total
number_end t i n total none e = sym (number_none t i n none) ∙ e

-- where no number is left
pub number_over : (t : ℕ → Bool) (i n : ℕ) (total : Option ℕ) → n ≤ i → number_from t i (n - i) ≡ total → None ≡ total
number_over t i n total over e = let k : n - i ≡ 0 = omega (arith, over) in sym (ap (number_from t i) k) ∙ e

-- ---- one of two tests

more_above : (o : Option ℕ) (i : ℕ) → IfSome o (λ k. i + 1 ≤ k) → IfSome o (λ k. i ≤ k)
more_above None i h = tt
more_above (Some k) i h =
    let more : i + 1 ≤ k = h in
    let le : i ≤ k = omega (arith, more) in
    le

above_by : (b : Bool) (i : ℕ) (o : Option ℕ) → IfSome o (λ k. i + 1 ≤ k) → IfSome (cond b (Some i) o) (λ k. i ≤ k)
above_by true i o h = let le : i ≤ i = omega arith in le
above_by false i o h = more_above o i h

above : (t : ℕ → Bool) (i n : ℕ) → IfSome (number_from t i n) (λ k. i ≤ k)
above t i zero = tt
above t i (suc n) = subst (λ (o : Option ℕ). IfSome o (λ k. i ≤ k)) (sym (number_step t i n)) (above_by (t i) i (number_from t (i + 1) n) (above t (i + 1) n))

low_first : (i : ℕ) (o : Option ℕ) → IfSome o (λ k. i + 1 ≤ k) → lower (Some i) o ≡ Some i
low_first i None h = refl
low_first i (Some k) h = ap (λ (b : Bool). cond b (Some k) (Some i)) (le-ltb k i (let more : i + 1 ≤ k = h in omega (arith, more)))

low_second : (i : ℕ) (o : Option ℕ) → IfSome o (λ k. i + 1 ≤ k) → lower o (Some i) ≡ Some i
low_second i None h = refl
low_second i (Some k) h = ap (λ (b : Bool). cond b (Some i) (Some k)) (lt-ltb i k (let more : i + 1 ≤ k = h in omega (arith, more)))

low_same : (i : ℕ) → lower (Some i) (Some i) ≡ Some i
low_same i = ap (λ (b : Bool). cond b (Some i) (Some i)) (le-ltb i i (omega arith))

joined : (a b : Bool) (i : ℕ) (x y z : Option ℕ) → IfSome x (λ k. i + 1 ≤ k) → IfSome y (λ k. i + 1 ≤ k) → z ≡ lower x y → cond (a || b) (Some i) z ≡ lower (cond a (Some i) x) (cond b (Some i) y)
joined true true i x y z hx hy e = sym (low_same i)
joined true false i x y z hx hy e = sym (low_first i y hy)
joined false true i x y z hx hy e = sym (low_second i x hx)
joined false false i x y z hx hy e = e

pub both_lowest : (t u v : ℕ → Bool) → ((k : ℕ) → v k ≡ (t k || u k)) → (i n : ℕ) → number_from v i n ≡ lower (number_from t i n) (number_from u i n)
both_lowest t u v each i zero = refl
both_lowest t u v each i (suc n) =
    number_step v i n
    ∙ ap (λ (b : Bool). cond b (Some i) (number_from v (i + 1) n)) (each i)
    ∙ joined (t i) (u i) i (number_from t (i + 1) n) (number_from u (i + 1) n) (number_from v (i + 1) n) (above t (i + 1) n) (above u (i + 1) n) (both_lowest t u v each (i + 1) n)
    ∙ ap (λ (o : Option ℕ). lower o (cond (u i) (Some i) (number_from u (i + 1) n))) (sym (number_step t i n))
    ∙ ap (λ (o : Option ℕ). lower (number_from t i (suc n)) o) (sym (number_step u i n))

pub number_begins : (t : ℕ → Bool) (n m : ℕ) → m ≡ n → number_from t 0 n ≡ number_from t 0 m
number_begins t n m e = ap (number_from t 0) (sym e)

-- where no place is taken
pub no_hit : (s : Program) (places : List (Option Breakpoint)) (old : World) (a : Step) (new : World) → ((n : ℕ) → break_at places n ≡ None) → None ≡ lowest_hit s places old a new
no_hit s places old a new free =
    number_end (λ n. hit_by s (break_at places n) old a new) 0 (length places) _ (λ k le. ap (λ (place : Option Breakpoint). hit_by s place old a new) (free k)) refl

pub no_hit_at : (s : Program) (places : List (Option Breakpoint)) → ((n : ℕ) → break_at places n ≡ None) → (old : Option World) (a : Option Step) (new : Option World) → None ≡ hit_of s places old a new
no_hit_at s places free (Some old) (Some a) (Some new) = no_hit s places old a new free
no_hit_at s places free (Some old) (Some a) None = refl
no_hit_at s places free (Some old) None new = refl
no_hit_at s places free None a new = refl

pub ruleset numbering = (number_begins, number_on)
