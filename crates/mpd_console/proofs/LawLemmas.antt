-- Where a move along steps ahead ends, and that runs back and on agree.
use Rattle.std.proofs.Common.{◌≡◌, ℕ, ◌⊎◌, inl, inr, zero, suc, ◌+◌, ◌-◌, ◌<◌, ◌≤◌, Bool, true, false, ◌||◌, ◌&&◌, cond, if◌then◌else◌, List, [], ◌∷◌, length, slice_get, Option, Some, None, is_some, refl, sym, ap, subst, ◌∙◌, arith}
use Rattle.std.proofs.lemmas.Bool.{le-leb}
use Rattle.std.specs.Prelude.{nat_le}
use Rattle.std.specs.List.{filter, range_with_len}
use Rattle.mpd_model.specs.declared.limits.TheConstants.{STEPS_MAX}
use Rattle.mpd_model.specs.declared.breakpoint.Breakpoint.{Breakpoint}
use Rattle.mpd_model.specs.declared.breakpoint.Cause.TheVariants as for
use Rattle.mpd_model.specs.declared.breakpoint.Stop.{Stop}
use Rattle.mpd_model.specs.declared.step.Step.{Step}
use Rattle.mpd_model.specs.steps.World.{World}
use Rattle.mpd_model.specs.steps.Why.{first_in}
use Rattle.mpd_model.specs.runs.Breakpoints.{break_at}
use Rattle.mpd_model.specs.runs.Running.{world_at, hit_at, one_back, ran_back}
use Rattle.mpd_model.specs.runs.Trail.{Trail, gone_back}
use Rattle.mpd_session.specs.Effects.{run_back_effect}
use Rattle.mpd_policy.specs.Last.{cause_number}
use Rattle.mpd_policy.proofs.NumberLemmas.{number_from}
use Rattle.mpd_vocabulary.specs.declared.word.Word.{Word}
use Rattle.mpd_vocabulary.specs.declared.word.Word.TheVariants as word
use Rattle.mpd_console.specs.declared.along.Along.{Along}
use Rattle.mpd_console.specs.declared.along.Goal.{Goal}
use Rattle.mpd_console.specs.declared.along.Goal.TheVariants.{Steps}
use Rattle.mpd_console.specs.declared.moves.Doing.TheVariants.{Goes, Asks}
use Rattle.mpd_session.specs.declared.request.Command.TheVariants as command
use Rattle.mpd_console.specs.Along.{is_asked_at, is_choice_at, halts_at, first_halt, or_end, end_along, hit_behind, only_at, stopped_at, stopped_short, stopped_by, stopped_along, along_of}
use Rattle.mpd_console.specs.Moves.{onward, doing_of}
use Rattle.mpd_console.specs.Onward.{steps_on}
use Rattle.mpd_console.specs.Laws.{IsFirstStop}

-- ---- the first number of a range that passes

first_by : (b : Bool) (i : ℕ) (xs : List ℕ) → first_in (cond b (i ∷ xs) xs) ≡ cond b (Some i) (first_in xs)
first_by true i xs = refl
first_by false i xs = refl

first_step : (t : ℕ → Bool) (i n : ℕ) → number_from t i (suc n) ≡ cond (t i) (Some i) (number_from t (i + 1) n)
first_step t i n = first_by (t i) i (filter t (range_with_len (i + 1) n))

same_or_more : (i j : ℕ) → i ≤ j → (i ≡ j) ⊎ (i + 1 ≤ j)
same_or_more zero zero le = inl refl
same_or_more zero (suc j) le = inr (omega arith)
same_or_more (suc i) zero le = absurd (omega (arith, le))
same_or_more (suc i) (suc j) le = elim (same_or_more i j (omega (arith, le))) [
  | inl e ↦ inl (ap suc e)
  | inr more ↦ inr (omega (arith, more))
]

passes_none : (t : ℕ → Bool) (i j : ℕ) → t i ≡ false → i ≤ j → (i + 1 ≤ j → t j ≡ false) → t j ≡ false
passes_none t i j none le more = elim (same_or_more i j le) [
  | inl same ↦ subst (λ m. t m ≡ false) same none
  | inr above ↦ more above
]

-- what a first number says: it passes, and none of the range before it does; or none does
abbrev Found : (ℕ → Bool) → ℕ → ℕ → Option ℕ → Type 0
Found t i n None = (j : ℕ) → i ≤ j → j < i + n → t j ≡ false
Found t i n (Some k) = (i ≤ k) × ((k < i + n) × ((t k ≡ true) × ((j : ℕ) → i ≤ j → j < k → t j ≡ false)))

found_by : (t : ℕ → Bool) (i n : ℕ) (b : Bool) (o : Option ℕ) → t i ≡ b → Found t (i + 1) n o → Found t i (suc n) (cond b (Some i) o)
found_by t i n true o e h = (omega arith, (omega arith, (e, λ j le lt. absurd (omega (arith, le, lt)))))
found_by t i n false None e h = λ j le lt. passes_none t i j e le (λ more. h j more (omega (arith, lt)))
found_by t i n false (Some k) e h = (omega (arith, h.0), (omega (arith, h.1.0), (h.1.1.0, λ j le lt. passes_none t i j e le (λ more. h.1.1.1 j more lt))))

found : (t : ℕ → Bool) (i n : ℕ) → Found t i n (number_from t i n)
found t i zero = λ j le lt. absurd (omega (arith, le, lt))
found t i (suc n) = subst (Found t i (suc n)) (sym (first_step t i n)) (found_by t i n (t i) (number_from t (i + 1) n) refl (found t (i + 1) n))

-- ---- where a move along steps ahead ends

stop_by : (places : List (Option Breakpoint)) (g : Goal) (t : Trail) (o : Option ℕ) → t.depth < length t.steps → Found (halts_at places g t.depth t) (t.depth + 1) (length t.steps - t.depth) o → IsFirstStop places g t (or_end (length t.steps) o)
stop_by places g t None lt h = record {
  more = lt;
  within = omega arith;
  before = λ m some less. h m (omega (arith, some)) (omega (arith, less, lt));
  there = λ less. absurd (omega (arith, less));
}
stop_by places g t (Some n) lt h = record {
  more = omega (arith, h.0);
  within = omega (arith, h.1.0, lt);
  before = λ m some less. h.1.1.1 m (omega (arith, some)) less;
  there = λ less. h.1.1.0;
}

pub first_stop : (places : List (Option Breakpoint)) (g : Goal) (t : Trail) → t.depth < length t.steps → IsFirstStop places g t (end_along places g t)
unfolding end_along
first_stop places g t lt = stop_by places g t (first_halt places g t) lt (found (halts_at places g t.depth t) (t.depth + 1) (length t.steps - t.depth))

-- ---- a run back

-- It takes a step at least, the first of them hits this breakpoint, and none after it hits any.
record IsBack (places : List (Option Breakpoint)) (t : Trail) (d n : ℕ) (r : Stop) : Type 0 where
  pub below : r.steps ≤ d
  pub some : 0 < r.steps
  pub hit : hit_at places t (d - r.steps) ≡ Some n
  pub after : (m : ℕ) → d - r.steps < m → m < d → hit_at places t m ≡ None

back_by : (places : List (Option Breakpoint)) (t : Trail) (d n : ℕ) (o : Option ℕ) (r : Stop) → hit_at places t d ≡ o → (r.cause ≡ for.Break n → IsBack places t d n r) → (one_back o r).cause ≡ for.Break n → IsBack places t (suc d) n (one_back o r)
back_by places t d n (Some k) r is more e =
    let one : suc d - 1 ≡ d = omega arith in
    record {
      below = omega arith;
      some = omega arith;
      hit = ap (hit_at places t) one ∙ is ∙ ap cause_number e;
      after = λ m lt le. absurd (omega (arith, lt, le));
    }
back_by places t d n None r is more e =
    let h : IsBack places t d n r = more e in
    let same : suc d - (r.steps + 1) ≡ d - r.steps = omega arith in
    record {
      below = omega (arith, h.below);
      some = omega arith;
      hit = ap (hit_at places t) same ∙ h.hit;
      after = λ m lt le. elim (same_or_more m d (omega (arith, le))) [
        | inl at ↦ subst (λ x. hit_at places t x ≡ None) (sym at) is
        | inr less ↦ h.after m (omega (arith, lt)) (omega (arith, less))
      ];
    }

back_at : (places : List (Option Breakpoint)) (t : Trail) (d n : ℕ) → (ran_back places t d).cause ≡ for.Break n → IsBack places t d n (ran_back places t d)
back_at places t zero n e = absurd (cc)
back_at places t (suc d) n e = back_by places t d n (hit_at places t d) (ran_back places t d) refl (back_at places t d n) e

pub back_last : (places : List (Option Breakpoint)) (t : Trail) (n m : ℕ) → (ran_back places t t.depth).cause ≡ for.Break n → (run_back_effect t places).1.depth < m → m < t.depth → hit_at places t m ≡ None
back_last places t n m e lt le = (back_at places t t.depth n e).after m lt le

-- ---- and on again

hit_first : (places : List (Option Breakpoint)) (t : Trail) (u n : ℕ) → hit_at places t u ≡ Some n → hit_behind places (gone_back t u) (u + 1) ≡ Some n
hit_first places t u n hit = let next : u + 1 ≡ suc u = omega arith in ap (hit_behind places (gone_back t u)) next ∙ hit

halts_first : (places : List (Option Breakpoint)) (g : Goal) (t : Trail) (u n : ℕ) → hit_at places t u ≡ Some n → halts_at places g u (gone_back t u) (u + 1) ≡ true
halts_first places g t u n hit =
    let next : u + 1 ≡ suc u = omega arith in
    ap (λ m. halts_at places g u (gone_back t u) m) next
    ∙ ap (λ (o : Option ℕ). is_some o || (is_asked_at g u (gone_back t u) (suc u) || is_choice_at g (gone_back t u) (suc u))) hit

one_along : (places : List (Option Breakpoint)) (g : Goal) (t : Trail) (u n : ℕ) → u < length t.steps → hit_at places t u ≡ Some n → end_along places g (gone_back t u) ≡ u + 1
unfolding end_along
one_along places g t u n lt hit =
    let test : ℕ → Bool = halts_at places g u (gone_back t u) in
    let left : length t.steps - u ≡ suc (length t.steps - u - 1) = omega (arith, lt) in
    ap (or_end (length t.steps)) (
    ap (number_from test (u + 1)) left
    ∙ first_step test (u + 1) (length t.steps - u - 1)
    ∙ ap (λ b. cond b (Some (u + 1)) (number_from test (u + 1 + 1) (length t.steps - u - 1))) (halts_first places g t u n hit)
    )

along_one : (places : List (Option Breakpoint)) (x : Word) (g : Goal) (t : Trail) (u n : ℕ) → u < length t.steps → hit_at places t u ≡ Some n → along_of places x g (gone_back t u) ≡ record { steps = 1; stopped = stopped_at n (break_at places n) }
along_one places x g t u n lt hit =
    let one : (u + 1) - u ≡ 1 = omega arith in
    ap (λ m. record { steps = m - u; stopped = stopped_along places x g u (gone_back t u) m }) (one_along places g t u n lt hit)
    ∙ ap (λ m. record { steps = m; stopped = stopped_along places x g u (gone_back t u) (u + 1) }) one
    ∙ ap (λ o. record { steps = 1; stopped = stopped_by places o (stopped_short x (is_asked_at g u (gone_back t u) (u + 1)) (only_at (world_at t (u + 1)))) }) (hit_first places t u n hit)

lies_ahead : (steps : List Step) (i : ℕ) → i < length steps → is_some (slice_get steps i) ≡ true
lies_ahead [] i lt = absurd (omega (arith, lt))
lies_ahead (a ∷ steps) zero lt = refl
lies_ahead (a ∷ steps) (suc i) lt = lies_ahead steps i (omega (arith, lt))

run_taken : (places : List (Option Breakpoint)) (t : Trail) (w : World) (max : ℕ) (a : Along) → is_some (slice_get t.steps t.depth) ≡ true → along_of places (word.Run max) (Steps max) t ≡ a → 1 ≤ max → max ≤ STEPS_MAX → doing_of t w places (word.Run max) ≡ Goes a
run_taken places t w max a ahead is some few =
    ap (λ b. if b && nat_le max STEPS_MAX then onward t w places (word.Run max) (Steps max) else Asks (command.RunOn max)) (le-leb 1 max some)
    ∙ ap (λ b. if b then onward t w places (word.Run max) (Steps max) else Asks (command.RunOn max)) (le-leb max STEPS_MAX few)
    ∙ ap (λ b. if b then Goes (along_of places (word.Run max) (Steps max) t) else Asks (command.RunOn (steps_on t w (Steps max)))) ahead
    ∙ ap Goes is

pub back_and_on : (places : List (Option Breakpoint)) (t : Trail) (w : World) (n max : ℕ) → t.depth ≤ length t.steps → (ran_back places t t.depth).cause ≡ for.Break n → 1 ≤ max → max ≤ STEPS_MAX
    → doing_of (run_back_effect t places).1 w places (word.Run max) ≡ Goes (record { steps = 1; stopped = stopped_at n (break_at places n) })
back_and_on places t w n max within e some few =
    let h : IsBack places t t.depth n (ran_back places t t.depth) = back_at places t t.depth n e in
    let u : ℕ = t.depth - (ran_back places t t.depth).steps in
    let lt : u < length t.steps = omega (arith, within, h.below, h.some) in
    run_taken places (gone_back t u) w max _ (lies_ahead t.steps u lt) (along_one places (word.Run max) (Steps max) t u n lt h.hit) some few
