-- What runs come to.
use Rattle.std.proofs.Common.{◌≡◌, ℕ, zero, suc, ◌+◌, ◌-◌, ◌≤◌, true, List, [], ◌∷◌, length, take, Option, refl, ap, sym, ◌∙◌, arith}
use Rattle.mpd_model.specs.declared.step.Step.{Step}
use Rattle.mpd_model.specs.declared.breakpoint.Breakpoint.{Breakpoint}
use Rattle.mpd_model.specs.declared.breakpoint.Stop.{Stop}
use Rattle.mpd_model.specs.steps.World.{World}
use Rattle.mpd_model.specs.runs.Trail.{Trail, IsReached, applied, gone_back, forgotten}
use Rattle.mpd_model.specs.runs.Running.{Ran, stop_of, all_applied, ran_back}
use Rattle.mpd_session.specs.declared.reply.Answer.TheVariants as answer
use Rattle.mpd_session.specs.declared.effect.Effect.TheVariants.{Changed}
use Rattle.mpd_session.specs.Effects.{OnTrail, is_within, going_effect, ran_effect, run_back_effect, run_back_by}

deep : (t : Trail) (steps : List Step) → (all_applied t steps).depth ≡ t.depth + length steps
deep t [] = omega arith
deep t (a ∷ steps) = deep (applied t a) steps ∙ omega arith

in_range : (t : Trail) (max : ℕ) (r : Ran) → is_within 1 1000000 max ≡ true → going_effect t max r ≡ ran_effect t r
in_range t max r e = rw e refl

pub run_0 : (t u : Trail) (r : Ran) (max depth : ℕ) (stop : Stop) → is_within 1 1000000 max ≡ true → stop ≡ stop_of r → u ≡ all_applied t r.steps → depth ≡ u.depth → Changed (answer.Ran depth stop) ≡ (going_effect t max r).0
run_0 t u r max depth stop e is leads d =
    let far : depth ≡ t.depth + length r.steps = d ∙ ap (λ (x : Trail). x.depth) leads ∙ deep t r.steps in
    ap (λ n. Changed (answer.Ran n stop)) far ∙ ap (λ x. Changed (answer.Ran (t.depth + length r.steps) x)) is ∙ ap (λ (p : OnTrail). p.0) (sym (in_range t max r e))

pub run_1 : (t u : Trail) (r : Ran) (max : ℕ) → is_within 1 1000000 max ≡ true → u ≡ all_applied t r.steps → u ≡ (going_effect t max r).1
run_1 t u r max e leads = leads ∙ ap (λ (p : OnTrail). p.1) (sym (in_range t max r e))

pub back_0 : (t u : Trail) (places : List (Option Breakpoint)) (depth : ℕ) (stop : Stop) → stop ≡ ran_back places t t.depth → u ≡ gone_back t (t.depth - stop.steps) → depth ≡ u.depth
    → Changed (answer.Ran depth stop) ≡ (run_back_effect t places).0
back_0 t u places depth stop is leads d =
    ap (λ n. Changed (answer.Ran n stop)) (d ∙ ap (λ (x : Trail). x.depth) leads) ∙ ap (λ (x : Stop). (run_back_by t x).0) is

pub back_1 : (t u : Trail) (places : List (Option Breakpoint)) (stop : Stop) → stop ≡ ran_back places t t.depth → u ≡ gone_back t (t.depth - stop.steps) → u ≡ (run_back_effect t places).1
back_1 t u places stop is leads = leads ∙ ap (λ (x : Stop). (run_back_by t x).1) is

-- a copy has no undone step
taken_length : {A : Type 0} (n : ℕ) (xs : List A) → n ≤ length xs → length (take n xs) ≡ n
taken_length zero xs h = refl
taken_length (suc n) [] h = absurd (omega (arith, h))
taken_length (suc n) (x ∷ xs) h = ap suc (taken_length n xs (omega (arith, h)))

pub clean_copy : (t u : Trail) (w : World) → IsReached (record { trail = t; world = w }) → u ≡ forgotten t → length u.steps ≡ u.depth
clean_copy t u w h e = ap (λ (x : Trail). length x.steps) e ∙ taken_length t.depth t.steps h.within ∙ sym (ap (λ (x : Trail). x.depth) e)

pub room_copy : (t u : Trail) (n : ℕ) → t.depth + n ≤ 1000000 → u ≡ forgotten t → u.depth + n ≤ 1000000
room_copy t u n h e = let d : u.depth ≡ t.depth = ap (λ (x : Trail). x.depth) e in rw d h

pub ruleset copying = (clean_copy, room_copy)

pub ruleset running = (run_0, run_1, back_0, back_1)
