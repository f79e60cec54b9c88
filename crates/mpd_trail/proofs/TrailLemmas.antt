-- When two steps are one, and what noting a step leaves.
use Rattle.std.proofs.Common.{◌≡◌, ℕ, ◌<◌, ◌+◌, List, length, get_or, set, slice_get, take, Bool, true, false, ◌&&◌, ◌==◌, Option, Some, None, refl, ap, eq-eqb}
use Rattle.std.proofs.lemmas.Bool.{eqb-true}
use Rattle.std.proofs.lemmas.Option.{slice_get_read}
use Rattle.std.proofs.lemmas.List.{take_more_set}
use Rattle.mpd_model.specs.declared.step.CallId.{CallId}
use Rattle.mpd_model.specs.declared.step.Step.{Step}
use Rattle.mpd_model.specs.declared.step.Step.TheVariants.{Local, Match, Wake, WakeAny, Release}
use Rattle.mpd_model.specs.steps.World.{id_eq}
use Rattle.mpd_model.specs.runs.Trail.{step_eq, is_step, noted}

both : (a b : Bool) → a && b ≡ true → (a ≡ true) × (b ≡ true)
both true b e = (refl, e)
both false b e = cc

id_eq-true : (a b : CallId) → id_eq a b ≡ true → a ≡ b
id_eq-true a b e =
    let h : (a.rank == b.rank ≡ true) × (a.index == b.index ≡ true) = both (a.rank == b.rank) (a.index == b.index) e in
    λ i. record { rank = eqb-true a.rank b.rank h.0 i; index = eqb-true a.index b.index h.1 i }

pub step_eq-true : (a b : Step) → step_eq a b ≡ true → a ≡ b
step_eq-true (Local p) (Local q) e = ap Local (eqb-true p q e)
step_eq-true (Match s r) (Match u v) e =
    let h : (id_eq s u ≡ true) × (id_eq r v ≡ true) = both (id_eq s u) (id_eq r v) e in
    λ i. Match (id_eq-true s u h.0 i) (id_eq-true r v h.1 i)
step_eq-true (Wake p) (Wake q) e = ap Wake (eqb-true p q e)
step_eq-true (WakeAny p i) (WakeAny q j) e =
    let h : (p == q ≡ true) × (i == j ≡ true) = both (p == q) (i == j) e in
    λ k. WakeAny (eqb-true p q h.0 k) (eqb-true i j h.1 k)
step_eq-true Release Release e = refl
step_eq-true (Local p) b e = cc
step_eq-true (Match s r) b e = cc
step_eq-true (Wake p) b e = cc
step_eq-true (WakeAny p i) b e = cc
step_eq-true Release b e = cc

id_eq-same : (a : CallId) → id_eq a a ≡ true
id_eq-same a = rw (eq-eqb a.rank a.rank refl, eq-eqb a.index a.index refl) refl

pub step_eq-same : (a : Step) → step_eq a a ≡ true
step_eq-same (Local p) = eq-eqb p p refl
step_eq-same (Match s r) = rw (id_eq-same s, id_eq-same r) refl
step_eq-same (Wake p) = eq-eqb p p refl
step_eq-same (WakeAny p i) = rw (eq-eqb p p refl, eq-eqb i i refl) refl
step_eq-same Release = refl

pub is_step-true : (o : Option Step) (a : Step) → is_step o a ≡ true → o ≡ Some a
is_step-true None a e = cc
is_step-true (Some b) a e = ap Some (step_eq-true b a e)

-- the step stands there already
pub noted_again : (steps : List Step) (n : ℕ) (a b : Step) → n < length steps → b ≡ get_or steps n b → step_eq b a ≡ true → steps ≡ noted steps n a
noted_again steps n a b h read same = rw (slice_get_read steps (length steps) n b refl h read, same) refl

-- another stands there
pub noted_anew : (steps : List Step) (n : ℕ) (a b : Step) → n < length steps → b ≡ get_or steps n b → step_eq b a ≡ false → take (n + 1) (set steps n a) ≡ noted steps n a
noted_anew steps n a b h read other = rw (slice_get_read steps (length steps) n b refl h read, other) (take_more_set steps n a h)

-- the step that stands there is noted
pub noted_there : (steps : List Step) (n : ℕ) (a : Step) → slice_get steps n ≡ Some a → noted steps n a ≡ steps
noted_there steps n a e = rw (e, step_eq-same a) refl

pub ruleset noting = (noted_again, noted_anew)
