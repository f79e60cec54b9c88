-- Each deadlock of a report has its witness.
use Rattle.std.proofs.Common.{◌≡◌, ℕ, zero, suc, ◌<◌, List, [], ◌∷◌, ◌++◌, length, map, reverse, take, Result, Ok, Err, OnErr, refl, sym, ap, subst, ◌∙◌, arith, append_assoc, append-nil}
use Rattle.std.specs.Prelude.{IsSome}
use Rattle.std.specs.List.{AllByRecursion}
use Rattle.std.proofs.lemmas.List.{reverse-append}
use Rattle.mpd_model.specs.declared.call.Mode.{Mode}
use Rattle.mpd_model.specs.declared.step.Step.{Step}
use Rattle.mpd_model.specs.declared.decision.Decision.{Decision}
use Rattle.mpd_model.specs.declared.outcome.Outcome.TheVariants.{Done, Leftovers, Deadlock, Trap}
use Rattle.mpd_model.specs.script.Program.{Program}
use Rattle.mpd_model.specs.steps.World.{World}
use Rattle.mpd_model.specs.runs.Decisions.{decision}
use Rattle.mpd_policy.specs.declared.ending.Ending.{Ending}
use Rattle.mpd_policy.specs.declared.ending.Ending.TheVariants.{Ended, Cut}
use Rattle.mpd_policy.specs.Walk.{Run, run_by, steps_by}
use Rattle.mpd_explore.specs.declared.report.SearchLeaf.{SearchLeaf}
use Rattle.mpd_explore.specs.declared.deadlocks.Leaf as leaf
use Rattle.mpd_explore.specs.Witness.{HasWitness}
use Rattle.mpd_explore.specs.Deadlocks.{deadlock_by, leaf_told, leaves_told, HasOf, HasOwnWitness}
use Rattle.mpd_explore.proofs.VerifyLemmas.{deadlock_has}

-- ---- one leaf after another

-- the last of a list that stands the other way round is the first
pub last_first : {X : Type 0} (all rest : List X) (x : X) → all ≡ rest ++ x ∷ [] → reverse all ≡ x ∷ reverse rest
last_first all rest x e = ap reverse e ∙ reverse-append rest (x ∷ [])

pub told_more : {X Y : Type 0} (f : X → Y) (all : List Y) (rest before : List X) (x : X) (told now : List Y) (y : Y) → before ≡ rest ++ x ∷ [] → now ≡ told ++ y ∷ [] → y ≡ f x → told ++ map f (reverse before) ≡ all → now ++ map f (reverse rest) ≡ all
told_more f all rest before x told now y popped pushed is joined =
    ap (λ ys. ys ++ map f (reverse rest)) (pushed ∙ ap (λ z. told ++ z ∷ []) is)
    ∙ append_assoc told (f x ∷ []) (map f (reverse rest))
    ∙ ap (λ xs. told ++ map f xs) (sym (last_first before rest x popped))
    ∙ joined

pub told_all : {X Y : Type 0} (f : X → Y) (all : List Y) (rest : List X) (told : List Y) → rest ≡ [] → told ++ map f (reverse rest) ≡ all → told ≡ all
told_all f all rest told none joined = sym (append-nil told) ∙ ap (λ xs. told ++ map f (reverse xs)) (sym none) ∙ joined

pub all_first : {X : Type 0} (P : X → Type 0) (all rest : List X) (x : X) → all ≡ rest ++ x ∷ [] → AllByRecursion P (reverse all) → P x × AllByRecursion P (reverse rest)
all_first P all rest x e h = subst (AllByRecursion P) (last_first all rest x e) h

-- ---- the witness of a deadlock

pub has_run : (decide : World → Decision) (s : Program) (mode : Mode) (before : List Step) (n : ℕ) (w : World) (l : SearchLeaf) → HasWitness decide s mode before n w l → IsSome (run_by decide n l.choices w)
has_run decide s mode before n w l h = subst (λ r. IsSome r) (sym h.by) refl

own_by : (s : Program) (mode : Mode) (before : List Step) (n : ℕ) (w : World) (l : SearchLeaf) (e : Ending) → l.ending ≡ e → HasWitness decision s mode before n w l → HasOf s mode e (deadlock_by (before ++ steps_by (run_by decision n l.choices w)) e)
own_by s mode before n w l Cut is h = tt
own_by s mode before n w l (Ended Done) is h = tt
own_by s mode before n w l (Ended (Leftovers calls)) is h = tt
own_by s mode before n w l (Ended (Trap ranks)) is h = tt
own_by s mode before n w l (Ended (Deadlock calls)) is h = deadlock_has decision s mode before n w l calls h is

own_one : (s : Program) (mode : Mode) (before : List Step) (n : ℕ) (w : World) (l : SearchLeaf) → HasWitness decision s mode before n w l → HasOwnWitness s mode (leaf_told before n w l)
own_one s mode before n w l h = own_by s mode before n w l l.ending refl h

pub own_all : (s : Program) (mode : Mode) (before : List Step) (n : ℕ) (w : World) (ls : List SearchLeaf) → AllByRecursion (HasWitness decision s mode before n w) ls → AllByRecursion (HasOwnWitness s mode) (leaves_told before n w ls)
own_all s mode before n w [] h = tt
own_all s mode before n w (l ∷ ls) h = (own_one s mode before n w l h.0, own_all s mode before n w ls h.1)

-- ---- memory

pub some_asked : (n : ℕ) (xs ls : List SearchLeaf) → ls ≡ take n xs → 0 < length ls → 0 < n
some_asked zero xs ls is h = omega (arith, h, ap length is)
some_asked (suc n) xs ls is h = omega arith
