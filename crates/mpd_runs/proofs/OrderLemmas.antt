-- The order of choices, and that the wide walk rises by it.
use Rattle.std.proofs.Common.{◌≡◌, ℕ, zero, suc, ◌<◌, ◌≤◌, cond, nat_lt, ◌==◌, List, [], ◌∷◌, ◌++◌, map, Option, Some, None, Less, Equal, Greater, nat_cmp, refl, ap, ◌∙◌, arith}
use Rattle.std.specs.List.{AllByRecursion}
use Rattle.std.specs.List.Sorted.{IsStrictlySortedBy}
use Rattle.std.specs.Ordering.{ordering_then, ordering_reverse}
use Rattle.std.proofs.lemmas.Cmp.{nat_list_cmp_total, nat_cmp_total, tied_itself}
use Rattle.std.proofs.lemmas.Map.Lookups.{exact_bytes}
use Rattle.mpd_model.specs.declared.step.Step.{Step}
use Rattle.mpd_model.specs.declared.decision.Decision.{Decision}
use Rattle.mpd_model.specs.declared.decision.Decision.TheVariants.{Forced, Choice, Leaf}
use Rattle.mpd_model.specs.steps.World.{World}
use Rattle.mpd_model.specs.steps.Next.{next}
use Rattle.mpd_policy.specs.Wide.{wide_decision}
use Rattle.mpd_policy.specs.Walk.{Run, stepped, chosen, runs_of, branches, followed, stopped, wide_walk}
use Rattle.mpd_explore.proofs.ListedLemmas.{is_less}
use Rattle.mpd_runs.specs.Order.{order, run_order}

-- ---- the order

pub order_then : (a b c : List ℕ) → order a b ≡ Less → order b c ≡ Less → order a c ≡ Less
order_then a b c h k = nat_list_cmp_total.trans a b c h k

pub order_turned : (a b : List ℕ) → order a b ≡ Less → order b a ≡ Greater
order_turned a b h = nat_list_cmp_total.antisymm b a ∙ ap ordering_reverse h

pub order_is : (a b : List ℕ) → order a b ≡ Equal → a ≡ b
order_is a b h = exact_bytes a b h

pub order_itself : (a : List ℕ) → order a a ≡ Equal
order_itself a = tied_itself nat_list_cmp_total a

number_below : (i j : ℕ) → i < j → nat_cmp i j ≡ Less
number_below i j h = ap (λ b. cond b Less (cond (i == j) Equal Greater)) (is_less i j (nat_lt i j) refl h)

number_itself : (i : ℕ) → nat_cmp i i ≡ Equal
number_itself i = tied_itself nat_cmp_total i

-- ---- runs that rise

abbrev pub RunsRise : List Run → Type 0
RunsRise rs = IsStrictlySortedBy run_order rs

abbrev pub AllAbove : Run → List Run → Type 0
AllAbove r rs = AllByRecursion (λ q. run_order r q ≡ Less) rs

above_join : (r : Run) (xs ys : List Run) → AllAbove r xs → AllAbove r ys → AllAbove r (xs ++ ys)
above_join r [] ys h k = k
above_join r (x ∷ xs) ys h k = (h.0, above_join r xs ys h.1 k)

rise_join : (xs ys : List Run) → RunsRise xs → RunsRise ys → AllByRecursion (λ x. AllAbove x ys) xs → RunsRise (xs ++ ys)
unfolding IsStrictlySortedBy
rise_join [] ys h k all = k
rise_join (x ∷ xs) ys h k all = (above_join x xs ys h.0 all.0, rise_join xs ys h.1 k all.1)

above_mapped : (f : Run → Run) → ((x y : Run) → run_order (f x) (f y) ≡ run_order x y) → (r : Run) (rs : List Run) → AllAbove r rs → AllAbove (f r) (map f rs)
above_mapped f same r [] h = tt
above_mapped f same r (x ∷ xs) h = (same r x ∙ h.0, above_mapped f same r xs h.1)

rise_mapped : (f : Run → Run) → ((x y : Run) → run_order (f x) (f y) ≡ run_order x y) → (rs : List Run) → RunsRise rs → RunsRise (map f rs)
unfolding IsStrictlySortedBy
rise_mapped f same [] h = tt
rise_mapped f same (r ∷ rs) h = (above_mapped f same r rs h.0, rise_mapped f same rs h.1)

rise_none : RunsRise []
unfolding IsStrictlySortedBy
rise_none = tt

rise_one : (r : Run) → RunsRise (r ∷ [])
unfolding IsStrictlySortedBy
rise_one r = (tt, tt)

-- ---- the candidates of a choice

BeginsFrom : ℕ → List ℕ → Type 0
BeginsFrom i [] = ⊥
BeginsFrom i (c ∷ cs) = i ≤ c

abbrev AllFrom : ℕ → List Run → Type 0
AllFrom i rs = AllByRecursion (λ r. BeginsFrom i r.choices) rs

later_number : (i : ℕ) (cs ds : List ℕ) → BeginsFrom (suc i) ds → order (i ∷ cs) ds ≡ Less
unfolding BeginsFrom
later_number i cs [] h = absurd h
later_number i cs (d ∷ ds) h = ap (λ o. ordering_then o (order cs ds)) (number_below i d h)

chosen_same : (i : ℕ) (a : Step) (x y : Run) → run_order (chosen i a x) (chosen i a y) ≡ run_order x y
chosen_same i a x y = ap (λ o. ordering_then o (run_order x y)) (number_itself i)

from_join : (i : ℕ) (xs ys : List Run) → AllFrom i xs → AllFrom i ys → AllFrom i (xs ++ ys)
from_join i [] ys h k = k
from_join i (x ∷ xs) ys h k = (h.0, from_join i xs ys h.1 k)

from_lower : (i : ℕ) (cs : List ℕ) → BeginsFrom (suc i) cs → BeginsFrom i cs
unfolding BeginsFrom
from_lower i [] h = absurd h
from_lower i (c ∷ cs) h = omega arith

all_lower : (i : ℕ) (rs : List Run) → AllFrom (suc i) rs → AllFrom i rs
all_lower i [] h = tt
all_lower i (r ∷ rs) h = (from_lower i r.choices h.0, all_lower i rs h.1)

from_chosen : (i : ℕ) (a : Step) (rs : List Run) → AllFrom i (map (chosen i a) rs)
unfolding BeginsFrom
from_chosen i a [] = tt
from_chosen i a (r ∷ rs) = (omega arith, from_chosen i a rs)

from_branches : (runs : World → List Run) (w : World) (i : ℕ) (candidates : List Step) → AllFrom i (branches runs w i candidates)
from_branches runs w i [] = tt
from_branches runs w i (a ∷ more) = from_join i (map (chosen i a) (runs_of runs (next w a))) (branches runs w (suc i) more) (from_chosen i a (runs_of runs (next w a))) (all_lower i (branches runs w (suc i) more) (from_branches runs w (suc i) more))

above_later : (i : ℕ) (a : Step) (r : Run) (ys : List Run) → AllFrom (suc i) ys → AllAbove (chosen i a r) ys
above_later i a r [] h = tt
above_later i a r (y ∷ ys) h = (later_number i r.choices y.choices h.0, above_later i a r ys h.1)

all_later : (i : ℕ) (a : Step) (rs ys : List Run) → AllFrom (suc i) ys → AllByRecursion (λ x. AllAbove x ys) (map (chosen i a) rs)
all_later i a [] ys h = tt
all_later i a (r ∷ rs) ys h = (above_later i a r ys h, all_later i a rs ys h)

rise_of : (runs : World → List Run) (o : Option World) → ((v : World) → RunsRise (runs v)) → RunsRise (runs_of runs o)
rise_of runs None all = rise_none
rise_of runs (Some v) all = all v

rise_branches : (runs : World → List Run) (w : World) (i : ℕ) (candidates : List Step) → ((v : World) → RunsRise (runs v)) → RunsRise (branches runs w i candidates)
rise_branches runs w i [] all = rise_none
rise_branches runs w i (a ∷ more) all =
    let front : List Run = runs_of runs (next w a) in
    let rest : List Run = branches runs w (suc i) more in
    rise_join (map (chosen i a) front) rest (rise_mapped (chosen i a) (chosen_same i a) front (rise_of runs (next w a) all)) (rise_branches runs w (suc i) more all) (all_later i a front rest (from_branches runs w (suc i) more))

-- ---- the walk

rise_followed : (runs : World → List Run) (w : World) (d : Decision) → ((v : World) → RunsRise (runs v)) → RunsRise (followed runs runs w d)
rise_followed runs w (Forced a) all = rise_mapped (stepped a) (λ x y. refl) (runs_of runs (next w a)) (rise_of runs (next w a) all)
rise_followed runs w (Choice candidates) all = rise_branches runs w 0 candidates all
rise_followed runs w (Leaf o) all = rise_one _

rise_stopped : (d : Decision) → RunsRise (stopped d)
rise_stopped (Forced a) = rise_one _
rise_stopped (Choice candidates) = rise_one _
rise_stopped (Leaf o) = rise_one _

pub walk_rises : (n : ℕ) (w : World) → RunsRise (wide_walk n w)
unfolding wide_walk
walk_rises zero w = rise_stopped (wide_decision w)
walk_rises (suc n) w = rise_followed (wide_walk n) w (wide_decision w) (λ v. walk_rises n v)
