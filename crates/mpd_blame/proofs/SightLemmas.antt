-- What is told of the ways that runs end, as what is known of a state.
use Rattle.std.proofs.Common.{◌≡◌, ◌⊎◌, ℕ, zero, suc, ◌-◌, ◌≤◌, ◌<◌, true, false, inl, inr, Option, Some, None, List, [], ◌∷◌, length, take, drop, slice_get, refl, sym, ap, ◌∙◌, arith}
use Rattle.std.specs.List.{find, list_all, list_any}
use Rattle.std.specs.Prelude.{IsSome}
use Rattle.std.proofs.lemmas.Bool.{false≢true, ltb-true, ltb-false, or_parts}
use Rattle.std.proofs.lemmas.List.{length-map, take_all, take-append-drop}
use Rattle.std.proofs.lemmas.List.Folds.{list_any-append}
use Rattle.mpd_model.specs.declared.step.Step.{Step}
use Rattle.mpd_model.specs.steps.World.{World}
use Rattle.mpd_policy.specs.Wide.{wide_decision}
use Rattle.mpd_policy.specs.Walk.{Run, run_by, steps_by, wide_walk}
use Rattle.mpd_explore.specs.declared.report.SearchLeaf.{SearchLeaf}
use Rattle.mpd_explore.specs.Report.{shown}
use Rattle.mpd_outcomes.specs.declared.report.Outcomes.{Outcomes}
use Rattle.mpd_outcomes.specs.declared.report.Goal.TheVariants as goal_is
use Rattle.mpd_outcomes.specs.declared.report.Goal.{Goal}
use Rattle.mpd_outcomes.specs.declared.report.StateLimits.{StateLimits}
use Rattle.mpd_outcomes.specs.Outcomes.{leaves_from, TellsRuns}
use Rattle.mpd_outcomes.specs.Goals.{ends_at, states_along, StopsFor, StopsRuns}
use Rattle.mpd_blame.specs.Blame.{ends_well, ends_badly, is_doomed, FirstWell, NotKnown}
use Rattle.mpd_blame.proofs.ListLemmas.{all_firsts, not_all_firsts, find_firsts, find_taken, none_found}

-- the first that ends well is listed
pub sees_well : (fuel : ℕ) (w : World) (o : Outcomes) (l : SearchLeaf) (step : Option Step) → TellsRuns fuel w o → find ends_well o.firsts.leaves.items ≡ Some l → IsSome (run_by wide_decision fuel l.choices w)
    → slice_get (steps_by (run_by wide_decision fuel l.choices w)) 0 ≡ step → FirstWell fuel w step
sees_well fuel w o l step h found some begins = one (run_by wide_decision fuel l.choices w) refl some
  where
    first : find ends_well (leaves_from fuel w) ≡ Some l
    first = find_taken ends_well h.runs (leaves_from fuel w) l (sym (find_firsts goal_is.Well (take h.runs (leaves_from fuel w))) ∙ ap (find ends_well) (sym h.firsts_are) ∙ found)

    one : (r : Option Run) → run_by wide_decision fuel l.choices w ≡ r → IsSome r → FirstWell fuel w step
    one None is some = absurd (cc)
    one (Some r) is some = record { leaf = l; first = first; run = r; by = is; begins = ap (λ (x : Option Run). slice_get (steps_by x) 0) (sym is) ∙ begins }

none_well : (fuel : ℕ) (w : World) (o : Outcomes) (h : TellsRuns fuel w o) → find ends_well o.firsts.leaves.items ≡ None → list_any ends_well (take h.runs (leaves_from fuel w)) ≡ false
none_well fuel w o h none =
    none_found ends_well (take h.runs (leaves_from fuel w)) (sym (find_firsts goal_is.Well (take h.runs (leaves_from fuel w))) ∙ ap (find ends_well) (sym h.firsts_are) ∙ none)

-- the last of some leaves is none that ends well where none of them is
none_last : (ls : List SearchLeaf) → find ends_well ls ≡ None → ends_at (Some goal_is.Well) ls ≡ true → ⊥
none_last ls none last =
    let n : ℕ = length ls - 1 in
    let parts = ap (list_any ends_well) (sym (take-append-drop n ls)) ∙ list_any-append ends_well (take n ls) (drop n ls) in
    let two = or_parts (list_any ends_well (take n ls)) (list_any ends_well (drop n ls)) (sym parts ∙ none_found ends_well ls none) in
    false≢true (sym two.1 ∙ last)

-- there are others
pub sees_others : (limits : StateLimits) (fuel : ℕ) (w : World) (o : Outcomes) → limits.until ≡ Some goal_is.Well → StopsRuns limits.until fuel w o → StopsFor limits o.firsts.more o.visited o.firsts.leaves.items
    → find ends_well o.firsts.leaves.items ≡ None → o.firsts.more ≡ true → NotKnown limits.visited fuel w
sees_others limits fuel w o well h stops none more =
    let as_many : length (leaves_from fuel w) ≡ length (wide_walk fuel w) = length-map (wide_walk fuel w) shown in
    let t = h.told in
    let few = t.few in
    let fewer : t.runs < length (wide_walk fuel w) = ltb-true t.runs (length (wide_walk fuel w)) (sym t.more_is ∙ more) in
    let along = h.few in
    record {
      runs = t.runs;
      few = omega (arith, as_many, few);
      none_well = none_well fuel w o t none;
      why = inl (omega (arith, as_many, fewer), at (stops more) along);
    }
  where
    at : (o.visited ≡ limits.visited) ⊎ (ends_at limits.until o.firsts.leaves.items ≡ true) → o.visited ≤ states_along (take (suc h.told.runs) (leaves_from fuel w)) → limits.visited ≤ states_along (take (suc h.told.runs) (leaves_from fuel w))
    at (inl is) along = omega (arith, is, along)
    at (inr last) along = absurd (none_last o.firsts.leaves.items none (ap (λ g. ends_at g o.firsts.leaves.items) (sym well) ∙ last))

-- where there are none, these are all
all_come : (fuel : ℕ) (w : World) (o : Outcomes) (h : TellsRuns fuel w o) → o.firsts.more ≡ false → (h.runs ≡ length (leaves_from fuel w)) × (take h.runs (leaves_from fuel w) ≡ leaves_from fuel w)
all_come fuel w o h more =
    let ls = leaves_from fuel w in
    let as_many : length ls ≡ length (wide_walk fuel w) = length-map (wide_walk fuel w) shown in
    let few = h.few in
    let many : length (wide_walk fuel w) ≤ h.runs = ltb-false h.runs (length (wide_walk fuel w)) (sym h.more_is ∙ more) in
    (omega (arith, as_many, few, many), take_all h.runs ls (omega (arith, as_many, many)))

-- or one is cut
pub sees_cut : (most fuel : ℕ) (w : World) (o : Outcomes) → TellsRuns fuel w o → find ends_well o.firsts.leaves.items ≡ None → o.firsts.more ≡ false → list_all ends_badly o.firsts.leaves.items ≡ false → NotKnown most fuel w
sees_cut most fuel w o h none more all =
    let whole = all_come fuel w o h more in
    let runs = whole.0 in
    record {
      runs = h.runs;
      few = omega (arith, runs);
      none_well = none_well fuel w o h none;
      why = inr (runs, ap (list_all ends_badly) (sym whole.1) ∙ not_all_firsts goal_is.Bad (take h.runs (leaves_from fuel w)) (ap (list_all ends_badly) (sym h.firsts_are) ∙ all));
    }

-- no more states were come to than stand along all runs
pub few_of_all : (until : Option Goal) (fuel : ℕ) (w : World) (o : Outcomes) → StopsRuns until fuel w o → o.visited ≤ states_along (leaves_from fuel w)
few_of_all until fuel w o h = let few = h.few in let least = along_least (suc h.told.runs) (leaves_from fuel w) in omega (arith, few, least)
  where
    along_least : (n : ℕ) (ls : List SearchLeaf) → states_along (take n ls) ≤ states_along ls
    along_least zero ls = omega arith
    along_least (suc n) [] = omega arith
    along_least (suc n) (l ∷ ls) = let more = along_least n ls in omega (arith, more)

-- where fewer may be come to it isn't known either
pub known_less : (most fewer fuel : ℕ) (w : World) → fewer ≤ most → NotKnown most fuel w → NotKnown fewer fuel w
known_less most fewer fuel w less h = record { runs = h.runs; few = h.few; none_well = h.none_well; why = by h.why }
  where
    by : ((h.runs < length (leaves_from fuel w)) × (most ≤ states_along (take (suc h.runs) (leaves_from fuel w)))) ⊎ ((h.runs ≡ length (leaves_from fuel w)) × (list_all ends_badly (leaves_from fuel w) ≡ false))
        → ((h.runs < length (leaves_from fuel w)) × (fewer ≤ states_along (take (suc h.runs) (leaves_from fuel w)))) ⊎ ((h.runs ≡ length (leaves_from fuel w)) × (list_all ends_badly (leaves_from fuel w) ≡ false))
    by (inl (others, along)) = inl (others, omega (arith, less, along))
    by (inr all) = inr all

-- or every run ends badly
pub sees_doomed : (fuel : ℕ) (w : World) (o : Outcomes) → TellsRuns fuel w o → o.firsts.more ≡ false → list_all ends_badly o.firsts.leaves.items ≡ true → is_doomed fuel w ≡ true
sees_doomed fuel w o h more all =
    let whole = all_come fuel w o h more in
    ap (list_all ends_badly) (sym whole.1) ∙ all_firsts goal_is.Bad (take h.runs (leaves_from fuel w)) (ap (list_all ends_badly) (sym h.firsts_are) ∙ all)
