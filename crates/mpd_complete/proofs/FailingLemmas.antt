-- What is said of all runs where each that was looked at ends badly.
use Rattle.std.proofs.Common.{◌≡◌, ◌⊎◌, ◌+◌, ◌-◌, ◌<◌, ◌≤◌, ℕ, zero, suc, Bool, true, false, ◌&&◌, ◌||◌, not, List, [], ◌∷◌, Option, length, take, nat_lt, inl, inr, refl, sym, ap, subst, ◌∙◌, arith, Some}
use Rattle.std.specs.List.{list_all, list_any, Contains}
use Rattle.mpd_model.specs.declared.call.Mode.{Mode}
use Rattle.mpd_model.specs.declared.step.Step.{Step}
use Rattle.mpd_model.specs.declared.outcome.Outcome.{Outcome}
use Rattle.mpd_model.specs.declared.outcome.Outcome.TheVariants as outcome
use Rattle.mpd_model.specs.script.Program.{Program}
use Rattle.mpd_model.specs.steps.World.{World, start}
use Rattle.mpd_model.specs.steps.Next.{fold, enabled}
use Rattle.mpd_model.specs.steps.Outcomes.{ending}
use Rattle.mpd_model.specs.runs.Trail.{first_standing}
use Rattle.mpd_policy.specs.declared.ending.Ending.{Ending}
use Rattle.mpd_policy.specs.declared.ending.Ending.TheVariants as ended
use Rattle.mpd_policy.specs.Walk.{wide_walk}
use Rattle.mpd_explore.specs.declared.report.SearchLeaf.{SearchLeaf}
use Rattle.mpd_explore.proofs.ListedLemmas.{both_true}
use Rattle.mpd_outcomes.specs.declared.report.StateLimits.{StateLimits}
use Rattle.mpd_outcomes.specs.declared.report.Goal.TheVariants as goal_is
use Rattle.mpd_outcomes.specs.Goals.{meets}
use Rattle.mpd_outcomes.specs.Outcomes.{leaves_from}
use Rattle.mpd_runs.specs.declared.counts.WayCounts.{WayCounts}
use Rattle.mpd_runs.specs.declared.way.Way.{Way}
use Rattle.mpd_runs.specs.declared.way.Way.TheVariants.{Done, Leftovers, Deadlock, Trap}
use Rattle.mpd_runs.specs.Ways.{same_way, way_of, ends_in, count_in}
use Rattle.mpd_runs.specs.Counts.{counts_of, is_count}
use Rattle.mpd_runs.specs.Runs.{sees_all}
use Rattle.mpd_blame.specs.declared.back.Decided.{Decided}
use Rattle.mpd_blame.specs.declared.back.Blame.TheVariants.{At, FromStart}
use Rattle.mpd_blame.specs.Blame.{ends_badly, is_doomed, IsBlame}
use Rattle.mpd_diagnose.specs.declared.diagnosis.Diagnosis.{Diagnosis}
use Rattle.mpd_diagnose.specs.Diagnosed.{IsDiagnosis}
use Rattle.mpd_diagnose.specs.Verdicts.{always_fails, always_hangs, always_traps}
use Rattle.mpd_meaning.proofs.listed.Members.{In, in_contains}
use Rattle.mpd_complete.specs.CompleteLaws.{was_cut}
use Rattle.mpd_complete.specs.Reported.{NoneIsCut, HaveAllOutcomes, BoundsAllRuns}
use Rattle.mpd_complete.specs.Told.{AllEndBadly, AllEndIn}
use Rattle.mpd_complete.proofs.Complete.{complete}
use Rattle.mpd_complete.proofs.Reports.{have_outcomes, bound_runs}
use Rattle.mpd_complete.proofs.ToldLemmas.{sees_whole, is_none}
use Rattle.mpd_complete.proofs.DiagnosisLemmas.{none_in, taken_leaves}

-- ---- leaves that all end badly

all_in : (ls : List SearchLeaf) → list_all ends_badly ls ≡ true → (l : SearchLeaf) → In ls l → ends_badly l ≡ true
all_in [] all l h = absurd h
all_in (k ∷ ls) all l h =
    let both = both_true (ends_badly k) (list_all ends_badly ls) all in
    elim h [
      | inl same ↦ ap ends_badly (sym same) ∙ both.0
      | inr later ↦ all_in ls both.1 l later
    ]

bad_ends : (e : Ending) → meets goal_is.Bad e ≡ true → was_cut e ≡ false
bad_ends ended.Cut h = absurd cc
bad_ends (ended.Ended o) h = refl

bad_none_cut : (ls : List SearchLeaf) → list_all ends_badly ls ≡ true → NoneIsCut ls
bad_none_cut [] all = refl
bad_none_cut (l ∷ ls) all =
    let both = both_true (ends_badly l) (list_all ends_badly ls) all in
    ap (λ (b : Bool). b || list_any (λ (x : SearchLeaf). was_cut x.ending) ls) (bad_ends l.ending both.0) ∙ bad_none_cut ls both.1

bad_way : (e : Ending) → meets goal_is.Bad e ≡ true → (way_of e ≡ Deadlock) ⊎ (way_of e ≡ Trap)
bad_way ended.Cut h = absurd cc
bad_way (ended.Ended outcome.Done) h = absurd cc
bad_way (ended.Ended (outcome.Leftovers calls)) h = absurd cc
bad_way (ended.Ended (outcome.Deadlock calls)) h = inl refl
bad_way (ended.Ended (outcome.Trap ranks)) h = inr refl

pub doomed_ends : (s : Program) (mode : Mode) (before : List Step) (u : World) → fold (start s mode) before ≡ Some u
    → (fuel : ℕ) → is_doomed fuel u ≡ true → AllEndBadly u × BoundsAllRuns fuel u
doomed_ends s mode before u reached fuel doomed =
    let all : List SearchLeaf = leaves_from fuel u in
    let ends : NoneIsCut all = bad_none_cut all doomed in
    let said = complete s mode before u reached fuel in
    let have : HaveAllOutcomes all u = have_outcomes fuel u (wide_walk fuel u) said all refl ends in (
      (λ steps w f none.
          let x = have steps w f none in
          subst (λ (e : Ending). (way_of e ≡ Deadlock) ⊎ (way_of e ≡ Trap)) x.2 (bad_way x.0.ending (all_in all doomed x.0 (in_contains all x.0 x.1)))),
      bound_runs fuel u (wide_walk fuel u) said all refl ends,
    )

-- ---- the step that decided

pub blames_tell : (s : Program) (mode : Mode) (most limit : ℕ) (steps : List Step)
    → ((d : Decided) → IsBlame most limit (start s mode) steps (At d)
    → (n : ℕ) (u : World) → d.depth < n → n ≤ length steps → fold (start s mode) (take n steps) ≡ Some u → AllEndBadly u × BoundsAllRuns (limit - n) u)
    × (IsBlame most limit (start s mode) steps FromStart → AllEndBadly (start s mode) × BoundsAllRuns limit (start s mode))
blames_tell s mode most limit steps = (
  (λ d is n u after within leads. doomed_ends s mode (take n steps) u leads (limit - n) (is.doomed n u (omega (arith, after)) within leads)),
  (λ is. let all : limit - 0 ≡ limit = omega arith in doomed_ends s mode [] (start s mode) refl limit (subst (λ n. is_doomed n (start s mode) ≡ true) all (is 0 (start s mode) (omega arith) (omega arith) refl))),
)

-- ---- a diagnosis

fails_way : (o : Outcome) → same_way Done (way_of (ended.Ended o)) ≡ false → same_way Leftovers (way_of (ended.Ended o)) ≡ false → (way_of (ended.Ended o) ≡ Deadlock) ⊎ (way_of (ended.Ended o) ≡ Trap)
fails_way outcome.Done done left = absurd cc
fails_way (outcome.Leftovers calls) done left = absurd cc
fails_way (outcome.Deadlock calls) done left = inl refl
fails_way (outcome.Trap ranks) done left = inr refl

hangs_way : (w : Way) → (w ≡ Deadlock) ⊎ (w ≡ Trap) → same_way Trap w ≡ false → w ≡ Deadlock
hangs_way w either trap = elim either [ inl is ↦ is | inr is ↦ let yes = ap (same_way Trap) is in cc ]

traps_way : (w : Way) → (w ≡ Deadlock) ⊎ (w ≡ Trap) → same_way Deadlock w ≡ false → w ≡ Trap
traps_way w either hang = elim either [ inl is ↦ let yes = ap (same_way Deadlock) is in cc | inr is ↦ is ]

pub failing_tells : (limits : StateLimits) (most runs : ℕ) (s : Program) (mode : Mode) (told : Diagnosis)
    → IsDiagnosis limits most runs (first_standing s mode) told → always_fails told.found.counts ≡ true
    → AllEndBadly (start s mode) × BoundsAllRuns limits.fuel (start s mode)
    × (always_hangs told.found.counts ≡ true → AllEndIn Deadlock (start s mode)) × (always_traps told.found.counts ≡ true → AllEndIn Trap (start s mode))
failing_tells limits most runs s mode told h fails =
    let fuel : ℕ = limits.fuel in
    let u : World = start s mode in
    let all : List SearchLeaf = leaves_from fuel u in
    let seen = both_true _ _ fails in
    let both = both_true _ _ seen.0 in
    let t = taken_leaves limits most runs s mode told h both.0 in
    let done : count_in Done all ≡ 0 = is_none (count_in Done all) (subst (λ (c : WayCounts). is_count 0 c.done ≡ true) t.0 both.1) in
    let left : count_in Leftovers all ≡ 0 = is_none (count_in Leftovers all) (subst (λ (c : WayCounts). is_count 0 c.leftovers ≡ true) t.0 seen.1) in
    let said = complete s mode [] u refl fuel in
    let have : HaveAllOutcomes all u = have_outcomes fuel u (wide_walk fuel u) said all refl t.1 in
    let no : (x : Way) → count_in x all ≡ 0 → (steps : List Step) (w : World) → fold u steps ≡ Some w → enabled w ≡ [] → same_way x (way_of (ended.Ended (ending w))) ≡ false
    = λ x none steps w f end.
    let l = have steps w f end in
    subst (λ (e : Ending). same_way x (way_of e) ≡ false) l.2 (none_in x all none l.0 (in_contains all l.0 l.1)) in
    let badly : AllEndBadly u = λ steps w f end. fails_way (ending w) (no Done done steps w f end) (no Leftovers left steps w f end) in (
      badly,
      bound_runs fuel u (wide_walk fuel u) said all refl t.1,
      (λ hangs steps w f end.
          let traps : count_in Trap all ≡ 0 = is_none (count_in Trap all) (subst (λ (c : WayCounts). is_count 0 c.trap ≡ true) t.0 (both_true _ _ (both_true _ _ hangs).0).1) in
          hangs_way (way_of (ended.Ended (ending w))) (badly steps w f end) (no Trap traps steps w f end)),
      (λ traps steps w f end.
          let hangs : count_in Deadlock all ≡ 0 = is_none (count_in Deadlock all) (subst (λ (c : WayCounts). is_count 0 c.deadlock ≡ true) t.0 (both_true _ _ (both_true _ _ traps).0).1) in
          traps_way (way_of (ended.Ended (ending w))) (badly steps w f end) (no Deadlock hangs steps w f end)),
    )
