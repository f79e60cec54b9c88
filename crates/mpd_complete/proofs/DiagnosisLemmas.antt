-- What a good verdict on a diagnosis says of all runs.
use Rattle.std.proofs.Common.{◌≡◌, ◌+◌, ◌≤◌, ℕ, Bool, true, false, ◌||◌, not, if◌then◌else◌, cond, List, [], ◌∷◌, Option, length, take, nat_lt, inl, inr, refl, sym, ap, subst, ◌∙◌, arith}
use Rattle.std.proofs.lemmas.List.{take_all, length-map}
use Rattle.std.proofs.lemmas.List.Sums.{sum_by-cons}
use Rattle.mpd_model.specs.declared.call.Mode.{Mode}
use Rattle.mpd_model.specs.script.Program.{Program}
use Rattle.mpd_model.specs.steps.World.{World, start}
use Rattle.mpd_model.specs.runs.Trail.{first_standing}
use Rattle.mpd_policy.specs.Walk.{wide_walk}
use Rattle.mpd_explore.specs.declared.report.SearchLeaf.{SearchLeaf}
use Rattle.mpd_explore.specs.Report.{shown}
use Rattle.mpd_explore.proofs.ListedLemmas.{both_true, not_less}
use Rattle.mpd_lines.specs.declared.verdict.Verdict.TheVariants.{Good, Bad, NotWhole}
use Rattle.mpd_outcomes.specs.declared.report.StateLimits.{StateLimits}
use Rattle.mpd_outcomes.specs.Outcomes.{leaves_from}
use Rattle.mpd_runs.specs.declared.counts.WayCounts.{WayCounts}
use Rattle.mpd_runs.specs.declared.way.Way.{Way}
use Rattle.mpd_runs.specs.declared.way.Way.TheVariants.{Deadlock, Trap}
use Rattle.mpd_runs.specs.Ways.{same_way, way_of, ends_in, count_in}
use Rattle.mpd_runs.specs.Counts.{counts_of}
use Rattle.mpd_runs.specs.Runs.{sees_all}
use Rattle.mpd_runs.proofs.CountLemmas.{counts_are}
use Rattle.mpd_diagnose.specs.declared.diagnosis.Diagnosis.{Diagnosis}
use Rattle.mpd_diagnose.specs.Diagnosed.{IsDiagnosis}
use Rattle.mpd_diagnose.specs.Verdicts.{ends_well, is_untidy, is_bad_if, drawn_counts, verdict_of}
use Rattle.mpd_meaning.proofs.listed.Members.{In, in_contains}
use Rattle.mpd_complete.specs.Reported.{NoneIsCut, BoundsAllRuns}
use Rattle.mpd_complete.specs.Told.{NoneEndsBadly}
use Rattle.mpd_complete.proofs.Complete.{complete}
use Rattle.mpd_complete.proofs.Reports.{have_outcomes, bound_runs}
use Rattle.mpd_complete.proofs.ToldLemmas.{sees_whole, is_none}

-- ---- a good verdict

judged : (well untidy drawn whole : Bool) → (if not well || untidy then Bad else (if drawn then Bad else (if whole then Good else NotWhole))) ≡ Good → (well ≡ true) × (whole ≡ true)
judged false untidy drawn whole h = absurd cc
judged true true drawn whole h = absurd cc
judged true false true whole h = absurd cc
judged true false false true h = (refl, refl)
judged true false false false h = absurd cc

-- ---- a way in which none ends

none_here : (b : Bool) (n : ℕ) → cond b 1 0 + n ≡ 0 → (b ≡ false) × (n ≡ 0)
none_here true n h = absurd (omega (arith, h))
none_here false n h = (refl, omega (arith, h))

pub none_in : (x : Way) (ls : List SearchLeaf) → count_in x ls ≡ 0 → (l : SearchLeaf) → In ls l → ends_in x l ≡ false
none_in x [] none l h = absurd h
none_in x (k ∷ ls) none l h =
    let both = none_here (ends_in x k) (count_in x ls) (sym (sum_by-cons (λ (m : SearchLeaf). cond (ends_in x m) 1 0) k ls) ∙ none) in
    elim h [
      | inl same ↦ ap (ends_in x) (sym same) ∙ both.0
      | inr later ↦ none_in x ls both.1 l later
    ]

-- ---- all runs

all_taken : (fuel : ℕ) (u : World) (runs : ℕ) (more : Bool) → more ≡ nat_lt runs (length (wide_walk fuel u)) → more ≡ false → take runs (leaves_from fuel u) ≡ leaves_from fuel u
all_taken fuel u runs more is none =
    take_all runs (leaves_from fuel u) (subst (λ (n : ℕ). n ≤ runs) (sym (length-map (wide_walk fuel u) shown)) (not_less runs (length (wide_walk fuel u)) (sym is ∙ none)))

-- where the numbers of a diagnosis are of all runs, they are those of the leaves of the wide walk, of which none is cut
pub taken_leaves : (limits : StateLimits) (most runs : ℕ) (s : Program) (mode : Mode) (told : Diagnosis) → IsDiagnosis limits most runs (first_standing s mode) told
    → sees_all told.found.counts ≡ true → (told.found.counts ≡ counts_of (leaves_from limits.fuel (start s mode)) false) × NoneIsCut (leaves_from limits.fuel (start s mode))
taken_leaves limits most runs s mode told h seen =
    let fuel : ℕ = limits.fuel in
    let u : World = start s mode in
    let o = told.found.outcomes in
    let t = h.told.0.told in
    let all : List SearchLeaf = leaves_from fuel u in
    let ls : List SearchLeaf = take t.runs all in
    let more : Bool = o.firsts.more in
    let are : told.found.counts ≡ counts_of ls more = h.found.counts_are ∙ counts_are fuel u o t _ _ _ _ _ refl refl refl refl refl in
    let whole = sees_whole ls more (subst (λ (c : WayCounts). sees_all c ≡ true) are seen) in
    let taken : ls ≡ all = all_taken fuel u t.runs more t.more_is whole.0 in
    (are ∙ ap (counts_of ls) whole.0 ∙ ap (λ (leaves : List SearchLeaf). counts_of leaves false) taken, subst NoneIsCut taken whole.1)

pub good_tells : (limits : StateLimits) (most runs : ℕ) (s : Program) (mode : Mode) (told : Diagnosis) (strict : Bool) → IsDiagnosis limits most runs (first_standing s mode) told
    → verdict_of strict told.found.counts (drawn_counts told.drawn) ≡ Good → NoneEndsBadly (start s mode) × BoundsAllRuns limits.fuel (start s mode)
good_tells limits most runs s mode told strict h good =
    let fuel : ℕ = limits.fuel in
    let u : World = start s mode in
    let all : List SearchLeaf = leaves_from fuel u in
    let both = judged (ends_well told.found.counts) (is_untidy strict told.found.counts) (is_bad_if strict (drawn_counts told.drawn)) (sees_all told.found.counts) good in
    let t = taken_leaves limits most runs s mode told h both.1 in
    let well = both_true _ _ (subst (λ (c : WayCounts). ends_well c ≡ true) t.0 both.0) in
    let hangs : count_in Deadlock all ≡ 0 = is_none (count_in Deadlock all) well.0 in
    let traps : count_in Trap all ≡ 0 = is_none (count_in Trap all) well.1 in
    let said = complete s mode [] u refl fuel in
    let have = have_outcomes fuel u (wide_walk fuel u) said all refl t.1 in (
      (λ steps w f none.
          let x = have steps w f none in
          let way_is = ap way_of x.2 in (
            (λ bad. let no = none_in Deadlock all hangs x.0 (in_contains all x.0 x.1) in let yes = ap (same_way Deadlock) (way_is ∙ bad) in cc),
            (λ bad. let no = none_in Trap all traps x.0 (in_contains all x.0 x.1) in let yes = ap (same_way Trap) (way_is ∙ bad) in cc),
          )),
      bound_runs fuel u (wide_walk fuel u) said all refl t.1,
    )
