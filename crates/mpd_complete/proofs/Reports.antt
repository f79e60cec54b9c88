-- Leaves that are those of all runs of a walk have what the walk has.
use Rattle.std.proofs.Common.{◌≡◌, ◌⊎◌, ℕ, Bool, true, false, ◌||◌, List, [], ◌∷◌, map, Some, inl, inr, refl, sym, ap, subst, ◌∙◌}
use Rattle.std.specs.List.{list_any, Contains}
use Rattle.mpd_model.specs.declared.step.Step.{Step}
use Rattle.mpd_model.specs.declared.call.Mode.{Mode}
use Rattle.mpd_model.specs.script.Program.{Program}
use Rattle.mpd_model.specs.steps.World.{World, start}
use Rattle.mpd_model.specs.steps.Next.{fold}
use Rattle.mpd_policy.specs.Walk.{Run, wide_walk}
use Rattle.mpd_explore.specs.declared.report.SearchLeaf.{SearchLeaf}
use Rattle.mpd_explore.specs.declared.report.SearchLimits.{SearchLimits}
use Rattle.mpd_explore.specs.Sleeping.{walk_by, walk_of}
use Rattle.mpd_explore.specs.Report.{shown, left_out}
use Rattle.mpd_explore.proofs.ListedLemmas.{all_listed}
use Rattle.mpd_meaning.proofs.listed.Members.{contains_in, in_contains, in_map}
use Rattle.mpd_complete.specs.CompleteLaws.{HasNoWaitany, KeepsBuffers, was_cut, IsWhole}
use Rattle.mpd_complete.specs.Reported.{NoneIsCut, HaveAllOutcomes, BoundsAllRuns, all_leaves, reported, HasAllEnds}
use Rattle.mpd_complete.proofs.Complete.{complete, sleeping_complete}
use Rattle.mpd_complete.proofs.OfWalks.{Said, walks_complete}

-- ---- leaves of runs

cut_shown : (runs : List Run) → list_any (λ l. was_cut l.ending) (map shown runs) ≡ list_any (λ r. was_cut r.ending) runs
cut_shown [] = refl
cut_shown (r ∷ runs) = ap (λ (b : Bool). was_cut r.ending || b) (cut_shown runs)

whole_runs : (runs : List Run) (leaves : List SearchLeaf) → leaves ≡ map shown runs → NoneIsCut leaves → IsWhole runs
whole_runs runs leaves is whole = sym (cut_shown runs) ∙ sym (ap (list_any (λ (x : SearchLeaf). was_cut x.ending)) is) ∙ whole

pub have_outcomes : (fuel : ℕ) (u : World) (runs : List Run) → Said fuel u runs → (leaves : List SearchLeaf) → leaves ≡ map shown runs → NoneIsCut leaves → HaveAllOutcomes leaves u
have_outcomes fuel u runs said leaves is whole steps w f none =
    let k = (said (whole_runs runs leaves is whole) steps w f).listed none in (
      shown k.run,
      subst (λ (ls : List SearchLeaf). Contains ls (shown k.run)) (sym is) (contains_in (map shown runs) (shown k.run) (in_map shown runs k.run (in_contains runs k.run k.listed))),
      k.ending,
    )

pub bound_runs : (fuel : ℕ) (u : World) (runs : List Run) → Said fuel u runs → (leaves : List SearchLeaf) → leaves ≡ map shown runs → NoneIsCut leaves → BoundsAllRuns fuel u
bound_runs fuel u runs said leaves is whole steps w f =
    let k = said (whole_runs runs leaves is whole) steps w f in
    (k.short, k.goes_on)

-- ---- a report of a walk

pub said_by : (s : Program) (mode : Mode) (before : List Step) (u : World) → fold (start s mode) before ≡ Some u → (fuel : ℕ) (ends : Bool) → (ends ≡ true) ⊎ (HasNoWaitany s × KeepsBuffers mode)
    → Said fuel u (walk_by ends fuel u)
said_by s mode before u e fuel true has = sleeping_complete s mode before u e fuel
said_by s mode before u e fuel false (inl is) = absurd (cc)
said_by s mode before u e fuel false (inr old) = walks_complete s old.0 mode old.1 before u e fuel

pub have_all_outcomes : (s : Program) (mode : Mode) (l : SearchLimits) → HasAllEnds s mode l → (before : List Step) (u : World) → fold (start s mode) before ≡ Some u
    → left_out l (all_leaves l u) ≡ false → NoneIsCut (reported l u) → HaveAllOutcomes (reported l u) u
have_all_outcomes s mode l has before u e few = have_outcomes l.fuel u (walk_of l u) (said_by s mode before u e l.fuel l.ends has) (reported l u) (all_listed l (all_leaves l u) few)

pub bound_all_runs : (s : Program) (mode : Mode) (l : SearchLimits) → HasAllEnds s mode l → (before : List Step) (u : World) → fold (start s mode) before ≡ Some u
    → left_out l (all_leaves l u) ≡ false → NoneIsCut (reported l u) → BoundsAllRuns l.fuel u
bound_all_runs s mode l has before u e few = bound_runs l.fuel u (walk_of l u) (said_by s mode before u e l.fuel l.ends has) (reported l u) (all_listed l (all_leaves l u) few)

-- ---- a report of runs that were drawn

pub drawn_have_all_outcomes : (s : Program) (mode : Mode) (before : List Step) (u : World) → fold (start s mode) before ≡ Some u
    → (fuel : ℕ) (leaves : List SearchLeaf) → leaves ≡ map shown (wide_walk fuel u) → NoneIsCut leaves → HaveAllOutcomes leaves u
drawn_have_all_outcomes s mode before u e fuel = have_outcomes fuel u (wide_walk fuel u) (complete s mode before u e fuel)

pub drawn_bound_all_runs : (s : Program) (mode : Mode) (before : List Step) (u : World) → fold (start s mode) before ≡ Some u
    → (fuel : ℕ) (leaves : List SearchLeaf) → leaves ≡ map shown (wide_walk fuel u) → NoneIsCut leaves → BoundsAllRuns fuel u
drawn_bound_all_runs s mode before u e fuel = bound_runs fuel u (wide_walk fuel u) (complete s mode before u e fuel)
