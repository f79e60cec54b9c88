-- The first runs of all ways to end have what the walk has.
use Rattle.std.proofs.Common.{◌≡◌, ℕ, Bool, true, false, ◌||◌, ◌≤◌, List, [], ◌∷◌, length, inl, inr, refl, sym, ap, subst, ◌∙◌}
use Rattle.std.specs.List.{list_any, Contains}
use Rattle.std.proofs.lemmas.List.{take_all, length-map}
use Rattle.mpd_model.specs.declared.call.Mode.{Mode}
use Rattle.mpd_model.specs.script.Program.{Program}
use Rattle.mpd_model.specs.steps.World.{World, start}
use Rattle.mpd_policy.specs.declared.ending.Ending.{Ending}
use Rattle.mpd_policy.specs.declared.ending.Ending.TheVariants.{Ended, Cut}
use Rattle.mpd_policy.specs.Walk.{wide_walk}
use Rattle.mpd_explore.specs.declared.report.SearchLeaf.{SearchLeaf}
use Rattle.mpd_explore.specs.Report.{shown}
use Rattle.mpd_explore.proofs.ListedLemmas.{not_less}
use Rattle.mpd_outcomes.specs.declared.report.Outcomes.{Outcomes}
use Rattle.mpd_explore.specs.Ends.{ending_eq, firsts, has_end}
use Rattle.mpd_outcomes.specs.Outcomes.{leaves_from, TellsRuns}
use Rattle.mpd_explore.proofs.FirstLemmas.{ending_same, ending_each, firsts_ends}
use Rattle.mpd_check.specs.Tally.{tally_of, TellsAll}
use Rattle.mpd_check.proofs.WholeLemmas.{whole_tells}
use Rattle.mpd_meaning.proofs.listed.Members.{In, contains_in, in_contains}
use Rattle.mpd_complete.specs.CompleteLaws.{was_cut}
use Rattle.mpd_complete.specs.Reported.{NoneIsCut, HaveAllOutcomes, BoundsAllRuns}
use Rattle.mpd_complete.proofs.Complete.{complete}
use Rattle.mpd_complete.proofs.Reports.{have_outcomes, bound_runs}
use Rattle.mpd_complete.proofs.ToldLemmas.{all_end}

-- ---- one is cut where a first is

cut_is : (e : Ending) → was_cut e ≡ ending_eq e Cut
cut_is Cut = refl
cut_is (Ended o) = refl

cut_ends : (ls : List SearchLeaf) → list_any (λ (x : SearchLeaf). was_cut x.ending) ls ≡ has_end ls Cut
cut_ends [] = refl
cut_ends (l ∷ ls) = (λ j. cut_is l.ending j || cut_ends ls j)

none_cut : (ls : List SearchLeaf) → NoneIsCut (firsts ls) → NoneIsCut ls
none_cut ls h = cut_ends ls ∙ sym (firsts_ends ls Cut) ∙ sym (cut_ends (firsts ls)) ∙ h

-- ---- each end is a first's

has_its_end : (ls : List SearchLeaf) (x : SearchLeaf) → In ls x → has_end ls x.ending ≡ true
has_its_end [] x h = absurd h
has_its_end (l ∷ ls) x (inl e) = (λ j. (ap (λ (y : SearchLeaf). ending_eq y.ending x.ending) e ∙ ending_each x.ending) j || has_end ls x.ending)
has_its_end (l ∷ ls) x (inr h) = (λ j. ending_eq l.ending x.ending || has_its_end ls x h j) ∙ or_true (ending_eq l.ending x.ending)
  where
    or_true : (b : Bool) → (b || true) ≡ true
    or_true true = refl
    or_true false = refl

with_end : (ls : List SearchLeaf) (e : Ending) → has_end ls e ≡ true → (y : SearchLeaf) × In ls y × (y.ending ≡ e)
with_end [] e h = absurd (cc)
with_end (l ∷ ls) e h = one (ending_eq l.ending e) refl (λ left. with_end ls e left)
  where
    one : (b : Bool) → ending_eq l.ending e ≡ b → (has_end ls e ≡ true → (y : SearchLeaf) × In ls y × (y.ending ≡ e)) → (y : SearchLeaf) × In (l ∷ ls) y × (y.ending ≡ e)
    one true is more = (l, inl refl, ending_same l.ending e is)
    one false is more = let k = more ((λ j. sym is j || has_end ls e) ∙ h) in (k.0, inr k.1, k.2)

first_of : (ls : List SearchLeaf) (x : SearchLeaf) → Contains ls x → (y : SearchLeaf) × Contains (firsts ls) y × (y.ending ≡ x.ending)
first_of ls x h =
    let k = with_end (firsts ls) x.ending (firsts_ends ls x.ending ∙ has_its_end ls x (in_contains ls x h)) in
    (k.0, contains_in (firsts ls) k.0 k.1, k.2)

-- ---- what is told of outcomes

firsts_have : (ls : List SearchLeaf) (u : World) → HaveAllOutcomes ls u → HaveAllOutcomes (firsts ls) u
firsts_have ls u have steps w f none =
    let k = have steps w f none in
    let y = first_of ls k.0 k.1 in
    (y.0, y.1, y.2 ∙ k.2)

pub are_firsts : (fuel : ℕ) (u : World) (o : Outcomes) → TellsRuns fuel u o → o.firsts.more ≡ false → o.firsts.leaves.items ≡ firsts (leaves_from fuel u)
are_firsts fuel u o t none =
    t.firsts_are ∙ ap firsts (take_all t.runs (leaves_from fuel u) (subst (λ (n : ℕ). n ≤ t.runs) (sym (length-map (wide_walk fuel u) shown)) (not_less t.runs (length (wide_walk fuel u)) (sym t.more_is ∙ none))))

pub outcomes_tell : (s : Program) (mode : Mode) (fuel : ℕ) (o : Outcomes) → TellsRuns fuel (start s mode) o → TellsAll true s mode (tally_of o.firsts.leaves.items o.firsts.more)
    → HaveAllOutcomes o.firsts.leaves.items (start s mode) × BoundsAllRuns fuel (start s mode)
outcomes_tell s mode fuel o t h =
    let u : World = start s mode in
    let all : List SearchLeaf = leaves_from fuel u in
    let whole = whole_tells o.firsts.leaves.items o.firsts.more h.0 in
    let are : o.firsts.leaves.items ≡ firsts all = are_firsts fuel u o t whole.0 in
    let ends : NoneIsCut all = none_cut all (subst NoneIsCut are (all_end o.firsts.leaves.items whole.1)) in
    let said = complete s mode [] u refl fuel in (
      subst (λ (ls : List SearchLeaf). HaveAllOutcomes ls u) (sym are) (firsts_have all u (have_outcomes fuel u (wide_walk fuel u) said all refl ends)),
      bound_runs fuel u (wide_walk fuel u) said all refl ends,
    )
