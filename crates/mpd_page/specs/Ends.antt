-- How the runs of a page end (docs/PAGES.md, "Ends").
use Rattle.std.specs.Prelude.{◌≡◌, ℕ, ◌+◌, ◌-◌, ◌/◌, Bool, true, false, nat_lt, if◌then◌else◌, List, [], ◌∷◌, ◌++◌, length, Option, Some, None}
use Rattle.mpd_model.specs.declared.limits.TheConstants.{STEPS_MAX}
use Rattle.mpd_model.specs.declared.step.Step.{Step}
use Rattle.mpd_model.specs.declared.call.Mode.{Mode}
use Rattle.mpd_model.specs.declared.outcome.Outcome.{Outcome}
use Rattle.mpd_model.specs.script.Program.{Program}
use Rattle.mpd_model.specs.steps.World.{World, start}
use Rattle.mpd_model.specs.steps.Next.{fold}
use Rattle.mpd_model.specs.steps.Outcomes.{outcome}
use Rattle.mpd_policy.specs.declared.ending.Ending.{Ending}
use Rattle.mpd_policy.specs.declared.ending.Ending.TheVariants.{Ended, Cut}
use Rattle.mpd_explain.specs.declared.lost.Loss.{Loss}
use Rattle.mpd_explain.specs.Ends.{end_of}
use Rattle.mpd_explain.specs.Lost.{all_losses}
use Rattle.mpd_outcomes.specs.Goals.{meets}
use Rattle.mpd_outcomes.specs.declared.report.Goal.TheVariants.{Bad}
use Rattle.mpd_runs.specs.declared.listing.TheConstants.{FUEL}
use Rattle.mpd_blame.specs.declared.told.PlacedBlame.{PlacedBlame}
use Rattle.mpd_blame.specs.Told.{IsBlamed}
use Rattle.mpd_page.specs.declared.ends.RunEnd.{RunEnd}
use Rattle.mpd_page.specs.declared.ends.PageEnd.{PageEnd}
use Rattle.mpd_page.specs.Trees.{run_end, run_tree}
use Rattle.mpd_page.specs.declared.tree.Branch.{Branch}

-- ---- how a run ends, and what is known of that

-- a run that can go on is cut
abbrev pub ending_by : Option Outcome → Ending
ending_by None = Cut
ending_by (Some o) = Ended o

abbrev pub ending_at : World → Ending
ending_at w = ending_by (outcome w)

-- requests are lost at an end alone
abbrev pub lost_at : Program → World → Ending → List Loss
lost_at s w Cut = []
lost_at s w (Ended o) = all_losses s w

-- how many steps a run has at most, from the start, where so many are taken
abbrev pub run_limit : ℕ → ℕ
run_limit n = if nat_lt (STEPS_MAX - n) FUEL then STEPS_MAX else n + FUEL

-- Of so many states, which the searches of all runs of a page come to at most, those of one of so many runs: each has an equal part.
abbrev pub share : ℕ → ℕ → ℕ
share states runs = states / runs

-- Of a run that hangs or traps it is known where that was decided, as far as a search tells it that comes to so many states at most.
abbrev pub DecidesIf : ℕ → Bool → Program → Mode → List Step → Option PlacedBlame → Type 0
DecidesIf most false s mode run o = o ≡ None
DecidesIf most true s mode run None = ⊥
DecidesIf most true s mode run (Some b) = IsBlamed most (run_limit (length run)) s mode run b

-- how a run ends that leads to this state
pub record IsEndIn (most : ℕ) (s : Program) (mode : Mode) (w : World) (run : List Step) (e : RunEnd) : Type 0 where
  pub ending : e.ending ≡ ending_at w
  pub end : e.end ≡ end_of s w (ending_at w)
  pub lost : e.lost ≡ lost_at s w (ending_at w)
  pub decides : DecidesIf most (meets Bad e.ending) s mode run e.decided

-- ---- the ends

-- that a run ends so in the state of this number
pub record IsEnd (most : ℕ) (s : Program) (mode : Mode) (n : ℕ) (run : List Step) (e : PageEnd) : Type 0 where
  pub node : e.node ≡ n
  pub world : World
  pub leads : fold (start s mode) run ≡ Some world
  pub is : IsEndIn most s mode world run e.end

-- that was added
pub record EndAdded (most : ℕ) (s : Program) (mode : Mode) (n : ℕ) (run : List Step) (old new : List PageEnd) : Type 0 where
  pub one : PageEnd
  pub is : IsEnd most s mode n run one
  pub added : new ≡ old ++ one ∷ []

-- the ends of runs, of which the first begins with this tree
abbrev pub AreEnds : ℕ → Program → Mode → List Branch → List (List Step) → List PageEnd → Type 0
AreEnds most s mode tree [] ends = ends ≡ []
AreEnds most s mode tree (run ∷ runs) ends = (one : PageEnd) × (rest : List PageEnd) × (IsEnd most s mode (run_end tree 0 run) run one × AreEnds most s mode (run_tree tree 0 run) runs rest × (ends ≡ one ∷ rest))
