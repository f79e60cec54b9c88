-- Where a debugger stands while a run is drawn, and what a report has of the runs that were drawn so far.
use Rattle.std.specs.Prelude.{◌≡◌, ℕ, ◌<◌, ◌≤◌, Bool, true, false, ◌&&◌, List, [], ◌∷◌, ◌++◌, map, length, take, drop, Some, String, string_bytes}
use Rattle.std.specs.Global.{Global, Box, Vec}
use Rattle.std.specs.declared.cmp.Ordering.TheVariants.{Less}
use Rattle.std.specs.Ordering.{is_lt, is_eq}
use Rattle.std.specs.List.{AllByRecursion}
use Rattle.rand_core.specs.Stream.{Stream}
use Rattle.rand.specs.Uniform.{usize_single}
use Rattle.mpd_model.specs.declared.step.Step.{Step}
use Rattle.mpd_model.specs.steps.World.{World}
use Rattle.mpd_model.specs.runs.Trail.{Standing, done_steps}
use Rattle.mpd_policy.specs.Wide.{wide_decision}
use Rattle.mpd_policy.specs.declared.ending.Ending.{Ending}
use Rattle.mpd_explore.specs.declared.report.SearchLeaf.{SearchLeaf}
use Rattle.mpd_explore.specs.declared.report.SearchLimits.{SearchLimits}
use Rattle.mpd_policy.specs.Walk.{Run, run_by}
use Rattle.mpd_explore.specs.Report.{shown, is_bad}
use Rattle.mpd_explore.specs.WitnessTexts.{witness_text}
use Rattle.mpd_explore.specs.Asked.{are_asked}
use Rattle.mpd_runs.specs.Order.{order, with_leaf}
use Rattle.mpd_runs.specs.Drawn.{drawn, draws, sampled}

-- ---- one run

-- what draws takes the candidate whose number the generator gives, and notes that; what it is lent stays the same places (their names)
abbrev pub takes_drawn : {C N M : Type 0} → (C → Stream) → (C → List ℕ) → (C → N) → (C → M) → C → ℕ → World → List Step → ℕ → C → Type 0
takes_drawn stream noted name mark c n w candidates i d = ((i, stream d) ≡ usize_single 0 (length candidates) (stream c)) × (noted d ≡ noted c ++ i ∷ []) × (name d ≡ name c) × (mark d ≡ mark c)

-- A run was drawn, which ends so.
pub record Drew (n : ℕ) (d : Standing) (s : Stream) (choices : List ℕ) (ending : Ending) (e : Standing) (t : Stream) : Type 0 where
  pub path : List Step
  pub done_steps_are : done_steps e.trail ≡ done_steps d.trail ++ path
  pub run : run_by wide_decision n choices d.world ≡ Some (record { choices = choices; steps = path; ending = ending })
  pub drawn_is : drawn n d.world s ≡ (choices, t)

-- ---- a place among leaves

-- So many leaves come before some choices, and those after them don't.
pub record IsPlace (choices : List ℕ) (leaves : List SearchLeaf) (i : ℕ) : Type 0 where
  pub within : i ≤ length leaves
  pub before : AllByRecursion (λ l. order l.choices choices ≡ Less) (take i leaves)
  pub behind : AllByRecursion (λ l. is_lt (order l.choices choices) ≡ false) (drop i leaves)

-- the first leaf has these choices
abbrev pub begins_with : List ℕ → List SearchLeaf → Bool
begins_with choices [] = false
begins_with choices (l ∷ ls) = is_eq (order l.choices choices)

-- ---- what is held while runs are drawn, and a report

abbrev pub in_box : {A : Type 0} → Box A → A
in_box b = b.value

abbrev pub leaves_in : Vec (Box SearchLeaf) → List SearchLeaf
leaves_in leaves = map in_box leaves.items

abbrev pub text_in : Box (String Global) → List ℕ
text_in b = string_bytes b.value

abbrev pub texts_in : Vec (Box (String Global)) → List (List ℕ)
texts_in texts = map text_in texts.items

-- the texts of leaves, where they are asked for
abbrev pub TextsAre : Bool → (SearchLeaf → List ℕ) → List SearchLeaf → List (List ℕ) → Type 0
TextsAre false text leaves texts = texts ≡ []
TextsAre true text leaves texts = texts ≡ map text leaves

-- as many texts as leaves, where they are asked for
abbrev pub IsEven : Bool → List SearchLeaf → List (List ℕ) → Type 0
IsEven false leaves texts = texts ≡ []
IsEven true leaves texts = length texts ≡ length leaves

-- A run was drawn at d, and added to a report; it ends the list or not.
pub record Adds (l : SearchLimits) (d : Standing) (s : Stream) (old : List SearchLeaf) (texts : List (List ℕ)) (last : Bool) (new : List SearchLeaf) (now : List (List ℕ)) (t : Stream) : Type 0 where
  pub run : Run
  pub by : run_by wide_decision l.fuel run.choices d.world ≡ Some run
  pub drawn_is : drawn l.fuel d.world s ≡ (run.choices, t)
  pub leaves_are : new ≡ with_leaf (shown run) old
  pub last_is : last ≡ (l.until_bad && is_bad run.ending)
  pub texts_are : TextsAre (are_asked l.witnesses) (witness_text wide_decision l.witnesses (done_steps d.trail) l.fuel d.world) old texts → TextsAre (are_asked l.witnesses) (witness_text wide_decision l.witnesses (done_steps d.trail) l.fuel d.world) new now

-- choices that tell a run, which has them
pub record TellsRun (n : ℕ) (w : World) (choices : List ℕ) : Type 0 where
  pub run : Run
  pub by : run_by wide_decision n choices w ≡ Some run
  pub same : run.choices ≡ choices

-- What a report has of the runs that were drawn so far, of which there are so many; k are still to be drawn.
pub record Sampling (l : SearchLimits) (before : List Step) (w : World) (first : Stream) (count k : ℕ) (s : Stream) (leaves : List SearchLeaf) (texts : List (List ℕ)) : Type 0 where
  pub found : List (List ℕ)
  pub joined : found ++ draws l.until_bad l.fuel k w s ≡ draws l.until_bad l.fuel l.runs w first
  pub runs_are : AllByRecursion (TellsRun l.fuel w) found
  pub leaves_are : leaves ≡ map shown (sampled found l.fuel w)
  pub texts_are : TextsAre (are_asked l.witnesses) (witness_text wide_decision l.witnesses before l.fuel w) leaves texts
  pub few : length leaves ≤ count
  pub some : 0 < count → 0 < length leaves

-- These are the leaves of a sample, and their texts.
pub record Samples (l : SearchLimits) (before : List Step) (w : World) (first : Stream) (leaves : List SearchLeaf) (texts : List (List ℕ)) : Type 0 where
  pub leaves_are : leaves ≡ map shown (sampled (draws l.until_bad l.fuel l.runs w first) l.fuel w)
  pub runs_are : AllByRecursion (TellsRun l.fuel w) (draws l.until_bad l.fuel l.runs w first)
  pub texts_are : TextsAre (are_asked l.witnesses) (witness_text wide_decision l.witnesses before l.fuel w) leaves texts
  pub few : length leaves ≤ l.runs
  pub some : 0 < l.runs → 0 < length leaves
