-- The texts of the witnesses of leaves.
use Rattle.std.specs.Prelude.{ℕ, if◌then◌else◌, List, [], ◌∷◌, ◌++◌, map, Option, Some, None}
use Rattle.mpd_model.specs.declared.step.Step.{Step}
use Rattle.mpd_model.specs.declared.decision.Decision.{Decision}
use Rattle.mpd_model.specs.steps.World.{World}
use Rattle.mpd_model.specs.texts.Texts.{line, steps_text}
use Rattle.mpd_explore.specs.declared.report.SearchLeaf.{SearchLeaf}
use Rattle.mpd_explore.specs.declared.report.EndWitness.{EndWitness}
use Rattle.mpd_explore.specs.declared.report.Witnesses.{Witnesses}
use Rattle.mpd_policy.specs.Walk.{run_by, steps_by}
use Rattle.mpd_explore.specs.Witness.{witness_by}
use Rattle.mpd_explore.specs.Asked.{are_asked, asked_text}

-- what the line of a witness has after its number: `: local 0, local 1`, and a line feed
abbrev pub behind_number : Option EndWitness → List ℕ
behind_number None = []
behind_number (Some x) = 58 ∷ line (steps_text x.steps)

-- the text of a leaf from a state, with so much fuel, after some steps: empty where it is neither a deadlock nor a trap, or isn't asked for
abbrev pub witness_text : (World → Decision) → Witnesses → List Step → ℕ → World → SearchLeaf → List ℕ
witness_text decide asked before n w l = asked_text asked l.ending (behind_number (witness_by (before ++ steps_by (run_by decide n l.choices w)) l.ending))

-- the texts of all leaves, where any are asked for
abbrev pub witness_texts : (World → Decision) → Witnesses → List Step → ℕ → World → List SearchLeaf → List (List ℕ)
witness_texts decide asked before n w leaves = if are_asked asked then map (witness_text decide asked before n w) leaves else []
