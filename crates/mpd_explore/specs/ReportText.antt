-- The text of a report.
use Rattle.std.specs.Prelude.{ℕ, suc, Bool, true, false, List, [], ◌∷◌, ◌++◌, length, Option, Some, None, codes}
use Rattle.std.specs.Fmt.{decimal}
use Rattle.std.specs.List.{flat_map}
use Rattle.mpd_model.specs.declared.step.Step.{Step}
use Rattle.mpd_model.specs.declared.decision.Decision.{Decision}
use Rattle.mpd_model.specs.steps.World.{World}
use Rattle.mpd_model.specs.texts.Texts.{line, steps_text, outcome_text}
use Rattle.mpd_policy.specs.declared.ending.Ending.{Ending}
use Rattle.mpd_policy.specs.declared.ending.Ending.TheVariants.{Ended, Cut}
use Rattle.mpd_explore.specs.declared.report.SearchLeaf.{SearchLeaf}
use Rattle.mpd_explore.specs.declared.report.EndWitness.{EndWitness}
use Rattle.mpd_explore.specs.declared.report.Witnesses.{Witnesses}
use Rattle.mpd_policy.specs.Walk.{run_by, steps_by}
use Rattle.mpd_explore.specs.Witness.{witness_by}
use Rattle.mpd_explore.specs.Asked.{asked_text}

-- numbers of candidates, with one space between two
abbrev pub choices_text : List ℕ → List ℕ
choices_text [] = []
choices_text (c ∷ cs) = decimal c ++ flat_map (λ d. 32 ∷ decimal d) cs

abbrev pub ending_text : Ending → List ℕ
ending_text (Ended o) = outcome_text o
ending_text Cut = codes "cut"

-- `[0 2] deadlock 0.1 1.0`
abbrev pub leaf_text : SearchLeaf → List ℕ
leaf_text l = codes "[" ++ choices_text l.choices ++ codes "] " ++ ending_text l.ending

-- `leaf 1 [0 2] deadlock 0.1 1.0`
abbrev pub leaf_line : ℕ → SearchLeaf → List ℕ
leaf_line n l = line (codes "leaf " ++ decimal n ++ 32 ∷ leaf_text l)

-- `witness 1: local 0, local 1`
abbrev pub witness_line : ℕ → EndWitness → List ℕ
witness_line n x = line (codes "witness " ++ decimal n ++ 58 ∷ steps_text x.steps)

abbrev pub witness_lines : ℕ → Option EndWitness → List ℕ
witness_lines n None = []
witness_lines n (Some x) = witness_line n x

-- the witness of a leaf after some steps, where it is a deadlock or a trap
abbrev pub witness_part : (World → Decision) → List Step → ℕ → World → ℕ → SearchLeaf → List ℕ
witness_part decide before fuel w n l = witness_lines n (witness_by (before ++ steps_by (run_by decide fuel l.choices w)) l.ending)

-- all leaves, of which the first is number n, each with its witness where that is asked for
abbrev pub leaves_text : (World → Decision) → Witnesses → List Step → ℕ → World → ℕ → List SearchLeaf → List ℕ
leaves_text decide asked before fuel w n [] = []
leaves_text decide asked before fuel w n (l ∷ ls) = leaf_line n l ++ asked_text asked l.ending (witness_part decide before fuel w n l) ++ leaves_text decide asked before fuel w (suc n) ls

abbrev pub more_text : Bool → List ℕ
more_text true = codes "yes"
more_text false = codes "no"

-- all leaves, numbered from 0, and whether there are more
abbrev pub report_text : (World → Decision) → Witnesses → List Step → ℕ → World → List SearchLeaf → Bool → List ℕ
report_text decide asked before fuel w leaves more = leaves_text decide asked before fuel w 0 leaves ++ line (codes "leaves " ++ decimal (length leaves) ++ codes " more " ++ more_text more)
