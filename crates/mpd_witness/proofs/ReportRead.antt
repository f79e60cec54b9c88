-- The lines of a report are those that are read.
use Rattle.std.proofs.Common.{◌≡◌, ℕ, ◌^◌, ◌<◌, List, ◌∷◌, ◌++◌, Some, Ok, ap, sym, ◌∙◌, append_assoc}
use Rattle.std.specs.Prelude.{codes}
use Rattle.std.specs.Fmt.{decimal}
use Rattle.std.specs.List.{AllByRecursion}
use Rattle.mpd_model.specs.texts.Texts.{line}
use Rattle.mpd_explore.specs.declared.report.SearchLeaf.{SearchLeaf}
use Rattle.mpd_explore.specs.declared.report.EndWitness.{EndWitness}
use Rattle.mpd_explore.specs.Witness.{end_of}
use Rattle.mpd_explore.specs.ReportText.{choices_text, ending_text, leaf_line, witness_line}
use Rattle.mpd_witness.specs.WitnessText.{witness_of}
use Rattle.mpd_witness.specs.WitnessLaws.{IsShort}
use Rattle.mpd_witness.proofs.FirstLine.{written_is_read}

-- the text of a leaf behind its number
pub grouped : (x c e : List ℕ) → x ++ 32 ∷ (codes "[" ++ c ++ codes "] " ++ e) ≡ x ++ codes " [" ++ c ++ codes "] " ++ e
grouped x c e =
    sym (ap (λ (t : List ℕ). t ++ codes "] " ++ e) (append_assoc x (codes " [") c)
    ∙ ap (λ (t : List ℕ). t ++ e) (append_assoc x (codes " [" ++ c) (codes "] "))
    ∙ append_assoc x (codes " [" ++ c ++ codes "] ") e)

pub report_is_read : (n m : ℕ) (l : SearchLeaf) (x : EndWitness) → n < 2 ^ 64 → m < 2 ^ 64 → AllByRecursion (λ c. c < 2 ^ 64) l.choices → end_of l.ending ≡ Some x.end → IsShort x
    → witness_of (leaf_line n l ++ witness_line m x) ≡ Ok x
report_is_read n m l x f g k e h =
    ap (λ (t : List ℕ). witness_of (line t ++ witness_line m x)) (grouped (codes "leaf " ++ decimal n) (choices_text l.choices) (ending_text l.ending))
    ∙ written_is_read n m l.choices l.ending x f g k e h
