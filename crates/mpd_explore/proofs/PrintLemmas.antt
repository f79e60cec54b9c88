-- The text of a report by its texts is the text of the report.
use Rattle.std.proofs.Common.{◌≡◌, ℕ, zero, suc, ◌<◌, ◌≤◌, ◌==◌, Bool, true, false, if◌then◌else◌, List, [], ◌∷◌, ◌++◌, length, map, get_or, slice_get, Option, Some, None, Result, Ok, Err, IfOk, codes, refl, sym, ap, ◌∙◌, arith, append_assoc}
use Rattle.std.specs.Option.{option_map}
use Rattle.std.specs.Fmt.{decimal}
use Rattle.std.proofs.lemmas.Bool.Decides.{nat_tests}
use Rattle.std.proofs.lemmas.List.{length-append, length-map}
use Rattle.std.proofs.lemmas.Option.{slice_get-map, slice_get_read, slice_get_past}
use Rattle.mpd_model.specs.declared.step.Step.{Step}
use Rattle.mpd_model.specs.declared.decision.Decision.{Decision}
use Rattle.mpd_model.specs.steps.World.{World}
use Rattle.mpd_model.specs.texts.Texts.{line, steps_text}
use Rattle.mpd_model.specs.declared.outcome.Outcome.TheVariants.{Done, Leftovers, Deadlock, Trap}
use Rattle.mpd_policy.specs.declared.ending.Ending.{Ending}
use Rattle.mpd_policy.specs.declared.ending.Ending.TheVariants.{Ended, Cut}
use Rattle.mpd_explore.specs.declared.report.SearchLeaf.{SearchLeaf}
use Rattle.mpd_explore.specs.declared.report.EndWitness.{EndWitness}
use Rattle.mpd_explore.specs.declared.report.Witnesses.{Witnesses}
use Rattle.mpd_explore.specs.declared.report.Witnesses.TheVariants.{OfNone, OfDeadlocks, OfAll}
use Rattle.mpd_explore.specs.Asked.{asks, asked_text}
use Rattle.mpd_policy.specs.Walk.{steps_by, run_by}
use Rattle.mpd_explore.specs.Report.{is_bad}
use Rattle.mpd_explore.specs.Witness.{witness_by}
use Rattle.mpd_explore.specs.ReportText.{leaf_line, witness_lines, witness_part, leaves_text, more_text, report_text}
use Rattle.mpd_explore.specs.WitnessTexts.{behind_number, witness_text, witness_texts}
use Rattle.mpd_explore.specs.Printed.{numbered, numbered_at, lines_told, told_text}

-- ---- one text

numbered_is : (n : ℕ) (o : Option EndWitness) → numbered n (behind_number o) ≡ witness_lines n o
numbered_is n None = refl
numbered_is n (Some x) = sym (append_assoc (codes "witness " ++ decimal n) (58 ∷ steps_text x.steps) (10 ∷ []))

numbered_if : (b : Bool) (n : ℕ) (o : Option EndWitness) → numbered n (if b then behind_number o else []) ≡ (if b then witness_lines n o else [])
numbered_if false n o = refl
numbered_if true n o = numbered_is n o

numbered_asked : (asked : Witnesses) (e : Ending) (n : ℕ) (o : Option EndWitness) → numbered n (asked_text asked e (behind_number o)) ≡ asked_text asked e (witness_lines n o)
numbered_asked asked e n o = numbered_if (asks asked e) n o

pub numbered_none : (n : ℕ) (text : List ℕ) → (length text == 0) ≡ true → numbered n text ≡ []
numbered_none n [] h = refl
numbered_none n (c ∷ cs) h = grind (arith, nat_tests)

pub numbered_some : (n : ℕ) (text : List ℕ) → (length text == 0) ≡ false → numbered n text ≡ (codes "witness " ++ decimal n) ++ text
numbered_some n [] h = cc
numbered_some n (c ∷ cs) h = refl

pub none_at : {A B : Type 0} (v : A → B) (xs : List A) (n : ℕ) → length xs ≤ n → slice_get (map v xs) n ≡ None
none_at v xs n h = slice_get_past (map v xs) n (omega (arith, length-map xs v))

pub some_at : {A B : Type 0} (v : A → B) (xs : List A) (n : ℕ) (x : A) → n < length xs → x ≡ get_or xs n x → slice_get (map v xs) n ≡ Some (v x)
some_at v xs n x within read = slice_get-map v xs n ∙ ap (option_map v) (slice_get_read xs (length xs) n x refl within read)

-- the text of a witness, where the run is a deadlock or a trap, and where it is neither
pub good_text : (steps : List Step) (e : Ending) → is_bad e ≡ false → behind_number (witness_by steps e) ≡ []
good_text steps Cut h = refl
good_text steps (Ended Done) h = refl
good_text steps (Ended (Leftovers calls)) h = refl
good_text steps (Ended (Deadlock blocked)) h = cc
good_text steps (Ended (Trap ranks)) h = cc

pub bad_text : (steps : List Step) (e : Ending) → is_bad e ≡ true → behind_number (witness_by steps e) ≡ 58 ∷ line (steps_text steps)
bad_text steps Cut h = cc
bad_text steps (Ended Done) h = cc
bad_text steps (Ended (Leftovers calls)) h = cc
bad_text steps (Ended (Deadlock blocked)) h = refl
bad_text steps (Ended (Trap ranks)) h = refl

pub ruleset witnessing = (good_text, bad_text)

-- ---- all texts

at_seam : (front behind : List (List ℕ)) (text : List ℕ) (n : ℕ) → length front ≡ n → slice_get (front ++ text ∷ behind) n ≡ Some text
at_seam [] behind text zero e = refl
at_seam [] behind text (suc n) e = absurd (omega (arith, e))
at_seam (x ∷ front) behind text zero e = absurd (omega (arith, e))
at_seam (x ∷ front) behind text (suc n) e = at_seam front behind text n (omega (arith, e))

module _ (decide : World → Decision) where
  plain : (before : List Step) (fuel : ℕ) (w : World) (n : ℕ) (leaves : List SearchLeaf) → lines_told [] n leaves ≡ leaves_text decide OfNone before fuel w n leaves
  plain before fuel w n [] = refl
  plain before fuel w n (l ∷ leaves) = ap (λ ls. (leaf_line n l ++ []) ++ ls) (plain before fuel w (suc n) leaves)

  with_texts : (asked : Witnesses) (before : List Step) (fuel : ℕ) (w : World) (n : ℕ) (front texts : List (List ℕ)) (leaves : List SearchLeaf) → length front ≡ n → texts ≡ front ++ map (witness_text decide asked before fuel w) leaves → lines_told texts n leaves ≡ leaves_text decide asked before fuel w n leaves
  with_texts asked before fuel w n front texts [] long are = refl
  with_texts asked before fuel w n front texts (l ∷ leaves) long are =
      let own : List ℕ = witness_text decide asked before fuel w l in
      let here : slice_get texts n ≡ Some own = ap (λ ts. slice_get ts n) are ∙ at_seam front (map (witness_text decide asked before fuel w) leaves) own n long in
      let line_is : numbered_at n (slice_get texts n) ≡ asked_text asked l.ending (witness_part decide before fuel w n l) = ap (numbered_at n) here ∙ numbered_asked asked l.ending n (witness_by (before ++ steps_by (run_by decide fuel l.choices w)) l.ending) in
      ap (λ ls. (leaf_line n l ++ ls) ++ lines_told texts (suc n) leaves) line_is
      ∙ ap (λ ls. (leaf_line n l ++ asked_text asked l.ending (witness_part decide before fuel w n l)) ++ ls)
      (with_texts asked before fuel w (suc n) (front ++ own ∷ []) texts leaves (omega (arith, length-append front (own ∷ []), long)) (are ∙ sym (append_assoc front (own ∷ []) (map (witness_text decide asked before fuel w) leaves))))

  lines_are : (asked : Witnesses) (before : List Step) (fuel : ℕ) (w : World) (texts : List (List ℕ)) (leaves : List SearchLeaf) → texts ≡ witness_texts decide asked before fuel w leaves → lines_told texts 0 leaves ≡ leaves_text decide asked before fuel w 0 leaves
  lines_are OfNone before fuel w texts leaves are = ap (λ ts. lines_told ts 0 leaves) are ∙ plain before fuel w 0 leaves
  lines_are OfDeadlocks before fuel w texts leaves are = with_texts OfDeadlocks before fuel w 0 [] texts leaves refl are
  lines_are OfAll before fuel w texts leaves are = with_texts OfAll before fuel w 0 [] texts leaves refl are

  told_is : (asked : Witnesses) (before : List Step) (fuel : ℕ) (w : World) (texts : List (List ℕ)) (leaves : List SearchLeaf) (more : Bool) → texts ≡ witness_texts decide asked before fuel w leaves → told_text texts leaves more ≡ report_text decide asked before fuel w leaves more
  told_is asked before fuel w texts leaves more are = ap (λ ls. ls ++ line (codes "leaves " ++ decimal (length leaves) ++ codes " more " ++ more_text more)) (lines_are asked before fuel w texts leaves are)

  pub told_reports : {A E : Type 0} (r : Result A E) (text_of : A → List ℕ) (asked : Witnesses) (before : List Step) (fuel : ℕ) (w : World) (texts : List (List ℕ)) (leaves : List SearchLeaf) (more : Bool) → IfOk r (λ t. text_of t ≡ told_text texts leaves more) → texts ≡ witness_texts decide asked before fuel w leaves
      → IfOk r (λ t. text_of t ≡ report_text decide asked before fuel w leaves more)
  told_reports (Ok t) text_of asked before fuel w texts leaves more is are = is ∙ told_is asked before fuel w texts leaves more are
  told_reports (Err e) text_of asked before fuel w texts leaves more is are = tt
