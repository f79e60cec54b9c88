-- From the text of a whole report the witness of each deadlock and of each trap is read by the number of its leaf.
use Rattle.std.proofs.Common.{◌≡◌, ℕ, zero, suc, ◌+◌, ◌-◌, ◌<◌, ◌≤◌, ◌==◌, Bool, true, false, if◌then◌else◌, List, [], ◌∷◌, ◌++◌, length, drop, slice_get, Option, Some, None, Result, Ok, Err, refl, ap, sym, ◌∙◌, arith, append_assoc}
use Rattle.std.specs.Prelude.{codes}
use Rattle.std.specs.Char.{is_ascii_digit}
use Rattle.std.specs.Fmt.{decimal}
use Rattle.std.specs.List.{AllByRecursion}
use Rattle.std.proofs.lemmas.Bool.Decides.{Decides-eqb}
use Rattle.std.proofs.lemmas.Option.{slice_get_within}
use Rattle.mpd_model.specs.declared.step.Step.{Step}
use Rattle.mpd_model.specs.texts.Lines.{is_none}
use Rattle.mpd_model.specs.steps.World.{World}
use Rattle.mpd_model.specs.texts.Texts.{line, steps_text}
use Rattle.mpd_explore.specs.declared.report.SearchLeaf.{SearchLeaf}
use Rattle.mpd_explore.specs.declared.report.WitnessEnd.{WitnessEnd}
use Rattle.mpd_explore.specs.declared.report.EndWitness.{EndWitness}
use Rattle.mpd_explore.specs.declared.report.Witnesses.{Witnesses}
use Rattle.mpd_explore.specs.Asked.{asks, asked_text}
use Rattle.mpd_model.specs.declared.decision.Decision.{Decision}
use Rattle.mpd_policy.specs.Walk.{run_by, steps_by}
use Rattle.mpd_explore.specs.Witness.{end_of, witness_to, witness_by}
use Rattle.mpd_explore.specs.ReportText.{choices_text, ending_text, leaf_text, leaf_line, witness_lines, leaves_text, more_text, report_text}
use Rattle.mpd_witness.specs.declared.report_lines.LineKind.{LineKind}
use Rattle.mpd_witness.specs.declared.report_lines.LineKind.TheVariants.{Passed, OfLeaf, OfWitness}
use Rattle.mpd_witness.specs.declared.report_text.ReportFault.{ReportFault}
use Rattle.mpd_witness.specs.WitnessText.{parts_at, cut_at, line_of, end_read, steps_of}
use Rattle.mpd_witness.specs.WitnessLaws.{IsShortStep, IsShort, IsShortEnding, AreShortSteps, IsShortLeaf, witness_at_leaf}
use Rattle.mpd_witness.specs.ReadBack.{number_behind, numbered, first_in, group_first, before_cut, is_indented, kind_of, may_follow, leaf_number, wrong_line, is_witness, is_leaf, leaf_from, unwitnessed, witnessed, named_from, named_leaf, with_both, witness_at, witness_of_leaf, unless_wrong, witness_of_report}
use Rattle.mpd_witness.proofs.ClearTexts.{is_clear, clear_join, parts_next, parts_last, cut_next, line_clear, decimal_clear, number_read, same_byte}
use Rattle.mpd_witness.proofs.ReportRead.{grouped}
use Rattle.mpd_witness.proofs.RoundTrip.{feed_apart, return_apart, wide, second_clear, second_read_back}
use Rattle.mpd_witness.proofs.FirstLine.{Fits, IsNoEnd, feed_end, return_end, ending_clear, choices_clear, first_read_back}

-- ---- what a line is

is_leaf_by : (n : ℕ) (l : List ℕ) → is_none l ≡ false → is_indented l ≡ false → numbered (codes "leaves") l ≡ None → numbered (codes "outcomes") l ≡ None → numbered (codes "leaf") l ≡ Some n → kind_of l ≡ OfLeaf n
is_leaf_by n l a b c d e = rw (a, b, c, d, e) refl

is_witness_by : (n : ℕ) (l : List ℕ) → is_none l ≡ false → is_indented l ≡ false → numbered (codes "leaves") l ≡ None → numbered (codes "outcomes") l ≡ None → numbered (codes "leaf") l ≡ None → numbered (codes "outcome") l ≡ None → group_first l ≡ None → numbered (codes "witness") (before_cut (cut_at 58 l)) ≡ Some n → kind_of l ≡ OfWitness n
is_witness_by n l a b c d e f g h = rw (a, b, c, d, e, f, g, h) refl

is_total_by : (n : ℕ) (l : List ℕ) → is_none l ≡ false → is_indented l ≡ false → numbered (codes "leaves") l ≡ Some n → kind_of l ≡ Passed
is_total_by n l a b c = rw (a, b, c) refl

-- the line of a leaf with whatever stands behind its number
abbrev leaf_words : ℕ → List ℕ → List ℕ
leaf_words n z = codes "leaf " ++ decimal n ++ 32 ∷ z

leaf_pieces : (n : ℕ) (z : List ℕ) → n < 1000000000 → parts_at 32 (leaf_words n z) ≡ codes "leaf" ∷ decimal n ∷ parts_at 32 z
leaf_pieces n z h =
    ap (parts_at 32) (append_assoc (codes "leaf ") (decimal n) (32 ∷ z))
    ∙ parts_next 32 (codes "leaf") (decimal n ++ 32 ∷ z) refl
    ∙ ap (λ ps. codes "leaf" ∷ ps) (parts_next 32 (decimal n) z (decimal_clear 32 n refl (wide n h)))

leaf_is : (n : ℕ) (z : List ℕ) → n < 1000000000 → kind_of (leaf_words n z) ≡ OfLeaf n
leaf_is n z h =
    is_leaf_by n (leaf_words n z) refl refl (ap (number_behind (codes "leaves")) (leaf_pieces n z h)) (ap (number_behind (codes "outcomes")) (leaf_pieces n z h)) (ap (number_behind (codes "leaf")) (leaf_pieces n z h) ∙ number_read n h)

-- the line of a witness
abbrev witness_words : ℕ → List ℕ → List ℕ
witness_words n z = codes "witness " ++ decimal n ++ 58 ∷ z

witness_pieces : (n : ℕ) (z : List ℕ) → parts_at 32 (witness_words n z) ≡ codes "witness" ∷ parts_at 32 (decimal n ++ 58 ∷ z)
witness_pieces n z = ap (parts_at 32) (append_assoc (codes "witness ") (decimal n) (58 ∷ z)) ∙ parts_next 32 (codes "witness") (decimal n ++ 58 ∷ z) refl

label_number : (n : ℕ) → n < 1000000000 → numbered (codes "witness") (codes "witness " ++ decimal n) ≡ Some n
label_number n h =
    ap (number_behind (codes "witness")) (parts_next 32 (codes "witness") (decimal n) refl ∙ ap (λ ps. codes "witness" ∷ ps) (parts_last 32 (decimal n) (decimal_clear 32 n refl (wide n h)))) ∙ number_read n h

witness_is : (n : ℕ) (z : List ℕ) → n < 1000000000 → kind_of (witness_words n z) ≡ OfWitness n
witness_is n z h =
    is_witness_by n (witness_words n z) refl refl (ap (number_behind (codes "leaves")) (witness_pieces n z)) (ap (number_behind (codes "outcomes")) (witness_pieces n z)) (ap (number_behind (codes "leaf")) (witness_pieces n z)) (ap (number_behind (codes "outcome")) (witness_pieces n z)) (ap first_in (witness_pieces n z))
    (ap (λ q. numbered (codes "witness") (before_cut q)) (cut_next 58 (codes "witness " ++ decimal n) z (clear_join 58 (codes "witness ") (decimal n) refl (decimal_clear 58 n refl (wide n h)))) ∙ label_number n h)

-- the last line
abbrev total_words : ℕ → Bool → List ℕ
total_words n more = codes "leaves " ++ decimal n ++ codes " more " ++ more_text more

total_pieces : (n : ℕ) (more : Bool) → n < 1000000000 → parts_at 32 (total_words n more) ≡ codes "leaves" ∷ decimal n ∷ parts_at 32 (codes "more " ++ more_text more)
total_pieces n more h =
    ap (parts_at 32) (append_assoc (codes "leaves " ++ decimal n) (codes " more ") (more_text more) ∙ append_assoc (codes "leaves ") (decimal n) (codes " more " ++ more_text more))
    ∙ parts_next 32 (codes "leaves") (decimal n ++ 32 ∷ (codes "more " ++ more_text more)) refl
    ∙ ap (λ ps. codes "leaves" ∷ ps) (parts_next 32 (decimal n) (codes "more " ++ more_text more) (decimal_clear 32 n refl (wide n h)))

total_is : (n : ℕ) (more : Bool) → n < 1000000000 → kind_of (total_words n more) ≡ Passed
total_is n more h = is_total_by n (total_words n more) refl refl (ap (number_behind (codes "leaves")) (total_pieces n more h) ∙ number_read n h)

-- ---- no line has a line feed or a carriage return

record IsNoTotal (c : ℕ) : Type 0 where
  digit : is_ascii_digit c ≡ false
  total : is_clear c (codes "leaves ") ≡ true
  others : is_clear c (codes " more ") ≡ true
  answers : (b : Bool) → is_clear c (more_text b) ≡ true

feed_more : (b : Bool) → is_clear 10 (more_text b) ≡ true
feed_more true = refl
feed_more false = refl

return_more : (b : Bool) → is_clear 13 (more_text b) ≡ true
return_more true = refl
return_more false = refl

feed_total : IsNoTotal 10
feed_total = record { digit = refl; total = refl; others = refl; answers = feed_more }

return_total : IsNoTotal 13
return_total = record { digit = refl; total = refl; others = refl; answers = return_more }

leaf_clear : (c n : ℕ) → IsNoEnd c → (l : SearchLeaf) → n < 1000000000 → AllByRecursion Fits l.choices → IsShortEnding l.ending → is_clear c (leaf_words n (leaf_text l)) ≡ true
leaf_clear c n k l f g h =
    let a = clear_join c (codes "leaf ") (decimal n) k.line.leaf (decimal_clear c n k.line.apart.digit (wide n f)) in
    let opened : is_clear c (32 ∷ codes "[") ≡ true = k.line.opens in
    let d = clear_join c (32 ∷ codes "[") (choices_text l.choices) opened (choices_clear c k.line l.choices g) in
    let e = clear_join c (32 ∷ codes "[" ++ choices_text l.choices) (codes "] ") d k.line.closes in
    clear_join c (codes "leaf " ++ decimal n) (32 ∷ leaf_text l) a (clear_join c (32 ∷ codes "[" ++ choices_text l.choices ++ codes "] ") (ending_text l.ending) e (ending_clear c k l.ending h))

total_clear : (c n : ℕ) → IsNoTotal c → (more : Bool) → n < 1000000000 → is_clear c (total_words n more) ≡ true
total_clear c n k more h =
    clear_join c (codes "leaves " ++ decimal n ++ codes " more ") (more_text more)
    (clear_join c (codes "leaves " ++ decimal n) (codes " more ") (clear_join c (codes "leaves ") (decimal n) k.total (decimal_clear c n k.digit (wide n h))) k.others) (k.answers more)

-- ---- which witnesses are told

abbrev told_by : Bool → Option EndWitness → Option EndWitness
told_by false o = None
told_by true o = o

lines_by : (b : Bool) (n : ℕ) (o : Option EndWitness) → (if b then witness_lines n o else []) ≡ witness_lines n (told_by b o)
lines_by false n o = refl
lines_by true n o = refl

short_by : (b : Bool) (o : Option EndWitness) → AreShortSteps o → AreShortSteps (told_by b o)
short_by false o h = tt
short_by true o h = h

some_by : (b : Bool) (o : Option EndWitness) (x : EndWitness) → told_by b o ≡ Some x → o ≡ Some x
some_by false o x h = absurd (let z : ⊥ = cc in z)
some_by true o x h = h

-- ---- the lines of a report

module _ (decide : World → Decision) (asked : Witnesses) (before : List Step) (fuel : ℕ) (w : World) where
  abbrev told : SearchLeaf → Option EndWitness
  told l = told_by (asks asked l.ending) (witness_at_leaf decide before fuel w l)

  steps_told : (l : SearchLeaf) → IsShortLeaf decide before fuel w l → AreShortSteps (told l)
  steps_told l h = short_by (asks asked l.ending) (witness_at_leaf decide before fuel w l) h.steps

  -- the line of a witness, where there is one
  abbrev row : ℕ → Option EndWitness → List (List ℕ) → List (List ℕ)
  row n None ls = ls
  row n (Some x) ls = witness_words n (steps_text x.steps) ∷ ls

  abbrev rows : ℕ → List SearchLeaf → List (List ℕ) → List (List ℕ)
  rows n [] behind = behind
  rows n (l ∷ ls) behind = leaf_words n (leaf_text l) ∷ row n (told l) (rows (suc n) ls behind)

  next_part : (a z : List ℕ) (ps : List (List ℕ)) → is_clear 10 a ≡ true → parts_at 10 z ≡ ps → parts_at 10 (line a ++ z) ≡ a ∷ ps
  next_part a z ps e h = ap (parts_at 10) (append_assoc a (10 ∷ []) z) ∙ parts_next 10 a z e ∙ ap (λ qs. a ∷ qs) h

  row_parts : (n : ℕ) (x : Option EndWitness) (z : List ℕ) (ps : List (List ℕ)) → n < 1000000000 → AreShortSteps x → parts_at 10 z ≡ ps → parts_at 10 (witness_lines n x ++ z) ≡ row n x ps
  row_parts n None z ps f h e = e
  row_parts n (Some x) z ps f h e = next_part (witness_words n (steps_text x.steps)) z ps (second_clear 10 n feed_apart x.steps (wide n f) h) e

  leaves_parts : (n : ℕ) (leaves : List SearchLeaf) (z : List ℕ) (ps : List (List ℕ)) → n + length leaves < 1000000000 → AllByRecursion (IsShortLeaf decide before fuel w) leaves → parts_at 10 z ≡ ps
      → parts_at 10 (leaves_text decide asked before fuel w n leaves ++ z) ≡ rows n leaves ps
  leaves_parts n [] z ps f h e = e
  leaves_parts n (l ∷ ls) z ps f h e =
      let small : n < 1000000000 = omega (arith, f) in
      let rest : List ℕ = leaves_text decide asked before fuel w (suc n) ls in
      let wit : List ℕ = witness_lines n (told l) in
      ap (λ (v : List ℕ). parts_at 10 (((leaf_line n l ++ v) ++ rest) ++ z)) (lines_by (asks asked l.ending) n (witness_at_leaf decide before fuel w l))
      ∙ ap (parts_at 10) (append_assoc (leaf_line n l ++ wit) rest z ∙ append_assoc (leaf_line n l) wit (rest ++ z))
      ∙ next_part (leaf_words n (leaf_text l)) (wit ++ (rest ++ z)) (row n (told l) (rows (suc n) ls ps)) (leaf_clear 10 n feed_end l small h.0.choices h.0.ending)
      (row_parts n (told l) (rest ++ z) (rows (suc n) ls ps) small (steps_told l h.0) (leaves_parts (suc n) ls z ps (omega (arith, f)) h.1 e))

  -- ---- none is wrong

  leaf_kind : (n : ℕ) (l : SearchLeaf) → n < 1000000000 → IsShortLeaf decide before fuel w l → kind_of (line_of (leaf_words n (leaf_text l))) ≡ OfLeaf n
  leaf_kind n l f h =
      ap kind_of (line_clear (leaf_words n (leaf_text l)) (leaf_clear 10 n feed_end l f h.choices h.ending) (leaf_clear 13 n return_end l f h.choices h.ending)) ∙ leaf_is n (leaf_text l) f

  witness_kind : (n : ℕ) (x : EndWitness) → n < 1000000000 → AllByRecursion IsShortStep x.steps → kind_of (line_of (witness_words n (steps_text x.steps))) ≡ OfWitness n
  witness_kind n x f h =
      ap kind_of (line_clear (witness_words n (steps_text x.steps)) (second_clear 10 n feed_apart x.steps (wide n f) h) (second_clear 13 n return_apart x.steps (wide n f) h)) ∙ witness_is n (steps_text x.steps) f

  abbrev NoneWrong : List (List ℕ) → Type 0
  NoneWrong ls = (i : ℕ) (b : Option ℕ) → wrong_line i b ls ≡ None

  on_kind : (i : ℕ) (b : Option ℕ) (k : LineKind) (l : List ℕ) (ls : List (List ℕ)) → kind_of (line_of l) ≡ k → may_follow b k ≡ true → NoneWrong ls → wrong_line i b (l ∷ ls) ≡ None
  on_kind i b k l ls is follows h =
      ap (λ (x : LineKind). if may_follow b x then wrong_line (suc i) (leaf_number x) ls else Some i) is ∙ ap (λ (v : Bool). if v then wrong_line (suc i) (leaf_number k) ls else Some i) follows ∙ h (suc i) (leaf_number k)

  row_right : (n : ℕ) (x : Option EndWitness) (ls : List (List ℕ)) (i : ℕ) → n < 1000000000 → AreShortSteps x → NoneWrong ls → wrong_line i (Some n) (row n x ls) ≡ None
  row_right n None ls i f h r = r i (Some n)
  row_right n (Some x) ls i f h r = on_kind i (Some n) (OfWitness n) (witness_words n (steps_text x.steps)) ls (witness_kind n x f h) (same_byte n) r

  rows_right : (n : ℕ) (leaves : List SearchLeaf) (behind : List (List ℕ)) → n + length leaves < 1000000000 → AllByRecursion (IsShortLeaf decide before fuel w) leaves → NoneWrong behind → NoneWrong (rows n leaves behind)
  rows_right n [] behind f h r = r
  rows_right n (l ∷ ls) behind f h r = λ i b.
      let small : n < 1000000000 = omega (arith, f) in
      ap (λ (x : LineKind). if may_follow b x then wrong_line (suc i) (leaf_number x) (row n (told l) (rows (suc n) ls behind)) else Some i) (leaf_kind n l small h.0)
      ∙ row_right n (told l) (rows (suc n) ls behind) (suc i) small (steps_told l h.0) (rows_right (suc n) ls behind (omega (arith, f)) h.1 r)

  -- ---- the leaf is found

  abbrev Found : ℕ → ℕ → List (List ℕ) → SearchLeaf → Type 0
  Found n i ls l = (p : ℕ) × (more : List (List ℕ)) × (leaf_from n i ls ≡ Some (p, leaf_words n (leaf_text l) ∷ row n (told l) more))

  past : (n i : ℕ) (k : LineKind) (l : List ℕ) (ls : List (List ℕ)) → kind_of (line_of l) ≡ k → is_leaf n k ≡ false → leaf_from n i (l ∷ ls) ≡ leaf_from n (suc i) ls
  past n i k l ls is other =
      ap (λ (x : LineKind). let r : Option (ℕ × List (List ℕ)) = if is_leaf n x then Some (i, l ∷ ls) else leaf_from n (suc i) ls in r) is
      ∙ ap (λ (v : Bool). let r : Option (ℕ × List (List ℕ)) = if v then Some (i, l ∷ ls) else leaf_from n (suc i) ls in r) other

  other_number : (m n : ℕ) → m < n → (m == n) ≡ false
  other_number m n h =
      elim (m == n) as (λ v. (m == n) ≡ v → v ≡ false) [
        | true ↦ λ k. absurd (let same : m ≡ n = (Decides-eqb m n).0 k in omega (arith, h, same))
        | false ↦ λ k. refl
      ] refl

  past_row : (m n i : ℕ) (x : Option EndWitness) (ls : List (List ℕ)) (l : SearchLeaf) → n < 1000000000 → AreShortSteps x → ((i : ℕ) → Found m i ls l) → Found m i (row n x ls) l
  past_row m n i None ls l f h found = found i
  past_row m n i (Some x) ls l f h found =
      let there = found (suc i) in
      (there.0, there.1, past m i (OfWitness n) (witness_words n (steps_text x.steps)) ls (witness_kind n x f h) refl ∙ there.2)

  found_at : (m n k i : ℕ) (leaves : List SearchLeaf) (behind : List (List ℕ)) (l : SearchLeaf) → m ≡ n + k → n + length leaves < 1000000000 → AllByRecursion (IsShortLeaf decide before fuel w) leaves → slice_get leaves k ≡ Some l → Found m i (rows n leaves behind) l
  found_at m n k i [] behind l e f h s = absurd (let x : ⊥ = cc in x)
  found_at m n zero i (q ∷ ls) behind l e f h s =
      let small : n < 1000000000 = omega (arith, f) in
      let same : q ≡ l = cc in
      let number : m ≡ n = omega (arith, e) in (
        i,
        rows (suc n) ls behind,
        ap (λ j. leaf_from j i (rows n (q ∷ ls) behind)) number
            ∙ ap (λ (x : LineKind). let r : Option (ℕ × List (List ℕ)) = if is_leaf n x then Some (i, rows n (q ∷ ls) behind) else leaf_from n (suc i) (row n (told q) (rows (suc n) ls behind)) in r) (leaf_kind n q small h.0)
            ∙ ap (λ (v : Bool). let r : Option (ℕ × List (List ℕ)) = if v then Some (i, rows n (q ∷ ls) behind) else leaf_from n (suc i) (row n (told q) (rows (suc n) ls behind)) in r) (same_byte n)
            ∙ ap (λ (y : SearchLeaf). let r : Option (ℕ × List (List ℕ)) = Some (i, leaf_words n (leaf_text y) ∷ row n (told y) (rows (suc n) ls behind)) in r) same
            ∙ ap (λ j. let r : Option (ℕ × List (List ℕ)) = Some (i, leaf_words j (leaf_text l) ∷ row j (told l) (rows (suc n) ls behind)) in r) (sym number),
      )
  found_at m n (suc k) i (q ∷ ls) behind l e f h s =
      let small : n < 1000000000 = omega (arith, f) in
      let there = past_row m n (suc i) (told q) (rows (suc n) ls behind) l small (steps_told q h.0) (λ j. found_at m (suc n) k j ls behind l (omega (arith, e)) (omega (arith, f)) h.1 s) in
      (there.0, there.1, past m i (OfLeaf n) (leaf_words n (leaf_text q)) (row n (told q) (rows (suc n) ls behind)) (leaf_kind n q small h.0) (other_number n m (omega (arith, e))) ∙ there.2)

  -- ---- and read

  abbrev IsThere : ℕ → Option (ℕ × List (List ℕ)) → List (List ℕ) → Type 0
  IsThere i None ls = Unit {0}
  IsThere i (Some q) ls = (i ≤ q.0) × (drop (q.0 - i) ls ≡ q.1)

  there_more : (i : ℕ) (o : Option (ℕ × List (List ℕ))) (l : List ℕ) (ls : List (List ℕ)) → IsThere (suc i) o ls → IsThere i o (l ∷ ls)
  there_more i None l ls h = tt
  there_more i (Some q) l ls h =
      let deep : suc i ≤ q.0 = h.0 in
      (omega (arith, deep), ap (λ k. drop k (l ∷ ls)) (let s : q.0 - i ≡ suc (q.0 - suc i) = omega (arith, deep) in s) ∙ h.1)

  there_by : (v : Bool) (n i : ℕ) (l : List ℕ) (ls : List (List ℕ)) → IsThere (suc i) (leaf_from n (suc i) ls) ls → IsThere i (if v then Some (i, l ∷ ls) else leaf_from n (suc i) ls) (l ∷ ls)
  there_by true n i l ls h = (omega arith, ap (λ k. drop k (l ∷ ls)) (let s : i - i ≡ 0 = omega arith in s))
  there_by false n i l ls h = there_more i (leaf_from n (suc i) ls) l ls h

  there_as : (i : ℕ) (a b : Option (ℕ × List (List ℕ))) (ls : List (List ℕ)) → a ≡ b → IsThere i a ls → IsThere i b ls
  there_as i a b ls e h = rw e at h

  is_there : (n i : ℕ) (ls : List (List ℕ)) → IsThere i (leaf_from n i ls) ls
  is_there n i [] = tt
  is_there n i (l ∷ ls) = there_by (is_leaf n (kind_of (line_of l))) n i l ls (is_there n (suc i) ls)

  end_at : (steps : List Step) (end : Option WitnessEnd) (x : EndWitness) → witness_to steps end ≡ Some x → end ≡ Some x.end
  end_at steps None x h = absurd (let z : ⊥ = cc in z)
  end_at steps (Some end) x h = let same : end ≡ x.end = cc in ap (λ (e : WitnessEnd). Some e) same

  both_read : (n p : ℕ) (l : SearchLeaf) (x : EndWitness) → n < 1000000000 → IsShortLeaf decide before fuel w l → told l ≡ Some x → IsShort x → with_both p (end_read (line_of (leaf_words n (leaf_text l)))) (steps_of (line_of (witness_words n (steps_text x.steps)))) ≡ Ok x
  both_read n p l x f h t s =
      let a : List ℕ = leaf_words n (leaf_text l) in
      let b : List ℕ = witness_words n (steps_text x.steps) in
      let bare_a : line_of a ≡ a = line_clear a (leaf_clear 10 n feed_end l f h.choices h.ending) (leaf_clear 13 n return_end l f h.choices h.ending) in
      let bare_b : line_of b ≡ b = line_clear b (second_clear 10 n feed_apart x.steps (wide n f) s.steps) (second_clear 13 n return_apart x.steps (wide n f) s.steps) in
      let end : end_of l.ending ≡ Some x.end = end_at (before ++ steps_by (run_by decide fuel l.choices w)) (end_of l.ending) x (some_by (asks asked l.ending) (witness_at_leaf decide before fuel w l) x t) in
      let first : end_read (line_of a) ≡ Some x.end =
      ap end_read (bare_a ∙ grouped (codes "leaf " ++ decimal n) (choices_text l.choices) (ending_text l.ending)) ∙ first_read_back n l.choices l.ending x.end (wide n f) h.choices end s.end in
      let second : steps_of (line_of b) ≡ Some x.steps = ap steps_of bare_b ∙ second_read_back n x.steps (wide n f) s.steps s.some_step in
      ap (λ (q : Option WitnessEnd). with_both p q (steps_of (line_of b))) first ∙ ap (λ (q : Option (List Step)). with_both p (Some x.end) q) second

  named_is : (n p : ℕ) (ls more : List (List ℕ)) (l : SearchLeaf) (x : EndWitness) → n < 1000000000 → AllByRecursion IsShortStep x.steps → told l ≡ Some x → leaf_from n 0 ls ≡ Some (p, leaf_words n (leaf_text l) ∷ row n (told l) more) → named_leaf n ls ≡ Ok p
  named_is n p ls more l x f h t e =
      let a : List ℕ = leaf_words n (leaf_text l) in
      ap named_from e ∙ ap (λ (q : Option EndWitness). witnessed p (a ∷ row n q more)) t
      ∙ ap (λ (k : LineKind). let r : Result ℕ ReportFault = if is_witness k then Ok p else Err (unwitnessed (line_of a)) in r) (witness_kind n x f h)

  dropped : (n p : ℕ) (ls more : List (List ℕ)) (l : SearchLeaf) (x : EndWitness) → told l ≡ Some x → leaf_from n 0 ls ≡ Some (p, leaf_words n (leaf_text l) ∷ row n (told l) more) → drop p ls ≡ leaf_words n (leaf_text l) ∷ witness_words n (steps_text x.steps) ∷ more
  dropped n p ls more l x t e =
      let there : IsThere 0 (Some (p, leaf_words n (leaf_text l) ∷ row n (told l) more)) ls = there_as 0 (leaf_from n 0 ls) (Some (p, leaf_words n (leaf_text l) ∷ row n (told l) more)) ls e (is_there n 0 ls) in
      ap (λ k. drop k ls) (let s : p ≡ p - 0 = omega arith in s) ∙ there.1 ∙ ap (λ (q : Option EndWitness). leaf_words n (leaf_text l) ∷ row n q more) t

  rows_read : (n : ℕ) (leaves : List SearchLeaf) (ls : List (List ℕ)) (l : SearchLeaf) (x : EndWitness) → n < 1000000000 → IsShortLeaf decide before fuel w l → told l ≡ Some x → IsShort x → wrong_line 1 None ls ≡ None → Found n 0 ls l → unless_wrong (wrong_line 1 None ls) (Some n) ls ≡ Ok x
  rows_read n leaves ls l x f h t s right found =
      let p : ℕ = found.0 in
      ap (λ (q : Option ℕ). unless_wrong q (Some n) ls) right
      ∙ ap (λ (q : Result ℕ ReportFault). witness_of_leaf q ls) (named_is n p ls found.1 l x f s.steps t found.2)
      ∙ ap (witness_at p) (dropped n p ls found.1 l x t found.2)
      ∙ both_read n p l x f h t s

  leaf_at : (k : ℕ) (leaves : List SearchLeaf) (l : SearchLeaf) → AllByRecursion (IsShortLeaf decide before fuel w) leaves → slice_get leaves k ≡ Some l → IsShortLeaf decide before fuel w l
  leaf_at k [] l h s = absurd (let z : ⊥ = cc in z)
  leaf_at zero (q ∷ ls) l h s = let same : q ≡ l = cc in rw (sym same) h.0
  leaf_at (suc k) (q ∷ ls) l h s = leaf_at k ls l h.1 s

  within : (k : ℕ) (leaves : List SearchLeaf) (l : SearchLeaf) → slice_get leaves k ≡ Some l → k < length leaves
  within k leaves l s = slice_get_within leaves k l s

  pub leaf_in : (leaves : List SearchLeaf) (more : Bool) (n : ℕ) (l : SearchLeaf) (x : EndWitness) → length leaves < 1000000000 → AllByRecursion (IsShortLeaf decide before fuel w) leaves → slice_get leaves n ≡ Some l → told l ≡ Some x → IsShort x
      → witness_of_report (Some n) (report_text decide asked before fuel w leaves more) ≡ Ok x
  leaf_in leaves more n l x f h s t short =
      let k : ℕ = length leaves in
      let total : List ℕ = total_words k more in
      let behind : List (List ℕ) = total ∷ [] ∷ [] in
      let last : parts_at 10 (line total) ≡ behind = parts_next 10 total [] (total_clear 10 k feed_total more f) in
      let bare : line_of total ≡ total = line_clear total (total_clear 10 k feed_total more f) (total_clear 13 k return_total more f) in
      let ends : NoneWrong behind = λ i b. on_kind i b Passed total ([] ∷ []) (ap kind_of bare ∙ total_is k more f) refl (λ j c. refl) in
      let cut : parts_at 10 (report_text decide asked before fuel w leaves more) ≡ rows 0 leaves behind = leaves_parts 0 leaves (line total) behind (omega (arith, f)) h last in
      ap (λ (ls : List (List ℕ)). unless_wrong (wrong_line 1 None ls) (Some n) ls) cut
      ∙ rows_read n leaves (rows 0 leaves behind) l x (omega (arith, f, within n leaves l s)) (leaf_at n leaves l h s) t short (rows_right 0 leaves behind (omega (arith, f)) h ends 1 None)
      (found_at n 0 n 0 leaves behind l (omega arith) (omega (arith, f)) h s)

pub leaf_is_read : (decide : World → Decision) (asked : Witnesses) (before : List Step) (fuel : ℕ) (w : World) (leaves : List SearchLeaf) (more : Bool) (n : ℕ) (l : SearchLeaf) (x : EndWitness) → length leaves < 1000000000 → AllByRecursion (IsShortLeaf decide before fuel w) leaves → slice_get leaves n ≡ Some l → asks asked l.ending ≡ true → witness_at_leaf decide before fuel w l ≡ Some x → IsShort x
    → witness_of_report (Some n) (report_text decide asked before fuel w leaves more) ≡ Ok x
leaf_is_read decide asked before fuel w leaves more n l x f h s on t short = leaf_in decide asked before fuel w leaves more n l x f h s (ap (λ b. told_by b (witness_at_leaf decide before fuel w l)) on ∙ t) short
