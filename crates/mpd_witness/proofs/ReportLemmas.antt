-- What is read of the lines of a report.
use Rattle.std.proofs.Common.{◌≡◌, ℕ, zero, suc, ◌+◌, ◌-◌, ◌<◌, ◌≤◌, ◌==◌, nat_le, Bool, true, false, ◌&&◌, if◌then◌else◌, List, [], ◌∷◌, length, drop, Option, Some, None, Result, Ok, Err, refl, ap, sym, ◌∙◌, arith}
use Rattle.std.specs.Prelude.{bytes_eq, codes, filter}
use Rattle.mpd_model.specs.declared.step.Step.{Step}
use Rattle.mpd_model.specs.texts.Words.{number_of}
use Rattle.mpd_explore.specs.declared.report.WitnessEnd.{WitnessEnd}
use Rattle.mpd_explore.specs.declared.report.EndWitness.{EndWitness}
use Rattle.mpd_witness.specs.declared.report_lines.LineKind.{LineKind}
use Rattle.mpd_witness.specs.declared.report_lines.LineKind.TheVariants.{OfLeaf, OfWitness, Wrong}
use Rattle.mpd_witness.specs.declared.report_text.ReportFault.{ReportFault}
use Rattle.mpd_witness.specs.declared.report_text.ReportFault.TheVariants.{BadLine, NoWitness, SeveralWitnesses, NoSuchLeaf, NoDeadlock, Engine}
use Rattle.mpd_witness.specs.WitnessText.{parts_at, cut_at, line_of, end_read, steps_of, witness_of}
use Rattle.mpd_witness.specs.ReadBack.{second_number, number_behind, numbered, number_and, numbered_either, first_in, group_first, leaf_of, before_cut, is_indented, is_passed, kind_of, may_follow, leaf_number, wrong_line, is_witness, is_leaf, witness_from, unless_other, sole_from, sole_leaf, leaf_from, unwitnessed, witnessed, named_from, named_leaf, leaf_wanted, with_both, witness_at, witness_of_leaf, unless_wrong, is_filled, are_two, are_alone, as_two, witness_of_report, ReadsReport}

-- ---- a number behind a word

pub no_piece : (word : List ℕ) (ps : List (List ℕ)) → ps ≡ [] → None ≡ number_behind word ps
no_piece word ps n = sym (ap (number_behind word) n)

pub other_word : (word z : List ℕ) (ps qs : List (List ℕ)) → ps ≡ z ∷ qs → bytes_eq z word ≡ false → None ≡ number_behind word ps
other_word word z ps qs n o = sym (ap (number_behind word) n ∙ ap (λ (v : Bool). if v then second_number qs else None) o)

pub word_alone : (word z : List ℕ) (ps qs : List (List ℕ)) → ps ≡ z ∷ qs → bytes_eq z word ≡ true → qs ≡ [] → None ≡ number_behind word ps
word_alone word z ps qs n o s = sym (ap (number_behind word) n ∙ ap (λ (v : Bool). if v then second_number qs else None) o ∙ ap second_number s)

pub word_behind : (word z y : List ℕ) (ps qs rs : List (List ℕ)) (r : Option ℕ) → ps ≡ z ∷ qs → bytes_eq z word ≡ true → qs ≡ y ∷ rs → r ≡ number_of y → r ≡ number_behind word ps
word_behind word z y ps qs rs r n o s h = h ∙ sym (ap (number_behind word) n ∙ ap (λ (v : Bool). if v then second_number qs else None) o ∙ ap second_number s)

pub two_passed : (z y : List ℕ) (ps qs rs : List (List ℕ)) → ps ≡ z ∷ qs → qs ≡ y ∷ rs → rs ≡ drop 2 ps
two_passed z y ps qs rs n s = sym (ap (λ ks. drop 2 ks) (n ∙ ap (λ ks. z ∷ ks) s))

pub ruleset numbering = (no_piece, other_word, word_alone, word_behind, two_passed)

-- ---- the first of some leaves

drop_twice : (ps : List (List ℕ)) → drop 2 (drop 2 ps) ≡ drop 4 ps
drop_twice [] = refl
drop_twice (a ∷ []) = refl
drop_twice (a ∷ b ∷ []) = refl
drop_twice (a ∷ b ∷ c ∷ []) = refl
drop_twice (a ∷ b ∷ c ∷ d ∷ ps) = refl

by_end : (l : List ℕ) (ps : List (List ℕ)) (o : Option ℕ) → ps ≡ parts_at 32 l → o ≡ number_behind (codes "end") ps → number_and o (number_and (number_behind (codes "leaves") (drop 2 ps)) (number_behind (codes "first") (drop 4 ps))) ≡ group_first l
by_end l ps o e h = ap (λ x. number_and x (number_and (number_behind (codes "leaves") (drop 2 ps)) (number_behind (codes "first") (drop 4 ps)))) h ∙ ap first_in e

pub no_end : (l : List ℕ) (ps : List (List ℕ)) → ps ≡ parts_at 32 l → None ≡ number_behind (codes "end") ps → None ≡ group_first l
no_end l ps e h = by_end l ps None e h

pub no_count : (l : List ℕ) (ps qs : List (List ℕ)) (n : ℕ) → ps ≡ parts_at 32 l → Some n ≡ number_behind (codes "end") ps → qs ≡ drop 2 ps → None ≡ number_behind (codes "leaves") qs → None ≡ group_first l
no_count l ps qs n e h s k = ap (λ o. number_and o (number_behind (codes "first") (drop 4 ps))) (k ∙ ap (number_behind (codes "leaves")) s) ∙ by_end l ps (Some n) e h

pub first_there : (l : List ℕ) (ps qs rs : List (List ℕ)) (n m : ℕ) (r : Option ℕ) → ps ≡ parts_at 32 l → Some n ≡ number_behind (codes "end") ps → qs ≡ drop 2 ps → Some m ≡ number_behind (codes "leaves") qs → rs ≡ drop 2 qs → r ≡ number_behind (codes "first") rs
    → r ≡ group_first l
first_there l ps qs rs n m r e h s k t f =
    f ∙ ap (number_behind (codes "first")) (t ∙ ap (λ ks. drop 2 ks) s ∙ drop_twice ps)
    ∙ ap (λ o. number_and o (number_behind (codes "first") (drop 4 ps))) (k ∙ ap (number_behind (codes "leaves")) s)
    ∙ by_end l ps (Some n) e h

pub ruleset grouping = (no_end, no_count, first_there)

-- ---- the label, and what is passed over

pub label_there : (l before behind : List ℕ) → cut_at 58 l ≡ Some (before, behind) → before ≡ before_cut (cut_at 58 l)
label_there l before behind e = sym (ap before_cut e)

nothing : (z : List ℕ) → length z ≡ 0 → z ≡ []
nothing [] e = refl
nothing (b ∷ z) e = absurd (omega (arith, e))

pub no_label : (l none : List ℕ) → cut_at 58 l ≡ None → length none ≡ 0 → none ≡ before_cut (cut_at 58 l)
no_label l none e h = nothing none h ∙ sym (ap before_cut e)

pub ruleset labelling = (label_there, no_label)

pub too_short : (l : List ℕ) → length l ≡ 0 → false ≡ is_indented l
too_short l e = sym (ap is_indented (nothing l e))

pub one_byte : (l behind : List ℕ) (b : ℕ) → l ≡ b ∷ behind → length behind ≡ 0 → false ≡ is_indented l
one_byte l behind b e h = sym (ap is_indented (e ∙ ap (λ z. b ∷ z) (nothing behind h)))

pub two_bytes : (l behind more : List ℕ) (b c : ℕ) → l ≡ b ∷ behind → behind ≡ c ∷ more → (b == 32 && c == 32) ≡ is_indented l
two_bytes l behind more b c e h = sym (ap is_indented (e ∙ ap (λ z. b ∷ z) h))

pub ruleset indenting = (too_short, one_byte, two_bytes)

pub is_of_witness : (l : List ℕ) (n : ℕ) → is_passed l ≡ false → leaf_of l ≡ None → numbered (codes "witness") (before_cut (cut_at 58 l)) ≡ Some n → OfWitness n ≡ kind_of l
is_of_witness l n p f w = sym (rw (p, f, w) refl)

pub is_of_leaf : (l : List ℕ) (n : ℕ) → is_passed l ≡ false → leaf_of l ≡ Some n → OfLeaf n ≡ kind_of l
is_of_leaf l n p f = sym (rw (p, f) refl)

pub is_wrong : (l : List ℕ) → is_passed l ≡ false → leaf_of l ≡ None → numbered (codes "witness") (before_cut (cut_at 58 l)) ≡ None → Wrong ≡ kind_of l
is_wrong l p f w = sym (rw (p, f, w) refl)

pub ruleset knowing = (is_of_witness, is_of_leaf, is_wrong)

-- ---- the first line that is wrong

on_line : (i : ℕ) (before : Option ℕ) (ls ms : List (List ℕ)) (l : List ℕ) (k : LineKind) (v : Bool) → ls ≡ l ∷ ms → k ≡ kind_of (line_of l) → may_follow before k ≡ v → wrong_line i before ls ≡ (if v then wrong_line (suc i) (leaf_number k) ms else Some i)
on_line i before ls ms l k v e h f =
    ap (wrong_line i before) e ∙ ap (λ (x : LineKind). if may_follow before x then wrong_line (suc i) (leaf_number x) ms else Some i) (sym h) ∙ ap (λ (b : Bool). if b then wrong_line (suc i) (leaf_number k) ms else Some i) f

pub goes_on : (all : Option ℕ) (i : ℕ) (before next : Option ℕ) (ls ms : List (List ℕ)) (l bytes : List ℕ) (k : LineKind) (v : Bool) → wrong_line i before ls ≡ all → ls ≡ l ∷ ms → bytes ≡ line_of l → k ≡ kind_of bytes → v ≡ may_follow before k → v ≡ true → next ≡ leaf_number k
    → wrong_line (i + 1) next ms ≡ all
goes_on all i before next ls ms l bytes k v h e b w f t n =
    ap (λ j. wrong_line j next ms) (let s : i + 1 ≡ suc i = omega arith in s) ∙ ap (λ o. wrong_line (suc i) o ms) n ∙ sym (on_line i before ls ms l k true e (w ∙ ap kind_of b) (sym f ∙ t)) ∙ h

pub is_wrong_here : (all : Option ℕ) (i : ℕ) (before : Option ℕ) (ls ms : List (List ℕ)) (l bytes : List ℕ) (k : LineKind) (v : Bool) → wrong_line i before ls ≡ all → ls ≡ l ∷ ms → bytes ≡ line_of l → k ≡ kind_of bytes → v ≡ may_follow before k → v ≡ false → Some i ≡ all
is_wrong_here all i before ls ms l bytes k v h e b w f t = sym (on_line i before ls ms l k false e (w ∙ ap kind_of b) (sym f ∙ t)) ∙ h

pub none_wrong : (all : Option ℕ) (i : ℕ) (before : Option ℕ) (ls : List (List ℕ)) → wrong_line i before ls ≡ all → ls ≡ [] → None ≡ all
none_wrong all i before ls h e = sym (ap (wrong_line i before) e) ∙ h

pub ruleset checking = (goes_on, is_wrong_here, none_wrong)

-- ---- a line that is looked for

on_witness : (i : ℕ) (ls ms : List (List ℕ)) (l : List ℕ) (v : Bool) → ls ≡ l ∷ ms → v ≡ is_witness (kind_of (line_of l)) → witness_from i ls ≡ (if v then Some (i, ms) else witness_from (suc i) ms)
on_witness i ls ms l v e h = ap (witness_from i) e ∙ ap (λ (b : Bool). let r : Option (ℕ × List (List ℕ)) = if b then Some (i, ms) else witness_from (suc i) ms in r) (sym h)

pub witness_more : (all : Option (ℕ × List (List ℕ))) (i : ℕ) (ls ms : List (List ℕ)) (l : List ℕ) (v : Bool) → witness_from i ls ≡ all → ls ≡ l ∷ ms → v ≡ is_witness (kind_of (line_of l)) → v ≡ false → witness_from (i + 1) ms ≡ all
witness_more all i ls ms l v h e w f = ap (λ j. witness_from j ms) (let s : i + 1 ≡ suc i = omega arith in s) ∙ sym (on_witness i ls ms l false e (sym f ∙ w)) ∙ h

pub witness_found : (all : Option (ℕ × List (List ℕ))) (i : ℕ) (ls ms : List (List ℕ)) (l : List ℕ) (v : Bool) → witness_from i ls ≡ all → ls ≡ l ∷ ms → v ≡ is_witness (kind_of (line_of l)) → v ≡ true → all ≡ Some (i, ms)
witness_found all i ls ms l v h e w f = sym h ∙ on_witness i ls ms l true e (sym f ∙ w)

pub witness_missed : (all : Option (ℕ × List (List ℕ))) (i : ℕ) (ls : List (List ℕ)) → witness_from i ls ≡ all → ls ≡ [] → all ≡ None
witness_missed all i ls h e = sym h ∙ ap (witness_from i) e

on_leaf : (n i : ℕ) (ls ms : List (List ℕ)) (l : List ℕ) (v : Bool) → ls ≡ l ∷ ms → v ≡ is_leaf n (kind_of (line_of l)) → leaf_from n i ls ≡ (if v then Some (i, l ∷ ms) else leaf_from n (suc i) ms)
on_leaf n i ls ms l v e h = ap (leaf_from n i) e ∙ ap (λ (b : Bool). let r : Option (ℕ × List (List ℕ)) = if b then Some (i, l ∷ ms) else leaf_from n (suc i) ms in r) (sym h)

pub leaf_more : (all : Option (ℕ × List (List ℕ))) (n i : ℕ) (ls ms : List (List ℕ)) (l : List ℕ) (v : Bool) → leaf_from n i ls ≡ all → ls ≡ l ∷ ms → v ≡ is_leaf n (kind_of (line_of l)) → v ≡ false → leaf_from n (i + 1) ms ≡ all
leaf_more all n i ls ms l v h e w f = ap (λ j. leaf_from n j ms) (let s : i + 1 ≡ suc i = omega arith in s) ∙ sym (on_leaf n i ls ms l false e (sym f ∙ w)) ∙ h

pub leaf_found : (all : Option (ℕ × List (List ℕ))) (n i : ℕ) (ls ms : List (List ℕ)) (l : List ℕ) (v : Bool) → leaf_from n i ls ≡ all → ls ≡ l ∷ ms → v ≡ is_leaf n (kind_of (line_of l)) → v ≡ true → all ≡ Some (i, l ∷ ms)
leaf_found all n i ls ms l v h e w f = sym h ∙ on_leaf n i ls ms l true e (sym f ∙ w)

pub leaf_missed : (all : Option (ℕ × List (List ℕ))) (n i : ℕ) (ls : List (List ℕ)) → leaf_from n i ls ≡ all → ls ≡ [] → all ≡ None
leaf_missed all n i ls h e = sym h ∙ ap (leaf_from n i) e

pub ruleset finding = (witness_more, witness_found, witness_missed, leaf_more, leaf_found, leaf_missed)

-- ---- how many lines are not empty

abbrev pub filled_in : List (List ℕ) → ℕ
filled_in ls = length (filter is_filled ls)

abbrev pub one_if : Bool → ℕ
one_if v = if v then 1 else 0

filled_by : (v : Bool) (l : List ℕ) (ms : List (List ℕ)) → length (if v then l ∷ filter is_filled ms else filter is_filled ms) ≡ one_if v + filled_in ms
filled_by true l ms = omega arith
filled_by false l ms = omega arith

pub filled_more : (all count new n : ℕ) (ls ms : List (List ℕ)) (l : List ℕ) → count + filled_in ls ≡ all → ls ≡ l ∷ ms → n ≡ one_if (is_filled l) → new ≡ count + n → new + filled_in ms ≡ all
filled_more all count new n ls ms l h e w s = omega (arith, h, s, w, ap filled_in e ∙ filled_by (is_filled l) l ms)

pub filled_all : (count : ℕ) (all ls : List (List ℕ)) → count + filled_in ls ≡ filled_in all → ls ≡ [] → nat_le count 2 ≡ are_two all
filled_all count all ls h e = ap (λ n. nat_le n 2) (let s : count ≡ filled_in all = omega (arith, h, ap filled_in e) in s)

pub ruleset counting = (filled_more, filled_all)

-- ---- the leaf that is wanted

pub none_there : (ls : List (List ℕ)) (all : List (List ℕ)) → ls ≡ all → witness_from 0 ls ≡ None → Err NoWitness ≡ sole_leaf all
none_there ls all e h = sym (ap sole_from h) ∙ ap sole_leaf e

pub several_there : (ls ms ks all : List (List ℕ)) (i : ℕ) (q : ℕ) → ls ≡ all → witness_from 0 ls ≡ Some (i, ms) → witness_from (i + 1) ms ≡ Some (q, ks) → Err SeveralWitnesses ≡ sole_leaf all
several_there ls ms ks all i q e h k = sym (ap sole_from h ∙ ap (λ j. unless_other i (witness_from j ms)) (let s : suc i ≡ i + 1 = omega arith in s) ∙ ap (unless_other i) k) ∙ ap sole_leaf e

pub one_there : (ls ms all : List (List ℕ)) (i p : ℕ) → ls ≡ all → witness_from 0 ls ≡ Some (i, ms) → witness_from (i + 1) ms ≡ None → p ≡ i - 1 → Ok p ≡ sole_leaf all
one_there ls ms all i p e h k s =
    ap (λ (j : ℕ). let r : Result ℕ ReportFault = Ok j in r) s ∙ sym (ap sole_from h ∙ ap (λ j. unless_other i (witness_from j ms)) (let s : suc i ≡ i + 1 = omega arith in s) ∙ ap (unless_other i) k) ∙ ap sole_leaf e

pub no_leaf : (ls all : List (List ℕ)) (n : ℕ) → ls ≡ all → leaf_from n 0 ls ≡ None → Err NoSuchLeaf ≡ named_leaf n all
no_leaf ls all n e h = sym (ap named_from h) ∙ ap (named_leaf n) e

pub last_leaf : (ls ms all : List (List ℕ)) (n i : ℕ) (l : List ℕ) (f : ReportFault) → ls ≡ all → leaf_from n 0 ls ≡ Some (i, l ∷ ms) → ms ≡ [] → f ≡ unwitnessed (line_of l) → Err f ≡ named_leaf n all
last_leaf ls ms all n i l f e h o u =
    ap (λ (g : ReportFault). let r : Result ℕ ReportFault = Err g in r) u ∙ sym (ap named_from h ∙ ap (λ (ks : List (List ℕ)). witnessed i (l ∷ ks)) o) ∙ ap (named_leaf n) e

with_next : (ls ms ks all : List (List ℕ)) (n i : ℕ) (l m : List ℕ) (v : Bool) → ls ≡ all → leaf_from n 0 ls ≡ Some (i, l ∷ ms) → ms ≡ m ∷ ks → v ≡ is_witness (kind_of (line_of m)) → named_leaf n all ≡ (if v then Ok i else Err (unwitnessed (line_of l)))
with_next ls ms ks all n i l m v e h o w =
    ap (named_leaf n) (sym e) ∙ ap named_from h ∙ ap (λ (js : List (List ℕ)). witnessed i (l ∷ js)) o ∙ ap (λ (b : Bool). let r : Result ℕ ReportFault = if b then Ok i else Err (unwitnessed (line_of l)) in r) (sym w)

pub leaf_there : (ls ms ks all : List (List ℕ)) (n i : ℕ) (l m : List ℕ) (v : Bool) → ls ≡ all → leaf_from n 0 ls ≡ Some (i, l ∷ ms) → ms ≡ m ∷ ks → v ≡ is_witness (kind_of (line_of m)) → v ≡ true → Ok i ≡ named_leaf n all
leaf_there ls ms ks all n i l m v e h o w t = sym (with_next ls ms ks all n i l m true e h o (sym t ∙ w))

pub leaf_unwitnessed : (ls ms ks all : List (List ℕ)) (n i : ℕ) (l m : List ℕ) (v : Bool) (f : ReportFault) → ls ≡ all → leaf_from n 0 ls ≡ Some (i, l ∷ ms) → ms ≡ m ∷ ks → v ≡ is_witness (kind_of (line_of m)) → v ≡ false → f ≡ unwitnessed (line_of l) → Err f ≡ named_leaf n all
leaf_unwitnessed ls ms ks all n i l m v f e h o w t u =
    ap (λ (g : ReportFault). let r : Result ℕ ReportFault = Err g in r) u ∙ sym (with_next ls ms ks all n i l m false e h o (sym t ∙ w))

pub ruleset choosing = (none_there, several_there, one_there, no_leaf, last_leaf, leaf_there, leaf_unwitnessed)

-- ---- the witness of a leaf

pub leaf_refused : (i k : ℕ) (read : Option WitnessEnd) (steps : Option (List Step)) (n : ℕ) → (read ≡ None) × (k ≡ 1) → n ≡ i + 1 → with_both i read steps ≡ Err (BadLine n)
leaf_refused i k read steps n h e = ap (λ o. with_both i o steps) h.0 ∙ ap (λ (j : ℕ). let r : Result EndWitness ReportFault = Err (BadLine j) in r) (let s : suc i ≡ n = omega (arith, e) in s)

pub steps_refused : (i : ℕ) (end : WitnessEnd) (read : Option WitnessEnd) (steps : Option (List Step)) (n : ℕ) → read ≡ Some end → steps ≡ None → n ≡ i + 2 → with_both i read steps ≡ Err (BadLine n)
steps_refused i end read steps n h k e =
    ap (λ o. with_both i o steps) h ∙ ap (λ (o : Option (List Step)). with_both i (Some end) o) k ∙ ap (λ (j : ℕ). let r : Result EndWitness ReportFault = Err (BadLine j) in r) (let s : suc (suc i) ≡ n = omega (arith, e) in s)

pub both_there : (i : ℕ) (end : WitnessEnd) (xs : List Step) (read : Option WitnessEnd) (steps : Option (List Step)) → read ≡ Some end → steps ≡ Some xs → with_both i read steps ≡ Ok (record { steps = xs; end = end })
both_there i end xs read steps h k = ap (λ o. with_both i o steps) h ∙ ap (λ (o : Option (List Step)). with_both i (Some end) o) k

pub past_none : (n : ℕ) (ls all : List (List ℕ)) → n ≡ 0 → ls ≡ all → ls ≡ drop n all
past_none n ls all e h = h ∙ ap (λ k. drop k all) (sym e)

drop_more : (n : ℕ) (all : List (List ℕ)) (l : List ℕ) (ms : List (List ℕ)) → drop n all ≡ l ∷ ms → drop (suc n) all ≡ ms
drop_more zero [] l ms h = absurd (let x : ⊥ = cc in x)
drop_more (suc n) [] l ms h = absurd (let x : ⊥ = cc in x)
drop_more zero (m ∷ all) l ms h = let same : all ≡ ms = cc in same
drop_more (suc n) (m ∷ all) l ms h = drop_more n all l ms h

drop_some : (n : ℕ) (all : List (List ℕ)) → n < length all → drop n all ≡ [] → ⊥
drop_some n [] h e = omega (arith, h)
drop_some zero (m ∷ all) h e = let x : ⊥ = cc in x
drop_some (suc n) (m ∷ all) h e = drop_some n all (omega (arith, h)) e

-- one line is passed over, where there is one
pub past_one : (n k : ℕ) (ls ms all : List (List ℕ)) (l : List ℕ) → ls ≡ drop n all → ls ≡ l ∷ ms → k ≡ n + 1 → ms ≡ drop k all
past_one n k ls ms all l e h s = sym (drop_more n all l ms (sym e ∙ h)) ∙ ap (λ j. drop j all) (let t : suc n ≡ k = omega (arith, s) in t)

pub past_none_left : (n k : ℕ) (ls all : List (List ℕ)) → ls ≡ drop n all → ls ≡ [] → n < k → k ≤ length all → ⊥
past_none_left n k ls all e h less most = drop_some n all (omega (arith, less, most)) (sym e ∙ h)

pub ruleset skipping = (past_none, past_one, past_none_left)

pub no_line : (i : ℕ) (ls ms all : List (List ℕ)) → ls ≡ all → ms ≡ drop i ls → ms ≡ [] → witness_at i (drop i all) ≡ Err NoSuchLeaf
no_line i ls ms all e d n = ap (λ (x : List (List ℕ)). witness_at i x) (ap (drop i) (sym e) ∙ sym d ∙ n)

pub no_second : (i : ℕ) (ls ms ks all : List (List ℕ)) (l : List ℕ) → ls ≡ all → ms ≡ drop i ls → ms ≡ l ∷ ks → ks ≡ [] → witness_at i (drop i all) ≡ Err NoWitness
no_second i ls ms ks all l e d n o = ap (λ (x : List (List ℕ)). witness_at i x) (ap (drop i) (sym e) ∙ sym d ∙ n) ∙ ap (λ (x : List (List ℕ)). witness_at i (l ∷ x)) o

pub both_lines : (i : ℕ) (ls ms ks js all : List (List ℕ)) (l m : List ℕ) (r : Result EndWitness ReportFault) → ls ≡ all → ms ≡ drop i ls → ms ≡ l ∷ ks → ks ≡ m ∷ js → ReadsReport (with_both i (end_read (line_of l)) (steps_of (line_of m))) r
    → ReadsReport (witness_at i (drop i all)) r
both_lines i ls ms ks js all l m r e d n o h =
    let same : witness_at i (drop i all) ≡ with_both i (end_read (line_of l)) (steps_of (line_of m)) = ap (λ (x : List (List ℕ)). witness_at i x) (ap (drop i) (sym e) ∙ sym d ∙ n) ∙ ap (λ (x : List (List ℕ)). witness_at i (l ∷ x)) o in
    rw same h

pub ruleset joining = (leaf_refused, steps_refused, both_there, no_line, no_second, both_lines)

-- ---- the whole text

pub two_there : (x : EndWitness) (w : Result EndWitness ℕ) → w ≡ Ok x → as_two w ≡ Ok x
two_there x w e = ap as_two e

pub two_wrong : (n : ℕ) (w : Result EndWitness ℕ) → w ≡ Err n → as_two w ≡ Err (BadLine n)
two_wrong n w e = ap as_two e

reads_of : (a b r : Result EndWitness ReportFault) → a ≡ b → ReadsReport b r → ReadsReport a r
reads_of a b r e h = rw e h

by_alone : (leaf : Option ℕ) (z : List ℕ) (v : Bool) → v ≡ are_alone leaf (parts_at 10 z) → witness_of_report leaf z ≡ (if v then as_two (witness_of z) else unless_wrong (wrong_line 1 None (parts_at 10 z)) leaf (parts_at 10 z))
by_alone leaf z v e = ap (λ (b : Bool). if b then as_two (witness_of z) else unless_wrong (wrong_line 1 None (parts_at 10 z)) leaf (parts_at 10 z)) (sym e)

pub alone_read : (leaf : Option ℕ) (z : List ℕ) (v : Bool) (r : Result EndWitness ReportFault) → v ≡ are_alone leaf (parts_at 10 z) → v ≡ true → ReadsReport (as_two (witness_of z)) r → ReadsReport (witness_of_report leaf z) r
alone_read leaf z v r e t h = reads_of (witness_of_report leaf z) (as_two (witness_of z)) r (by_alone leaf z true (sym t ∙ e)) h

whole_is : (leaf : Option ℕ) (z : List ℕ) (v : Bool) (o : Option ℕ) → v ≡ are_alone leaf (parts_at 10 z) → v ≡ false → o ≡ wrong_line 1 None (parts_at 10 z) → witness_of_report leaf z ≡ unless_wrong o leaf (parts_at 10 z)
whole_is leaf z v o e f h = by_alone leaf z false (sym f ∙ e) ∙ ap (λ (q : Option ℕ). unless_wrong q leaf (parts_at 10 z)) (sym h)

pub wrong_read : (leaf : Option ℕ) (z : List ℕ) (v : Bool) (o : Option ℕ) (n : ℕ) → v ≡ are_alone leaf (parts_at 10 z) → v ≡ false → o ≡ wrong_line 1 None (parts_at 10 z) → o ≡ Some n → witness_of_report leaf z ≡ Err (BadLine n)
wrong_read leaf z v o n e f h w = whole_is leaf z v o e f h ∙ ap (λ (q : Option ℕ). unless_wrong q leaf (parts_at 10 z)) w

right_is : (leaf : Option ℕ) (z : List ℕ) (v : Bool) (o : Option ℕ) (q : Result ℕ ReportFault) → v ≡ are_alone leaf (parts_at 10 z) → v ≡ false → o ≡ wrong_line 1 None (parts_at 10 z) → o ≡ None → q ≡ leaf_wanted leaf (parts_at 10 z)
    → witness_of_report leaf z ≡ witness_of_leaf q (parts_at 10 z)
right_is leaf z v o q e f h w k =
    whole_is leaf z v o e f h ∙ ap (λ (x : Option ℕ). unless_wrong x leaf (parts_at 10 z)) w ∙ ap (λ (x : Result ℕ ReportFault). witness_of_leaf x (parts_at 10 z)) (sym k)

pub place_read : (leaf : Option ℕ) (z : List ℕ) (v : Bool) (o : Option ℕ) (q : Result ℕ ReportFault) (p : ℕ) (r : Result EndWitness ReportFault) → v ≡ are_alone leaf (parts_at 10 z) → v ≡ false → o ≡ wrong_line 1 None (parts_at 10 z) → o ≡ None → q ≡ leaf_wanted leaf (parts_at 10 z)
    → q ≡ Ok p → ReadsReport (witness_at p (drop p (parts_at 10 z))) r → ReadsReport (witness_of_report leaf z) r
place_read leaf z v o q p r e f h w k s x =
    reads_of (witness_of_report leaf z) (witness_at p (drop p (parts_at 10 z))) r (right_is leaf z v o q e f h w k ∙ ap (λ (y : Result ℕ ReportFault). witness_of_leaf y (parts_at 10 z)) s) x

-- no leaf is refused for want of anything
abbrev IsOwn : Result ℕ ReportFault → Type 0
IsOwn (Ok p) = Unit {0}
IsOwn (Err (BadLine n)) = Unit {0}
IsOwn (Err NoWitness) = Unit {0}
IsOwn (Err SeveralWitnesses) = Unit {0}
IsOwn (Err NoSuchLeaf) = Unit {0}
IsOwn (Err NoDeadlock) = Unit {0}
IsOwn (Err (Engine e)) = ⊥

other_own : (i : ℕ) (o : Option (ℕ × List (List ℕ))) → IsOwn (unless_other i o)
other_own i None = tt
other_own i (Some q) = tt

sole_own : (o : Option (ℕ × List (List ℕ))) → IsOwn (sole_from o)
sole_own None = tt
sole_own (Some q) = other_own q.0 (witness_from (suc q.0) q.1)

fault_own : (v : Bool) → IsOwn (Err (if v then NoWitness else NoDeadlock))
fault_own true = tt
fault_own false = tt

either_own : (v : Bool) (i : ℕ) (f : ReportFault) → IsOwn (Err f) → IsOwn (if v then Ok i else Err f)
either_own true i f h = tt
either_own false i f h = h

witnessed_own : (i : ℕ) (ls : List (List ℕ)) → IsOwn (witnessed i ls)
witnessed_own i [] = tt
witnessed_own i (l ∷ []) = fault_own _
witnessed_own i (l ∷ m ∷ ls) = either_own (is_witness (kind_of (line_of m))) i (unwitnessed (line_of l)) (fault_own _)

named_own : (o : Option (ℕ × List (List ℕ))) → IsOwn (named_from o)
named_own None = tt
named_own (Some q) = witnessed_own q.0 q.1

wanted_own : (leaf : Option ℕ) (ls : List (List ℕ)) → IsOwn (leaf_wanted leaf ls)
wanted_own None ls = sole_own (witness_from 0 ls)
wanted_own (Some n) ls = named_own (leaf_from n 0 ls)

refused_as : (f : ReportFault) (w : Result EndWitness ReportFault) → w ≡ Err f → IsOwn (Err f) → ReadsReport w (Err f)
refused_as (BadLine n) w e h = e
refused_as NoWitness w e h = e
refused_as SeveralWitnesses w e h = e
refused_as NoSuchLeaf w e h = e
refused_as NoDeadlock w e h = e
refused_as (Engine e) w h own = absurd own

own_by : (a b : Result ℕ ReportFault) → a ≡ b → IsOwn a → IsOwn b
own_by a b e h = rw e at h

pub refused_read : (leaf : Option ℕ) (z : List ℕ) (v : Bool) (o : Option ℕ) (q : Result ℕ ReportFault) (f : ReportFault) → v ≡ are_alone leaf (parts_at 10 z) → v ≡ false → o ≡ wrong_line 1 None (parts_at 10 z) → o ≡ None → q ≡ leaf_wanted leaf (parts_at 10 z) → q ≡ Err f
    → ReadsReport (witness_of_report leaf z) (Err f)
refused_read leaf z v o q f e g h w k s =
    refused_as f (witness_of_report leaf z) (right_is leaf z v o q e g h w k ∙ ap (λ (y : Result ℕ ReportFault). witness_of_leaf y (parts_at 10 z)) s) (own_by (leaf_wanted leaf (parts_at 10 z)) (Err f) (sym k ∙ s) (wanted_own leaf (parts_at 10 z)))

pub ruleset reporting = (two_there, two_wrong, alone_read, wrong_read, place_read, refused_read)
