-- A report whose tally is whole has no others, and none of its leaves is cut.
use Rattle.std.proofs.Common.{◌≡◌, ◌+◌, ◌==◌, ℕ, Bool, true, false, not, cond, List, [], ◌∷◌, refl, sym, ◌∙◌, arith}
use Rattle.std.specs.List.{count_by, AllByRecursion}
use Rattle.std.proofs.lemmas.Bool.{eqb-true}
use Rattle.std.proofs.lemmas.List.Sums.{sum_by-cons}
use Rattle.mpd_policy.specs.declared.ending.Ending.{Ending}
use Rattle.mpd_policy.specs.declared.ending.Ending.TheVariants as ending
use Rattle.mpd_explore.specs.declared.report.SearchLeaf.{SearchLeaf}
use Rattle.mpd_explore.proofs.ListedLemmas.{both_true}
use Rattle.mpd_check.specs.declared.counts.Kind.TheVariants.{Cut}
use Rattle.mpd_check.specs.Tally.{is_of, ends_so, is_whole, tally_of}

-- a leaf that isn't cut
abbrev pub IsEnd : SearchLeaf → Type 0
IsEnd l = l.ending ≡ ending.Cut → ⊥

count_more : (l : SearchLeaf) (leaves : List SearchLeaf) → count_by (is_of Cut) (l ∷ leaves) ≡ cond (ends_so Cut l.ending) 1 0 + count_by (is_of Cut) leaves
count_more l leaves = sum_by-cons (λ x. cond (is_of Cut x) 1 0) l leaves

first_ends : (e : Ending) (n : ℕ) → cond (ends_so Cut e) 1 0 + n ≡ 0 → (e ≡ ending.Cut → ⊥) × (n ≡ 0)
first_ends ending.Cut n none = absurd (omega (arith, none))
first_ends (ending.Ended o) n none = (λ h. cc, omega (arith, none))

none_cut : (leaves : List SearchLeaf) → count_by (is_of Cut) leaves ≡ 0 → AllByRecursion IsEnd leaves
none_cut [] none = tt
none_cut (l ∷ leaves) none =
    let both = first_ends l.ending (count_by (is_of Cut) leaves) (sym (count_more l leaves) ∙ none) in
    (both.0, none_cut leaves both.1)

is_no : (b : Bool) → not b ≡ true → b ≡ false
is_no true e = cc
is_no false e = refl

pub whole_tells : (leaves : List SearchLeaf) (more : Bool) → is_whole (tally_of leaves more) ≡ true → (more ≡ false) × AllByRecursion IsEnd leaves
whole_tells leaves more whole =
    let both = both_true (not more) (count_by (is_of Cut) leaves == 0) whole in
    (is_no more both.0, none_cut leaves (eqb-true (count_by (is_of Cut) leaves) 0 both.1))
