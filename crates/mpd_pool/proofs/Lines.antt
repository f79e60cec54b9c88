-- The lines of two lists of leaves, one after the other.
use Rattle.std.proofs.Common.{◌≡◌, ℕ, suc, ◌+◌, List, [], ◌∷◌, ◌++◌, length, slice_get, Result, Ok, Err, IfOk, sym, ap, ◌∙◌, arith, append_assoc}
use Rattle.mpd_explore.specs.declared.report.SearchLeaf.{SearchLeaf}
use Rattle.mpd_explore.specs.ReportText.{leaf_line}
use Rattle.mpd_explore.specs.Printed.{numbered_at, lines_told}

behind : (texts : List (List ℕ)) (n : ℕ) (front back : List SearchLeaf) → lines_told texts n (front ++ back) ≡ lines_told texts n front ++ lines_told texts (n + length front) back
behind texts n [] back = ap (λ m. lines_told texts m back) (omega (arith))
behind texts n (l ∷ front) back =
    let own : List ℕ = leaf_line n l ++ numbered_at n (slice_get texts n) in
    let number : suc n + length front ≡ n + suc (length front) = omega (arith) in
    ap (λ ls. own ++ ls) (behind texts (suc n) front back ∙ ap (λ m. lines_told texts (suc n) front ++ lines_told texts m back) number)
    ∙ sym (append_assoc own (lines_told texts (suc n) front) (lines_told texts (n + suc (length front)) back))

both : (texts : List (List ℕ)) (n m : ℕ) (all front back : List SearchLeaf) (one other text : List ℕ) → front ++ back ≡ all → m ≡ n + length front → one ≡ lines_told texts n front → other ≡ lines_told texts m back → text ≡ one ++ other
    → text ≡ lines_told texts n all
both texts n m all front back one other text split from a b e =
    e ∙ ap (λ xs. xs ++ other) a ∙ ap (λ ys. lines_told texts n front ++ ys) (b ∙ ap (λ k. lines_told texts k back) from) ∙ sym (behind texts n front back) ∙ ap (lines_told texts n) split

pub lines_joined : {A E : Type 0} (r : Result A E) (text_of : A → List ℕ) (texts : List (List ℕ)) (n m : ℕ) (all front back : List SearchLeaf) (one other : List ℕ) → front ++ back ≡ all → m ≡ n + length front → one ≡ lines_told texts n front → other ≡ lines_told texts m back → IfOk r (λ t. text_of t ≡ one ++ other)
    → IfOk r (λ t. text_of t ≡ lines_told texts n all)
lines_joined (Ok t) text_of texts n m all front back one other split from a b e = both texts n m all front back one other (text_of t) split from a b e
lines_joined (Err f) text_of texts n m all front back one other split from a b e = tt
