-- Words that are added one part after another.
use Rattle.std.proofs.Common.{◌≡◌, ℕ, suc, ◌+◌, ◌-◌, ◌<◌, List, ◌∷◌, ◌++◌, sym, ap, ◌∙◌, arith, append_assoc, Some}
use Rattle.std.specs.Prelude.{ℤ, slice_get}
use Rattle.std.specs.List.{flat_map, range_with_len}
use Rattle.mpd_model.specs.steps.World.{World, Board}
use Rattle.mpd_model.specs.script.Program.{Program}
use Rattle.mpd_rank.specs.Views.{RankView, rank_of}
use Rattle.mpd_outcomes.specs.Keys.{rank_words, part_of, part_at}

-- what one element more of a list gives
pub joined_more : {A B : Type 0} (f : A → List B) (xs rest : List A) (x : A) (so_far now total : List B) → xs ≡ x ∷ rest → so_far ++ flat_map f xs ≡ total → now ≡ so_far ++ f x → now ++ flat_map f rest ≡ total
joined_more f xs rest x so_far now total is e more = ap (λ ys. ys ++ flat_map f rest) more ∙ append_assoc so_far (f x) (flat_map f rest) ∙ ap (λ ys. so_far ++ flat_map f ys) (sym is) ∙ e

-- what one number more of a range gives
pub given_more : {A : Type 0} (f : ℕ → List A) (i n : ℕ) (so_far now total : List A) → i < n → so_far ++ flat_map f (range_with_len i (n - i)) ≡ total → now ≡ so_far ++ f i
    → now ++ flat_map f (range_with_len (i + 1) (n - (i + 1))) ≡ total
given_more f i n so_far now total h e more =
    let k : n - i ≡ suc (n - (i + 1)) = omega arith in
    let is : range_with_len i (n - i) ≡ i ∷ range_with_len (i + 1) (n - (i + 1)) = rw k in
    joined_more f (range_with_len i (n - i)) (range_with_len (i + 1) (n - (i + 1))) i so_far now total is e more

-- what is a rank's part, of the board, the code and the rank that are looked at
pub part_is : (w : World) (s t : Program) (b : Board) (p n : ℕ) (v : RankView) (part : List ℤ) → b ≡ w.board → n ≡ p → t ≡ s → slice_get w.ranks p ≡ Some (rank_of s v)
    → part ≡ rank_words b n (rank_of t v) → part ≡ part_at w p
part_is w s t b p n v part board number program here is =
    is ∙ (λ i. rank_words (board i) (number i) (rank_of (program i) v)) ∙ ap (part_of w.board p) (sym here)
