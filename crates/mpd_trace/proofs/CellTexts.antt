-- The lines of what a rank holds, one by one.
use Rattle.std.proofs.Common.{◌≡◌, ℕ, List, ◌++◌, Option, Some, ℤ, ap, ◌∙◌, sym, append_assoc, codes}
use Rattle.mpd_model.specs.steps.World.{RankWorld}
use Rattle.mpd_model.specs.texts.Texts.{values_line, handles_line, cell_lines}

cells_at : (r : RankWorld) (vars : List ℤ) (handles : List (Option ℕ)) (out : List ℤ) → vars ≡ r.vars → handles ≡ r.handles → out ≡ r.out
    → values_line (codes "vars") vars ++ handles_line handles ++ values_line (codes "out") out ≡ cell_lines (Some r)
cells_at r vars handles out v h o = ap (λ xs. values_line (codes "vars") xs ++ handles_line handles ++ values_line (codes "out") out) v
    ∙ ap (λ xs. values_line (codes "vars") r.vars ++ handles_line xs ++ values_line (codes "out") out) h
    ∙ ap (λ xs. values_line (codes "vars") r.vars ++ handles_line r.handles ++ values_line (codes "out") xs) o

-- three texts, one behind another
pub three_texts : (before a b c one two after : List ℕ) → one ≡ before ++ a → two ≡ one ++ b → after ≡ two ++ c → after ≡ before ++ (a ++ b ++ c)
three_texts before a b c one two after e f g =
    g ∙ ap (λ t. t ++ c) (f ∙ ap (λ t. t ++ b) e ∙ append_assoc before a b) ∙ append_assoc before (a ++ b) c

pub cells_printed : (rank : Option RankWorld) (r : RankWorld) (vars : List ℤ) (handles : List (Option ℕ)) (out : List ℤ) (before one two after : List ℕ) → rank ≡ Some r
    → vars ≡ r.vars → handles ≡ r.handles → out ≡ r.out
    → one ≡ before ++ values_line (codes "vars") vars → two ≡ one ++ handles_line handles → after ≡ two ++ values_line (codes "out") out
    → after ≡ before ++ cell_lines rank
cells_printed rank r vars handles out before one two after there v h o e f g =
    three_texts before _ _ _ one two after e f g ∙ ap (λ t. before ++ t) (cells_at r vars handles out v h o ∙ ap cell_lines (sym there))
