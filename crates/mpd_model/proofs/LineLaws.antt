-- What cutting into lines keeps.
use Rattle.std.proofs.Common.{◌≡◌, ℕ, Bool, true, false, ◌==◌, if◌then◌else◌, List, [], ◌∷◌, ap, ◌∙◌, refl}
use Rattle.mpd_model.specs.texts.Lines.{raw_lines, joined, grow}

joined_grow : (b : ℕ) (ls : List (List ℕ)) → joined (grow b ls) ≡ b ∷ joined ls
joined_grow b [] = refl
joined_grow b (l ∷ ls) = refl

joined_step : (b : ℕ) (c : Bool) (ls : List (List ℕ)) → joined (if c then (b ∷ []) ∷ ls else grow b ls) ≡ b ∷ joined ls
joined_step b true ls = refl
joined_step b false ls = joined_grow b ls

pub joined_raw_lines : (z : List ℕ) → joined (raw_lines z) ≡ z
joined_raw_lines [] = refl
joined_raw_lines (b ∷ z) = joined_step b (b == 10) (raw_lines z) ∙ ap (λ y. b ∷ y) (joined_raw_lines z)
