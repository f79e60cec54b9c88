-- Bytes compared one by one.
use Rattle.std.proofs.Common.{◌≡◌, ℕ, ◌&&◌, nat_eq, List, [], ◌∷◌, take, length, refl, ap}
use lib.Pointwise.{pointwise}
use Rattle.mpd_model.specs.texts.Lines.{same_bytes}
use Rattle.mpd_trace.specs.Divided.{is_prefix}

pub same_pointwise : (xs ys : List ℕ) → pointwise nat_eq xs ys ≡ same_bytes xs ys
same_pointwise [] [] = refl
same_pointwise [] (y ∷ ys) = refl
same_pointwise (x ∷ xs) [] = refl
same_pointwise (x ∷ xs) (y ∷ ys) = ap (λ b. nat_eq x y && b) (same_pointwise xs ys)

pub prefix_pointwise : (xs ys : List ℕ) → pointwise nat_eq xs (take (length xs) ys) ≡ is_prefix xs ys
prefix_pointwise [] ys = refl
prefix_pointwise (x ∷ xs) [] = refl
prefix_pointwise (x ∷ xs) (y ∷ ys) = ap (λ b. nat_eq x y && b) (prefix_pointwise xs ys)
