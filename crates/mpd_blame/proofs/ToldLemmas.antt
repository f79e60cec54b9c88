-- What is known of leaves, one after another.
use Rattle.std.proofs.Common.{◌≡◌, ℕ, zero, suc, ◌+◌, ◌<◌, List, [], ◌∷◌, ◌++◌, length, take, get_or, refl, subst, arith}
use Rattle.std.specs.List.{AllZip}
use Rattle.mpd_trail.specs.DebuggerViews.{DebuggerView, standing_of}

-- the next of each list
zipped_next : {A B : Type 0} (R : A → B → Type 0) (xs : List A) (ys : List B) (i : ℕ) (x : A) (y : B) → i < length xs → x ≡ get_or xs i x → R x y → AllZip R (take i xs) ys → AllZip R (take (suc i) xs) (ys ++ y ∷ [])
zipped_next R [] ys i x y within at here h = absurd (omega (arith, within))
zipped_next R (z ∷ xs) [] zero x y within at here h = (subst (λ q. R q y) at here, tt)
zipped_next R (z ∷ xs) (v ∷ ys) zero x y within at here h = absurd h
zipped_next R (z ∷ xs) [] (suc i) x y within at here h = absurd h
zipped_next R (z ∷ xs) (v ∷ ys) (suc i) x y within at here h = (h.0, zipped_next R xs ys i x y (omega (arith, within)) at here h.1)

pub zipped_more : {A B : Type 0} (R : A → B → Type 0) (xs : List A) (ys : List B) (i : ℕ) (x : A) (y : B) → i < length xs → x ≡ get_or xs i x → R x y → AllZip R (take i xs) ys → AllZip R (take (i + 1) xs) (ys ++ y ∷ [])
zipped_more R xs ys i x y within at here h = let next : suc i ≡ i + 1 = omega arith in subst (λ n. AllZip R (take n xs) (ys ++ y ∷ [])) next (zipped_next R xs ys i x y within at here h)

pub standing_same : (d e : DebuggerView) → e.trail ≡ d.trail → e.world ≡ d.world → standing_of e ≡ standing_of d
standing_same d e trail world = λ i. record { trail = trail i; world = world i }
