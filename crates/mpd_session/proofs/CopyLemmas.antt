-- A list that is copied, element by element.
use Rattle.std.proofs.Common.{◌≡◌, ◌<◌, ◌+◌, ℕ, List, [], ◌∷◌, ◌++◌, length, map, take, get_or, ap, sym, ◌∙◌}
use Rattle.std.proofs.lemmas.List.{map_more}

-- what is told of the elements so far, and of one more
pub told_more : {X D : Type 0} (f : X → D) (xs : List X) (old new : List D) (i : ℕ) (d : X) (t : D) → i < length xs → old ≡ map f (take i xs) → t ≡ f (get_or xs i d) → new ≡ old ++ t ∷ [] → new ≡ map f (take (i + 1) xs)
told_more f xs old new i d t within so_far is added = added ∙ ap (λ l. l ++ t ∷ []) so_far ∙ ap (λ z. map f (take i xs) ++ z ∷ []) is ∙ sym (map_more f xs i d within)
