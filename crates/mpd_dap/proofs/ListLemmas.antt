-- A list that is made of another, element by element.
use Rattle.std.proofs.Common.{◌≡◌, ◌<◌, ◌≤◌, ℕ, Vec, Global, ◌+◌, List, [], ◌∷◌, ◌++◌, length, map, take, get_or, ap, sym, ◌∙◌}
use Rattle.std.proofs.lemmas.List.{map_more, map-append, take_all}
use Rattle.serde_json.specs.Data.{Data, array}
use Rattle.serde_json.specs.View.{view, items_of}
use Rattle.serde_json.specs.declared.value.Value.{Value, Array}
use Rattle.serde_json.proofs.Views.{view-Array}
use Rattle.mpd_dap.specs.Bodies.{listed}

-- what is made of the elements so far, and of one more, each shown as something else
pub made_more : {X Y D : Type 0} (f : X → D) (seen : Y → D) (xs : List X) (old new : List Y) (i : ℕ) (d : X) (y : Y) → i < length xs → map seen old ≡ map f (take i xs) → seen y ≡ f (get_or xs i d) → new ≡ old ++ y ∷ [] → map seen new ≡ map f (take (i + 1) xs)
made_more f seen xs old new i d y within so_far is added =
    ap (map seen) added ∙ map-append seen old (y ∷ []) ∙ ap (λ l. l ++ seen y ∷ []) so_far ∙ ap (λ z. map f (take i xs) ++ z ∷ []) is ∙ sym (map_more f xs i d within)

-- the array of all that was made
pub made_all : {X : Type 0} (f : X → Data) (values : Vec Value Global) (xs : List X) (i : ℕ) → length xs ≤ i → map view values.items ≡ map f (take i xs) → view (Array values) ≡ listed f xs
made_all f values xs i all made = view-Array values ∙ ap (λ l. array (items_of l)) (made ∙ ap (map f) (take_all i xs all))
