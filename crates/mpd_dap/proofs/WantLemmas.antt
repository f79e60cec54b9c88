-- Breakpoints that are wanted, gathered one by one.
use Rattle.std.proofs.Common.{◌≡◌, ◌<◌, ◌≤◌, ℕ, suc, ◌+◌, List, [], ◌∷◌, ◌++◌, length, get_or, drop, Option, Some, None, refl, ap, sym, ◌∙◌, append_assoc, add-one}
use Rattle.std.proofs.Math.Seq.{drop-cons}
use Rattle.std.proofs.lemmas.List.{drop_all, append-nil}
use Rattle.serde_json.specs.View.{view, items_view}
use Rattle.serde_json.specs.declared.value.Value.{Value}
use Rattle.mpd_dap.specs.declared.ask.Wanted.{Wanted}
use Rattle.mpd_dap.specs.Asks.{wanted_of, before, all_wanted}

-- those that were found, and those of the rest, if all of these are breakpoints
abbrev pub and_rest : List Wanted → Option (List Wanted) → Option (List Wanted)
and_rest ws None = None
and_rest ws (Some vs) = Some (ws ++ vs)

one_before : (ws : List Wanted) (w : Wanted) (o : Option (List Wanted)) → and_rest ws (before (Some w) o) ≡ and_rest (ws ++ w ∷ []) o
one_before ws w None = refl
one_before ws w (Some vs) = ap Some (sym (append_assoc ws (w ∷ []) vs))

-- the next of the list
one_of : (values : List Value) (i : ℕ) (d : Value) (o : Option Wanted) → i < length values → o ≡ wanted_of (view (get_or values i d)) → all_wanted (items_view (drop i values)) ≡ before o (all_wanted (items_view (drop (suc i) values)))
one_of values i d o within is = ap (λ l. all_wanted (items_view l)) (drop-cons values i d within) ∙ ap (λ p. before p (all_wanted (items_view (drop (suc i) values)))) (sym is)

-- one more is a breakpoint
pub found_more : (ws new : List Wanted) (w : Wanted) (values : List Value) (i : ℕ) (d : Value) (all : Option (List Wanted)) → i < length values → and_rest ws (all_wanted (items_view (drop i values))) ≡ all → Some w ≡ wanted_of (view (get_or values i d))
    → new ≡ ws ++ w ∷ [] → and_rest new (all_wanted (items_view (drop (i + 1) values))) ≡ all
found_more ws new w values i d all within so_far is added =
    let here : all_wanted (items_view (drop i values)) ≡ before (Some w) (all_wanted (items_view (drop (suc i) values))) = one_of values i d (Some w) within is in
    rw add-one (ap (λ l. and_rest l (all_wanted (items_view (drop (suc i) values)))) added ∙ sym (one_before ws w (all_wanted (items_view (drop (suc i) values)))) ∙ ap (and_rest ws) (sym here) ∙ so_far)

-- one is none
pub found_none : (ws : List Wanted) (values : List Value) (i : ℕ) (d : Value) (all : Option (List Wanted)) → i < length values → and_rest ws (all_wanted (items_view (drop i values))) ≡ all → None ≡ wanted_of (view (get_or values i d)) → None ≡ all
found_none ws values i d all within so_far is = sym (ap (and_rest ws) (one_of values i d None within is)) ∙ so_far

-- all are
pub found_all : (ws : List Wanted) (values : List Value) (i : ℕ) (all : Option (List Wanted)) → length values ≤ i → and_rest ws (all_wanted (items_view (drop i values))) ≡ all → Some ws ≡ all
found_all ws values i all past so_far = ap Some (sym (append-nil ws)) ∙ sym (ap (λ l. and_rest ws (all_wanted (items_view l))) (drop_all i values past)) ∙ so_far
