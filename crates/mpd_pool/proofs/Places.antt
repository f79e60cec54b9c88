-- Reports in the places of their pieces.
use Rattle.std.proofs.Common.{◌≡◌, ℕ, zero, suc, ◌<◌, List, [], ◌∷◌, ◌++◌, length, set, get_or, Option, Some, None, Result, Ok, Err, IfSome, IfOk, sym, subst, arith}
use Rattle.mpd_model.specs.runs.Trail.{Standing}
use Rattle.mpd_explore.specs.declared.report.SearchLimits.{SearchLimits}
use Rattle.mpd_explore.specs.declared.report.SearchReport.{SearchReport}
use Rattle.mpd_explore.specs.declared.splitter.Piece.{Piece}
use Rattle.mpd_pool.specs.Parts.{IsPart, AtNumber, Filled, AllNone}

-- ---- at a number

at_piece : (d : Standing) (l : SearchLimits) (ps : List Piece) (i : ℕ) (p : Piece) (r : SearchReport) → i < length ps → IsPart d l (get_or ps i p).choices r → AtNumber d l ps i r
at_piece d l [] i p r lt h = absurd (omega (arith, lt))
at_piece d l (q ∷ ps) zero p r lt h = h
at_piece d l (q ∷ ps) (suc i) p r lt h = at_piece d l ps i p r (omega (arith, lt)) h

pub part_at : {E : Type 0} (d : Standing) (l : SearchLimits) (ps : List Piece) (i : ℕ) (p : Piece) (result : Result SearchReport E) → i < length ps → p ≡ get_or ps i p → IfOk result (λ r. IsPart d l p.choices r) → IfOk result (λ r. AtNumber d l ps i r)
part_at d l ps i p (Ok r) lt is h = at_piece d l ps i p r lt (subst (λ (x : Piece). IsPart d l x.choices r) is h)
part_at d l ps i p (Err e) lt is h = tt

pub part_of : (d : Standing) (l : SearchLimits) (ps : List Piece) (i : ℕ) (p : Piece) (r : SearchReport) → i < length ps → AtNumber d l ps i r → IsPart d l (get_or ps i p).choices r
part_of d l [] i p r lt h = absurd h
part_of d l (q ∷ ps) zero p r lt h = h
part_of d l (q ∷ ps) (suc i) p r lt h = part_of d l ps i p r (omega (arith, lt)) h

-- ---- places

pub none_more : (slots : List (Option SearchReport)) → AllNone slots → AllNone (slots ++ None ∷ [])
none_more [] h = tt
none_more (None ∷ slots) h = none_more slots h
none_more (Some r ∷ slots) h = absurd h

pub filled_none : (d : Standing) (l : SearchLimits) (ps : List Piece) (slots : List (Option SearchReport)) → length slots ≡ length ps → AllNone slots → Filled d l ps slots
filled_none d l [] [] e h = tt
filled_none d l [] (slot ∷ slots) e h = absurd (omega (arith, e))
filled_none d l (p ∷ ps) [] e h = absurd (omega (arith, e))
filled_none d l (p ∷ ps) (None ∷ slots) e h = filled_none d l ps slots (omega (arith, e)) h
filled_none d l (p ∷ ps) (Some r ∷ slots) e h = absurd h

pub filled_long : (d : Standing) (l : SearchLimits) (ps : List Piece) (slots : List (Option SearchReport)) → Filled d l ps slots → length slots ≡ length ps
filled_long d l [] [] f = omega arith
filled_long d l [] (slot ∷ slots) f = absurd f
filled_long d l (p ∷ ps) [] f = absurd f
filled_long d l (p ∷ ps) (None ∷ slots) f = omega (arith, filled_long d l ps slots f)
filled_long d l (p ∷ ps) (Some r ∷ slots) f = omega (arith, filled_long d l ps slots f.1)

pub filled_set : (d : Standing) (l : SearchLimits) (ps : List Piece) (slots : List (Option SearchReport)) (i : ℕ) (r : SearchReport) → AtNumber d l ps i r → Filled d l ps slots → Filled d l ps (set slots i (Some r))
filled_set d l [] slots i r h f = absurd h
filled_set d l (p ∷ ps) [] i r h f = absurd f
filled_set d l (p ∷ ps) (None ∷ slots) zero r h f = (h, f)
filled_set d l (p ∷ ps) (Some q ∷ slots) zero r h f = (h, f.1)
filled_set d l (p ∷ ps) (None ∷ slots) (suc i) r h f = filled_set d l ps slots i r h f
filled_set d l (p ∷ ps) (Some q ∷ slots) (suc i) r h f = (f.0, filled_set d l ps slots i r h f.1)

filled_unset : (d : Standing) (l : SearchLimits) (ps : List Piece) (slots : List (Option SearchReport)) (i : ℕ) → Filled d l ps slots → Filled d l ps (set slots i None)
filled_unset d l [] [] i f = f
filled_unset d l [] (slot ∷ slots) i f = absurd f
filled_unset d l (p ∷ ps) [] i f = absurd f
filled_unset d l (p ∷ ps) (None ∷ slots) zero f = f
filled_unset d l (p ∷ ps) (Some q ∷ slots) zero f = f.1
filled_unset d l (p ∷ ps) (None ∷ slots) (suc i) f = filled_unset d l ps slots i f
filled_unset d l (p ∷ ps) (Some q ∷ slots) (suc i) f = (f.0, filled_unset d l ps slots i f.1)

-- what was there is taken out
pub filled_taken : (d : Standing) (l : SearchLimits) (ps : List Piece) (slots : List (Option SearchReport)) (i : ℕ) (left : Option SearchReport) → left ≡ None → Filled d l ps slots → Filled d l ps (set slots i left)
filled_taken d l ps slots i left is f = rw is (filled_unset d l ps slots i f)

filled_here : (d : Standing) (l : SearchLimits) (ps : List Piece) (slots : List (Option SearchReport)) (i : ℕ) (x : Option SearchReport) → i < length slots → Filled d l ps slots → IfSome (get_or slots i x) (λ r. AtNumber d l ps i r)
filled_here d l [] [] i x lt f = absurd (omega (arith, lt))
filled_here d l [] (slot ∷ slots) i x lt f = absurd f
filled_here d l (p ∷ ps) [] i x lt f = absurd f
filled_here d l (p ∷ ps) (None ∷ slots) zero x lt f = tt
filled_here d l (p ∷ ps) (Some q ∷ slots) zero x lt f = f.0
filled_here d l (p ∷ ps) (None ∷ slots) (suc i) x lt f = filled_here d l ps slots i x (omega (arith, lt)) f
filled_here d l (p ∷ ps) (Some q ∷ slots) (suc i) x lt f = filled_here d l ps slots i x (omega (arith, lt)) f.1

-- what is in a place
pub filled_at : (d e : Standing) (l : SearchLimits) (ps : List Piece) (slots : List (Option SearchReport)) (i : ℕ) (x slot : Option SearchReport) → i < length slots → slot ≡ get_or slots i x → e ≡ d → Filled d l ps slots → IfSome slot (λ r. AtNumber e l ps i r)
filled_at d e l ps slots i x slot lt is same f = rw (is, same) (filled_here d l ps slots i x lt f)

pub filled_same : (d e : Standing) (l : SearchLimits) (ps : List Piece) (slots : List (Option SearchReport)) → d ≡ e → Filled e l ps slots → Filled d l ps slots
filled_same d e l ps slots same f = subst (λ (x : Standing). Filled x l ps slots) (sym same) f
