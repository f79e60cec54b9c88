-- Calls that handles and waits keep, one keep at a time; and a rank that has no request.
use Rattle.std.proofs.Common.{◌≡◌, ◌≢◌, ℕ, suc, zero, ◌<◌, ◌≤◌, ◌==◌, Bool, true, false, ◌&&◌, ◌||◌, not, cond, List, [], ◌∷◌, ◌++◌, length, set, get_or, slice_get, Some, None, refl, sym, ap, ◌∙◌, arith, append-nil}
use Rattle.std.proofs.Math.Bool.{or_assoc}
use Rattle.std.proofs.lemmas.Bool.Decides.{nat_tests}
use Rattle.std.proofs.lemmas.List.{get_or-set_same, get_or-set_other}
use Rattle.std.proofs.lemmas.Option.{slice_get_past}
use Rattle.std.specs.List.{filter, flat_map, list_any, range_with_len}
use Rattle.mpd_model.specs.declared.call.Call.{Call}
use Rattle.mpd_model.specs.declared.step.CallId.{CallId}
use Rattle.mpd_model.specs.steps.World.{World, call_id, listed_calls, kind_at, kind_of, calls_of, call_numbers, complete}
use Rattle.mpd_model.specs.runs.Breakpoints.{is_number}
use Rattle.mpd_explain.specs.Lost.{is_request, is_kept, has_waitany, is_send, is_lost, lost_calls_of}

-- ---- kept

or_false : (b : Bool) → b ≡ b || false
or_false true = refl
or_false false = refl

or_true : (b : Bool) → true ≡ b || true
or_true true = refl
or_true false = refl

-- no number kept nothing, and neither does one that is no place
pub kept_none : (b : Bool) (i : ℕ) → b ≡ b || is_number None i
kept_none b i = or_false b

pub kept_past : (b : Bool) (n i m : ℕ) → i < n → n ≤ m → b ≡ b || is_number (Some m) i
kept_past b n i m within past = let other : (m == i) ≡ false = grind (arith, nat_tests) in or_false b ∙ sym (ap (λ x. b || x) other)

kept_by : (xs : List Bool) (m i : ℕ) (t : Bool) → (m == i) ≡ t → m < length xs → get_or (set xs m true) i false ≡ get_or xs i false || t
kept_by xs m i true e within = let same : i ≡ m = grind (arith, nat_tests) in rw same (get_or-set_same xs m true false within ∙ or_true (get_or xs m false))
kept_by xs m i false e within = let other : i ≢ m = grind (arith, nat_tests) in get_or-set_other xs m i true false other ∙ or_false (get_or xs i false)

pub kept_at : (xs : List Bool) (m i : ℕ) → m < length xs → get_or (set xs m true) i false ≡ get_or xs i false || is_number (Some m) i
kept_at xs m i within = kept_by xs m i (m == i) refl within

pub ruleset keeping = (kept_none, kept_past, kept_at)

-- what one more element kept
pub kept_more : {A : Type 0} (t : A → Bool) (xs rest : List A) (x : A) (old now total : Bool) → xs ≡ x ∷ rest → now ≡ old || t x → old || list_any t xs ≡ total → now || list_any t rest ≡ total
kept_more t xs rest x old now total is more e =
    ap (λ b. b || list_any t rest) more ∙ or_assoc old (t x) (list_any t rest) ∙ sym (ap (λ ys. old || list_any t ys) is) ∙ e

-- ---- a rank without a request

first_fails : (a b : Bool) → a || b ≡ false → a ≡ false
first_fails true b e = e
first_fails false b e = refl

others_fail : (a b : Bool) → a || b ≡ false → b ≡ false
others_fail true b e = cc
others_fail false b e = e

abbrev is_issued : Call → Bool
is_issued c = is_request (Some c.kind)

request_at : (calls : List Call) (i : ℕ) → list_any is_issued calls ≡ false → is_request (kind_of (slice_get calls i)) ≡ false
request_at [] i e = refl
request_at (c ∷ calls) zero e = first_fails (is_issued c) (list_any is_issued calls) e
request_at (c ∷ calls) (suc i) e = request_at calls i (others_fail (is_issued c) (list_any is_issued calls) e)

abbrev one_call : ℕ → ℕ → List CallId
one_call p i = call_id p i ∷ []

none_pass : (t : ℕ → Bool) (xs : List ℕ) → ((i : ℕ) → t i ≡ false) → filter t xs ≡ []
none_pass t [] h = refl
none_pass t (x ∷ xs) h = ap (λ b. cond b (x ∷ filter t xs) (filter t xs)) (h x) ∙ none_pass t xs h

pub none_lost : (w : World) (p : ℕ) (old : List CallId) → list_any is_issued (calls_of w.board p) ≡ false → old ≡ old ++ lost_calls_of w p
none_lost w p old e =
    let each : (i : ℕ) → is_lost w (call_id p i) ≡ false = λ i. ap (λ b. b && (not (is_kept w (call_id p i)) && not ((is_send (kind_at w.board (call_id p i)) || has_waitany (calls_of w.board p)) && complete w.board (call_id p i)))) (request_at (calls_of w.board p) i e) in
    sym (ap (λ xs. old ++ flat_map (one_call p) xs) (none_pass (λ i. is_lost w (call_id p i)) (call_numbers w.board p) each) ∙ append-nil old)

-- a rank that isn't there
pub nobody_lost : (w : World) (p n : ℕ) (old : List CallId) → n ≡ length w.board.calls → n ≤ p → old ≡ old ++ lost_calls_of w p
nobody_lost w p n old e past =
    let none : slice_get w.board.calls p ≡ None = slice_get_past w.board.calls p (omega (arith, e, past)) in
    sym (ap (λ o. old ++ flat_map (one_call p) (filter (λ i. is_lost w (call_id p i)) (range_with_len 0 (length (listed_calls o))))) none ∙ append-nil old)

pub ruleset losing = (none_lost, nobody_lost)
