-- The lines of one rank's free calls.
use Rattle.std.proofs.Common.{◌≡◌, ◌≢◌, ℕ, zero, suc, ◌+◌, ◌<◌, ◌≤◌, Bool, true, false, cond, ◌&&◌, is_none, Option, Some, None, List, [], ◌∷◌, ◌++◌, inl, inr, refl, sym, ap, ◌∙◌, length, append-nil, length-append, slice_get, slice_set, get_or-set_same, get_or-set_other, add-one, arith}
use Rattle.std.proofs.lemmas.Bool.{eq-eqb, ne_eqb, cases_eq, cases_lt, cases_Bool}
use Rattle.std.proofs.lemmas.List.Elements.{filter-append}
use Rattle.std.proofs.lemmas.Option.{slice_get_past}
use Rattle.std.specs.List.{filter, range_with_len}
use Rattle.mpd_model.specs.declared.step.CallId.{CallId}
use Rattle.mpd_model.specs.declared.call.Call.{Call}
use Rattle.mpd_model.specs.declared.call.CallKind.{CallKind}
use Rattle.mpd_model.specs.steps.World.{kind_of}
use Rattle.mpd_queue.specs.InOrder.{places_in, removed}
use Rattle.mpd_match.specs.Lines.{line_of, is_line, kind_in, mark_in, with_mark, waits, waiting}
use Rattle.mpd_match.proofs.Passed.{passed_same, places_passed, places_not_passed, passed_removed, places_within, places_past, one_number_more}
use Rattle.mpd_match.proofs.Bools.{and_false}

-- ---- one call, and its partner

get_left : {X : Type 0} (xs ys : List X) (i : ℕ) → i < length xs → slice_get (xs ++ ys) i ≡ slice_get xs i
get_left [] ys i lt = absurd (omega arith)
get_left (x ∷ xs) ys zero lt = refl
get_left (x ∷ xs) ys (suc i) lt = get_left xs ys i (omega arith)

pub get_seam : {X : Type 0} (xs : List X) (y : X) → slice_get (xs ++ y ∷ []) (length xs) ≡ Some y
get_seam [] y = refl
get_seam (x ∷ xs) y = get_seam xs y

pub kind_past : (calls : List Call) (i : ℕ) → length calls ≤ i → kind_in calls i ≡ None
kind_past calls i le = ap kind_of (slice_get_past calls i le)

pub kind_before : (calls : List Call) (c : Call) (i : ℕ) → i < length calls → kind_in (calls ++ c ∷ []) i ≡ kind_in calls i
kind_before calls c i lt = ap kind_of (get_left calls (c ∷ []) i lt)

pub kind_last : (calls : List Call) (c : Call) → kind_in (calls ++ c ∷ []) (length calls) ≡ Some c.kind
kind_last calls c = ap kind_of (get_seam calls c)

pub mark_more : (marks : List (Option CallId)) (i : ℕ) → mark_in (marks ++ None ∷ []) i ≡ mark_in marks i
mark_more [] zero = refl
mark_more [] (suc i) = refl
mark_more (m ∷ marks) zero = refl
mark_more (m ∷ marks) (suc i) = mark_more marks i

abbrev flat : Option (Option CallId) → Option CallId
flat None = None
flat (Some partner) = partner

pub mark_flat : (marks : List (Option CallId)) (i : ℕ) → mark_in marks i ≡ flat (slice_get marks i)
mark_flat [] i = refl
mark_flat (m ∷ marks) zero = refl
mark_flat (m ∷ marks) (suc i) = mark_flat marks i

pub mark_read : (marks : List (Option CallId)) (i : ℕ) (partner : Option CallId) → slice_get marks i ≡ Some partner → mark_in marks i ≡ partner
mark_read marks i partner e = mark_flat marks i ∙ ap flat e

pub mark_unread : (marks : List (Option CallId)) (i : ℕ) → slice_get marks i ≡ None → mark_in marks i ≡ None
mark_unread marks i e = mark_flat marks i ∙ ap flat e

pub ruleset marks_read = (mark_read, mark_unread)

pub with_mark_here : (mark : ℕ → Option CallId) (x : ℕ) (partner : Option CallId) → with_mark mark x partner x ≡ partner
with_mark_here mark x partner = ap (λ (b : Bool). cond b partner (mark x)) (eq-eqb x x refl)

pub with_mark_there : (mark : ℕ → Option CallId) (x : ℕ) (partner : Option CallId) (i : ℕ) → i ≢ x → with_mark mark x partner i ≡ mark i
with_mark_there mark x partner i ne = ap (λ (b : Bool). cond b partner (mark i)) (ne_eqb i x ne)

pub mark_set : (marks : List (Option CallId)) (x : ℕ) (partner : Option CallId) (i : ℕ) → x < length marks → mark_in (slice_set marks x partner) i ≡ with_mark (mark_in marks) x partner i
mark_set marks x partner i lt =
    elim (cases_eq i x) [
      | inl e ↦
          ap (mark_in (slice_set marks x partner)) e
          ∙ get_or-set_same marks x partner None lt
          ∙ sym (ap (with_mark (mark_in marks) x partner) e ∙ with_mark_here (mark_in marks) x partner)
      | inr ne ↦ get_or-set_other marks x i partner None ne ∙ sym (with_mark_there (mark_in marks) x partner i ne)
    ]

-- a call with a line is there
pub exists : (calls : List Call) (i line : ℕ) → line_of (kind_in calls i) ≡ Some line → i < length calls
exists calls i line e =
    elim (cases_lt i (length calls)) [
      | inl lt ↦ lt
      | inr ge ↦ let f : line_of (kind_in calls i) ≡ None = ap line_of (kind_past calls i ge) in absurd (cc)
    ]

-- ---- whether a call waits

pub is_own_line : (line : ℕ) → is_line (Some line) line ≡ true
is_own_line line = eq-eqb line line refl

pub is_other_line : (own line : ℕ) → line ≢ own → is_line (Some own) line ≡ false
is_other_line own line ne = ne_eqb own line (λ e. ne (sym e))

pub waits_same : (calls calls' : List Call) (mark mark' : ℕ → Option CallId) (line i : ℕ) → mark i ≡ mark' i → kind_in calls i ≡ kind_in calls' i → waits calls mark line i ≡ waits calls' mark' line i
waits_same calls calls' mark mark' line i e f =
    ap (λ (o : Option CallId). is_none o && is_line (line_of (kind_in calls i)) line) e
    ∙ ap (λ (k : Option CallKind). is_none (mark' i) && is_line (line_of k) line) f

pub waits_free : (calls : List Call) (mark : ℕ → Option CallId) (line i : ℕ) → mark i ≡ None → waits calls mark line i ≡ is_line (line_of (kind_in calls i)) line
waits_free calls mark line i e = ap (λ (o : Option CallId). is_none o && is_line (line_of (kind_in calls i)) line) e

pub waits_paired : (calls : List Call) (mark : ℕ → Option CallId) (line i : ℕ) → is_none (mark i) ≡ false → waits calls mark line i ≡ false
waits_paired calls mark line i e = ap (λ (b : Bool). b && is_line (line_of (kind_in calls i)) line) e

pub waits_elsewhere : (calls : List Call) (mark : ℕ → Option CallId) (line i : ℕ) → is_line (line_of (kind_in calls i)) line ≡ false → waits calls mark line i ≡ false
waits_elsewhere calls mark line i e = ap (λ (b : Bool). is_none (mark i) && b) e ∙ and_false (is_none (mark i))

waits_past : (calls : List Call) (mark : ℕ → Option CallId) (line i : ℕ) → length calls ≤ i → waits calls mark line i ≡ false
waits_past calls mark line i le = waits_elsewhere calls mark line i (ap (λ (k : Option CallKind). is_line (line_of k) line) (kind_past calls i le))

pub waits_there : (calls : List Call) (mark : ℕ → Option CallId) (own line i : ℕ) → line_of (kind_in calls i) ≡ Some own → line ≢ own → waits calls mark line i ≡ false
waits_there calls mark own line i e ne = waits_elsewhere calls mark line i (ap (λ (o : Option ℕ). is_line o line) e ∙ is_other_line own line ne)

pub waits_here : (calls : List Call) (mark : ℕ → Option CallId) (line i : ℕ) → line_of (kind_in calls i) ≡ Some line → mark i ≡ None → waits calls mark line i ≡ true
waits_here calls mark line i e free = waits_free calls mark line i free ∙ ap (λ (o : Option ℕ). is_line o line) e ∙ is_own_line line

-- ---- a whole line

pub stands_once : (calls : List Call) (mark : ℕ → Option CallId) (line i : ℕ) → waits calls mark line i ≡ true → i < length calls → places_in (waiting calls mark line) i ≡ 1
stands_once calls mark line i e lt =
    places_passed (waits calls mark line) i (range_with_len 0 (length calls)) e ∙ places_within 0 (length calls) i (omega arith) (omega arith)

pub stands_not : (calls : List Call) (mark : ℕ → Option CallId) (line i : ℕ) → waits calls mark line i ≡ false → places_in (waiting calls mark line) i ≡ 0
stands_not calls mark line i e = places_not_passed (waits calls mark line) i (range_with_len 0 (length calls)) e

pub stands_past : (calls : List Call) (mark : ℕ → Option CallId) (line i : ℕ) → length calls ≤ i → places_in (waiting calls mark line) i ≡ 0
stands_past calls mark line i le = stands_not calls mark line i (waits_past calls mark line i le)

pub stands_at_most_once : (calls : List Call) (mark : ℕ → Option CallId) (line i : ℕ) → places_in (waiting calls mark line) i ≤ 1
stands_at_most_once calls mark line i =
    elim (cases_Bool (waits calls mark line i)) [
      | inl e ↦ elim (cases_lt i (length calls)) [ inl lt ↦ omega (arith, stands_once calls mark line i e lt) | inr ge ↦ omega (arith, stands_past calls mark line i ge) ]
      | inr e ↦ omega (arith, stands_not calls mark line i e)
    ]

pub waiting_same : (calls : List Call) (mark mark' : ℕ → Option CallId) (line : ℕ) → ((i : ℕ) → mark i ≡ mark' i) → waiting calls mark line ≡ waiting calls mark' line
waiting_same calls mark mark' line e =
    passed_same (waits calls mark line) (waits calls mark' line) (range_with_len 0 (length calls)) (λ i has. waits_same calls calls mark mark' line i (e i) refl)

-- the partner of a call in another line is nothing to this one
pub waiting_but : (calls : List Call) (mark mark' : ℕ → Option CallId) (own line x : ℕ) → line_of (kind_in calls x) ≡ Some own → line ≢ own → ((i : ℕ) → i ≢ x → mark i ≡ mark' i) → waiting calls mark line ≡ waiting calls mark' line
waiting_but calls mark mark' own line x at ne e =
    passed_same (waits calls mark line) (waits calls mark' line) (range_with_len 0 (length calls)) (λ i has.
    elim (cases_eq i x) [
      | inl is ↦
          let there : line_of (kind_in calls i) ≡ Some own = ap (λ (k : ℕ). line_of (kind_in calls k)) is ∙ at in
          waits_there calls mark own line i there ne ∙ sym (waits_there calls mark' own line i there ne)
      | inr other ↦ waits_same calls calls mark mark' line i (e i other) refl
    ])

-- a call that gets a partner leaves its line
pub waiting_less : (calls : List Call) (mark mark' : ℕ → Option CallId) (line x : ℕ) → line_of (kind_in calls x) ≡ Some line → mark x ≡ None → is_none (mark' x) ≡ false → ((i : ℕ) → i ≢ x → mark' i ≡ mark i)
    → removed (waiting calls mark line) x ≡ waiting calls mark' line
waiting_less calls mark mark' line x at free paired e =
    passed_removed (waits calls mark line) (waits calls mark' line) x (range_with_len 0 (length calls))
    (places_within 0 (length calls) x (omega arith) (omega (arith, exists calls x line at)))
    (waits_here calls mark line x at free) (waits_paired calls mark' line x paired)
    (λ i ne. waits_same calls calls mark' mark line i (e i ne) refl)

-- a call more joins its line, at the end
waiting_more : (calls : List Call) (c : Call) (mark mark' : ℕ → Option CallId) (line : ℕ) → ((i : ℕ) → mark' i ≡ mark i) → mark (length calls) ≡ None
    → waiting (calls ++ c ∷ []) mark' line ≡ waiting calls mark line ++ cond (is_line (line_of (Some c.kind)) line) (length calls ∷ []) []
waiting_more calls c mark mark' line e free =
    let n : ℕ = length calls in
    let W : ℕ → Bool = waits (calls ++ c ∷ []) mark' line in
    let long : length (calls ++ c ∷ []) ≡ suc n = length-append calls (c ∷ []) ∙ add-one n in
    let last : W n ≡ is_line (line_of (Some c.kind)) line =
    waits_free (calls ++ c ∷ []) mark' line n (e n ∙ free) ∙ ap (λ (k : Option CallKind). is_line (line_of k) line) (kind_last calls c) in
    let from_0 : 0 + n ≡ n = omega arith in
    ap (λ (k : ℕ). filter W (range_with_len 0 k)) long
    ∙ ap (filter W) (one_number_more 0 n)
    ∙ ap (λ (k : ℕ). filter W (range_with_len 0 n ++ k ∷ [])) from_0
    ∙ filter-append W (range_with_len 0 n) (n ∷ [])
    ∙ ap (λ (zs : List ℕ). zs ++ filter W (n ∷ [])) (passed_same W (waits calls mark line) (range_with_len 0 n) (λ i has.
    waits_same (calls ++ c ∷ []) calls mark' mark line i (e i) (kind_before calls c i
    (elim (cases_lt i n) [ inl lt ↦ lt | inr ge ↦ absurd (omega (arith, places_past 0 n i (omega arith))) ]))))
    ∙ ap (λ (b : Bool). waiting calls mark line ++ cond b (n ∷ []) []) last

pub waiting_one_more : (calls : List Call) (c : Call) (mark mark' : ℕ → Option CallId) (line : ℕ) → line_of (Some c.kind) ≡ Some line → ((i : ℕ) → mark' i ≡ mark i) → mark (length calls) ≡ None
    → waiting (calls ++ c ∷ []) mark' line ≡ waiting calls mark line ++ length calls ∷ []
waiting_one_more calls c mark mark' line at e free =
    waiting_more calls c mark mark' line e free
    ∙ ap (λ (b : Bool). waiting calls mark line ++ cond b (length calls ∷ []) []) (ap (λ (o : Option ℕ). is_line o line) at ∙ is_own_line line)

pub waiting_no_more : (calls : List Call) (c : Call) (mark mark' : ℕ → Option CallId) (line : ℕ) → is_line (line_of (Some c.kind)) line ≡ false → ((i : ℕ) → mark' i ≡ mark i) → mark (length calls) ≡ None
    → waiting (calls ++ c ∷ []) mark' line ≡ waiting calls mark line
waiting_no_more calls c mark mark' line at e free =
    waiting_more calls c mark mark' line e free
    ∙ ap (λ (b : Bool). waiting calls mark line ++ cond b (length calls ∷ []) []) at
    ∙ append-nil (waiting calls mark line)
