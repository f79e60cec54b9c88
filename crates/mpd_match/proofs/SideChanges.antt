-- The lists of a side stay its lines.
use Rattle.std.proofs.Common.{◌≡◌, ◌≢◌, ℕ, suc, ◌+◌, ◌-◌, ◌<◌, false, is_none, Option, Some, None, List, [], ◌∷◌, ◌++◌, inl, inr, refl, sym, ap, subst, ◌∙◌, length, take, slice_set, length-set, length-append, option_to_list, IfSome, IfNone, arith}
use Rattle.std.proofs.lemmas.Bool.{cases_eq, cases_lt}
use Rattle.std.proofs.lemmas.List.{take_at, get_or_past}
use Rattle.std.proofs.lemmas.List.Sums.{sum_by-cons}
use Rattle.mpd_model.specs.declared.step.CallId.{CallId}
use Rattle.mpd_model.specs.declared.call.Call.{Call}
use Rattle.mpd_model.specs.declared.call.CallKind.{CallKind}
use Rattle.mpd_model.specs.declared.call.CallKind.TheVariants.{Send, Recv}
use Rattle.mpd_queue.specs.InOrder.{list_at, places_in, places, next_of, removed, inserted, pushed, newest_dropped, with_inserted, with_removed, with_pushed, with_newest_dropped, HasSpot}
use Rattle.mpd_queue.proofs.Places.{list_here, list_elsewhere, places_of_one}
use Rattle.mpd_queue.proofs.Spots.{put_back, spot_stays}
use Rattle.mpd_match.specs.Lines.{line_of, is_line, kind_in, mark_in, with_mark, waiting}
use Rattle.mpd_match.specs.Changes.{unissue_writes}
use Rattle.mpd_match.specs.Held.{InLine}
use Rattle.mpd_match.proofs.InLines.{kind_before, kind_last, mark_more, with_mark_here, with_mark_there, mark_set, exists, is_other_line, waits_here, waits_paired, stands_once, stands_not, stands_past, stands_at_most_once, waiting_same, waiting_but, waiting_less, waiting_one_more, waiting_no_more}

-- a call that stands in no line stands nowhere
nowhere : (lists : List (List ℕ)) (x : ℕ) → ((line : ℕ) → line < length lists → places_in (list_at lists line) x ≡ 0) → places lists x ≡ 0
nowhere [] x none = refl
nowhere (items ∷ lists) x none =
    let here : places_in items x ≡ 0 = none 0 (omega arith) in
    omega (arith, sum_by-cons (λ (zs : List ℕ). places_in zs x) items lists, nowhere lists x (λ line lt. none (suc line) (omega arith)))

-- one line is changed, and the others are not
each_line : (calls : List Call) (marks : List (Option CallId)) (lists : List (List ℕ)) (l : ℕ) (items : List ℕ) → l < length lists
    → items ≡ waiting calls (mark_in marks) l
    → ((line : ℕ) → line < length lists → line ≢ l → list_at lists line ≡ waiting calls (mark_in marks) line)
    → (line : ℕ) → line < length (slice_set lists l items) → list_at (slice_set lists l items) line ≡ waiting calls (mark_in marks) line
each_line calls marks lists l items lt here there line within =
    let among : line < length lists = omega (arith, length-set lists l items) in
    elim (cases_eq line l) [
      | inl e ↦ subst (λ (k : ℕ). list_at (slice_set lists l items) k ≡ waiting calls (mark_in marks) k) (sym e) (list_here lists l items lt ∙ here)
      | inr ne ↦ list_elsewhere lists l line items ne ∙ there line among ne
    ]

-- ---- a call is issued

pub not_yet_there : (calls : List Call) (marks : List (Option CallId)) (lists : List (List ℕ)) (room : ℕ) → InLine calls marks lists room → places lists (length calls) ≡ 0
not_yet_there calls marks lists room h =
    nowhere lists (length calls) (λ line lt. ap (λ (zs : List ℕ). places_in zs (length calls)) (h.lines line lt) ∙ stands_past calls (mark_in marks) line (length calls) (omega arith))

unmarked : (calls : List Call) (marks : List (Option CallId)) (lists : List (List ℕ)) (room : ℕ) → InLine calls marks lists room → mark_in marks (length calls) ≡ None
unmarked calls marks lists room h = get_or_past marks (length calls) None (omega (arith, h.same))

within_more : (calls : List Call) (c : Call) (count : ℕ) → ((i line : ℕ) → line_of (kind_in calls i) ≡ Some line → line < count) → ((line : ℕ) → line_of (Some c.kind) ≡ Some line → line < count)
    → (i line : ℕ) → line_of (kind_in (calls ++ c ∷ []) i) ≡ Some line → line < count
within_more calls c count old new i line e =
    elim (cases_lt i (length calls)) [
      | inl lt ↦ old i line (ap line_of (sym (kind_before calls c i lt)) ∙ e)
      | inr ge ↦
          let at : i ≡ length calls = omega (arith, exists (calls ++ c ∷ []) i line e, length-append calls (c ∷ [])) in
          new line (ap line_of (sym (kind_last calls c)) ∙ ap (λ (k : ℕ). line_of (kind_in (calls ++ c ∷ []) k)) (sym at) ∙ e)
    ]

longer : (calls : List Call) (c : Call) (marks : List (Option CallId)) → length marks ≡ length calls → length (marks ++ None ∷ []) ≡ length (calls ++ c ∷ [])
longer calls c marks e = omega (arith, e, length-append calls (c ∷ []), length-append marks (None ∷ []))

pub issued : (calls : List Call) (marks : List (Option CallId)) (lists : List (List ℕ)) (room : ℕ) (c : Call) (l : ℕ) → InLine calls marks lists room → line_of (Some c.kind) ≡ Some l → l < length lists → length calls < room
    → InLine (calls ++ c ∷ []) (marks ++ None ∷ []) (with_pushed lists l (length calls)) room
issued calls marks lists room c l h at lt some =
    let n : ℕ = length calls in
    let wide : length (with_pushed lists l n) ≡ length lists = length-set lists l (pushed (list_at lists l) n) in
    record {
      same = longer calls c marks h.same;
      few = omega (arith, h.few, wide);
      cells = omega (arith, length-append calls (c ∷ []));
      within = within_more calls c (length (with_pushed lists l n)) (λ i line e. omega (arith, h.within i line e, wide)) (λ line e. let is : l ≡ line = cc in omega (arith, wide));
      lines = each_line (calls ++ c ∷ []) (marks ++ None ∷ []) lists l (pushed (list_at lists l) n) lt
          (ap (λ (zs : List ℕ). pushed zs n) (h.lines l lt) ∙ sym (waiting_one_more calls c (mark_in marks) (mark_in (marks ++ None ∷ [])) l at (mark_more marks) (unmarked calls marks lists room h)))
          (λ line within ne. h.lines line within ∙ sym (waiting_no_more calls c (mark_in marks) (mark_in (marks ++ None ∷ [])) line
          (ap (λ (o : Option ℕ). is_line o line) at ∙ is_other_line l line ne) (mark_more marks) (unmarked calls marks lists room h)));
    }

pub issued_no_message : (calls : List Call) (marks : List (Option CallId)) (lists : List (List ℕ)) (room : ℕ) (c : Call) → InLine calls marks lists room → line_of (Some c.kind) ≡ None → length calls < room
    → InLine (calls ++ c ∷ []) (marks ++ None ∷ []) lists room
issued_no_message calls marks lists room c h at some =
    record {
      same = longer calls c marks h.same;
      few = h.few;
      cells = omega (arith, length-append calls (c ∷ []));
      within = within_more calls c (length lists) h.within (λ line e. absurd (cc));
      lines = λ line lt. h.lines line lt ∙ sym (waiting_no_more calls c (mark_in marks) (mark_in (marks ++ None ∷ [])) line
          (ap (λ (o : Option ℕ). is_line o line) at) (mark_more marks) (unmarked calls marks lists room h));
    }

-- ---- the last call is taken back

dropped_last : (xs : List ℕ) (y : ℕ) → newest_dropped (xs ++ y ∷ []) ≡ xs
dropped_last xs y =
    let l : length (xs ++ y ∷ []) - 1 ≡ length xs = omega (arith, length-append xs (y ∷ [])) in
    ap (λ (k : ℕ). take k (xs ++ y ∷ [])) l ∙ take_at xs (y ∷ []) (length xs) refl

shorter : (calls : List Call) (c : Call) (marks : List (Option CallId)) → length (marks ++ None ∷ []) ≡ length (calls ++ c ∷ []) → length marks ≡ length calls
shorter calls c marks e = omega (arith, e, length-append calls (c ∷ []), length-append marks (None ∷ []))

before_last : (calls : List Call) (c : Call) (count : ℕ) → ((i line : ℕ) → line_of (kind_in (calls ++ c ∷ []) i) ≡ Some line → line < count) → (i line : ℕ) → line_of (kind_in calls i) ≡ Some line → line < count
before_last calls c count old i line e = old i line (ap line_of (kind_before calls c i (exists calls i line e)) ∙ e)

past_marks : (calls : List Call) (marks : List (Option CallId)) → length marks ≡ length calls → mark_in marks (length calls) ≡ None
past_marks calls marks e = get_or_past marks (length calls) None (omega (arith, e))

pub newest_there : (calls : List Call) (marks : List (Option CallId)) (lists : List (List ℕ)) (room : ℕ) (c : Call) (l : ℕ) → InLine (calls ++ c ∷ []) (marks ++ None ∷ []) lists room → line_of (Some c.kind) ≡ Some l
    → (l < length lists) × (list_at lists l ≡ waiting calls (mark_in marks) l ++ length calls ∷ [])
newest_there calls marks lists room c l h at =
    let lt : l < length lists = h.within (length calls) l (ap line_of (kind_last calls c) ∙ at) in
    (lt, h.lines l lt ∙ waiting_one_more calls c (mark_in marks) (mark_in (marks ++ None ∷ [])) l at (mark_more marks) (past_marks calls marks (shorter calls c marks h.same)))

pub unissued : (calls : List Call) (marks : List (Option CallId)) (lists : List (List ℕ)) (room : ℕ) (c : Call) (l : ℕ) → InLine (calls ++ c ∷ []) (marks ++ None ∷ []) lists room → line_of (Some c.kind) ≡ Some l
    → InLine calls marks (with_newest_dropped lists l) room
unissued calls marks lists room c l h at =
    let there = newest_there calls marks lists room c l h at in
    let same : length marks ≡ length calls = shorter calls c marks h.same in
    let wide : length (with_newest_dropped lists l) ≡ length lists = length-set lists l (newest_dropped (list_at lists l)) in
    record {
      same = same;
      few = omega (arith, h.few, wide);
      cells = omega (arith, h.cells, length-append calls (c ∷ []));
      within = λ i line e. omega (arith, before_last calls c (length lists) h.within i line e, wide);
      lines = each_line calls marks lists l (newest_dropped (list_at lists l)) there.0
          (ap newest_dropped there.1 ∙ dropped_last (waiting calls (mark_in marks) l) (length calls))
          (λ line within ne. h.lines line within ∙ waiting_no_more calls c (mark_in marks) (mark_in (marks ++ None ∷ [])) line
          (ap (λ (o : Option ℕ). is_line o line) at ∙ is_other_line l line ne) (mark_more marks) (past_marks calls marks same));
    }

pub unissued_no_message : (calls : List Call) (marks : List (Option CallId)) (lists : List (List ℕ)) (room : ℕ) (c : Call) → InLine (calls ++ c ∷ []) (marks ++ None ∷ []) lists room → line_of (Some c.kind) ≡ None
    → InLine calls marks lists room
unissued_no_message calls marks lists room c h at =
    let same : length marks ≡ length calls = shorter calls c marks h.same in
    record {
      same = same;
      few = h.few;
      cells = omega (arith, h.cells, length-append calls (c ∷ []));
      within = before_last calls c (length lists) h.within;
      lines = λ line lt. h.lines line lt ∙ waiting_no_more calls c (mark_in marks) (mark_in (marks ++ None ∷ [])) line
          (ap (λ (o : Option ℕ). is_line o line) at) (mark_more marks) (past_marks calls marks same);
    }

-- ---- a call gets a partner

pub stands_in_line : (calls : List Call) (marks : List (Option CallId)) (lists : List (List ℕ)) (room l x : ℕ) → InLine calls marks lists room → line_of (kind_in calls x) ≡ Some l → mark_in marks x ≡ None
    → 0 < places_in (list_at lists l) x
stands_in_line calls marks lists room l x h at free =
    let lt : x < length calls = exists calls x l at in
    let e : places_in (list_at lists l) x ≡ places_in (waiting calls (mark_in marks) l) x = ap (λ (zs : List ℕ). places_in zs x) (h.lines l (h.within x l at)) in
    omega (arith, stands_once calls (mark_in marks) l x (waits_here calls (mark_in marks) l x at free) lt)

pub now_paired : (calls : List Call) (marks : List (Option CallId)) (lists : List (List ℕ)) (room l x : ℕ) (partner : CallId) → InLine calls marks lists room → line_of (kind_in calls x) ≡ Some l → mark_in marks x ≡ None
    → InLine calls (slice_set marks x (Some partner)) (with_removed lists l x) room
now_paired calls marks lists room l x partner h at free =
    let lt : l < length lists = h.within x l at in
    let marked : x < length marks = omega (arith, exists calls x l at, h.same) in
    let mark : (i : ℕ) → mark_in (slice_set marks x (Some partner)) i ≡ with_mark (mark_in marks) x (Some partner) i = λ i. mark_set marks x (Some partner) i marked in
    let here : mark_in (slice_set marks x (Some partner)) x ≡ Some partner = mark x ∙ with_mark_here (mark_in marks) x (Some partner) in
    let others : (i : ℕ) → i ≢ x → mark_in (slice_set marks x (Some partner)) i ≡ mark_in marks i = λ i ne. mark i ∙ with_mark_there (mark_in marks) x (Some partner) i ne in
    let wide : length (with_removed lists l x) ≡ length lists = length-set lists l (removed (list_at lists l) x) in
    record {
      same = length-set marks x (Some partner) ∙ h.same;
      few = omega (arith, h.few, wide);
      cells = h.cells;
      within = λ i line e. omega (arith, h.within i line e, wide);
      lines = each_line calls (slice_set marks x (Some partner)) lists l (removed (list_at lists l) x) lt
          (ap (λ (zs : List ℕ). removed zs x) (h.lines l lt) ∙ waiting_less calls (mark_in marks) (mark_in (slice_set marks x (Some partner))) l x at free (ap (λ (o : Option CallId). is_none o) here) others)
          (λ line within ne. h.lines line within ∙ waiting_but calls (mark_in marks) (mark_in (slice_set marks x (Some partner))) l line x at ne (λ i other. sym (others i other)));
    }

-- ---- a call loses its partner

pub stands_nowhere : (calls : List Call) (marks : List (Option CallId)) (lists : List (List ℕ)) (room x : ℕ) → InLine calls marks lists room → is_none (mark_in marks x) ≡ false → places lists x ≡ 0
stands_nowhere calls marks lists room x h paired =
    nowhere lists x (λ line lt. ap (λ (zs : List ℕ). places_in zs x) (h.lines line lt) ∙ stands_not calls (mark_in marks) line x (waits_paired calls (mark_in marks) line x paired))

-- what stands in the line of a paired call is what would stand there if it were free, without it
left_behind : (calls : List Call) (marks : List (Option CallId)) (lists : List (List ℕ)) (room l x : ℕ) → InLine calls marks lists room → line_of (kind_in calls x) ≡ Some l → is_none (mark_in marks x) ≡ false
    → removed (waiting calls (with_mark (mark_in marks) x None) l) x ≡ list_at lists l
left_behind calls marks lists room l x h at paired =
    waiting_less calls (with_mark (mark_in marks) x None) (mark_in marks) l x at (with_mark_here (mark_in marks) x None) paired (λ i ne. sym (with_mark_there (mark_in marks) x None i ne))
    ∙ sym (h.lines l (h.within x l at))

pub spot_in_line : (calls : List Call) (marks : List (Option CallId)) (lists : List (List ℕ)) (room l x : ℕ) (spot : Option ℕ) → InLine calls marks lists room → line_of (kind_in calls x) ≡ Some l → is_none (mark_in marks x) ≡ false
    → spot ≡ next_of (waiting calls (with_mark (mark_in marks) x None) l) x → HasSpot (list_at lists l) spot
spot_in_line calls marks lists room l x spot h at paired is =
    subst (λ (o : Option ℕ). HasSpot (list_at lists l) o) (sym is)
    (subst (λ (zs : List ℕ). HasSpot zs (next_of (waiting calls (with_mark (mark_in marks) x None) l) x)) (left_behind calls marks lists room l x h at paired)
    (spot_stays x (waiting calls (with_mark (mark_in marks) x None) l)))

pub now_free : (calls : List Call) (marks : List (Option CallId)) (lists : List (List ℕ)) (room l x : ℕ) (spot : Option ℕ) → InLine calls marks lists room → line_of (kind_in calls x) ≡ Some l → is_none (mark_in marks x) ≡ false
    → spot ≡ next_of (waiting calls (with_mark (mark_in marks) x None) l) x → InLine calls (slice_set marks x None) (with_inserted lists l x spot) room
now_free calls marks lists room l x spot h at paired is =
    let lt : l < length lists = h.within x l at in
    let there : x < length calls = exists calls x l at in
    let marked : x < length marks = omega (arith, h.same) in
    let mark : (i : ℕ) → mark_in (slice_set marks x None) i ≡ with_mark (mark_in marks) x None i = λ i. mark_set marks x None i marked in
    let whole : List ℕ = waiting calls (with_mark (mark_in marks) x None) l in
    let once : places_in whole x ≡ 1 = stands_once calls (with_mark (mark_in marks) x None) l x (waits_here calls (with_mark (mark_in marks) x None) l x at (with_mark_here (mark_in marks) x None)) there in
    let wide : length (with_inserted lists l x spot) ≡ length lists = length-set lists l (inserted (list_at lists l) x spot) in
    record {
      same = length-set marks x None ∙ h.same;
      few = omega (arith, h.few, wide);
      cells = h.cells;
      within = λ i line e. omega (arith, h.within i line e, wide);
      lines = each_line calls (slice_set marks x None) lists l (inserted (list_at lists l) x spot) lt
          (ap (λ (zs : List ℕ). inserted zs x spot) (sym (left_behind calls marks lists room l x h at paired))
          ∙ ap (inserted (removed whole x) x) is
          ∙ put_back x whole (omega arith) (stands_at_most_once calls (with_mark (mark_in marks) x None) l)
          ∙ waiting_same calls (with_mark (mark_in marks) x None) (mark_in (slice_set marks x None)) l (λ i. sym (mark i)))
          (λ line within ne. h.lines line within ∙ waiting_but calls (mark_in marks) (mark_in (slice_set marks x None)) l line x at ne
          (λ i other. sym (mark i ∙ with_mark_there (mark_in marks) x None i other)));
    }

-- ---- the last call, as it is taken off

mark_seam : (marks : List (Option CallId)) (m : Option CallId) → mark_in (marks ++ m ∷ []) (length marks) ≡ m
mark_seam [] m = refl
mark_seam (x ∷ marks) m = mark_seam marks m

popped_mark : (A B : Type 0) (marks marks1 : List (Option CallId)) (taken : Option (Option CallId)) (n : ℕ) → marks ≡ marks1 ++ option_to_list taken → IfNone taken ((marks ≡ []) × A × B) → length marks ≡ n → 0 < n → mark_in marks (n - 1) ≡ None
    → marks ≡ marks1 ++ None ∷ []
popped_mark A B marks marks1 None n e empty long some free = absurd (let none : length marks ≡ 0 = ap length empty.0 in omega arith)
popped_mark A B marks marks1 (Some m) n e empty long some free =
    let counted : length marks ≡ length marks1 + 1 = ap length e ∙ length-append marks1 (m ∷ []) in
    let at : n - 1 ≡ length marks1 = omega arith in
    let is : m ≡ None = sym (mark_seam marks1 m) ∙ ap (λ (zs : List (Option CallId)). mark_in zs (length marks1)) (sym e) ∙ ap (mark_in marks) (sym at) ∙ free in
    e ∙ ap (λ (x : Option CallId). marks1 ++ x ∷ []) is

-- the side before its last call is taken back
pub still_in_line : (A B : Type 0) (calls calls1 : List Call) (marks marks1 : List (Option CallId)) (lists : List (List ℕ)) (room : ℕ) (c : Call) (taken : Option (Option CallId)) → InLine calls marks lists room
    → calls ≡ calls1 ++ c ∷ [] → marks ≡ marks1 ++ option_to_list taken → IfNone taken ((marks ≡ []) × A × B) → mark_in marks (length calls - 1) ≡ None
    → InLine (calls1 ++ c ∷ []) (marks1 ++ None ∷ []) lists room
still_in_line A B calls calls1 marks marks1 lists room c taken h ec em empty free =
    let some : length calls ≡ length calls1 + 1 = ap length ec ∙ length-append calls1 (c ∷ []) in
    let is : marks ≡ marks1 ++ None ∷ [] = popped_mark A B marks marks1 taken (length calls) em empty h.same (omega arith) free in
    subst (λ (zs : List Call). InLine zs (marks1 ++ None ∷ []) lists room) ec (subst (λ (zs : List (Option CallId)). InLine calls zs lists room) is h)

pub kind_taken : (calls calls1 : List Call) (c : Call) → calls ≡ calls1 ++ c ∷ [] → kind_in calls (length calls - 1) ≡ Some c.kind
kind_taken calls calls1 c e =
    let at : length calls - 1 ≡ length calls1 = omega (arith, ap length e, length-append calls1 (c ∷ [])) in
    ap (kind_in calls) at ∙ ap (λ (zs : List Call). kind_in zs (length calls1)) e ∙ kind_last calls1 c

pub written_once : (A : Type 0) (marks : List (Option CallId)) (taken : Option (Option CallId)) (writes more room more_room : ℕ) → IfSome taken (λ _. (more_room ≡ room + 1) × (more ≡ writes + 1)) → IfNone taken ((marks ≡ []) × A × (more ≡ writes)) → 0 < length marks → more ≡ writes + 1
written_once A marks None writes more room more_room last empty some = absurd (let none : length marks ≡ 0 = ap length empty.0 in omega arith)
written_once A marks (Some m) writes more room more_room last empty some = last.1

pub writes_no_line : (kind : CallKind) → line_of (Some kind) ≡ None → unissue_writes (Some kind) ≡ 2
writes_no_line (Send s) e = absurd (cc)
writes_no_line (Recv r) e = absurd (cc)
writes_no_line kind e = refl

pub writes_in_line : (kind : CallKind) (line : ℕ) → line_of (Some kind) ≡ Some line → unissue_writes (Some kind) ≡ 4
writes_in_line (Send s) line e = refl
writes_in_line (Recv r) line e = refl
writes_in_line kind line e = absurd (cc)

-- ---- for calls of the lists

some_line : (o : Option ℕ) → is_none o ≡ false → (line : ℕ) × (o ≡ Some line)
some_line None e = absurd (cc)
some_line (Some line) e = (line, refl)

pub free_stands : (calls : List Call) (marks : List (Option CallId)) (lists : List (List ℕ)) (room x : ℕ) → InLine calls marks lists room → is_none (line_of (kind_in calls x)) ≡ false → mark_in marks x ≡ None → 0 < places lists x
free_stands calls marks lists room x h has free =
    let own = some_line (line_of (kind_in calls x)) has in
    omega (arith, stands_in_line calls marks lists room own.0 x h own.1 free, places_of_one lists own.0 x (h.within x own.0 own.1))

pub moved : (calls calls' : List Call) (marks marks' : List (Option CallId)) (lists lists' : List (List ℕ)) (room room' : ℕ)
    → calls' ≡ calls → marks' ≡ marks → lists' ≡ lists → room' ≡ room → InLine calls marks lists room → InLine calls' marks' lists' room'
moved calls calls' marks marks' lists lists' room room' ec em el er h =
    subst (λ (z : List Call). InLine z marks' lists' room') (sym ec) (subst (λ (z : List (Option CallId)). InLine calls z lists' room') (sym em)
    (subst (λ (z : List (List ℕ)). InLine calls marks z room') (sym el) (subst (λ (z : ℕ). InLine calls marks lists z) (sym er) h)))
