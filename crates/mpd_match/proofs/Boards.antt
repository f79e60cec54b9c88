-- The lines of sides are the lists of a board.
use Rattle.std.proofs.Common.{◌≡◌, ◌≢◌, ℕ, zero, suc, ◌+◌, ◌-◌, ◌<◌, ◌≤◌, Bool, true, false, ◌&&◌, eqb, is_some, is_none, Option, Some, None, List, [], ◌∷◌, ◌++◌, inl, inr, refl, sym, ap, subst, ◌∙◌, length, set, get_or, take, slice_get, slice_set, replicate, append-nil, length-append, option_to_list, IfSome, IfNone, arith}
use Rattle.std.proofs.lemmas.Bool.{cases_eq, cases_lt, eq-eqb, ne_eqb, eqb-true, and_parts}
use Rattle.std.proofs.lemmas.Bool.Decides.{eqb_tells}
use Rattle.std.proofs.lemmas.List.{length-map, length-replicate, set-set, take_at, get_or_past}
use Rattle.std.specs.List.{range_with_len}
use Rattle.mpd_model.specs.declared.step.CallId.{CallId}
use Rattle.mpd_model.specs.declared.call.Call.{Call}
use Rattle.mpd_model.specs.declared.call.Mode.{Mode}
use Rattle.mpd_model.specs.declared.call.CallKind.{CallKind}
use Rattle.mpd_model.specs.declared.call.CallKind.TheVariants.{Send, Recv}
use Rattle.mpd_model.specs.declared.call.MatchSet.{MatchSet}
use Rattle.mpd_model.specs.declared.call.MatchSet.TheVariants.{Pair, Woke}
use Rattle.mpd_model.specs.declared.call.MatchSet.TheVariants as set
use Rattle.mpd_model.specs.steps.World.{Board, call_id, listed_calls, calls_of, kind_of, kind_at, partner, is_message_kind, is_free, sends_to, receives, fits, fitting, is_pending, is_posted, pending, posted, eligible, last_call}
use Rattle.mpd_queue.specs.InOrder.{next_of}
use Rattle.mpd_match.specs.Views.{SideView, no_side, side_at, calls_in, lines_in, board_in}
use Rattle.mpd_match.specs.Lines.{line_of, is_line, kind_in, mark_in, with_mark, waits, waiting, mark_at, kind_on, waiting_on, with_partner}
use Rattle.mpd_match.specs.Pairs.{Paired}
use Rattle.mpd_match.specs.Held.{Meets}
use Rattle.mpd_match.specs.declared.record.PairRecord.{PairRecord}
use Rattle.mpd_match.specs.Changes.{without_last_call, without_last_set, last_set, record_of_pair, Recorded, is_woke, is_lone}
use Rattle.mpd_match.proofs.Passed.{passed_same}
use Rattle.mpd_match.proofs.InLines.{get_seam, kind_past, kind_before, with_mark_here, with_mark_there, waiting_same, waiting_but}
use Rattle.mpd_match.proofs.AtSide.{listed_at, read_side}
use Rattle.mpd_match.proofs.Partners.{with_partner_there, partner_lone, new_first, new_second, new_past, paired_marks, unpaired_marks, fitting_lines, fitting_differ, paired_kept, paired_more, paired_lone, unpaired_lone, last_paired}
use Rattle.mpd_match.proofs.Bools.{and_false, none_only}

-- ---- a line is a list of the board

and_turned : (a b : Bool) → (a && b) ≡ (b && a)
and_turned true true = refl
and_turned true false = refl
and_turned false true = refl
and_turned false false = refl

same_number : (a b : ℕ) → eqb (a + 1) (b + 1) ≡ eqb a b
same_number a b =
    elim (eqb_tells a b) [
      | inl t ↦ eq-eqb (a + 1) (b + 1) (ap (λ (n : ℕ). n + 1) t.1) ∙ sym t.0
      | inr t ↦ ne_eqb (a + 1) (b + 1) (λ e. t.1 (omega (arith, e))) ∙ sym t.0
    ]

pends : (kind : Option CallKind) (q : ℕ) (free : Bool) → (free && is_line (line_of kind) (q + 1)) ≡ (sends_to kind q && (is_message_kind kind && free))
pends (Some (Send s)) q free = ap (λ (b : Bool). free && b) (same_number s.to q) ∙ and_turned free (eqb s.to q)
pends (Some (Recv r)) q free = ap (λ (b : Bool). free && b) (ne_eqb 0 (q + 1) (λ e. absurd (omega arith))) ∙ and_false free
pends kind q free = and_false free

posts : (kind : Option CallKind) (free : Bool) → (free && is_line (line_of kind) 0) ≡ (receives kind && (is_message_kind kind && free))
posts (Some (Send s)) free = ap (λ (b : Bool). free && b) (ne_eqb (s.to + 1) 0 (λ e. absurd (omega arith))) ∙ and_false free
posts (Some (Recv r)) free = and_turned free true
posts kind free = and_false free

pending_is : (b : Board) (p q : ℕ) (mark : ℕ → Option CallId) → ((i : ℕ) → mark i ≡ partner b.sets (call_id p i)) → waiting (calls_of b p) mark (q + 1) ≡ pending b p q
pending_is b p q mark e =
    passed_same (waits (calls_of b p) mark (q + 1)) (is_pending b p q) (range_with_len 0 (length (calls_of b p))) (λ i has.
    ap (λ (o : Option CallId). is_none o && is_line (line_of (kind_in (calls_of b p) i)) (q + 1)) (e i)
    ∙ pends (kind_in (calls_of b p) i) q (is_none (partner b.sets (call_id p i))))

posted_is : (b : Board) (p : ℕ) (mark : ℕ → Option CallId) → ((i : ℕ) → mark i ≡ partner b.sets (call_id p i)) → waiting (calls_of b p) mark 0 ≡ posted b p
posted_is b p mark e =
    passed_same (waits (calls_of b p) mark 0) (is_posted b p) (range_with_len 0 (length (calls_of b p))) (λ i has.
    ap (λ (o : Option CallId). is_none o && is_line (line_of (kind_in (calls_of b p) i)) 0) (e i)
    ∙ posts (kind_in (calls_of b p) i) (is_none (partner b.sets (call_id p i))))

pub pending_of : (mode : Mode) (sides : List SideView) (sets : List MatchSet) (p q : ℕ) (mark : ℕ → Option CallId) → ((i : ℕ) → mark i ≡ partner sets (call_id p i))
    → waiting (side_at sides p).calls mark (q + 1) ≡ pending (board_in mode sides sets) p q
pending_of mode sides sets p q mark e = ap (λ (calls : List Call). waiting calls mark (q + 1)) (sym (listed_at sides p)) ∙ pending_is (board_in mode sides sets) p q mark e

pub posted_of : (mode : Mode) (sides : List SideView) (sets : List MatchSet) (p : ℕ) (mark : ℕ → Option CallId) → ((i : ℕ) → mark i ≡ partner sets (call_id p i))
    → waiting (side_at sides p).calls mark 0 ≡ posted (board_in mode sides sets) p
posted_of mode sides sets p mark e = ap (λ (calls : List Call). waiting calls mark 0) (sym (listed_at sides p)) ∙ posted_is (board_in mode sides sets) p mark e

pub pending_on : (mode : Mode) (sides : List SideView) (sets : List MatchSet) (p q : ℕ) → Meets (board_in mode sides sets) sides → waiting_on sides p (q + 1) ≡ pending (board_in mode sides sets) p q
pending_on mode sides sets p q h = pending_of mode sides sets p q (mark_in (side_at sides p).marks) (λ i. h.marks (call_id p i))

pub posted_on : (mode : Mode) (sides : List SideView) (sets : List MatchSet) (p : ℕ) → Meets (board_in mode sides sets) sides → waiting_on sides p 0 ≡ posted (board_in mode sides sets) p
posted_on mode sides sets p h = posted_of mode sides sets p (mark_in (side_at sides p).marks) (λ i. h.marks (call_id p i))

-- ---- calls of sides and of the board

pub kind_is : (mode : Mode) (sides : List SideView) (sets : List MatchSet) (c : CallId) → kind_on sides c ≡ kind_at (board_in mode sides sets) c
kind_is mode sides sets c = ap (λ (calls : List Call). kind_in calls c.index) (sym (listed_at sides c.rank))

pub side_calls : (sides others : List SideView) (p : ℕ) → calls_in others ≡ calls_in sides → (side_at others p).calls ≡ (side_at sides p).calls
side_calls sides others p e = sym (listed_at others p) ∙ ap (λ (zs : List (List Call)). listed_calls (slice_get zs p)) e ∙ listed_at sides p

pub kind_stays : (sides others : List SideView) (c : CallId) → calls_in others ≡ calls_in sides → kind_on others c ≡ kind_on sides c
kind_stays sides others c e = ap (λ (calls : List Call). kind_in calls c.index) (side_calls sides others c.rank e)

pub as_many_sides : (sides others : List SideView) → lines_in others ≡ lines_in sides → length others ≡ length sides
as_many_sides sides others e = sym (length-map others (λ (v : SideView). v.lines)) ∙ ap length e ∙ length-map sides (λ (v : SideView). v.lines)

-- a call that has a line is of a rank that is there
pub side_exists : (sides : List SideView) (c : CallId) (line : ℕ) → line_of (kind_on sides c) ≡ Some line → c.rank < length sides
side_exists sides c line e =
    elim (cases_lt c.rank (length sides)) [
      | inl lt ↦ lt
      | inr ge ↦
          let none : side_at sides c.rank ≡ no_side = get_or_past sides c.rank no_side ge in
          let f : line_of (kind_on sides c) ≡ None = ap (λ (v : SideView). line_of (kind_in v.calls c.index)) none in absurd (cc)
    ]

-- ---- what eligible calls are

pub free_partner : (b : Board) (c : CallId) → is_free b c ≡ true → partner b.sets c ≡ None
free_partner b c e = none_only (partner b.sets c) (and_parts (is_message_kind (kind_at b c)) (is_none (partner b.sets c)) e).1

pub eligible_tells : (b : Board) (s r : CallId) → eligible b s r ≡ true → (partner b.sets s ≡ None) × (partner b.sets r ≡ None) × (fitting (kind_at b s) (kind_at b r) s.rank r.rank ≡ true)
eligible_tells b s r e =
    let first = and_parts (is_free b s) _ e in
    let second = and_parts (is_free b r) _ first.1 in
    let third = and_parts (fits b s r) _ second.1 in
    (free_partner b s first.0, free_partner b r second.0, third.0)

-- ---- the invariant

pub meets_again : (mode : Mode) (sides others : List SideView) (sets more : List MatchSet) → lines_in others ≡ lines_in sides → ((c : CallId) → mark_at others c ≡ partner more c)
    → Paired (kind_at (board_in mode others more)) more → Meets (board_in mode sides sets) sides → Meets (board_in mode others more) others
meets_again mode sides others sets more e marks paired h =
    let many : length others ≡ length sides = as_many_sides sides others e in
    record {
      few = omega (arith, h.few, many);
      lines = e ∙ h.lines ∙ ap (λ (n : ℕ). replicate n (suc n)) (sym many);
      marks = marks;
      paired = paired;
    }

-- before any call
pub meets_new : (mode : Mode) (sides : List SideView) (sets : List MatchSet) (n : ℕ) → n ≤ 16 → calls_in sides ≡ replicate n [] → ((c : CallId) → mark_at sides c ≡ None) → lines_in sides ≡ replicate n (suc n) → sets ≡ []
    → Meets (board_in mode sides sets) sides
meets_new mode sides sets n few ec marks el es =
    let many : length sides ≡ n = sym (length-map sides (λ (v : SideView). v.calls)) ∙ ap length ec ∙ length-replicate n [] in
    subst (λ (zs : List MatchSet). Meets (board_in mode sides zs) sides) (sym es) (record {
      few = omega (arith, few, many);
      lines = el ∙ ap (λ (k : ℕ). replicate k (suc k)) (sym many);
      marks = marks;
      paired = tt;
    })

kinds_stay : (mode : Mode) (sides others : List SideView) (sets more : List MatchSet) (c : CallId) → calls_in others ≡ calls_in sides → kind_at (board_in mode others more) c ≡ kind_at (board_in mode sides sets) c
kinds_stay mode sides others sets more c e = ap (λ (zs : List (List Call)). kind_of (slice_get (listed_calls (slice_get zs c.rank)) c.index)) e

-- a match set more that pairs no calls, and one less
pub meets_lone : (mode : Mode) (sides : List SideView) (sets more : List MatchSet) (m : MatchSet) → is_lone (Some m) ≡ true → more ≡ sets ++ m ∷ [] → Meets (board_in mode sides sets) sides
    → Meets (board_in mode sides more) sides
meets_lone mode sides sets more m lone e h =
    subst (λ (zs : List MatchSet). Meets (board_in mode sides zs) sides) (sym e)
    (meets_again mode sides sides sets (sets ++ m ∷ []) refl (λ c. h.marks c ∙ sym (partner_lone sets m c lone)) (paired_lone (kind_at (board_in mode sides sets)) sets m lone h.paired) h)

pub last_is : (mode : Mode) (sides : List SideView) (sets before : List MatchSet) (m : MatchSet) → sets ≡ before ++ m ∷ [] → last_set (board_in mode sides sets) ≡ Some m
last_is mode sides sets before m e =
    let at : length sets - 1 ≡ length before = omega (arith, ap length e, length-append before (m ∷ [])) in
    ap (slice_get sets) at ∙ ap (λ (zs : List MatchSet). slice_get zs (length before)) e ∙ get_seam before m

pub meets_dropped : (mode : Mode) (sides : List SideView) (sets before : List MatchSet) (taken : Option MatchSet) → sets ≡ before ++ option_to_list taken → is_lone (last_set (board_in mode sides sets)) ≡ true
    → Meets (board_in mode sides sets) sides → Meets (board_in mode sides before) sides
meets_dropped mode sides sets before None e lone h = subst (λ (zs : List MatchSet). Meets (board_in mode sides zs) sides) (e ∙ append-nil before) h
meets_dropped mode sides sets before (Some m) e lone h =
    let alone : is_lone (Some m) ≡ true = sym (ap is_lone (last_is mode sides sets before m e)) ∙ lone in
    let h2 : Meets (board_in mode sides (before ++ m ∷ [])) sides = subst (λ (zs : List MatchSet). Meets (board_in mode sides zs) sides) e h in
    meets_again mode sides sides (before ++ m ∷ []) before refl (λ c. h2.marks c ∙ partner_lone before m c alone) (unpaired_lone (kind_at (board_in mode sides before)) before m alone h2.paired) h2

pub woke_lone : (o : Option MatchSet) → is_woke o ≡ true → is_lone o ≡ true
woke_lone (Some (Pair s r)) e = absurd (cc)
woke_lone (Some (Woke c)) e = refl
woke_lone (Some set.Barrier) e = refl
woke_lone None e = absurd (cc)

pub popped_room : (sets : List MatchSet) (taken : Option MatchSet) (room more writes all : ℕ) → IfSome taken (λ _. (more ≡ room + 1) × (all ≡ writes + 1)) → IfNone taken ((sets ≡ []) × (more ≡ room) × (all ≡ writes)) → room ≤ more
popped_room sets None room more writes all some none = let e : more ≡ room = none.1 in omega arith
popped_room sets (Some m) room more writes all some none = let e : more ≡ room + 1 = some.0 in omega arith

-- ---- a pair is formed

pub meets_pair : (mode : Mode) (sides mid new : List SideView) (sets more : List MatchSet) (s r : CallId) → more ≡ sets ++ Pair s r ∷ [] → eligible (board_in mode sides sets) s r ≡ true
    → calls_in mid ≡ calls_in sides → lines_in mid ≡ lines_in sides → ((c : CallId) → mark_at mid c ≡ with_partner (mark_at sides) s (Some r) c)
    → calls_in new ≡ calls_in mid → lines_in new ≡ lines_in mid → ((c : CallId) → mark_at new c ≡ with_partner (mark_at mid) r (Some s) c)
    → Meets (board_in mode sides sets) sides → Meets (board_in mode new more) new
meets_pair mode sides mid new sets more s r e able ec el em fc fl fm h =
    let b : Board = board_in mode sides sets in
    let t = eligible_tells b s r able in
    let ne : s ≢ r = fitting_differ (kind_at b) s r t.2 in
    let paired : Paired (kind_at b) (sets ++ Pair s r ∷ []) = paired_more (kind_at b) sets s r h.paired t.2 t.0 t.1 in
    subst (λ (zs : List MatchSet). Meets (board_in mode new zs) new) (sym e)
    (meets_again mode sides new sets (sets ++ Pair s r ∷ []) (fl ∙ el)
    (paired_marks (mark_at sides) (mark_at mid) (mark_at new) sets s r ne t.0 t.1 h.marks em fm)
    (paired_kept (kind_at b) (kind_at (board_in mode new (sets ++ Pair s r ∷ []))) (sets ++ Pair s r ∷ []) (λ c some named. kinds_stay mode sides new sets (sets ++ Pair s r ∷ []) c (fc ∙ ec)) paired) h)

pub lines_of_pair : (mode : Mode) (sides : List SideView) (sets : List MatchSet) (s r : CallId) → eligible (board_in mode sides sets) s r ≡ true
    → (line_of (kind_on sides s) ≡ Some (r.rank + 1)) × (line_of (kind_on sides r) ≡ Some 0)
lines_of_pair mode sides sets s r able =
    let b : Board = board_in mode sides sets in
    let lines = fitting_lines (kind_at b s) (kind_at b r) s.rank r.rank (eligible_tells b s r able).2 in
    (ap line_of (kind_is mode sides sets s) ∙ lines.0, ap line_of (kind_is mode sides sets r) ∙ lines.1)

-- a line in which a call doesn't stand is as before, whatever its partner
pub other_line : (sides mid : List SideView) (s : CallId) (partner : Option CallId) (own line p : ℕ) → calls_in mid ≡ calls_in sides → ((c : CallId) → mark_at mid c ≡ with_partner (mark_at sides) s partner c)
    → line_of (kind_on sides s) ≡ Some own → line ≢ own → waiting_on mid p line ≡ waiting_on sides p line
other_line sides mid s partner own line p ec em at ne =
    let calls : List Call = (side_at sides p).calls in
    let same : waiting_on mid p line ≡ waiting calls (mark_in (side_at mid p).marks) line = ap (λ (zs : List Call). waiting zs (mark_in (side_at mid p).marks) line) (side_calls sides mid p ec) in
    let others : (i : ℕ) → s ≢ call_id p i → mark_in (side_at mid p).marks i ≡ mark_in (side_at sides p).marks i = λ i other. em (call_id p i) ∙ with_partner_there (mark_at sides) s partner (call_id p i) other in
    elim (cases_eq p s.rank) [
      | inl is ↦
          let there : line_of (kind_in calls s.index) ≡ Some own = ap (λ (k : ℕ). line_of (kind_in (side_at sides k).calls s.index)) is ∙ at in
          same ∙ waiting_but calls (mark_in (side_at mid p).marks) (mark_in (side_at sides p).marks) own line s.index there ne (λ i far. others i (λ e. far (sym (ap (λ (c : CallId). c.index) e))))
      | inr far ↦ same ∙ waiting_same calls (mark_in (side_at mid p).marks) (mark_in (side_at sides p).marks) line (λ i. others i (λ e. far (sym (ap (λ (c : CallId). c.rank) e))))
    ]

-- ---- a pair is taken back

pub recorded_last : (mode : Mode) (sides : List SideView) (sets before : List MatchSet) (s r : CallId) (done : PairRecord) → sets ≡ before ++ Pair s r ∷ []
    → Recorded (without_last_set (board_in mode sides sets)) done (last_set (board_in mode sides sets)) → done ≡ record_of_pair (board_in mode sides before) s r
recorded_last mode sides sets before s r done e h =
    let at : length sets - 1 ≡ length before = omega (arith, ap length e, length-append before (Pair s r ∷ [])) in
    let less : take (length sets - 1) sets ≡ before = ap (λ (k : ℕ). take k sets) at ∙ ap (take (length before)) e ∙ take_at before (Pair s r ∷ []) (length before) refl in
    let h2 : Recorded (without_last_set (board_in mode sides sets)) done (Some (Pair s r)) = subst (λ (o : Option MatchSet). Recorded (without_last_set (board_in mode sides sets)) done o) (last_is mode sides sets before (Pair s r) e) h in
    subst (λ (zs : List MatchSet). done ≡ record_of_pair (board_in mode sides zs) s r) less h2

pub recorded_new : (mode : Mode) (sides new : List SideView) (sets more : List MatchSet) (s r : CallId) (done : PairRecord) → more ≡ sets ++ Pair s r ∷ [] → calls_in new ≡ calls_in sides
    → done ≡ record_of_pair (board_in mode sides sets) s r → Recorded (without_last_set (board_in mode new more)) done (last_set (board_in mode new more))
recorded_new mode sides new sets more s r done e ec h =
    let at : length more - 1 ≡ length sets = omega (arith, ap length e, length-append sets (Pair s r ∷ [])) in
    let less : take (length more - 1) more ≡ sets = ap (λ (k : ℕ). take k more) at ∙ ap (take (length sets)) e ∙ take_at sets (Pair s r ∷ []) (length sets) refl in
    let back : without_last_set (board_in mode new more) ≡ board_in mode sides sets = λ k. record { mode = mode; calls = ec k; sets = less k } in
    subst (λ (o : Option MatchSet). Recorded (without_last_set (board_in mode new more)) done o) (sym (last_is mode new more sets (Pair s r) e))
    (subst (λ (b : Board). done ≡ record_of_pair b s r) (sym back) h)

pub pair_of : (mode : Mode) (sides : List SideView) (sets before : List MatchSet) (s r : CallId) → sets ≡ before ++ Pair s r ∷ [] → Meets (board_in mode sides sets) sides → Meets (board_in mode sides (before ++ Pair s r ∷ [])) sides
pair_of mode sides sets before s r e h = subst (λ (zs : List MatchSet). Meets (board_in mode sides zs) sides) e h

pub lines_of_last : (mode : Mode) (sides : List SideView) (sets : List MatchSet) (s r : CallId) → Meets (board_in mode sides (sets ++ Pair s r ∷ [])) sides → (line_of (kind_on sides s) ≡ Some (r.rank + 1)) × (line_of (kind_on sides r) ≡ Some 0)
lines_of_last mode sides sets s r h =
    let b : Board = board_in mode sides (sets ++ Pair s r ∷ []) in
    let lines = fitting_lines (kind_at b s) (kind_at b r) s.rank r.rank (last_paired (kind_at b) sets s r h.paired).0 in
    (ap line_of (kind_is mode sides (sets ++ Pair s r ∷ []) s) ∙ lines.0, ap line_of (kind_is mode sides (sets ++ Pair s r ∷ []) r) ∙ lines.1)

pub send_marked : (mode : Mode) (sides : List SideView) (sets : List MatchSet) (s r : CallId) → Meets (board_in mode sides (sets ++ Pair s r ∷ [])) sides → is_none (mark_at sides s) ≡ false
send_marked mode sides sets s r h =
    let last = last_paired (kind_at (board_in mode sides (sets ++ Pair s r ∷ []))) sets s r h.paired in
    ap (λ (o : Option CallId). is_none o) (h.marks s ∙ new_first sets s r last.1)

pub recv_marked : (mode : Mode) (sides mid : List SideView) (sets : List MatchSet) (s r : CallId) → Meets (board_in mode sides (sets ++ Pair s r ∷ [])) sides → ((c : CallId) → mark_at mid c ≡ with_partner (mark_at sides) s None c)
    → is_none (mark_at mid r) ≡ false
recv_marked mode sides mid sets s r h em =
    let kind : CallId → Option CallKind = kind_at (board_in mode sides (sets ++ Pair s r ∷ [])) in
    let last = last_paired kind sets s r h.paired in
    let ne : s ≢ r = fitting_differ kind s r last.0 in
    ap (λ (o : Option CallId). is_none o) (em r ∙ with_partner_there (mark_at sides) s None r ne ∙ h.marks r ∙ new_second sets s r ne last.2)

pub send_line : (mode : Mode) (sides : List SideView) (sets : List MatchSet) (s r : CallId) → Meets (board_in mode sides (sets ++ Pair s r ∷ [])) sides
    → waiting (side_at sides s.rank).calls (with_mark (mark_in (side_at sides s.rank).marks) s.index None) (r.rank + 1) ≡ pending (board_in mode sides sets) s.rank r.rank
send_line mode sides sets s r h =
    let last = last_paired (kind_at (board_in mode sides (sets ++ Pair s r ∷ []))) sets s r h.paired in
    let calls : List Call = (side_at sides s.rank).calls in
    let mark : ℕ → Option CallId = mark_in (side_at sides s.rank).marks in
    let after : ℕ → Option CallId = λ i. partner sets (call_id s.rank i) in
    let same : (i : ℕ) → r ≢ call_id s.rank i → with_mark mark s.index None i ≡ after i = λ i far.
    elim (cases_eq i s.index) [
      | inl is ↦ ap (with_mark mark s.index None) is ∙ with_mark_here mark s.index None ∙ sym last.1 ∙ ap (λ (k : ℕ). after k) (sym is)
      | inr ne ↦ with_mark_there mark s.index None i ne ∙ h.marks (call_id s.rank i) ∙ new_past sets s r (call_id s.rank i) (λ e. ne (sym (ap (λ (c : CallId). c.index) e))) far
    ] in
    let line : waiting calls (with_mark mark s.index None) (r.rank + 1) ≡ waiting calls after (r.rank + 1) = elim (cases_eq s.rank r.rank) [
      | inl is ↦
          let there : line_of (kind_in calls r.index) ≡ Some 0 = ap (λ (k : ℕ). line_of (kind_in (side_at sides k).calls r.index)) is ∙ (lines_of_last mode sides sets s r h).1 in
          waiting_but calls (with_mark mark s.index None) after 0 (r.rank + 1) r.index there (λ e. absurd (omega arith)) (λ i far. same i (λ e. far (sym (ap (λ (c : CallId). c.index) e))))
      | inr far ↦ waiting_same calls (with_mark mark s.index None) after (r.rank + 1) (λ i. same i (λ e. far (sym (ap (λ (c : CallId). c.rank) e))))
    ] in
    line ∙ pending_of mode sides sets s.rank r.rank after (λ i. refl)

pub free_again : (mode : Mode) (sides mid new : List SideView) (sets : List MatchSet) (s r : CallId) → Meets (board_in mode sides (sets ++ Pair s r ∷ [])) sides
    → ((c : CallId) → mark_at mid c ≡ with_partner (mark_at sides) s None c) → ((c : CallId) → mark_at new c ≡ with_partner (mark_at mid) r None c)
    → (c : CallId) → mark_at new c ≡ partner sets c
free_again mode sides mid new sets s r h em fm =
    let last = last_paired (kind_at (board_in mode sides (sets ++ Pair s r ∷ []))) sets s r h.paired in
    unpaired_marks (mark_at sides) (mark_at mid) (mark_at new) sets s r last.1 last.2 h.marks em fm

pub recv_line : (mode : Mode) (sides mid : List SideView) (sets : List MatchSet) (s r : CallId) → Meets (board_in mode sides (sets ++ Pair s r ∷ [])) sides → calls_in mid ≡ calls_in sides
    → ((c : CallId) → mark_at mid c ≡ with_partner (mark_at sides) s None c)
    → waiting (side_at mid r.rank).calls (with_mark (mark_in (side_at mid r.rank).marks) r.index None) 0 ≡ posted (board_in mode sides sets) r.rank
recv_line mode sides mid sets s r h ec em =
    let last = last_paired (kind_at (board_in mode sides (sets ++ Pair s r ∷ []))) sets s r h.paired in
    let mark : ℕ → Option CallId = mark_in (side_at mid r.rank).marks in
    let all : (c : CallId) → with_partner (mark_at mid) r None c ≡ partner sets c = unpaired_marks (mark_at sides) (mark_at mid) (with_partner (mark_at mid) r None) sets s r last.1 last.2 h.marks em (λ c. refl) in
    ap (λ (calls : List Call). waiting calls (with_mark mark r.index None) 0) (side_calls sides mid r.rank ec)
    ∙ posted_of mode sides sets r.rank (with_mark mark r.index None) (λ i.
    elim (cases_eq i r.index) [
      | inl is ↦
          ap (with_mark mark r.index None) is
          ∙ with_mark_here mark r.index None
          ∙ sym last.2
          ∙ ap (λ (k : ℕ). partner sets (call_id r.rank k)) (sym is)
      | inr ne ↦
          with_mark_there mark r.index None i ne
          ∙ sym (with_partner_there (mark_at mid) r None (call_id r.rank i) (λ e. ne (sym (ap (λ (c : CallId). c.index) e))))
          ∙ all (call_id r.rank i)
    ])

pub meets_unpair : (mode : Mode) (sides mid new : List SideView) (sets : List MatchSet) (s r : CallId) → Meets (board_in mode sides (sets ++ Pair s r ∷ [])) sides
    → calls_in mid ≡ calls_in sides → lines_in mid ≡ lines_in sides → ((c : CallId) → mark_at mid c ≡ with_partner (mark_at sides) s None c)
    → calls_in new ≡ calls_in mid → lines_in new ≡ lines_in mid → ((c : CallId) → mark_at new c ≡ with_partner (mark_at mid) r None c)
    → Meets (board_in mode new sets) new
meets_unpair mode sides mid new sets s r h ec el em fc fl fm =
    let kind : CallId → Option CallKind = kind_at (board_in mode sides (sets ++ Pair s r ∷ [])) in
    let last = last_paired kind sets s r h.paired in
    meets_again mode sides new (sets ++ Pair s r ∷ []) sets (fl ∙ el) (free_again mode sides mid new sets s r h em fm)
    (paired_kept kind (kind_at (board_in mode new sets)) sets (λ c some named. kinds_stay mode sides new (sets ++ Pair s r ∷ []) sets c (fc ∙ ec)) last.3) h

-- ---- calls are issued and taken back

pub listed_here : (calls : List (List Call)) (p : ℕ) (xs : List Call) → p < length calls → listed_calls (slice_get (set calls p xs) p) ≡ xs
listed_here [] p xs lt = absurd (omega arith)
listed_here (c ∷ cs) zero xs lt = refl
listed_here (c ∷ cs) (suc p) xs lt = listed_here cs p xs (omega arith)

listed_there : (calls : List (List Call)) (p q : ℕ) (xs : List Call) → q ≢ p → listed_calls (slice_get (set calls p xs) q) ≡ listed_calls (slice_get calls q)
listed_there [] p q xs ne = refl
listed_there (c ∷ cs) zero zero xs ne = absurd (ne refl)
listed_there (c ∷ cs) zero (suc q) xs ne = refl
listed_there (c ∷ cs) (suc p) zero xs ne = refl
listed_there (c ∷ cs) (suc p) (suc q) xs ne = listed_there cs p q xs (λ e. ne (ap suc e))

pub listed_back : (calls : List (List Call)) (p : ℕ) → set calls p (listed_calls (slice_get calls p)) ≡ calls
listed_back [] p = refl
listed_back (c ∷ cs) zero = refl
listed_back (c ∷ cs) (suc p) = ap (λ (zs : List (List Call)). c ∷ zs) (listed_back cs p)

is_there : (calls : List Call) (i : ℕ) → is_some (kind_in calls i) ≡ true → i < length calls
is_there calls i e =
    elim (cases_lt i (length calls)) [
      | inl lt ↦ lt
      | inr ge ↦ let f : is_some (kind_in calls i) ≡ false = ap (λ (o : Option CallKind). is_some o) (kind_past calls i ge) in absurd (cc)
    ]

kinds_issued : (calls : List (List Call)) (p : ℕ) (call : Call) (c : CallId) → p < length calls → is_some (kind_in (listed_calls (slice_get calls c.rank)) c.index) ≡ true
    → kind_in (listed_calls (slice_get (set calls p (listed_calls (slice_get calls p) ++ call ∷ [])) c.rank)) c.index ≡ kind_in (listed_calls (slice_get calls c.rank)) c.index
kinds_issued calls p call c lt some =
    let xs : List Call = listed_calls (slice_get calls p) in
    elim (cases_eq c.rank p) [
      | inl is ↦
          let old : listed_calls (slice_get calls c.rank) ≡ xs = ap (λ (k : ℕ). listed_calls (slice_get calls k)) is in
          let new : listed_calls (slice_get (set calls p (xs ++ call ∷ [])) c.rank) ≡ xs ++ call ∷ [] = ap (λ (k : ℕ). listed_calls (slice_get (set calls p (xs ++ call ∷ [])) k)) is ∙ listed_here calls p (xs ++ call ∷ []) lt in
          let there : c.index < length xs = is_there xs c.index (ap (λ (zs : List Call). is_some (kind_in zs c.index)) (sym old) ∙ some) in
          ap (λ (zs : List Call). kind_in zs c.index) new ∙ kind_before xs call c.index there ∙ ap (λ (zs : List Call). kind_in zs c.index) (sym old)
      | inr ne ↦ ap (λ (zs : List Call). kind_in zs c.index) (listed_there calls p c.rank (xs ++ call ∷ []) ne)
    ]

pub meets_issue : (mode : Mode) (sides new : List SideView) (sets : List MatchSet) (p : ℕ) (call : Call) → p < length (calls_in sides)
    → calls_in new ≡ slice_set (calls_in sides) p (listed_calls (slice_get (calls_in sides) p) ++ call ∷ []) → lines_in new ≡ lines_in sides → ((c : CallId) → mark_at new c ≡ mark_at sides c)
    → Meets (board_in mode sides sets) sides → Meets (board_in mode new sets) new
meets_issue mode sides new sets p call lt ec el em h =
    meets_again mode sides new sets sets el (λ c. em c ∙ h.marks c)
    (paired_kept (kind_at (board_in mode sides sets)) (kind_at (board_in mode new sets)) sets (λ c some named.
    ap (λ (zs : List (List Call)). kind_in (listed_calls (slice_get zs c.rank)) c.index) ec ∙ kinds_issued (calls_in sides) p call c lt some) h.paired) h

pub issue_back : (mode : Mode) (sides new : List SideView) (sets : List MatchSet) (p : ℕ) (call : Call) → p < length (calls_in sides)
    → calls_in new ≡ slice_set (calls_in sides) p (listed_calls (slice_get (calls_in sides) p) ++ call ∷ []) → without_last_call (board_in mode new sets) p ≡ board_in mode sides sets
issue_back mode sides new sets p call lt ec =
    let calls : List (List Call) = calls_in sides in
    let xs : List Call = listed_calls (slice_get calls p) in
    let less : List (List Call) → List (List Call) = λ zs. set zs p (take (length (listed_calls (slice_get zs p)) - 1) (listed_calls (slice_get zs p))) in
    let here : listed_calls (slice_get (set calls p (xs ++ call ∷ [])) p) ≡ xs ++ call ∷ [] = listed_here calls p (xs ++ call ∷ []) lt in
    let at : length (xs ++ call ∷ []) - 1 ≡ length xs = omega (arith, length-append xs (call ∷ [])) in
    let back : less (calls_in new) ≡ calls = ap less ec
    ∙ ap (λ (zs : List Call). set (set calls p (xs ++ call ∷ [])) p (take (length zs - 1) zs)) here
    ∙ ap (λ (k : ℕ). set (set calls p (xs ++ call ∷ [])) p (take k (xs ++ call ∷ []))) at
    ∙ ap (set (set calls p (xs ++ call ∷ [])) p) (take_at xs (call ∷ []) (length xs) refl)
    ∙ set-set calls p (xs ++ call ∷ []) xs
    ∙ listed_back calls p in
    ap (λ (zs : List (List Call)). record { mode = mode; calls = zs; sets = sets }) back

-- a call that was just issued has no partner
pub issued_free : (mode : Mode) (sides new : List SideView) (sets : List MatchSet) (p : ℕ) (call : Call) → p < length (calls_in sides)
    → calls_in new ≡ slice_set (calls_in sides) p (listed_calls (slice_get (calls_in sides) p) ++ call ∷ []) → ((c : CallId) → mark_at new c ≡ mark_at sides c)
    → mark_at new (call_id p (length (listed_calls (slice_get (calls_in sides) p)))) ≡ None → Meets (board_in mode sides sets) sides → partner sets (last_call (board_in mode new sets) p) ≡ None
issued_free mode sides new sets p call lt ec em free h =
    let xs : List Call = listed_calls (slice_get (calls_in sides) p) in
    let last : length (xs ++ call ∷ []) - 1 ≡ length xs = omega (arith, length-append xs (call ∷ [])) in
    let at : length (listed_calls (slice_get (calls_in new) p)) - 1 ≡ length xs = ap (λ (zs : List (List Call)). length (listed_calls (slice_get zs p)) - 1) ec
    ∙ ap (λ (zs : List Call). length zs - 1) (listed_here (calls_in sides) p (xs ++ call ∷ []) lt)
    ∙ last in
    ap (λ (k : ℕ). partner sets (call_id p k)) at ∙ sym (h.marks (call_id p (length xs))) ∙ sym (em (call_id p (length xs))) ∙ free

kind_in_take : (calls : List Call) (n i : ℕ) → i < n → kind_in (take n calls) i ≡ kind_in calls i
kind_in_take [] zero i lt = refl
kind_in_take [] (suc n) i lt = refl
kind_in_take (c ∷ cs) zero i lt = absurd (omega arith)
kind_in_take (c ∷ cs) (suc n) zero lt = refl
kind_in_take (c ∷ cs) (suc n) (suc i) lt = kind_in_take cs n i (omega arith)

kinds_unissued : (calls : List (List Call)) (p : ℕ) (c : CallId) → p < length calls → is_some (kind_in (listed_calls (slice_get calls c.rank)) c.index) ≡ true
    → c ≢ call_id p (length (listed_calls (slice_get calls p)) - 1)
    → kind_in (listed_calls (slice_get (set calls p (take (length (listed_calls (slice_get calls p)) - 1) (listed_calls (slice_get calls p)))) c.rank)) c.index ≡ kind_in (listed_calls (slice_get calls c.rank)) c.index
kinds_unissued calls p c lt some other =
    let xs : List Call = listed_calls (slice_get calls p) in
    let less : List Call = take (length xs - 1) xs in
    elim (cases_eq c.rank p) [
      | inl is ↦
          let old : listed_calls (slice_get calls c.rank) ≡ xs = ap (λ (k : ℕ). listed_calls (slice_get calls k)) is in
          let new : listed_calls (slice_get (set calls p less) c.rank) ≡ less = ap (λ (k : ℕ). listed_calls (slice_get (set calls p less) k)) is ∙ listed_here calls p less lt in
          let there : c.index < length xs = is_there xs c.index (ap (λ (zs : List Call). is_some (kind_in zs c.index)) (sym old) ∙ some) in
          let far : c.index ≢ length xs - 1 = λ e. other (λ k. record { rank = is k; index = e k }) in
          let among : c.index < length xs - 1 = omega (arith, far) in
          ap (λ (zs : List Call). kind_in zs c.index) new ∙ kind_in_take xs (length xs - 1) c.index among ∙ ap (λ (zs : List Call). kind_in zs c.index) (sym old)
      | inr ne ↦ ap (λ (zs : List Call). kind_in zs c.index) (listed_there calls p c.rank less ne)
    ]

pub meets_unissue : (mode : Mode) (sides new : List SideView) (sets : List MatchSet) (p : ℕ) → p < length (calls_in sides) → partner sets (call_id p (length (listed_calls (slice_get (calls_in sides) p)) - 1)) ≡ None
    → calls_in new ≡ slice_set (calls_in sides) p (take (length (listed_calls (slice_get (calls_in sides) p)) - 1) (listed_calls (slice_get (calls_in sides) p))) → lines_in new ≡ lines_in sides
    → ((c : CallId) → mark_at new c ≡ mark_at sides c) → Meets (board_in mode sides sets) sides → Meets (board_in mode new sets) new
meets_unissue mode sides new sets p lt free ec el em h =
    meets_again mode sides new sets sets el (λ c. em c ∙ h.marks c)
    (paired_kept (kind_at (board_in mode sides sets)) (kind_at (board_in mode new sets)) sets (λ c some named.
    ap (λ (zs : List (List Call)). kind_in (listed_calls (slice_get zs c.rank)) c.index) ec
    ∙ kinds_unissued (calls_in sides) p c lt some (λ e. let f : is_some (partner sets c) ≡ false = ap (λ (o : Option CallId). is_some o) (ap (partner sets) e ∙ free) in cc)) h.paired) h

-- ---- what comes next after a call of a list

pending_line : (kind : Option CallKind) (q : ℕ) → sends_to kind q ≡ true → line_of kind ≡ Some (q + 1)
pending_line (Some (Send s)) q e = ap (λ (n : ℕ). Some (n + 1)) (eqb-true s.to q e)
pending_line kind q e = cc

posted_line : (kind : Option CallKind) → receives kind ≡ true → line_of kind ≡ Some 0
posted_line (Some (Recv r)) e = refl
posted_line kind e = cc

pub next_pending : (mode : Mode) (sides : List SideView) (sets : List MatchSet) (id : CallId) (v : SideView) (q : ℕ) (next : Option ℕ) → Meets (board_in mode sides sets) sides → v ≡ get_or sides id.rank v
    → is_pending (board_in mode sides sets) id.rank q id.index ≡ true → ((line : ℕ) → line_of (kind_in v.calls id.index) ≡ Some line → next ≡ next_of (waiting v.calls (mark_in v.marks) line) id.index)
    → next ≡ next_of (pending (board_in mode sides sets) id.rank q) id.index
next_pending mode sides sets id v q next h read is walked =
    let b : Board = board_in mode sides sets in
    let at : line_of (kind_on sides id) ≡ Some (q + 1) = ap line_of (kind_is mode sides sets id) ∙ pending_line (kind_at b id) q (and_parts (sends_to (kind_at b id) q) (is_free b id) is).0 in
    let side : side_at sides id.rank ≡ v = read_side sides id.rank v (side_exists sides id (q + 1) at) read in
    walked (q + 1) (ap (λ (u : SideView). line_of (kind_in u.calls id.index)) (sym side) ∙ at)
    ∙ ap (λ (u : SideView). next_of (waiting u.calls (mark_in u.marks) (q + 1)) id.index) (sym side)
    ∙ ap (λ (zs : List ℕ). next_of zs id.index) (pending_on mode sides sets id.rank q h)

pub next_posted : (mode : Mode) (sides : List SideView) (sets : List MatchSet) (id : CallId) (v : SideView) (next : Option ℕ) → Meets (board_in mode sides sets) sides → v ≡ get_or sides id.rank v
    → is_posted (board_in mode sides sets) id.rank id.index ≡ true → ((line : ℕ) → line_of (kind_in v.calls id.index) ≡ Some line → next ≡ next_of (waiting v.calls (mark_in v.marks) line) id.index)
    → next ≡ next_of (posted (board_in mode sides sets) id.rank) id.index
next_posted mode sides sets id v next h read is walked =
    let b : Board = board_in mode sides sets in
    let at : line_of (kind_on sides id) ≡ Some 0 = ap line_of (kind_is mode sides sets id) ∙ posted_line (kind_at b id) (and_parts (receives (kind_at b id)) (is_free b id) is).0 in
    let side : side_at sides id.rank ≡ v = read_side sides id.rank v (side_exists sides id 0 at) read in
    walked 0 (ap (λ (u : SideView). line_of (kind_in u.calls id.index)) (sym side) ∙ at)
    ∙ ap (λ (u : SideView). next_of (waiting u.calls (mark_in u.marks) 0) id.index) (sym side)
    ∙ ap (λ (zs : List ℕ). next_of zs id.index) (posted_on mode sides sets id.rank h)

pub listed_some : (calls : List (List Call)) (p : ℕ) → 0 < length (listed_calls (slice_get calls p)) → p < length calls
listed_some [] p some = absurd (omega arith)
listed_some (c ∷ cs) zero some = omega arith
listed_some (c ∷ cs) (suc p) some = let lt : p < length cs = listed_some cs p some in omega arith
