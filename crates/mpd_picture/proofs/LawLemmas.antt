-- The arrows and bars of a drawing are the pairs and releases of the state, and its calls are the calls of the state.
use Rattle.std.proofs.Common.{◌≡◌, ◌≢◌, ℕ, zero, suc, ◌+◌, ◌-◌, ◌==◌, not, ◌⊎◌, inl, inr, Bool, true, false, cond, List, [], ◌∷◌, ◌++◌, Option, Some, None, refl, sym, ap, subst, ◌∙◌, append_assoc, append-nil, slice_get, length, map, replicate, arith}
use Rattle.std.specs.List.{filter, flat_map, slice_set, range_with_len}
use Rattle.std.specs.Option.{option_map, option_and_then}
use Rattle.std.proofs.lemmas.Grind.{flat_map-append}
use Rattle.std.proofs.lemmas.List.Elements.{filter-append}
use Rattle.std.proofs.lemmas.List.{length-append}
use Rattle.std.proofs.lemmas.List.FromFn.{map-range_with_len_more}
use Rattle.std.proofs.lemmas.Bool.{eq-eqb}
use Rattle.std.proofs.lemmas.Bool.Decides.{eqb_tells}
use Rattle.mpd_model.specs.declared.step.CallId.{CallId}
use Rattle.mpd_model.specs.declared.step.Step.{Step}
use Rattle.mpd_model.specs.declared.step.Step.TheVariants.{Local, Match, Wake, WakeAny, Release}
use Rattle.mpd_model.specs.declared.call.Call.{Call}
use Rattle.mpd_model.specs.declared.call.CallKind.{CallKind}
use Rattle.mpd_model.specs.declared.call.CallKind.TheVariants.{Send, Recv, Wait, Waitany, Barrier}
use Rattle.mpd_model.specs.declared.call.MatchSet.{MatchSet}
use Rattle.mpd_model.specs.declared.call.MatchSet.TheVariants.{Pair, Woke}
use Rattle.mpd_model.specs.declared.call.MatchSet.TheVariants as set
use Rattle.mpd_model.specs.steps.World.{World, Board, call_id, calls_of, listed_calls, rank_numbers, start, last_call, eligible, is_free, kind_at}
use Rattle.mpd_model.specs.steps.Next.{Ran, next, fold, local_at, stepped, with_issued, with_call, entered, with_set, can_wake, can_wake_any, can_release, woken, woken_any, released, waits, any_call}
use Rattle.mpd_model.specs.script.Program.{Program}
use Rattle.mpd_names.specs.declared.place.PlacedCall.{PlacedCall}
use Rattle.mpd_names.specs.Placed.{placed_call_of}
use Rattle.mpd_picture.specs.declared.glyph.Deed.{Deed}
use Rattle.mpd_picture.specs.declared.glyph.Note.{Note}
use Rattle.mpd_picture.specs.declared.glyph.Glyph.{Glyph}
use Rattle.mpd_picture.specs.declared.glyphs.Before.{Before}
use Rattle.mpd_picture.specs.declared.glyph.Mark.{Mark}
use Rattle.mpd_picture.specs.declared.glyph.Event.{Event}
use Rattle.mpd_picture.specs.declared.glyph.Event.TheVariants.{Issued, Paired, WentOn, Released, Noted}
use Rattle.mpd_picture.specs.declared.shape.Shape.{Shape}
use Rattle.mpd_picture.specs.declared.shape.Shape.TheVariants as shape
use Rattle.mpd_picture.specs.Glyphs.{glyph, issues, before_step, deed_of, noted, step_glyphs, row_behind, led, glyphs_behind, glyphs_of, went_on}
use Rattle.mpd_picture.specs.Marks.{rows_of, mark_after, marks_from, marks_of}
use Rattle.mpd_picture.specs.Shapes.{request_shapes, candidate_shapes, candidates_from, candidates, free_shapes, event_shapes, mark_shapes, lane_shapes, end_shapes, shapes_of}
use Rattle.mpd_picture.specs.declared.shape.Shape.TheVariants.{Lane, Waiting, Candidate, Request, End}
use Rattle.mpd_picture.specs.PictureLaws.{set_of_shape, is_drawn, call_of_shape, ArrowsArePairs, CallsAreDrawnOnce}

-- ---- lists whose parts give nothing

none_given : {A B C : Type 0} (g : B → List C) (f : A → List B) (xs : List A) → ((x : A) → flat_map g (f x) ≡ []) → flat_map g (flat_map f xs) ≡ []
none_given g f [] h = refl
none_given g f (x ∷ xs) h = flat_map-append g (f x) (flat_map f xs) ∙ ap (λ ys. ys ++ flat_map g (flat_map f xs)) (h x) ∙ none_given g f xs h

given_as : {A B C : Type 0} (g : B → List C) (f : A → List B) (k : A → List C) (xs : List A) → ((x : A) → flat_map g (f x) ≡ k x) → flat_map g (flat_map f xs) ≡ flat_map k xs
given_as g f k [] h = refl
given_as g f k (x ∷ xs) h = flat_map-append g (f x) (flat_map f xs) ∙ ap (λ ys. ys ++ flat_map g (flat_map f xs)) (h x) ∙ ap (λ ys. k x ++ ys) (given_as g f k xs h)

some_world : (u v : World) → Some u ≡ Some v → u ≡ v
some_world u v e = cc

-- ---- what steps show, where it is known of each step what it adds to what is seen of a world

abbrev of_glyphs : {C : Type 0} → (Event → List C) → List Glyph → List C
of_glyphs of glyphs = flat_map (λ (m : Glyph). of m.event) glyphs

abbrev of_marks : {C : Type 0} → (Event → List C) → List Mark → List C
of_marks of marks = flat_map (λ (m : Mark). of m.event) marks

module _ {C : Type 0} (seen : World → List C) (of : Event → List C) where
  -- a step of a world to another shows what joins what is seen
  abbrev Adds : World → World → List Glyph → Type 0
  Adds w v glyphs = seen v ≡ seen w ++ of_glyphs of glyphs

  abbrev StepsAdd : Type 0
  StepsAdd = (lines : List ℕ) (w v : World) (row : ℕ) (a : Step) → next w a ≡ Some v → Adds w v (step_glyphs (before_step lines w a) v row a)

  led_adds : StepsAdd → (lines : List ℕ) (w u : World) (row : ℕ) (a : Step) (steps : List Step) (o : Option World) → next w a ≡ o → option_and_then (λ v. fold v steps) o ≡ Some u
      → ((v : World) (k : ℕ) → fold v steps ≡ Some u → Adds v u (glyphs_behind lines v k steps))
      → Adds w u (led (λ v. step_glyphs (before_step lines w a) v row a ++ glyphs_behind lines v (row_behind (before_step lines w a) v row a) steps) o)
  led_adds adds lines w u row a steps None e h more = cc
  led_adds adds lines w u row a steps (Some v) e h more =
      let first : List Glyph = step_glyphs (before_step lines w a) v row a in
      let k : ℕ = row_behind (before_step lines w a) v row a in
      let rest : List Glyph = glyphs_behind lines v k steps in
      more v k h ∙ ap (λ ys. ys ++ of_glyphs of rest) (adds lines w v row a e) ∙ append_assoc (seen w) (of_glyphs of first) (of_glyphs of rest)
      ∙ ap (λ ys. seen w ++ ys) (sym (flat_map-append (λ (m : Glyph). of m.event) first rest))

  steps_add : StepsAdd → (lines : List ℕ) (w u : World) (row : ℕ) (steps : List Step) → fold w steps ≡ Some u → Adds w u (glyphs_behind lines w row steps)
  steps_add adds lines w u row [] h = ap seen (sym (some_world w u h)) ∙ sym (append-nil (seen w))
  steps_add adds lines w u row (a ∷ steps) h = led_adds adds lines w u row a steps (next w a) refl h (λ v k e. steps_add adds lines v u k steps e)

  note_shows : ((n : Note) → of (Noted n) ≡ []) → (line row p : ℕ) (o : Option Deed) → of_glyphs of (noted line row p o) ≡ []
  note_shows none line row p None = refl
  note_shows none line row p (Some d) = ap (λ ys. ys ++ []) (none (record { rank = p; line = line; deed = d }))

  gone_on_shows : ((c : CallId) → of (WentOn c) ≡ []) → (b : Board) (row : ℕ) (ranks : List ℕ) → of_glyphs of (flat_map (went_on b row) ranks) ≡ []
  gone_on_shows none b row ranks = none_given (λ (m : Glyph). of m.event) (went_on b row) ranks (λ p. ap (λ ys. ys ++ []) (none (last_call b p)))

-- ---- marks are of what steps show

marks_drawn : {C : Type 0} (of : Event → List C) (marks : List Mark) (glyphs : List Glyph) → of_marks of (marks_from marks glyphs) ≡ of_marks of marks ++ of_glyphs of glyphs
marks_drawn of marks [] = sym (append-nil (of_marks of marks))
marks_drawn of marks (m ∷ glyphs) =
    let rest : List _ = of_glyphs of glyphs in
    marks_drawn of (marks ++ mark_after marks m ∷ []) glyphs
    ∙ ap (λ ys. ys ++ rest) (flat_map-append (λ (k : Mark). of k.event) marks (mark_after marks m ∷ []) ∙ ap (λ ys. of_marks of marks ++ ys) (append-nil (of m.event)))
    ∙ append_assoc (of_marks of marks) (of m.event) rest

-- ---- what shapes are drawn for, where lanes, candidates and ends are for nothing

abbrev is_beside : Shape → Bool
is_beside (Lane p row) = true
is_beside (Waiting p from to) = true
is_beside (Candidate c from d to number) = true
is_beside (Request c from to number) = true
is_beside (End p row finish) = true
is_beside shape = false

module _ {C : Type 0} (g : Shape → List C) (beside : (x : Shape) → is_beside x ≡ true → g x ≡ []) where
  one_drawn : (x : Shape) → is_beside x ≡ true → flat_map g (x ∷ []) ≡ []
  one_drawn x h = ap (λ ys. ys ++ []) (beside x h)

  front_drawn : (b : Bool) (xs ys : List Shape) → flat_map g xs ≡ [] → flat_map g (cond b xs [] ++ ys) ≡ flat_map g ys
  front_drawn true xs ys h = flat_map-append g xs ys ∙ ap (λ zs. zs ++ flat_map g ys) h
  front_drawn false xs ys h = refl

  end_drawn : (s : Program) (w : World) (marks : List Mark) (rows p : ℕ) → flat_map g (end_shapes s w marks rows p) ≡ []
  end_drawn s w marks rows p = front_drawn (waits (slice_get w.ranks p)) _ _ (one_drawn _ refl) ∙ one_drawn _ refl

  request_drawn : (s : Program) (b : Board) (marks : List Mark) (number : ℕ) (wait : CallId) (o : Option CallId) → flat_map g (request_shapes s b marks number wait o) ≡ []
  request_drawn s b marks number wait None = refl
  request_drawn s b marks number wait (Some c) = one_drawn _ refl

  candidate_drawn : (s : Program) (w : World) (marks : List Mark) (number : ℕ) (a : Step) → flat_map g (candidate_shapes s w marks number a) ≡ []
  candidate_drawn s w marks number (Local p) = refl
  candidate_drawn s w marks number (Match c d) = one_drawn _ refl
  candidate_drawn s w marks number (Wake p) = refl
  candidate_drawn s w marks number (WakeAny p i) = request_drawn s w.board marks number (last_call w.board p) (any_call w p i)
  candidate_drawn s w marks number Release = refl

  candidates_drawn : (s : Program) (w : World) (marks : List Mark) (number : ℕ) (steps : List Step) → flat_map g (candidates_from s w marks number steps) ≡ []
  candidates_drawn s w marks number [] = refl
  candidates_drawn s w marks number (a ∷ steps) =
      flat_map-append g (candidate_shapes s w marks number a) (candidates_from s w marks (number + 1) steps)
      ∙ ap (λ ys. ys ++ flat_map g (candidates_from s w marks (number + 1) steps)) (candidate_drawn s w marks number a) ∙ candidates_drawn s w marks (number + 1) steps

  shapes_drawn : (of : Event → List C) (s : Program) (w : World) (marks : List Mark)
      → ((rows row place : ℕ) (e : Event) → flat_map g (event_shapes s w.board marks rows row place e) ≡ of e)
      → flat_map g (shapes_of s w marks) ≡ of_marks of marks
  shapes_drawn of s w marks events =
      let rows : ℕ = rows_of marks in
      let ranks : List ℕ = rank_numbers w.board in
      let lanes : List Shape = flat_map (lane_shapes rows) ranks in
      let middle : List Shape = flat_map (mark_shapes s w.board marks rows) marks in
      let listed : List Shape = candidates_from s w marks 1 (candidates w) in
      let ends : List Shape = flat_map (end_shapes s w marks rows) ranks in
      let given : List Shape → List C = flat_map g in
      flat_map-append g (lanes ++ middle ++ listed) ends
      ∙ ap (λ ys. ys ++ given ends) (flat_map-append g (lanes ++ middle) listed
      ∙ ap (λ ys. given (lanes ++ middle) ++ ys) (candidates_drawn s w marks 1 (candidates w)) ∙ append-nil (given (lanes ++ middle)))
      ∙ ap (λ ys. ys ++ given ends) (flat_map-append g lanes middle)
      ∙ ap (λ ys. ys ++ given middle ++ given ends) (none_given g (lane_shapes rows) ranks (λ p. one_drawn _ refl))
      ∙ ap (λ ys. given middle ++ ys) (none_given g (end_shapes s w marks rows) ranks (end_drawn s w marks rows))
      ∙ append-nil (given middle)
      ∙ given_as g (mark_shapes s w.board marks rows) (λ (m : Mark). of m.event) marks (λ m. events rows m.row m.place m.event)

-- ---- matches and releases

abbrev set_of_event : Event → List MatchSet
set_of_event (Paired s r) = Pair s r ∷ []
set_of_event Released = set.Barrier ∷ []
set_of_event (Issued c) = []
set_of_event (WentOn c) = []
set_of_event (Noted n) = []

abbrev drawn : World → List MatchSet
drawn w = filter is_drawn w.board.sets

issued_sets : (b : Board) (p : ℕ) (o : Option Call) → (with_issued b p o).sets ≡ b.sets
issued_sets b p None = refl
issued_sets b p (Some c) = refl

issue_shows : (b : Bool) (m : Glyph) (others : List Glyph) → set_of_event m.event ≡ [] → of_glyphs set_of_event others ≡ [] → of_glyphs set_of_event (cond b (m ∷ []) others) ≡ []
issue_shows true m others h k = ap (λ ys. ys ++ []) h
issue_shows false m others h k = k

local_adds : (w v : World) (p : ℕ) (before : Before) (row : ℕ) (o : Option Ran) → option_map (stepped w p) o ≡ Some v → Adds drawn set_of_event w v (step_glyphs before v row (Local p))
local_adds w v p before row None h = cc
local_adds w v p before row (Some done) h =
    let same : v.board.sets ≡ w.board.sets = ap (λ (u : World). u.board.sets) (sym (some_world (stepped w p done) v h)) ∙ issued_sets w.board p done.call in
    let deed : Option Deed = deed_of before.printed (slice_get v.ranks p) in
    ap (filter is_drawn) same ∙ sym (ap (λ ys. drawn w ++ ys) (issue_shows (issues before.calls v.board p) (glyph row (Issued (call_id p before.calls)))
    (noted before.line row p deed) refl (note_shows drawn set_of_event (λ n. refl) before.line row p deed)) ∙ append-nil (drawn w))

joins : (w v : World) (m : MatchSet) (b : Bool) (u : World) → u.board.sets ≡ w.board.sets ++ m ∷ [] → cond b (Some u) None ≡ Some v → drawn v ≡ drawn w ++ filter is_drawn (m ∷ [])
joins w v m false u e h = cc
joins w v m true u e h =
    let same : v.board.sets ≡ w.board.sets ++ m ∷ [] = ap (λ (x : World). x.board.sets) (sym (some_world u v h)) ∙ e in
    ap (filter is_drawn) same ∙ filter-append is_drawn w.board.sets (m ∷ [])

step_adds : StepsAdd drawn set_of_event
step_adds lines w v row (Local p) h = local_adds w v p (before_step lines w (Local p)) row (local_at w p) h
step_adds lines w v row (Match s r) h = joins w v (Pair s r) (eligible w.board s r) (record w { board = with_set w.board (Pair s r) }) refl h
step_adds lines w v row (Wake p) h = joins w v (Woke (last_call w.board p)) (can_wake w p) (woken w p) refl h
step_adds lines w v row (WakeAny p i) h = joins w v (Woke (last_call w.board p)) (can_wake_any w p i) (woken_any w p i) refl h
step_adds lines w v row Release h =
    joins w v set.Barrier (can_release w) (released w) refl h
    ∙ sym (ap (λ ys. drawn w ++ (set.Barrier ∷ ys)) (gone_on_shows drawn set_of_event (λ c. refl) v.board row (rank_numbers v.board)))

set_beside : (x : Shape) → is_beside x ≡ true → set_of_shape x ≡ []
set_beside (Lane p row) h = refl
set_beside (Waiting p from to) h = refl
set_beside (shape.Posted c from to) h = cc
set_beside (shape.Call c row place free) h = cc
set_beside (shape.Stub c row) h = cc
set_beside (shape.Arrow c from d to place) h = cc
set_beside (shape.Bar row place) h = cc
set_beside (shape.Note n row place) h = cc
set_beside (Candidate c from d to number) h = refl
set_beside (Request c from to number) h = refl
set_beside (End p row finish) h = refl

free_sets : (c : PlacedCall) (row rows : ℕ) (kind : Option CallKind) → flat_map set_of_shape (free_shapes c row rows kind) ≡ []
free_sets c row rows None = refl
free_sets c row rows (Some (Send s)) = refl
free_sets c row rows (Some (Recv r)) = refl
free_sets c row rows (Some (Wait t)) = refl
free_sets c row rows (Some (Waitany a)) = refl
free_sets c row rows (Some Barrier) = refl

event_sets : (s : Program) (b : Board) (marks : List Mark) (rows row place : ℕ) (e : Event) → flat_map set_of_shape (event_shapes s b marks rows row place e) ≡ set_of_event e
event_sets s b marks rows row place (Issued c) = front_drawn set_of_shape set_beside (is_free b c) (free_shapes (placed_call_of s b c) row rows (kind_at b c)) _ (free_sets (placed_call_of s b c) row rows (kind_at b c))
event_sets s b marks rows row place (Paired c d) = refl
event_sets s b marks rows row place (WentOn c) = refl
event_sets s b marks rows row place Released = refl
event_sets s b marks rows row place (Noted n) = refl

pub arrows : ArrowsArePairs
arrows s mode steps w h =
    let marks : List Mark = marks_of (glyphs_of s mode steps) in
    shapes_drawn set_of_shape set_beside set_of_event s w marks (event_sets s w.board marks) ∙ marks_drawn set_of_event [] (glyphs_of s mode steps)
    ∙ sym (steps_add drawn set_of_event step_adds s.lines (start s mode) w 0 steps h)

-- ---- the calls of a rank

abbrev ids : List Call → ℕ → List CallId
ids calls p = map (call_id p) (range_with_len 0 (length calls))

abbrev named : ℕ → World → List CallId
named p w = ids (calls_of w.board p) p

abbrev call_of_event : ℕ → Event → List CallId
call_of_event p (Issued c) = cond (p == c.rank) (c ∷ []) []
call_of_event p (Paired s r) = []
call_of_event p (WentOn c) = []
call_of_event p Released = []
call_of_event p (Noted n) = []

call_beside : (p : ℕ) (x : Shape) → is_beside x ≡ true → call_of_shape p x ≡ []
call_beside p (Lane q row) h = refl
call_beside p (Waiting q from to) h = refl
call_beside p (shape.Posted c from to) h = cc
call_beside p (shape.Call c row place free) h = cc
call_beside p (shape.Stub c row) h = cc
call_beside p (shape.Arrow c from d to place) h = cc
call_beside p (shape.Bar row place) h = cc
call_beside p (shape.Note n row place) h = cc
call_beside p (Candidate c from d to number) h = refl
call_beside p (Request c from to number) h = refl
call_beside p (End q row finish) h = refl

free_calls : (p : ℕ) (c : PlacedCall) (row rows : ℕ) (kind : Option CallKind) → flat_map (call_of_shape p) (free_shapes c row rows kind) ≡ []
free_calls p c row rows None = refl
free_calls p c row rows (Some (Send s)) = refl
free_calls p c row rows (Some (Recv r)) = refl
free_calls p c row rows (Some (Wait t)) = refl
free_calls p c row rows (Some (Waitany a)) = refl
free_calls p c row rows (Some Barrier) = refl

event_calls : (p : ℕ) (s : Program) (b : Board) (marks : List Mark) (rows row place : ℕ) (e : Event) → flat_map (call_of_shape p) (event_shapes s b marks rows row place e) ≡ call_of_event p e
event_calls p s b marks rows row place (Issued c) =
    front_drawn (call_of_shape p) (call_beside p) (is_free b c) (free_shapes (placed_call_of s b c) row rows (kind_at b c)) _ (free_calls p (placed_call_of s b c) row rows (kind_at b c))
    ∙ append-nil (cond (p == c.rank) (c ∷ []) [])
event_calls p s b marks rows row place (Paired c d) = refl
event_calls p s b marks rows row place (WentOn c) = refl
event_calls p s b marks rows row place Released = refl
event_calls p s b marks rows row place (Noted n) = refl

read_written : {A : Type 0} (xs : List A) (p : ℕ) (x a : A) → slice_get xs p ≡ Some x → slice_get (slice_set xs p a) p ≡ Some a
read_written [] p x a e = absurd (cc)
read_written (y ∷ ys) zero x a e = refl
read_written (y ∷ ys) (suc p) x a e = read_written ys p x a e

none_written : {A : Type 0} (xs : List A) (p : ℕ) (a : A) → slice_get xs p ≡ None → slice_get (slice_set xs p a) p ≡ None
none_written [] p a e = refl
none_written (y ∷ ys) zero a e = absurd (cc)
none_written (y ∷ ys) (suc p) a e = none_written ys p a e

others_kept : {A : Type 0} (xs : List A) (p q : ℕ) (a : A) → q ≢ p → slice_get (slice_set xs p a) q ≡ slice_get xs q
others_kept [] p q a ne = refl
others_kept (y ∷ ys) zero zero a ne = absurd (ne refl)
others_kept (y ∷ ys) zero (suc q) a ne = refl
others_kept (y ∷ ys) (suc p) zero a ne = refl
others_kept (y ∷ ys) (suc p) (suc q) a ne = others_kept ys p q a (λ e. ne (ap (λ (k : ℕ). suc k) e))

-- a board after a local step of a rank: its calls are as they were, or one joins them; those of others are as they were
abbrev HasOneMore : Board → Board → ℕ → Type 0
HasOneMore b v q = (calls_of v q ≡ calls_of b q) ⊎ ((c : Call) × (calls_of v q ≡ calls_of b q ++ c ∷ []))

written_more : (b : Board) (q : ℕ) (c : Call) (o : Option (List Call)) → slice_get b.calls q ≡ o → HasOneMore b (with_call b q c) q
written_more b q c None e = inl (ap listed_calls (none_written b.calls q (calls_of b q ++ c ∷ []) e ∙ sym e))
written_more b q c (Some calls) e = inr (c, ap listed_calls (read_written b.calls q calls (calls_of b q ++ c ∷ []) e))

issued_more : (b : Board) (q : ℕ) (o : Option Call) → HasOneMore b (with_issued b q o) q
issued_more b q None = inl refl
issued_more b q (Some c) = written_more b q (entered b q c) (slice_get b.calls q) refl

issued_elsewhere : (b : Board) (q p : ℕ) (o : Option Call) → p ≢ q → calls_of (with_issued b q o) p ≡ calls_of b p
issued_elsewhere b q p None ne = refl
issued_elsewhere b q p (Some c) ne = ap listed_calls (others_kept b.calls q p (calls_of b q ++ entered b q c ∷ []) ne)

same_ids : (p : ℕ) (xs ys : List Call) (others : List Glyph) → ys ≡ xs → of_glyphs (call_of_event p) others ≡ [] → ids ys p ≡ ids xs p ++ of_glyphs (call_of_event p) others
same_ids p xs ys others e none = ap (λ (calls : List Call). ids calls p) e ∙ sym (ap (λ zs. ids xs p ++ zs) none ∙ append-nil (ids xs p))

one_more_id : (p : ℕ) (xs ys : List Call) (c : Call) → ys ≡ xs ++ c ∷ [] → ids ys p ≡ ids xs p ++ call_id p (length xs) ∷ []
one_more_id p xs ys c e =
    let k : length ys ≡ length xs + 1 = ap length e ∙ length-append xs (c ∷ []) in
    ap (λ n. map (call_id p) (range_with_len 0 n)) k ∙ map-range_with_len_more (call_id p) 0 (length xs) (length xs) (omega arith)

-- what a local step of rank q shows of the calls of rank p
abbrev shown_of : Board → Board → ℕ → ℕ → List Glyph → List Glyph
shown_of b v q row others = cond (issues (length (calls_of b q)) v q) (glyph row (Issued (call_id q (length (calls_of b q)))) ∷ []) others

not_issued : (b v : Board) (q row : ℕ) (others : List Glyph) → calls_of v q ≡ calls_of b q → shown_of b v q row others ≡ others
not_issued b v q row others e =
    ap (λ t. cond (not t) (glyph row (Issued (call_id q (length (calls_of b q)))) ∷ []) others) (eq-eqb (length (calls_of b q)) (length (calls_of v q)) (sym (ap length e)))

unequal : (a n : ℕ) → n ≡ a + 1 → (a == n) ≡ false
unequal a n e = elim (eqb_tells a n) [
  | inl at ↦ absurd (omega (arith, at.1, e))
  | inr off ↦ off.0
]

now_issued : (b v : Board) (q row : ℕ) (c : Call) (others : List Glyph) → calls_of v q ≡ calls_of b q ++ c ∷ [] → shown_of b v q row others ≡ glyph row (Issued (call_id q (length (calls_of b q)))) ∷ []
now_issued b v q row c others e =
    ap (λ t. cond (not t) (glyph row (Issued (call_id q (length (calls_of b q)))) ∷ []) others) (unequal (length (calls_of b q)) (length (calls_of v q)) (ap length e ∙ length-append (calls_of b q) (c ∷ [])))

-- of the rank itself
own_calls : (b v : Board) (q row : ℕ) (others : List Glyph) → of_glyphs (call_of_event q) others ≡ [] → HasOneMore b v q
    → ids (calls_of v q) q ≡ ids (calls_of b q) q ++ of_glyphs (call_of_event q) (shown_of b v q row others)
own_calls b v q row others none (inl e) =
    same_ids q (calls_of b q) (calls_of v q) others e none ∙ ap (λ gs. ids (calls_of b q) q ++ of_glyphs (call_of_event q) gs) (sym (not_issued b v q row others e))
own_calls b v q row others none (inr (c, e)) =
    one_more_id q (calls_of b q) (calls_of v q) c e
    ∙ ap (λ t. ids (calls_of b q) q ++ (cond t (call_id q (length (calls_of b q)) ∷ []) [] ++ [])) (sym (eq-eqb q q refl))
    ∙ ap (λ gs. ids (calls_of b q) q ++ of_glyphs (call_of_event q) gs) (sym (now_issued b v q row c others e))

-- of another rank
no_glyph : (b v : Board) (q p row : ℕ) (others : List Glyph) → (p == q) ≡ false → of_glyphs (call_of_event p) others ≡ [] → HasOneMore b v q → of_glyphs (call_of_event p) (shown_of b v q row others) ≡ []
no_glyph b v q p row others off none (inl e) = ap (of_glyphs (call_of_event p)) (not_issued b v q row others e) ∙ none
no_glyph b v q p row others off none (inr (c, e)) =
    ap (of_glyphs (call_of_event p)) (now_issued b v q row c others e) ∙ ap (λ t. cond t (call_id q (length (calls_of b q)) ∷ []) [] ++ []) off

other_calls : (b v : Board) (q p row : ℕ) (others : List Glyph) → (p == q) ≡ false → of_glyphs (call_of_event p) others ≡ [] → HasOneMore b v q → calls_of v p ≡ calls_of b p
    → ids (calls_of v p) p ≡ ids (calls_of b p) p ++ of_glyphs (call_of_event p) (shown_of b v q row others)
other_calls b v q p row others off none more same =
    ap (λ (calls : List Call). ids calls p) same
    ∙ sym (ap (λ zs. ids (calls_of b p) p ++ zs) (no_glyph b v q p row others off none more) ∙ append-nil (ids (calls_of b p) p))

local_calls : (b : Board) (q p row : ℕ) (o : Option Call) (others : List Glyph) → of_glyphs (call_of_event p) others ≡ []
    → ids (calls_of (with_issued b q o) p) p ≡ ids (calls_of b p) p ++ of_glyphs (call_of_event p) (shown_of b (with_issued b q o) q row others)
local_calls b q p row o others none = elim (eqb_tells p q) [
  | inl at ↦ own_at b q p row o others none at.1
  | inr off ↦ other_calls b (with_issued b q o) q p row others off.0 none (issued_more b q o) (issued_elsewhere b q p o off.1)
]
  where
    own_at : (b : Board) (q p row : ℕ) (o : Option Call) (others : List Glyph) → of_glyphs (call_of_event p) others ≡ [] → p ≡ q
        → ids (calls_of (with_issued b q o) p) p ≡ ids (calls_of b p) p ++ of_glyphs (call_of_event p) (shown_of b (with_issued b q o) q row others)
    own_at b q p row o others none e =
        subst (λ (k : ℕ). of_glyphs (call_of_event k) others ≡ [] → ids (calls_of (with_issued b q o) k) k ≡ ids (calls_of b k) k ++ of_glyphs (call_of_event k) (shown_of b (with_issued b q o) q row others)) (sym e)
        (λ no. own_calls b (with_issued b q o) q row others no (issued_more b q o)) none

local_names : (p : ℕ) (lines : List ℕ) (w v : World) (q row : ℕ) (o : Option Ran) → option_map (stepped w q) o ≡ Some v
    → Adds (named p) (call_of_event p) w v (step_glyphs (before_step lines w (Local q)) v row (Local q))
local_names p lines w v q row None h = cc
local_names p lines w v q row (Some done) h =
    let before : Before = before_step lines w (Local q) in
    let u : World = stepped w q done in
    let others : List Glyph = noted before.line row q (deed_of before.printed (slice_get u.ranks q)) in
    subst (λ (x : World). Adds (named p) (call_of_event p) w x (step_glyphs before x row (Local q))) (some_world u v h)
    (local_calls w.board q p row done.call others (note_shows (named p) (call_of_event p) (λ n. refl) before.line row q (deed_of before.printed (slice_get u.ranks q))))

stays : (p : ℕ) (w v : World) (b : Bool) (u : World) (glyphs : List Glyph) → u.board.calls ≡ w.board.calls → of_glyphs (call_of_event p) glyphs ≡ [] → cond b (Some u) None ≡ Some v → Adds (named p) (call_of_event p) w v glyphs
stays p w v false u glyphs e none h = cc
stays p w v true u glyphs e none h =
    let same : calls_of v.board p ≡ calls_of w.board p = ap (λ (calls : List (List Call)). listed_calls (slice_get calls p)) (ap (λ (x : World). x.board.calls) (sym (some_world u v h)) ∙ e) in
    same_ids p (calls_of w.board p) (calls_of v.board p) glyphs same none

step_names : (p : ℕ) → StepsAdd (named p) (call_of_event p)
step_names p lines w v row (Local q) h = local_names p lines w v q row (local_at w q) h
step_names p lines w v row (Match s r) h = stays p w v (eligible w.board s r) (record w { board = with_set w.board (Pair s r) }) (glyph row (Paired s r) ∷ []) refl refl h
step_names p lines w v row (Wake q) h = stays p w v (can_wake w q) (woken w q) (went_on v.board (row - 1) q) refl refl h
step_names p lines w v row (WakeAny q i) h = stays p w v (can_wake_any w q i) (woken_any w q i) (went_on v.board (row - 1) q) refl refl h
step_names p lines w v row Release h =
    stays p w v (can_release w) (released w) (glyph row Released ∷ flat_map (went_on v.board row) (rank_numbers v.board)) refl (gone_on_shows (named p) (call_of_event p) (λ c. refl) v.board row (rank_numbers v.board)) h

no_calls_yet : (n p : ℕ) → listed_calls (slice_get (replicate n []) p) ≡ []
no_calls_yet zero p = refl
no_calls_yet (suc n) zero = refl
no_calls_yet (suc n) (suc p) = no_calls_yet n p

pub calls_once : CallsAreDrawnOnce
calls_once s mode steps w h p =
    let marks : List Mark = marks_of (glyphs_of s mode steps) in
    let none : named p (start s mode) ≡ [] = ap (λ (calls : List Call). ids calls p) (no_calls_yet s.ranks p) in
    shapes_drawn (call_of_shape p) (call_beside p) (call_of_event p) s w marks (event_calls p s w.board marks) ∙ marks_drawn (call_of_event p) [] (glyphs_of s mode steps)
    ∙ sym (steps_add (named p) (call_of_event p) (step_names p) s.lines (start s mode) w 0 steps h ∙ ap (λ zs. zs ++ of_glyphs (call_of_event p) (glyphs_of s mode steps)) none)
