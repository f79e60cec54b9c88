-- What is shown of a state, and the changes that lead there.
use Rattle.std.proofs.Common.{◌≡◌, ℕ, zero, suc, ◌+◌, ◌<◌, ◌≤◌, ℤ, Bool, true, false, List, [], ◌∷◌, ◌++◌, length, map, replicate, slice_get, Option, Some, None, cond, refl, sym, ap, ◌∙◌, arith, option_and_then}
use Rattle.std.specs.List.{flat_map, range_with_len}
use Rattle.std.proofs.lemmas.List.{length-replicate, map-append}
use Rattle.std.specs.Ordering.{int_eq}
use Rattle.std.proofs.lemmas.Bool.Decides.{Decides-int_eq, Decides-eqb}
use Rattle.mpd_model.specs.declared.step.Step.{Step}
use Rattle.mpd_model.specs.declared.call.Mode.{Mode}
use Rattle.mpd_model.specs.script.Program.{Program}
use Rattle.mpd_model.specs.steps.World.{World, RankWorld, calls_of, rank_numbers, start, start_rank, listed_calls, last_call}
use Rattle.mpd_model.specs.steps.Next.{next, fold, waits}
use Rattle.mpd_page.specs.declared.places.RankPlace.{RankPlace}
use Rattle.mpd_page.specs.declared.reasons.Reason.{Reason}
use Rattle.mpd_page.specs.declared.reasons.Reason.TheVariants.{NoWait}
use Rattle.mpd_page.specs.declared.changes.PlaceChange.{PlaceChange}
use Rattle.mpd_page.specs.declared.changes.CellChange.{CellChange}
use Rattle.mpd_page.specs.declared.changes.HandleChange.{HandleChange}
use Rattle.mpd_page.specs.declared.changes.Printed.{Printed}
use Rattle.mpd_page.specs.declared.changes.ShownCall.{ShownCall}
use Rattle.mpd_page.specs.declared.changes.ReasonChange.{ReasonChange}
use Rattle.mpd_page.specs.declared.changes.NodeChange.{NodeChange}
use Rattle.mpd_page.specs.Places.{place, nowhere}
use Rattle.mpd_page.specs.Reasons.{reason, waited}
use Rattle.mpd_page.specs.Same.{same_place, same_reason}
use Rattle.mpd_page.specs.Applied.{other_by, other_at, other_cells, set_last, set_cells, with_one}
use Rattle.mpd_page.specs.Changes.{place_entry, first_entry, vars_of, handles_of, out_of, value_entry, value_by, value_changed, cells_changed, values_at}
use Rattle.mpd_page.specs.Changes.{same_call, handle_entry, handle_by, handle_changed, requests_changed, handles_at, printed_entry, values_behind, printed_at, call_view, reason_entry, node_change, first_change}
use Rattle.mpd_page.specs.Views.{RankView, rank_view, view_of, blank, places_of, cells_of, requests_of, printed_of, reasons_of, applied, applied_from, applied_all, on_to, applied_along}
use Rattle.mpd_page.specs.PageLaws.{ChangesLeadOn, StartIsShown, RunsAreShown}
use Rattle.mpd_page.proofs.CellLemmas.{other_if, whole_set, cells_set, printed_since}
use Rattle.mpd_page.proofs.SameLemmas.{place_is, reason_is}
use Rattle.mpd_page.proofs.RankLemmas.{told_of}
use Rattle.mpd_page.proofs.KeptLemmas.{Kept, ranks_kept}
use Rattle.mpd_page.proofs.CallLemmas.{Grown, calls_grow, issued_at, told_at}

abbrev made : RankPlace → List ℤ → List (Option ℕ) → List ℤ → List ShownCall → Reason → RankView
made a b c d e f = record { place = a; vars = b; handles = c; out = d; calls = e; reason = f }

alike : (a a2 : RankPlace) (b b2 : List ℤ) (c c2 : List (Option ℕ)) (d d2 : List ℤ) (e e2 : List ShownCall) (f f2 : Reason)
    → a ≡ a2 → b ≡ b2 → c ≡ c2 → d ≡ d2 → e ≡ e2 → f ≡ f2 → made a b c d e f ≡ made a2 b2 c2 d2 e2 f2
alike a a2 b b2 c c2 d d2 e e2 f f2 h1 h2 h3 h4 h5 h6 = cc

same_is : (one other : Option ℕ) → same_call one other ≡ true → one ≡ other
same_is None None h = refl
same_is None (Some j) h = absurd (cc)
same_is (Some i) None h = absurd (cc)
same_is (Some i) (Some j) h = ap Some ((Decides-eqb i j).0 h)

values_are : (x y : ℤ) → int_eq x y ≡ true → x ≡ y
values_are x y h = (Decides-int_eq x y).0 h

-- ---- what is told of one rank

made_if : {A E : Type 0} (b : Bool) (make : A → E) (x : A) → cond b [] (make x ∷ []) ≡ map make (cond b [] (x ∷ []))
made_if true make x = refl
made_if false make x = refl

flat_made : {A E : Type 0} (make : A → E) (f : ℕ → List E) (g : ℕ → List A) → ((i : ℕ) → f i ≡ map make (g i)) → (is : List ℕ) → flat_map f is ≡ map make (flat_map g is)
flat_made make f g each [] = refl
flat_made make f g each (i ∷ is) = ap (λ t. t ++ flat_map f is) (each i) ∙ ap (λ t. map make (g i) ++ t) (flat_made make f g each is) ∙ sym (map-append make (g i) (flat_map g is))

abbrev cell_change : ℕ → ℕ × ℤ → CellChange
cell_change p c = value_entry p c.0 c.1

abbrev handle_change : ℕ → ℕ × Option ℕ → HandleChange
handle_change p c = handle_entry p c.0 c.1

value_made : (p i : ℕ) (o u : Option ℤ) → value_by p i o u ≡ map (cell_change p) (other_by int_eq i o u)
value_made p i None None = refl
value_made p i None (Some y) = refl
value_made p i (Some x) None = refl
value_made p i (Some x) (Some y) = made_if (int_eq x y) (cell_change p) (i, y)

handle_made : (p i : ℕ) (o u : Option (Option ℕ)) → handle_by p i o u ≡ map (handle_change p) (other_by same_call i o u)
handle_made p i None None = refl
handle_made p i None (Some y) = refl
handle_made p i (Some x) None = refl
handle_made p i (Some x) (Some y) = made_if (same_call x y) (handle_change p) (i, y)

values_made : (p : ℕ) (was now : List ℤ) → cells_changed p was now ≡ map (cell_change p) (other_cells int_eq was now)
values_made p was now = flat_made (cell_change p) (value_changed p was now) (other_at int_eq was now) (λ i. value_made p i (slice_get was i) (slice_get now i)) (range_with_len 0 (length now))

handles_made : (p : ℕ) (was now : List (Option ℕ)) → requests_changed p was now ≡ map (handle_change p) (other_cells same_call was now)
handles_made p was now = flat_made (handle_change p) (handle_changed p was now) (other_at same_call was now) (λ i. handle_made p i (slice_get was i) (slice_get now i)) (range_with_len 0 (length now))

abbrev place_made : ℕ → RankPlace → PlaceChange
place_made p x = record { rank = p; place = x }

abbrev reason_made : ℕ → Reason → ReasonChange
reason_made p x = record { rank = p; reason = x }

places_told : (s : Program) (w v : World) (a : Step) (p : ℕ) → p < length v.board.calls → places_of p (node_change s w v a) ≡ other_if same_place (place s w p) (place s v p)
places_told s w v a p within =
    told_of (λ (e : PlaceChange). e.rank) (λ e. e.place) place_made (place_entry s w v) (λ q. other_if same_place (place s w q) (place s v q)) (λ q x. refl) (λ q x. refl)
    (λ q. made_if (same_place (place s w q) (place s v q)) (place_made q) (place s v q)) (length v.board.calls) p within

cells_told : (s : Program) (w v : World) (a : Step) (p : ℕ) → p < length v.board.calls → cells_of p (node_change s w v a) ≡ other_cells int_eq (vars_of (slice_get w.ranks p)) (vars_of (slice_get v.ranks p))
cells_told s w v a p within =
    told_of (λ (e : CellChange). e.rank) (λ e. (e.cell, e.value)) cell_change (values_at w v) (λ q. other_cells int_eq (vars_of (slice_get w.ranks q)) (vars_of (slice_get v.ranks q))) (λ q x. refl) (λ q x. refl)
    (λ q. values_made q (vars_of (slice_get w.ranks q)) (vars_of (slice_get v.ranks q))) (length v.board.calls) p within

requests_told : (s : Program) (w v : World) (a : Step) (p : ℕ) → p < length v.board.calls → requests_of p (node_change s w v a) ≡ other_cells same_call (handles_of (slice_get w.ranks p)) (handles_of (slice_get v.ranks p))
requests_told s w v a p within =
    told_of (λ (e : HandleChange). e.rank) (λ e. (e.handle, e.call)) handle_change (handles_at w v) (λ q. other_cells same_call (handles_of (slice_get w.ranks q)) (handles_of (slice_get v.ranks q))) (λ q x. refl) (λ q x. refl)
    (λ q. handles_made q (handles_of (slice_get w.ranks q)) (handles_of (slice_get v.ranks q))) (length v.board.calls) p within

printed_told : (s : Program) (w v : World) (a : Step) (p : ℕ) → p < length v.board.calls → printed_of p (node_change s w v a) ≡ values_behind (length (out_of (slice_get w.ranks p))) (out_of (slice_get v.ranks p))
printed_told s w v a p within =
    told_of (λ (e : Printed). e.rank) (λ e. e.value) printed_entry (printed_at w v) (λ q. values_behind (length (out_of (slice_get w.ranks q))) (out_of (slice_get v.ranks q))) (λ q x. refl) (λ q x. refl)
    (λ q. refl) (length v.board.calls) p within

reasons_told : (s : Program) (w v : World) (a : Step) (p : ℕ) → p < length v.board.calls → reasons_of p (node_change s w v a) ≡ other_if same_reason (reason w p) (reason v p)
reasons_told s w v a p within =
    told_of (λ (e : ReasonChange). e.rank) (λ e. e.reason) reason_made (reason_entry w v) (λ q. other_if same_reason (reason w q) (reason v q)) (λ q x. refl) (λ q x. refl)
    (λ q. made_if (same_reason (reason w q) (reason v q)) (reason_made q) (reason v q)) (length v.board.calls) p within

-- ---- one rank

rank_leads : (s : Program) (w v : World) (a : Step) (p : ℕ) → p < length v.board.calls → Kept (slice_get w.ranks p) (slice_get v.ranks p)
    → map (call_view s) (calls_of v.board p) ≡ with_one (map (call_view s) (calls_of w.board p)) (issued_at s w v a p)
    → applied (node_change s w v a) p (rank_view s w p) ≡ rank_view s v p
rank_leads s w v a p within kept calls =
    let one : Option RankWorld = slice_get w.ranks p in
    let other : Option RankWorld = slice_get v.ranks p in
    alike _ _ _ _ _ _ _ _ _ _ _ _
    (ap (set_last (place s w p)) (places_told s w v a p within) ∙ whole_set same_place place_is (place s w p) (place s v p))
    (ap (set_cells (vars_of one)) (cells_told s w v a p within) ∙ cells_set int_eq values_are (vars_of one) (vars_of other) kept.vars)
    (ap (set_cells (handles_of one)) (requests_told s w v a p within) ∙ cells_set same_call same_is (handles_of one) (handles_of other) kept.handles)
    (ap (λ xs. out_of one ++ xs) (printed_told s w v a p within) ∙ printed_since (out_of one) (out_of other) kept.more kept.out)
    (ap (with_one (map (call_view s) (calls_of w.board p))) (told_at s w v a p) ∙ sym calls)
    (ap (set_last (reason w p)) (reasons_told s w v a p within) ∙ whole_set same_reason reason_is (reason w p) (reason v p))

-- ---- all ranks

all_range : (c : NodeChange) (f h : ℕ → RankView) (n i k : ℕ) → i + k ≤ n → ((p : ℕ) → p < n → applied c p (f p) ≡ h p) → applied_from c i (map f (range_with_len i k)) ≡ map h (range_with_len i k)
all_range c f h n i zero within each = refl
all_range c f h n i (suc k) within each =
    let ps : List ℕ = range_with_len (i + 1) k in
    ap (λ x. x ∷ applied_from c (i + 1) (map f ps)) (each i (omega (arith, within))) ∙ ap (λ xs. h i ∷ xs) (all_range c f h n (i + 1) k (omega (arith, within)) each)

pub changes_lead_on : ChangesLeadOn
changes_lead_on s w v a h =
    let grown : Grown s w v a = calls_grow s w v a h in
    let n : ℕ = length v.board.calls in
    let ranks : rank_numbers w.board ≡ rank_numbers v.board = sym (ap (range_with_len 0) grown.count) in
    ap (λ ps. applied_all (node_change s w v a) (map (rank_view s w) ps)) ranks
    ∙ all_range (node_change s w v a) (rank_view s w) (rank_view s v) n 0 n (omega arith) (λ p within. rank_leads s w v a p within (ranks_kept w v a h p) (grown.calls p))

-- ---- along a run

inside : (x y : World) → Some x ≡ Some y → x ≡ y
inside x y k = cc

-- a step more, given what holds of those behind it
by_next : (s : Program) (w v : World) (a : Step) (steps : List Step) (views : List RankView) → views ≡ view_of s w
    → ((u : World) (there : List RankView) → there ≡ view_of s u → fold u steps ≡ Some v → applied_along s u there steps ≡ view_of s v)
    → (o : Option World) → next w a ≡ o → option_and_then (λ u. fold u steps) o ≡ Some v → on_to (λ u. applied_along s u (applied_all (node_change s w u a) views) steps) views o ≡ view_of s v
by_next s w v a steps views e further None k m = absurd (cc)
by_next s w v a steps views e further (Some u) k m = further u (applied_all (node_change s w u a) views) (ap (applied_all (node_change s w u a)) e ∙ changes_lead_on s w u a k) m

along : (s : Program) (steps : List Step) (w v : World) (views : List RankView) → views ≡ view_of s w → fold w steps ≡ Some v → applied_along s w views steps ≡ view_of s v
along s [] w v views e h = e ∙ ap (view_of s) (inside w v h)
along s (a ∷ steps) w v views e h = by_next s w v a steps views e (λ u there is more. along s steps u v there is more) (next w a) refl h

-- ---- the start

there : {A : Type 0} (n p : ℕ) (x : A) → p < n → slice_get (replicate n x) p ≡ Some x
there zero p x h = absurd (omega (arith, h))
there (suc n) zero x h = refl
there (suc n) (suc p) x h = there n p x (omega (arith, h))

first_told : (s : Program) (w : World) (p : ℕ) → p < length w.board.calls → places_of p (first_change s w) ≡ other_if same_place nowhere (place s w p)
first_told s w p within =
    told_of (λ (e : PlaceChange). e.rank) (λ e. e.place) place_made (first_entry s w) (λ q. other_if same_place nowhere (place s w q)) (λ q x. refl) (λ q x. refl)
    (λ q. made_if (same_place nowhere (place s w q)) (place_made q) (place s w q)) (length w.board.calls) p within

first_rank : (s : Program) (mode : Mode) (p : ℕ) → p < s.ranks → applied (first_change s (start s mode)) p (blank s p) ≡ rank_view s (start s mode) p
first_rank s mode p h =
    let w : World = start s mode in
    let count : length w.board.calls ≡ s.ranks = length-replicate s.ranks [] in
    let within : p < length w.board.calls = omega (arith, count, h) in
    let rank : slice_get w.ranks p ≡ Some (start_rank s) = there s.ranks p (start_rank s) h in
    let calls : slice_get w.board.calls p ≡ Some [] = there s.ranks p [] h in
    alike _ _ _ _ _ _ _ _ _ _ _ _
    (ap (set_last nowhere) (first_told s w p within) ∙ whole_set same_place place_is nowhere (place s w p))
    (sym (ap vars_of rank))
    (sym (ap handles_of rank))
    (sym (ap out_of rank))
    (sym (ap (λ o. map (call_view s) (listed_calls o)) calls))
    (sym (ap (λ o. cond (waits o) (waited w (last_call w.board p)) NoWait) rank))

pub start_is_shown : StartIsShown
start_is_shown s mode =
    let count : length (start s mode).board.calls ≡ s.ranks = length-replicate s.ranks [] in
    all_range (first_change s (start s mode)) (blank s) (rank_view s (start s mode)) s.ranks 0 (length (start s mode).board.calls) (omega (arith, count)) (first_rank s mode)

pub runs_are_shown : RunsAreShown
runs_are_shown s mode steps w h = along s steps (start s mode) w _ (start_is_shown s mode) h

pub ruleset showing = (changes_lead_on, start_is_shown, runs_are_shown)
