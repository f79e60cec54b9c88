-- A waitany that was issued for nothing has no request as long as its rank waits, so that rank never has two kinds of steps to go on by.
use Rattle.std.proofs.Common.{◌≡◌, ◌≢◌, ℕ, zero, suc, ◌+◌, ◌-◌, ◌<◌, nat_lt, Bool, true, false, cond, not, Option, Some, None, is_some, Result, Ok, Err, List, [], ◌∷◌, ◌++◌, length, length-append, take, drop, replicate, slice_get, inl, inr, refl, sym, ap, subst, ◌∙◌, arith, get_or-drop}
use Rattle.std.specs.Prelude.{slice_index_or}
use Rattle.std.specs.Option.{option_map}
use Rattle.std.specs.List.{list_any}
use Rattle.std.proofs.lemmas.Bool.{ltb-true, and_parts, not-true, or_parts}
use Rattle.std.proofs.lemmas.Option.{slice_get-get_or, slice_get-map}
use Rattle.std.proofs.lemmas.Bool.Decides.{eqb_tells}
use Rattle.mpd_model.specs.declared.step.CallId.{CallId}
use Rattle.mpd_model.specs.declared.call.Activity.{Activity}
use Rattle.mpd_model.specs.declared.call.Activity.TheVariants.{Running, Blocked, Trapped}
use Rattle.mpd_model.specs.declared.call.Call.{Call}
use Rattle.mpd_model.specs.declared.call.CallKind.{CallKind}
use Rattle.mpd_model.specs.declared.call.CallKind.TheVariants.{Send, Waitany}
use Rattle.mpd_model.specs.declared.call.Trap.{Trap}
use Rattle.mpd_model.specs.declared.stmt.Simple.{Simple}
use Rattle.mpd_model.specs.declared.stmt.Simple.TheVariants as st
use Rattle.mpd_model.specs.declared.stmt.WaitanyStmt.{WaitanyStmt}
use Rattle.mpd_model.specs.script.Term.{and_then, target_cell}
use Rattle.mpd_model.specs.script.Tree.{Tree, simple}
use Rattle.mpd_model.specs.declared.call.Mode.{Mode}
use Rattle.mpd_model.specs.script.Program.{Program}
use Rattle.mpd_model.specs.steps.World.{World, RankWorld, start, start_rank, call_id, listed_calls, calls_of, kind_of, kind_at, has_own_step, last_call}
use Rattle.mpd_model.specs.steps.Next.{Ran, awaiting, handles_at, issued, ran_simple, ran, env_of, local_of, has_buffer, buffered_by, entered, is_blocked, waits, can_wake, request_handle, held_in, any_call, is_complete_some, can_wake_any, going_on, released}
use Rattle.mpd_meaning.specs.StepLaws.{HasCalls}
use Rattle.mpd_laws.proofs.ordered.LocalActivity.{call_blocks, BlocksOn}
use Rattle.mpd_laws.proofs.ordered.Splits.{others_kept, read_written, end_read}
use Rattle.mpd_meaning.proofs.moving.Moves.{joining, moved, moved_beside, kind_beside}
use Rattle.mpd_laws.proofs.ordered.Eligible.{clash}
use Rattle.mpd_complete.proofs.Steps.{IsLocalStep}
use Rattle.mpd_complete.proofs.Issues.{is_any, issues_none}

abbrev pub Idle : World → Type 0
Idle w = (p i : ℕ) → waits (slice_get w.ranks p) ≡ true → has_own_step (kind_at w.board (last_call w.board p)) ≡ false → any_call w p i ≡ None

pub never_both : (w : World) → Idle w → (p i : ℕ) → can_wake w p ≡ true → can_wake_any w p i ≡ true → ⊥
never_both w h p i wakes any =
    let kind : Option CallKind = kind_at w.board (last_call w.board p) in
    let one = and_parts (waits (slice_get w.ranks p)) _ wakes in
    let two = and_parts (not (has_own_step kind)) _ one.1 in
    clash (and_parts (waits (slice_get w.ranks p)) _ any).1 (ap (is_complete_some w.board) (h p i one.0 (not-true (has_own_step kind) two.0)))

-- ---- what a local step issues

-- a call for nothing asks nothing of the handles of a rank
abbrev IsQuiet : RankWorld → Option Call → Type 0
IsQuiet r o = has_own_step (kind_of o) ≡ false → (p i : ℕ) → held_in p (Some r) (request_handle (kind_of o) i) ≡ None

no_handle : (k : Option CallKind) (i : ℕ) → is_any k ≡ false → request_handle k i ≡ None
no_handle (Some (Waitany a)) i e = absurd (cc)
no_handle k i e = refl

quiet_by : (r : RankWorld) (o : Option Call) → is_any (kind_of o) ≡ false → IsQuiet r o
quiet_by r o e none p i = ap (held_in p (Some r)) (no_handle (kind_of o) i e)

-- where none of some handles holds a call, each holds none
holds_none : (o : Option ℕ) → is_some o ≡ false → o ≡ None
holds_none None e = refl
holds_none (Some c) e = absurd (cc)

nothing_first : (hs : List (Option ℕ)) (n i : ℕ) → list_any is_some (take n hs) ≡ false → i < n → slice_index_or hs i None ≡ None
nothing_first [] n i e lt = refl
nothing_first (h ∷ hs) zero i e lt = absurd (omega (arith, lt))
nothing_first (h ∷ hs) (suc n) zero e lt = holds_none h (or_parts (is_some h) (list_any is_some (take n hs)) e).0
nothing_first (h ∷ hs) (suc n) (suc i) e lt = nothing_first hs n i (or_parts (is_some h) (list_any is_some (take n hs)) e).1 (omega (arith, lt))

nothing_held : (hs : List (Option ℕ)) (a n i : ℕ) → list_any is_some (take n (drop a hs)) ≡ false → i < n → slice_index_or hs (a + i) None ≡ None
nothing_held hs a n i e lt = sym (get_or-drop a hs i None) ∙ nothing_first (drop a hs) n i e lt

waitany_quiet : (p n count number : ℕ) (r : RankWorld) (s : WaitanyStmt) (ts : List (ℕ × Tree))
    → IsQuiet (ran_simple (env_of p n r) r count number (st.Waitany s) ts).rank (ran_simple (env_of p n r) r count number (st.Waitany s) ts).call
waitany_quiet p n count number r s ts = by_cell (target_cell s.into (env_of p n r))
  where
    by_cell : (x : Result ℕ Trap)
        → IsQuiet
        (issued r ts number count (awaiting (and_then x (λ c. Ok (Waitany (record { first = s.requests.first; count = s.requests.cells; cell = c; active = list_any is_some (handles_at s.requests (env_of p n r)) })))))).rank
        (issued r ts number count (awaiting (and_then x (λ c. Ok (Waitany (record { first = s.requests.first; count = s.requests.cells; cell = c; active = list_any is_some (handles_at s.requests (env_of p n r)) })))))).call
    by_cell (Err t) none q i = refl
    by_cell (Ok c) none q i = by_test (nat_lt i s.requests.cells) refl
      where
        by_test : (t : Bool) → nat_lt i s.requests.cells ≡ t → held_in q (Some (record r { rest = ts; activity = Blocked })) (cond t (Some (s.requests.first + i)) None) ≡ None
        by_test true e = ap (option_map (call_id q)) (nothing_held r.handles s.requests.first s.requests.cells i none (ltb-true i s.requests.cells e))
        by_test false e = refl

simple_quiet : (p n count number : ℕ) (r : RankWorld) (s : Simple) (ts : List (ℕ × Tree)) → IsQuiet (ran_simple (env_of p n r) r count number s ts).rank (ran_simple (env_of p n r) r count number s ts).call
simple_quiet p n count number r (st.Waitany s) ts = waitany_quiet p n count number r s ts
simple_quiet p n count number r s ts =
    quiet_by (ran_simple (env_of p n r) r count number s ts).rank (ran_simple (env_of p n r) r count number s ts).call (issues_none (env_of p n r) r count number s ts (omega arith))

ran_quiet : (p n count number : ℕ) (r : RankWorld) (t : Tree) (ts : List (ℕ × Tree)) → IsQuiet (ran (env_of p n r) r count number t ts).rank (ran (env_of p n r) r count number t ts).call
ran_quiet p n count number r (simple s) ts = simple_quiet p n count number r s ts
ran_quiet p n count number r t ts = quiet_by (ran (env_of p n r) r count number t ts).rank None refl

local_of_quiet : (p n count : ℕ) (r : RankWorld) (a : Activity) (ts : List (ℕ × Tree)) (done : Ran) → local_of p n count r a ts ≡ Some done → IsQuiet done.rank done.call
local_of_quiet p n count r Running [] done e = absurd (cc)
local_of_quiet p n count r Running (t ∷ ts) done e =
    let same : ran (env_of p n r) r count t.0 t.1 ts ≡ done = cc in
    subst (λ (d : Ran). IsQuiet d.rank d.call) same (ran_quiet p n count t.0 r t.1 ts)
local_of_quiet p n count r Blocked ts done e = absurd (cc)
local_of_quiet p n count r (Trapped t) ts done e = absurd (cc)

-- as it joins the board it is the same
joined_own : (room : Bool) (k : CallKind) → has_own_step (Some (buffered_by room k)) ≡ has_own_step (Some k)
joined_own room (Send s) = refl
joined_own room k = refl

joined_handle : (room : Bool) (k : CallKind) (i : ℕ) → request_handle (Some (buffered_by room k)) i ≡ request_handle (Some k) i
joined_handle room (Send s) i = refl
joined_handle room k i = refl

-- ---- a step of one rank

idle_elsewhere : (w : World) (p : ℕ) (r : RankWorld) (o : Option Call) (m : Option CallId) → Idle w → (q i : ℕ) → q ≢ p → waits (slice_get (moved w p r o m).ranks q) ≡ true
    → has_own_step (kind_at (moved w p r o m).board (last_call (moved w p r o m).board q)) ≡ false → any_call (moved w p r o m) q i ≡ None
idle_elsewhere w p r o m h q i ne blocked none =
    let rank = others_kept w.ranks p q r ne in
    let kind = kind_beside w.board (moved w p r o m).board q (moved_beside w p r o m q ne) in
    (λ j. held_in q (rank j) (request_handle (kind j) i)) ∙ h q i (sym (ap waits rank) ∙ blocked) (sym (ap has_own_step kind) ∙ none)

idle_moved : (w : World) (p : ℕ) (r : RankWorld) (o : Option Call) (m : Option CallId) → Idle w
    → ((i : ℕ) → waits (slice_get (moved w p r o m).ranks p) ≡ true → has_own_step (kind_at (moved w p r o m).board (last_call (moved w p r o m).board p)) ≡ false → any_call (moved w p r o m) p i ≡ None)
    → Idle (moved w p r o m)
idle_moved w p r o m h here q i blocked none =
    elim (eqb_tells q p) [
      | inl same ↦
          subst (λ (k : ℕ). waits (slice_get (moved w p r o m).ranks k) ≡ true → has_own_step (kind_at (moved w p r o m).board (last_call (moved w p r o m).board k)) ≡ false → any_call (moved w p r o m) k i ≡ None) (sym same.1)
          (here i) blocked none
      | inr off ↦ idle_elsewhere w p r o m h q i off.1 blocked none
    ]

-- a rank that runs waits for nothing
pub idle_running : (w : World) (p : ℕ) (r old : RankWorld) (o : Option Call) (m : Option CallId) → slice_get w.ranks p ≡ Some old → is_blocked r.activity ≡ false → Idle w → Idle (moved w p r o m)
idle_running w p r old o m at runs h = idle_moved w p r o m h (λ i blocked none. absurd (clash blocked (ap waits (read_written w.ranks p old r at) ∙ runs)))

last_kind : (calls : List Call) (c : Call) → kind_of (slice_get (calls ++ c ∷ []) (length (calls ++ c ∷ []) - 1)) ≡ Some c.kind
last_kind calls c =
    let count = length-append calls (c ∷ []) in
    let place : length (calls ++ c ∷ []) - 1 ≡ length calls = omega (arith, count) in
    ap (λ (n : ℕ). kind_of (slice_get (calls ++ c ∷ []) n)) place ∙ ap kind_of (end_read calls c)

-- the last call of a rank that has issued one
issued_last : (w : World) (p : ℕ) (r : RankWorld) (c : Call) (m : Option CallId) (calls : List Call) → slice_get w.board.calls p ≡ Some calls
    → kind_at (moved w p r (Some c) m).board (last_call (moved w p r (Some c) m).board p) ≡ Some c.kind
issued_last w p r c m calls at =
    let all : List Call = listed_calls (slice_get w.board.calls p) in
    ap (λ (l : Option (List Call)). kind_of (slice_get (listed_calls l) (length (listed_calls l) - 1))) (read_written w.board.calls p calls (all ++ c ∷ []) at) ∙ last_kind all c

-- what a rank waits for that has run its next statement
idle_ran : (w : World) (p : ℕ) (old : RankWorld) (ran : Ran) (calls : List Call) → slice_get w.ranks p ≡ Some old → slice_get w.board.calls p ≡ Some calls → BlocksOn ran → IsQuiet ran.rank ran.call
    → (o : Option Call) → ran.call ≡ o → (i : ℕ) → waits (slice_get (moved w p ran.rank (joining w.board p o) None).ranks p) ≡ true
    → has_own_step (kind_at (moved w p ran.rank (joining w.board p o) None).board (last_call (moved w p ran.rank (joining w.board p o) None).board p)) ≡ false
    → any_call (moved w p ran.rank (joining w.board p o) None) p i ≡ None
idle_ran w p old ran calls here at blocks quiet None is i blocked none =
    let active : is_blocked ran.rank.activity ≡ true = sym (ap waits (read_written w.ranks p old ran.rank here)) ∙ blocked in
    absurd (clash active (blocks ∙ ap call_blocks is))
idle_ran w p old ran calls here at blocks quiet (Some c) is i blocked none =
    let room : Bool = has_buffer w.board p in
    let read = read_written w.ranks p old ran.rank here in
    let kind = issued_last w p ran.rank (entered w.board p c) None calls at in
    let own : has_own_step (kind_of ran.call) ≡ false = ap (λ (o : Option Call). has_own_step (kind_of o)) is ∙ sym (joined_own room c.kind) ∙ sym (ap has_own_step kind) ∙ none in
    (λ j. held_in p (read j) (request_handle (kind j) i))
    ∙ ap (held_in p (Some ran.rank)) (joined_handle room c.kind i)
    ∙ ap (λ (o : Option Call). held_in p (Some ran.rank) (request_handle (kind_of o) i)) (sym is)
    ∙ quiet own p i

pub idle_local : (w : World) (p : ℕ) (u : World) → HasCalls w → IsLocalStep w p u → Idle w → Idle u
idle_local w p u has a h =
    let rank = a.within in
    let at = slice_get-get_or w.board.calls p [] (omega (arith, rank, has)) in
    let quiet = local_of_quiet p (length w.ranks) (length (calls_of w.board p)) a.rank a.rank.activity a.rank.rest a.ran a.from in
    subst Idle a.is (idle_moved w p a.ran.rank (joining w.board p a.ran.call) None h (idle_ran w p a.rank a.ran _ a.here at a.blocks quiet a.ran.call refl))

-- ---- where no rank waits

idle_where : (w : World) → ((p : ℕ) → waits (slice_get w.ranks p) ≡ false) → Idle w
idle_where w runs p i blocked none = absurd (clash blocked (runs p))

runs_on : (o : Option RankWorld) → waits (option_map going_on o) ≡ false
runs_on None = refl
runs_on (Some r) = refl

pub idle_released : (w : World) → Idle (released w)
idle_released w = idle_where (released w) (λ p. ap waits (slice_get-map going_on w.ranks p) ∙ runs_on (slice_get w.ranks p))

all_run : (n p : ℕ) (r : RankWorld) → is_blocked r.activity ≡ false → waits (slice_get (replicate n r) p) ≡ false
all_run zero p r e = refl
all_run (suc n) zero r e = e
all_run (suc n) (suc p) r e = all_run n p r e

pub idle_start : (s : Program) (mode : Mode) → Idle (start s mode)
idle_start s mode = idle_where (start s mode) (λ p. all_run s.ranks p (start_rank s) refl)
