-- Worked rows of completes-before, and boards that no run leads to, since their match sets show calls out of order.
use Rattle.std.specs.Prelude.{◌≡◌, ℕ, pos, Bool, true, false, List, [], ◌∷◌, ◌++◌, map, Option, Some, None, refl}
use Rattle.std.proofs.lemmas.Bool.{both_ways}
use Rattle.mpd_model.specs.declared.step.CallId.{CallId}
use Rattle.mpd_model.specs.declared.call.Call.{Call}
use Rattle.mpd_model.specs.declared.call.CallKind.TheVariants.{Send, Recv, Wait}
use Rattle.mpd_model.specs.declared.call.Mode.TheVariants.{Rendezvous}
use Rattle.mpd_model.specs.declared.call.MatchSet.{MatchSet}
use Rattle.mpd_model.specs.declared.call.MatchSet.TheVariants.{Pair, Woke}
use Rattle.mpd_model.specs.steps.World.{Board, call_id}
use Rattle.mpd_model.specs.steps.Order.{before, WentOn, Ordered}

abbrev pub sends : ℕ → ℕ → Bool → Call
sends to tag blocks = record { statement = 0; kind = Send (record { to = to; tag = tag; value = pos 40; synchronous = false; blocks = blocks; buffered = false }) }

abbrev pub takes : Option ℕ → Option ℕ → Call
takes from tag = record { statement = 1; kind = Recv (record { from = from; tag = tag; cell = 0; status = None; blocks = false }) }

abbrev pub awaits : Option ℕ → Call
awaits target = record { statement = 2; kind = Wait (record { handle = 0; target = target }) }

-- rank 0 sends: to 1 with tag 7, to 1 with tag 8, to 1 with tag 7, to 0 with tag 7; it waits for call 1, and sends with tag 8 once more
abbrev pub senders : List Call
senders = sends 1 7 false ∷ sends 1 8 false ∷ sends 1 7 false ∷ sends 0 7 false ∷ awaits (Some 1) ∷ sends 1 8 true ∷ []

-- rank 1 receives: any, tag 7 of rank 0, any tag of rank 0, tag 7 of any; then it waits for nothing
abbrev pub receivers : List Call
receivers = takes None None ∷ takes (Some 0) (Some 7) ∷ takes (Some 0) None ∷ takes None (Some 7) ∷ awaits None ∷ []

abbrev pub two_ranks : Board
two_ranks = record { mode = Rendezvous; calls = senders ∷ receivers ∷ []; sets = [] }

-- the later of two calls of a rank, for each earlier one
abbrev pub before_in : ℕ → List (ℕ × ℕ) → List Bool
before_in p pairs = map (λ (c : ℕ × ℕ). before two_ranks (call_id p c.0) (call_id p c.1)) pairs

-- a send of the same envelope, of another tag, of another destination, the earlier one, itself
pub row_sends : before_in 0 ((0, 2) ∷ (0, 1) ∷ (0, 3) ∷ (2, 0) ∷ (0, 0) ∷ []) ≡ true ∷ false ∷ false ∷ false ∷ false ∷ []
row_sends = refl

-- a wait for it, a wait for another, after a wait, a send after other waits, a call that was not issued
pub row_waits : before_in 0 ((1, 4) ∷ (0, 4) ∷ (4, 5) ∷ (0, 5) ∷ (5, 6) ∷ []) ≡ true ∷ false ∷ true ∷ false ∷ false ∷ []
row_waits = refl

-- any takes what the others take; a named source or tag takes less; a wait for nothing
pub row_receives : before_in 1 ((0, 1) ∷ (0, 2) ∷ (0, 3) ∷ (1, 2) ∷ (1, 3) ∷ (2, 3) ∷ (0, 4) ∷ []) ≡ true ∷ true ∷ true ∷ false ∷ false ∷ false ∷ false ∷ []
row_receives = refl

pub row_two_ranks : before two_ranks (call_id 0 0) (call_id 1 1) ≡ false
row_two_ranks = refl

-- ---- out of order

pub empty_cut : (front : List MatchSet) (m : MatchSet) (behind : List MatchSet) → [] ≡ front ++ (m ∷ behind) → ⊥
empty_cut [] m behind e = cc
empty_cut (f ∷ front) m behind e = cc

-- among no match sets is none by which a rank went on
pub went_nowhere : {b : Board} {x : CallId} → WentOn b [] x → ⊥
went_nowhere w = empty_cut w.front w.by w.behind w.cut

abbrev pub shows : List MatchSet → Board
shows sets = record { mode = Rendezvous; calls = senders ∷ receivers ∷ []; sets = sets }

-- the later send of an envelope is paired, the earlier one isn't
pub row_overtaken : Ordered (shows (Pair (call_id 0 2) (call_id 1 0) ∷ [])) (call_id 0 0) (call_id 0 2) → ⊥
row_overtaken o = both_ways false refl (o.matched refl [] [] (call_id 0 2) (call_id 1 0) refl refl)

-- it is paired later
pub row_late : Ordered (shows (Pair (call_id 0 2) (call_id 1 0) ∷ Pair (call_id 0 0) (call_id 1 1) ∷ [])) (call_id 0 0) (call_id 0 2) → ⊥
row_late o = both_ways false refl (o.matched refl [] (Pair (call_id 0 0) (call_id 1 1) ∷ []) (call_id 0 2) (call_id 1 0) refl refl)

-- the later receive is paired, and the earlier one takes any message
pub row_passed_over : Ordered (shows (Pair (call_id 0 0) (call_id 1 1) ∷ [])) (call_id 1 0) (call_id 1 1) → ⊥
row_passed_over o = both_ways false refl (o.matched refl [] [] (call_id 0 0) (call_id 1 1) refl refl)

-- a rank went on from a wait for a send that is not done
pub row_not_done : Ordered (shows (Woke (call_id 0 4) ∷ [])) (call_id 0 1) (call_id 0 4) → ⊥
row_not_done o = both_ways false refl (o.waited refl [] [] refl)

-- a call after a wait is paired, and the rank never went on from the wait
pub row_still_blocked : Ordered (shows (Pair (call_id 0 5) (call_id 1 0) ∷ [])) (call_id 0 4) (call_id 0 5) → ⊥
row_still_blocked o = went_nowhere (o.went_on refl [] [] (Pair (call_id 0 5) (call_id 1 0)) refl refl)
