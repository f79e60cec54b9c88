-- Worked rows of barriers and synchronous sends. Rank 0 sends to rank 1 and meets it at a barrier, twice; then it sends with another tag.
use Rattle.std.specs.Prelude.{◌≡◌, ℕ, pos, Bool, true, false, List, [], ◌∷◌, ◌++◌, map, Some, None, refl}
use Rattle.std.proofs.lemmas.Bool.{both_ways}
use Rattle.mpd_model.specs.declared.step.CallId.{CallId}
use Rattle.mpd_model.specs.declared.call.Call.{Call}
use Rattle.mpd_model.specs.declared.call.CallKind.TheVariants.{Send, Recv, Wait, Barrier}
use Rattle.mpd_model.specs.declared.call.Mode.{Mode}
use Rattle.mpd_model.specs.declared.call.Mode.TheVariants.{Rendezvous, Buffered}
use Rattle.mpd_model.specs.declared.call.MatchSet.{MatchSet}
use Rattle.mpd_model.specs.declared.call.MatchSet.TheVariants.{Pair, Woke}
use Rattle.mpd_model.specs.declared.call.MatchSet.TheVariants as set
use Rattle.mpd_model.specs.steps.World.{Board, start_board, call_id, pending, posted, eligible, partner, complete}
use Rattle.mpd_model.specs.steps.Next.{entered, with_call, with_set}
use Rattle.mpd_model.specs.steps.Order.{before, is_exit, WentOn, Ordered}
use Rattle.mpd_model.specs.steps.Why.{why}
use Rattle.mpd_match.specs.Changes.{without_last_call, without_last_set, last_set, issue_writes, unissue_writes}
use Rattle.mpd_match.specs.OrderRows.{empty_cut, went_nowhere}

-- sends that their rank doesn't wait for
abbrev pub sends : Bool → ℕ → Call
sends synchronous tag = record { statement = 0; kind = Send (record { to = 1; tag = tag; value = pos 40; synchronous = synchronous; blocks = false; buffered = false }) }

abbrev pub meets : Call
meets = record { statement = 1; kind = Barrier }

abbrev pub takes : Call
takes = record { statement = 2; kind = Recv (record { from = Some 0; tag = Some 7; cell = 0; status = None; blocks = false }) }

abbrev pub awaits : ℕ → Call
awaits target = record { statement = 3; kind = Wait (record { handle = 0; target = Some target }) }

abbrev pub senders : List Call
senders = sends false 7 ∷ meets ∷ sends true 7 ∷ meets ∷ sends false 8 ∷ []

abbrev pub receivers : List Call
receivers = takes ∷ meets ∷ takes ∷ meets ∷ []

abbrev pub shows : List MatchSet → Board
shows sets = record { mode = Rendezvous; calls = senders ∷ receivers ∷ []; sets = sets }

-- ---- which call completes before which

abbrev pub before_in : List (ℕ × ℕ) → List Bool
before_in pairs = map (λ (c : ℕ × ℕ). before (shows []) (call_id 0 c.0) (call_id 0 c.1)) pairs

-- a barrier, before a send, another barrier, and a send after that
pub row_barriers : before_in ((1, 2) ∷ (1, 3) ∷ (1, 4) ∷ (3, 4) ∷ []) ≡ true ∷ true ∷ true ∷ true ∷ []
row_barriers = refl

-- a send before a barrier, a barrier before an earlier one, before itself, before a call that was not issued
pub row_no_order : before_in ((0, 1) ∷ (2, 3) ∷ (3, 1) ∷ (1, 1) ∷ (3, 5) ∷ []) ≡ false ∷ false ∷ false ∷ false ∷ false ∷ []
row_no_order = refl

-- sends of one envelope, of which one is synchronous, and of two
pub row_envelopes : before_in ((0, 2) ∷ (0, 4) ∷ (2, 4) ∷ []) ≡ true ∷ false ∷ false ∷ []
row_envelopes = refl

pub row_other_rank : before (shows []) (call_id 0 1) (call_id 1 2) ≡ false
row_other_rank = refl

-- ---- by which release a rank went on from a barrier

abbrev pub left_by : List MatchSet → List ℕ → List Bool
left_by front calls = map (λ i. is_exit (shows []) front set.Barrier (call_id 0 i)) calls

-- the first release is of the first barrier, the second of the second, and a third of none; pairs and wakes don't count
pub row_first_release : left_by [] (0 ∷ 1 ∷ 2 ∷ 3 ∷ 5 ∷ []) ≡ false ∷ true ∷ false ∷ false ∷ false ∷ []
row_first_release = refl

pub row_second_release : left_by (Pair (call_id 0 0) (call_id 1 0) ∷ set.Barrier ∷ Woke (call_id 1 0) ∷ []) (0 ∷ 1 ∷ 2 ∷ 3 ∷ []) ≡ false ∷ false ∷ false ∷ true ∷ []
row_second_release = refl

pub row_third_release : left_by (set.Barrier ∷ set.Barrier ∷ []) (1 ∷ 3 ∷ []) ≡ false ∷ false ∷ []
row_third_release = refl

-- a send after a barrier is paired, and the ranks never left the barrier
pub row_not_left : Ordered (shows (Pair (call_id 0 2) (call_id 1 0) ∷ [])) (call_id 0 1) (call_id 0 2) → ⊥
row_not_left o = went_nowhere (o.went_on refl [] [] (Pair (call_id 0 2) (call_id 1 0)) refl refl)

one_cut : (b : Board) (x : CallId) (front : List MatchSet) (m : MatchSet) (behind : List MatchSet) → set.Barrier ∷ [] ≡ front ++ (m ∷ behind) → is_exit b front m x ≡ true → is_exit b [] set.Barrier x ≡ true
one_cut b x [] m behind e exit = let same : m ≡ set.Barrier = cc in cc
one_cut b x (f ∷ front) m behind e exit = absurd (empty_cut front m behind cc)

-- a send after the second barrier is paired, and the ranks left the first one alone
abbrev pub one_left : Board
one_left = shows (set.Barrier ∷ Pair (call_id 0 4) (call_id 1 0) ∷ [])

pub row_one_left : Ordered one_left (call_id 0 3) (call_id 0 4) → ⊥
row_one_left o =
    let w : WentOn one_left (set.Barrier ∷ []) (call_id 0 3) = o.went_on refl (set.Barrier ∷ []) [] (Pair (call_id 0 4) (call_id 1 0)) refl refl in
    both_ways false refl (one_cut one_left (call_id 0 3) w.front w.by w.behind w.cut w.exit)

-- ---- a barrier touches no line, and neither does leaving it

abbrev pub one_message : List MatchSet → Board
one_message sets = record { mode = Rendezvous; calls = (sends true 7 ∷ []) ∷ (takes ∷ []) ∷ []; sets = sets }

abbrev pub at_barrier : List MatchSet → Board
at_barrier sets = record { mode = Rendezvous; calls = (sends true 7 ∷ meets ∷ []) ∷ (takes ∷ meets ∷ []) ∷ []; sets = sets }

pub row_issued : with_call (with_call (one_message []) 0 meets) 1 meets ≡ at_barrier []
row_issued = refl

pub row_unissued : without_last_call (without_last_call (at_barrier []) 1) 0 ≡ one_message []
row_unissued = refl

-- the call and its partner, of which it has none
pub row_writes : issue_writes (Some Barrier) ≡ 2
row_writes = refl

pub row_writes_back : unissue_writes (Some Barrier) ≡ 2
row_writes_back = refl

abbrev pub lines_of : Board → List (List ℕ)
lines_of b = pending b 0 0 ∷ pending b 0 1 ∷ pending b 1 0 ∷ pending b 1 1 ∷ posted b 0 ∷ posted b 1 ∷ []

pub row_lines : map lines_of (one_message [] ∷ at_barrier [] ∷ at_barrier (set.Barrier ∷ []) ∷ []) ≡ ([] ∷ (0 ∷ []) ∷ [] ∷ [] ∷ [] ∷ (0 ∷ []) ∷ []) ∷ ([] ∷ (0 ∷ []) ∷ [] ∷ [] ∷ [] ∷ (0 ∷ []) ∷ []) ∷ ([] ∷ (0 ∷ []) ∷ [] ∷ [] ∷ [] ∷ (0 ∷ []) ∷ []) ∷ []
row_lines = refl

-- a message that is left after may be taken after the barrier
pub row_still_eligible : eligible (at_barrier (set.Barrier ∷ [])) (call_id 0 0) (call_id 1 0) ≡ true
row_still_eligible = refl

pub row_released : with_set (at_barrier (Pair (call_id 0 0) (call_id 1 0) ∷ [])) set.Barrier ≡ at_barrier (Pair (call_id 0 0) (call_id 1 0) ∷ set.Barrier ∷ [])
row_released = refl

pub row_last : last_set (at_barrier (Pair (call_id 0 0) (call_id 1 0) ∷ set.Barrier ∷ [])) ≡ Some set.Barrier
row_last = refl

pub row_unreleased : without_last_set (at_barrier (Pair (call_id 0 0) (call_id 1 0) ∷ set.Barrier ∷ [])) ≡ at_barrier (Pair (call_id 0 0) (call_id 1 0) ∷ [])
row_unreleased = refl

pub row_partners : map (partner (Pair (call_id 0 0) (call_id 1 0) ∷ set.Barrier ∷ [])) (call_id 0 0 ∷ call_id 0 1 ∷ call_id 1 0 ∷ call_id 1 1 ∷ []) ≡ Some (call_id 1 0) ∷ None ∷ Some (call_id 0 0) ∷ None ∷ []
row_partners = refl

pub row_why : map (why (at_barrier [])) (call_id 0 1 ∷ call_id 1 1 ∷ call_id 0 0 ∷ []) ≡ [] ∷ [] ∷ ((call_id 1 0, None) ∷ []) ∷ []
row_why = refl

-- ---- what is complete

-- rank 0: a standard send, a wait for it, a synchronous send, a wait for that, a barrier
abbrev pub sends_in : Mode → List MatchSet → Board
sends_in mode sets = record { mode = mode; calls = map (entered (start_board 2 mode) 0) (sends false 7 ∷ awaits 0 ∷ sends true 7 ∷ awaits 2 ∷ meets ∷ []) ∷ (takes ∷ takes ∷ meets ∷ []) ∷ []; sets = sets }

abbrev pub completes : Mode → List MatchSet → List Bool
completes mode sets = map (λ i. complete (sends_in mode sets) (call_id 0 i)) (0 ∷ 1 ∷ 2 ∷ 3 ∷ 4 ∷ [])

pub row_rendezvous : completes Rendezvous [] ≡ false ∷ false ∷ false ∷ false ∷ false ∷ []
row_rendezvous = refl

pub row_buffered : completes Buffered [] ≡ true ∷ true ∷ false ∷ false ∷ false ∷ []
row_buffered = refl

-- once the synchronous send is paired, too
pub row_both_paired : map (λ mode. completes mode (Pair (call_id 0 0) (call_id 1 0) ∷ Pair (call_id 0 2) (call_id 1 1) ∷ [])) (Rendezvous ∷ Buffered ∷ []) ≡ (true ∷ true ∷ true ∷ true ∷ false ∷ []) ∷ (true ∷ true ∷ true ∷ true ∷ false ∷ []) ∷ []
row_both_paired = refl

-- a barrier isn't when all ranks have left it, either, and completes no send
pub row_left : map (λ mode. completes mode (set.Barrier ∷ [])) (Rendezvous ∷ Buffered ∷ []) ≡ (false ∷ false ∷ false ∷ false ∷ false ∷ []) ∷ (true ∷ true ∷ false ∷ false ∷ false ∷ []) ∷ []
row_left = refl
