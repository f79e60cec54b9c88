-- Printed texts: calls, match sets, what a rank is doing, how a run has ended, and all that `show` prints.
use Rattle.std.specs.Prelude.{ℕ, ℤ, Bool, true, false, ◌&&◌, if◌then◌else◌, List, [], ◌∷◌, ◌++◌, Option, Some, None, slice_get, slice_index_or, codes}
use Rattle.std.specs.List.{flat_map}
use Rattle.std.specs.Fmt.{decimal, signed_decimal}
use Rattle.mpd_model.specs.declared.step.CallId.{CallId}
use Rattle.mpd_model.specs.declared.step.Step.{Step}
use Rattle.mpd_model.specs.declared.step.Step.TheVariants.{Local, Match, Wake, WakeAny, Release}
use Rattle.mpd_model.specs.declared.call.CallKind.{CallKind}
use Rattle.mpd_model.specs.declared.call.CallKind.TheVariants.{Send, Recv, Wait, Waitany, Barrier}
use Rattle.mpd_model.specs.declared.call.Mode.{Mode}
use Rattle.mpd_model.specs.declared.call.Trap.{Trap}
use Rattle.mpd_model.specs.declared.call.Trap.TheVariants.{Overflow, ZeroDivisor, BadRank, BadTag, BadIndex, Assertion}
use Rattle.mpd_model.specs.declared.call.Activity.{Activity}
use Rattle.mpd_model.specs.declared.call.Activity.TheVariants.{Running, Blocked, Trapped}
use Rattle.mpd_model.specs.declared.call.Message.{Message}
use Rattle.mpd_model.specs.declared.call.MatchSet.{MatchSet}
use Rattle.mpd_model.specs.declared.call.MatchSet.TheVariants.{Pair, Woke}
use Rattle.mpd_model.specs.declared.call.MatchSet.TheVariants as set
use Rattle.mpd_model.specs.declared.outcome.TrappedRank.{TrappedRank}
use Rattle.mpd_model.specs.declared.outcome.Outcome.{Outcome}
use Rattle.mpd_model.specs.declared.outcome.Outcome.TheVariants as ending
use Rattle.mpd_model.specs.declared.comparison.Comparison.{Comparison}
use Rattle.mpd_model.specs.script.Program.{Program}
use Rattle.mpd_model.specs.steps.World.{RankWorld, World, Board, call_id, rank_numbers, call_numbers, kind_at, partner, is_free, is_buffered, is_limited, buffer, last_call, pending, posted}
use Rattle.mpd_model.specs.steps.Outcomes.{first_number, ids_of, outcome}
use Rattle.mpd_model.specs.runs.Comparisons.{text_of}

-- ---- lists of values: one space before each

abbrev pub spaced : {A : Type 0} → (A → List ℕ) → List A → List ℕ
spaced text xs = flat_map (λ x. 32 ∷ text x) xs

-- a text as a line of its own
abbrev pub line : List ℕ → List ℕ
line text = text ++ 10 ∷ []

-- ---- calls

-- `1.2` is the call of number 2 of rank 1
abbrev pub id_text : CallId → List ℕ
id_text c = decimal c.rank ++ 46 ∷ decimal c.index

-- a step as trace words write it
abbrev pub step_text : Step → List ℕ
step_text (Local p) = codes "local " ++ decimal p
step_text (Match s r) = codes "match " ++ id_text s ++ 32 ∷ id_text r
step_text (Wake p) = codes "wake " ++ decimal p
step_text (WakeAny p i) = codes "wakeany " ++ decimal p ++ 32 ∷ decimal i
step_text Release = codes "release"

-- steps, with a comma and a space between two, and a space before the first
abbrev pub steps_text : List Step → List ℕ
steps_text [] = []
steps_text (a ∷ steps) = 32 ∷ step_text a ++ flat_map (λ b. 44 ∷ 32 ∷ step_text b) steps

abbrev pub trap_name : Trap → List ℕ
trap_name Overflow = codes "overflow"
trap_name ZeroDivisor = codes "zero-divisor"
trap_name BadRank = codes "bad-rank"
trap_name BadTag = codes "bad-tag"
trap_name BadIndex = codes "bad-index"
trap_name Assertion = codes "assert"

-- a synchronous send, and a call that its rank doesn't wait for, have words of their own
abbrev pub send_word : Bool → Bool → List ℕ
send_word false true = codes "send"
send_word false false = codes "isend"
send_word true true = codes "ssend"
send_word true false = codes "issend"

abbrev pub recv_word : Bool → List ℕ
recv_word blocks = if blocks then codes "recv" else codes "irecv"

-- the number of the call that a wait is for
abbrev pub target_text : Option ℕ → List ℕ
target_text None = codes "none"
target_text (Some i) = decimal i

abbrev pub any_text : Option ℕ → List ℕ
any_text None = codes "any"
any_text (Some n) = decimal n

abbrev pub kind_text : CallKind → List ℕ
kind_text (Send s) = send_word s.synchronous s.blocks ++ codes " to " ++ decimal s.to ++ codes " tag " ++ decimal s.tag ++ codes " value " ++ signed_decimal s.value
kind_text (Recv r) = recv_word r.blocks ++ codes " from " ++ any_text r.from ++ codes " tag " ++ any_text r.tag
kind_text (Wait t) = codes "wait " ++ target_text t.target
kind_text (Waitany a) = codes "waitany " ++ decimal a.first ++ 32 ∷ decimal a.count ++ (if a.active then [] else codes " none")
kind_text Barrier = codes "barrier"

-- in a mode whose buffers run out, what is told of a send that got one
abbrev pub buffer_text : Mode → CallKind → List ℕ
buffer_text mode kind = if is_limited mode && is_buffered (Some kind) then codes " buffered" else []

-- the call that a call was paired with, and the word of one that is free
abbrev pub partner_text : Option CallId → List ℕ
partner_text None = []
partner_text (Some d) = codes " with " ++ id_text d

abbrev pub pairing_text : Board → CallId → List ℕ
pairing_text b c = if is_free b c then codes " free" else partner_text (partner b.sets c)

-- the value that a receive got
abbrev pub got_text : CallKind → Option Message → List ℕ
got_text (Recv r) (Some m) = codes " value " ++ signed_decimal m.value
got_text kind m = []

abbrev pub call_text_of : Board → CallId → Option CallKind → List ℕ
call_text_of b c None = []
call_text_of b c (Some kind) = kind_text kind ++ buffer_text b.mode kind ++ pairing_text b c ++ got_text kind (buffer b c)

abbrev pub call_text : Board → CallId → List ℕ
call_text b c = call_text_of b c (kind_at b c)

-- ---- ranks

-- what a running rank is at: the line of its next statement, given that one's number
abbrev pub place_text : List ℕ → Option ℕ → List ℕ
place_text lines None = codes "ended"
place_text lines (Some number) = codes "at " ++ decimal (slice_index_or lines number 0)

-- what a rank is doing, given its last call and the number of its next statement
abbrev pub activity_text : List ℕ → CallId → Option ℕ → Activity → List ℕ
activity_text lines last number Running = place_text lines number
activity_text lines last number Blocked = codes "blocked " ++ decimal last.index
activity_text lines last number (Trapped t) = codes "trapped " ++ trap_name t

abbrev pub state_text : Program → World → ℕ → RankWorld → List ℕ
state_text s w p r = activity_text s.lines (last_call w.board p) (first_number r.rest) r.activity

abbrev pub rank_text_of : Program → World → ℕ → Option RankWorld → List ℕ
rank_text_of s w p None = []
rank_text_of s w p (Some r) = state_text s w p r

abbrev pub rank_text : Program → World → ℕ → List ℕ
rank_text s w p = rank_text_of s w p (slice_get w.ranks p)

-- ---- match sets and outcomes

abbrev pub set_text : MatchSet → List ℕ
set_text (Pair s r) = codes "pair " ++ id_text s ++ 32 ∷ id_text r
set_text (Woke c) = codes "woke " ++ id_text c
set_text set.Barrier = codes "barrier"

abbrev pub trapped_text : TrappedRank → List ℕ
trapped_text t = decimal t.rank ++ 32 ∷ trap_name t.trap

abbrev pub outcome_text : Outcome → List ℕ
outcome_text ending.Done = codes "done"
outcome_text (ending.Leftovers calls) = codes "leftovers" ++ spaced id_text (ids_of calls)
outcome_text (ending.Deadlock calls) = codes "deadlock" ++ spaced id_text (ids_of calls)
outcome_text (ending.Trap traps) = codes "trap" ++ spaced trapped_text traps

-- ---- the lines of `show`

abbrev pub depth_line : ℕ → ℕ → List ℕ
depth_line depth all = line (codes "depth " ++ decimal depth ++ codes " of " ++ decimal all)

abbrev pub rank_line : Program → World → ℕ → List ℕ
rank_line s w p = line (codes "rank " ++ decimal p ++ 32 ∷ rank_text s w p)

abbrev pub values_line : List ℕ → List ℤ → List ℕ
values_line name values = line (name ++ spaced signed_decimal values)

-- a handle without a call is shown by a dash
abbrev pub handle_text : Option ℕ → List ℕ
handle_text None = codes "-"
handle_text (Some i) = decimal i

abbrev pub handles_line : List (Option ℕ) → List ℕ
handles_line handles = line (codes "handles" ++ spaced handle_text handles)

abbrev pub call_line : Board → CallId → List ℕ
call_line b c = line (codes "call " ++ id_text c ++ 32 ∷ call_text b c)

abbrev pub call_lines : Board → ℕ → List ℕ
call_lines b p = flat_map (λ i. call_line b (call_id p i)) (call_numbers b p)

-- what a rank holds
abbrev pub cell_lines : Option RankWorld → List ℕ
cell_lines None = []
cell_lines (Some r) = values_line (codes "vars") r.vars ++ handles_line r.handles ++ values_line (codes "out") r.out

abbrev pub rank_lines : Program → World → ℕ → List ℕ
rank_lines s w p = rank_line s w p ++ cell_lines (slice_get w.ranks p) ++ call_lines w.board p

-- a line of call numbers, where there are any
abbrev pub numbers_line : List ℕ → List ℕ → List ℕ
numbers_line name [] = []
numbers_line name (i ∷ is) = line (name ++ 58 ∷ spaced decimal (i ∷ is))

abbrev pub pending_line : Board → ℕ → ℕ → List ℕ
pending_line b p q = numbers_line (codes "pending " ++ decimal p ++ codes " to " ++ decimal q) (pending b p q)

abbrev pub pending_lines : Board → ℕ → List ℕ
pending_lines b p = flat_map (pending_line b p) (rank_numbers b)

abbrev pub posted_line : Board → ℕ → List ℕ
posted_line b q = numbers_line (codes "posted " ++ decimal q) (posted b q)

abbrev pub set_line : MatchSet → List ℕ
set_line m = line (codes "set " ++ set_text m)

abbrev pub outcome_line : Option Outcome → List ℕ
outcome_line None = []
outcome_line (Some o) = line (codes "outcome " ++ outcome_text o)

-- The text of `show`, given the depth and the number of all steps kept: the ranks, the free sends and the free receives, the
-- match sets in the order formed, and the outcome where no step is enabled.
abbrev pub show_text : Program → World → ℕ → ℕ → List ℕ
show_text s w depth all =
    depth_line depth all
    ++ flat_map (rank_lines s w) (rank_numbers w.board)
    ++ flat_map (pending_lines w.board) (rank_numbers w.board)
    ++ flat_map (posted_line w.board) (rank_numbers w.board)
    ++ flat_map set_line w.board.sets
    ++ outcome_line (outcome w)
    ++ line (codes "end")

-- ---- breakpoints

-- ` rank 1`, where a rank is meant
abbrev pub meant_text : Option ℕ → List ℕ
meant_text None = []
meant_text (Some p) = codes " rank " ++ decimal p

-- ` == 3`
abbrev pub compared_text : Comparison → ℤ → List ℕ
compared_text k v = 32 ∷ text_of k ++ 32 ∷ signed_decimal v
