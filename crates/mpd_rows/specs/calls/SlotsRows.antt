-- Worked rows of modes whose buffers run out: their words, which sends get one, and what is told of it. What is wanted was worked out by hand.
use Rattle.std.specs.Prelude.{◌≡◌, ℕ, Bool, true, false, map, replicate, length, List, [], ◌∷◌, ◌++◌, Option, Some, None, codes, refl}
use Rattle.std.specs.Option.{option_map, option_and_then}
use Rattle.std.specs.Fmt.{digits}
use Rattle.mpd_model.specs.declared.expr.BinaryOp.TheVariants.{Subtract}
use Rattle.mpd_model.specs.declared.place.Place.{Place}
use Rattle.mpd_model.specs.declared.step.Step.{Step}
use Rattle.mpd_model.specs.declared.step.Step.TheVariants.{Local, Match, Wake}
use Rattle.mpd_model.specs.declared.call.Mode.{Mode}
use Rattle.mpd_model.specs.declared.call.Mode.TheVariants.{Rendezvous, Buffered, Slots}
use Rattle.mpd_model.specs.declared.outcome.Outcome.{Outcome}
use Rattle.mpd_model.specs.declared.outcome.Outcome.TheVariants as o
use Rattle.mpd_model.specs.script.Declaration.{Declared}
use Rattle.mpd_model.specs.texts.Lines.{lines_of}
use Rattle.mpd_model.specs.texts.Modes.{mode_of}
use Rattle.mpd_model.specs.steps.Outcomes.{issued_by, outcome}
use Rattle.mpd_model.specs.script.Program.{Program}
use Rattle.mpd_model.specs.script.Term.{Term, own_rank, op2}
use Rattle.mpd_model.specs.runs.Trail.{opening}
use Rattle.mpd_model.specs.script.Tree.{Tree, no_more, then_more}
use Rattle.mpd_model.specs.steps.World.{World, call_id, kind_at, is_buffered, is_limited, slots_used, start}
use Rattle.mpd_model.specs.steps.Next.{buffers_one, is_enabled, fold}
use Rattle.mpd_rows.specs.worlds.Statements.{send, ssend, recv, isend, issend, irecv, wait}
use Rattle.mpd_rows.specs.calls.RequestRows.{n, whole, part, x, variable, request, script, two_parts, told}

-- ---- modes as words

pub row_words : map {B = Option Mode} mode_of
    (codes "slots:0" ∷ codes "slots:00003" ∷ codes "slots:65536" ∷ codes "slots:1" ∷ codes "slots:00000" ∷ codes "slots:10" ∷ codes "slots:65535" ∷ codes "rendezvous" ∷ codes "buffered" ∷ [])
    ≡ Some (Slots 0) ∷ Some (Slots 3) ∷ Some (Slots 65536) ∷ Some (Slots 1) ∷ Some (Slots 0) ∷ Some (Slots 10) ∷ Some (Slots 65535) ∷ Some Rendezvous ∷ Some Buffered ∷ []
row_words = refl

-- without a number, one that is too large or too long, another sign, another letter, a blank
abbrev no_modes : List (List ℕ)
no_modes =
    codes "slots:" ∷ codes "slots:65537" ∷ codes "slots:99999" ∷ codes "slots:000001" ∷ codes "slots:-1" ∷ codes "slots:+1" ∷ codes "slots:1x" ∷ codes "slots:x" ∷ codes "slots" ∷ codes "Slots:1" ∷ codes "SLOTS:1" ∷ codes "slot:1"
    ∷ codes "slots=1" ∷ codes "slots:1 " ∷ codes " slots:1" ∷ codes "slots: 1" ∷ codes "slots:1:2" ∷ codes "slots::1" ∷ codes "buffered:1" ∷ codes "rendezvous:1" ∷ codes "buffer" ∷ [] ∷ []

pub row_no_words : map {B = Option Mode} mode_of no_modes ≡ replicate (length no_modes) None
row_no_words = refl

-- ---- modes

pub row_limited : map {B = Bool} is_limited (Rendezvous ∷ Buffered ∷ Slots 0 ∷ Slots 7 ∷ []) ≡ false ∷ false ∷ true ∷ true ∷ []
row_limited = refl

-- whether there is a buffer for a rank that holds so many slots: as long as it holds fewer than there are
pub row_room : map {B = Bool} (λ (r : Mode × ℕ). buffers_one r.0 r.1)
    ((Rendezvous, 0) ∷ (Rendezvous, 3) ∷ (Buffered, 0) ∷ (Buffered, 70000) ∷ (Slots 0, 0) ∷ (Slots 1, 0) ∷ (Slots 1, 1) ∷ (Slots 3, 2) ∷ (Slots 3, 3) ∷ (Slots 3, 4) ∷ [])
    ≡ false ∷ false ∷ true ∷ true ∷ false ∷ true ∷ false ∷ true ∷ false ∷ false ∷ []
row_room = refl

-- ---- a rank that sends to itself, in the mode with one slot

abbrev in_slots : ℕ → Program → List Step → Option World
in_slots count s steps = fold (start s (Slots count)) steps

-- which of the first calls of a rank were buffered
abbrev are_buffered : ℕ → List ℕ → Option World → Option (List Bool)
are_buffered p numbers w = option_map (λ v. map {B = Bool} (λ i. is_buffered (kind_at v.board (call_id p i))) numbers) w

-- how many slots of rank p are held after each of some lists of steps
abbrev held : ℕ → Program → ℕ → List (List Step) → List (Option ℕ)
held count s p runs = map {B = Option ℕ} (λ steps. option_map (λ w. slots_used w.board p) (in_slots count s steps)) runs

abbrev one_x : List Declared
one_x = variable (codes "x") ∷ []

abbrev r : Place
r = record { declaration = 1; first = 0; cells = 3 }

abbrev x_and_three : List Declared
x_and_three = variable (codes "x") ∷ request (codes "r") (Some 3) ∷ []

-- isend r[0] 1 to 0 tag 0; irecv r[1] x from 0 tag 0; isend r[2] 2 to 0 tag 0; wait r[2];
abbrev to_itself : Program
to_itself = script 1 x_and_three
    (isend (part r (n 0)) (n 1) (n 0) (n 0) ∷ irecv (part r (n 1)) (whole x) (n 0) (n 0) ∷ isend (part r (n 2)) (n 2) (n 0) (n 0) ∷ wait (part r (n 2)) ∷ [])

abbrev first_pair : Step
first_pair = Match (call_id 0 0) (call_id 0 1)

-- the match frees the slot, and the second send takes it
abbrev matched_first : List Step
matched_first = Local 0 ∷ Local 0 ∷ first_pair ∷ Local 0 ∷ Local 0 ∷ []

-- the second send finds the slot taken, and goes without for good
abbrev matched_late : List Step
matched_late = Local 0 ∷ Local 0 ∷ Local 0 ∷ Local 0 ∷ []

pub row_wakes : map {B = Option Bool} (λ steps. option_map (λ w. is_enabled w (Wake 0)) (in_slots 1 to_itself steps)) (matched_first ∷ matched_late ∷ (matched_late ++ first_pair ∷ []) ∷ [])
    ≡ Some true ∷ Some false ∷ Some false ∷ []
row_wakes = refl

pub row_buffered : map {B = Option (List Bool)} (λ steps. are_buffered 0 (0 ∷ 1 ∷ 2 ∷ 3 ∷ []) (in_slots 1 to_itself steps)) (matched_first ∷ matched_late ∷ (matched_late ++ first_pair ∷ []) ∷ [])
    ≡ Some (true ∷ false ∷ true ∷ false ∷ []) ∷ Some (true ∷ false ∷ false ∷ false ∷ []) ∷ Some (true ∷ false ∷ false ∷ false ∷ []) ∷ []
row_buffered = refl

-- none; one with the first send; still one with the receive; none with the match; one with the second send; still one after the wait and its wake
pub row_held_matched_first : held 1 to_itself 0
    ([] ∷ (Local 0 ∷ []) ∷ (Local 0 ∷ Local 0 ∷ []) ∷ (Local 0 ∷ Local 0 ∷ first_pair ∷ []) ∷ (Local 0 ∷ Local 0 ∷ first_pair ∷ Local 0 ∷ []) ∷ matched_first ∷ (matched_first ++ Wake 0 ∷ []) ∷ [])
    ≡ Some 0 ∷ Some 1 ∷ Some 1 ∷ Some 0 ∷ Some 1 ∷ Some 1 ∷ Some 1 ∷ []
row_held_matched_first = refl

pub row_held_matched_late : held 1 to_itself 0 ((Local 0 ∷ Local 0 ∷ Local 0 ∷ []) ∷ matched_late ∷ (matched_late ++ first_pair ∷ []) ∷ []) ≡ Some 1 ∷ Some 1 ∷ Some 0 ∷ []
row_held_matched_late = refl

-- with no slot none is held, with two both sends get one, and the match frees that of the first
pub row_held_of_others : held 0 to_itself 0 (matched_late ∷ []) ++ held 2 to_itself 0 (matched_late ∷ (matched_late ++ first_pair ∷ []) ∷ []) ≡ Some 0 ∷ Some 2 ∷ Some 1 ∷ []
row_held_of_others = refl

-- there is one rank
pub row_held_elsewhere : held 1 to_itself 1 (matched_late ∷ []) ≡ Some 0 ∷ []
row_held_elsewhere = refl

-- ---- what is told of it

abbrev told_in : Mode → Program → List ℕ → List ℕ
told_in mode s z = told (opening s mode) (lines_of z)

abbrev words_matched_first : List ℕ
words_matched_first = codes "local 0\nlocal 0\nmatch 0.0 0.1\nlocal 0\nlocal 0\nwake 0\nshow\n"

-- that it is buffered stands after the value, and stays after the match
pub row_told_matched_first : told_in (Slots 1) to_itself words_matched_first
    ≡ codes "ok 1\nok 2\nok 3\nok 4\nok 5\nok 6\n"
    ++ codes "depth 6 of 6\nrank 0 ended\nvars 0\nhandles 0 1 -\nout\ncall 0.0 isend to 0 tag 0 value 1 buffered with 0.1\ncall 0.1 irecv from 0 tag 0 with 0.0 value 1\n"
    ++ codes "call 0.2 isend to 0 tag 0 value 2 buffered free\ncall 0.3 wait 2\npending 0 to 0: 2\nset pair 0.0 0.1\nset woke 0.3\noutcome leftovers 0.2\nend\n"
unfolding digits
row_told_matched_first = refl

pub row_told_matched_late : told_in (Slots 1) to_itself (codes "local 0\nlocal 0\nlocal 0\nlocal 0\nwake 0\nmatch 0.0 0.1\nwake 0\nshow\n")
    ≡ codes "ok 1\nok 2\nok 3\nok 4\nrefused not-enabled\nok 5\nrefused not-enabled\n"
    ++ codes "depth 5 of 5\nrank 0 blocked 3\nvars 0\nhandles 0 1 2\nout\ncall 0.0 isend to 0 tag 0 value 1 buffered with 0.1\ncall 0.1 irecv from 0 tag 0 with 0.0 value 1\n"
    ++ codes "call 0.2 isend to 0 tag 0 value 2 free\ncall 0.3 wait 2\npending 0 to 0: 2\nset pair 0.0 0.1\noutcome deadlock 0.3\nend\n"
unfolding digits
row_told_matched_late = refl

-- in the other modes nothing is told: there, a send's word and the mode say it
pub row_told_buffered : told_in Buffered to_itself words_matched_first
    ≡ codes "ok 1\nok 2\nok 3\nok 4\nok 5\nok 6\n"
    ++ codes "depth 6 of 6\nrank 0 ended\nvars 0\nhandles 0 1 -\nout\ncall 0.0 isend to 0 tag 0 value 1 with 0.1\ncall 0.1 irecv from 0 tag 0 with 0.0 value 1\n"
    ++ codes "call 0.2 isend to 0 tag 0 value 2 free\ncall 0.3 wait 2\npending 0 to 0: 2\nset pair 0.0 0.1\nset woke 0.3\noutcome leftovers 0.2\nend\n"
unfolding digits
row_told_buffered = refl

pub row_told_rendezvous : told_in Rendezvous to_itself words_matched_first
    ≡ codes "ok 1\nok 2\nok 3\nok 4\nok 5\nrefused not-enabled\n"
    ++ codes "depth 5 of 5\nrank 0 blocked 3\nvars 0\nhandles 0 1 2\nout\ncall 0.0 isend to 0 tag 0 value 1 with 0.1\ncall 0.1 irecv from 0 tag 0 with 0.0 value 1\n"
    ++ codes "call 0.2 isend to 0 tag 0 value 2 free\ncall 0.3 wait 2\npending 0 to 0: 2\nset pair 0.0 0.1\noutcome deadlock 0.3\nend\n"
unfolding digits
row_told_rendezvous = refl

-- what was taken back is free again: the send that is issued anew gets the slot
pub row_told_back : told_in (Slots 1) to_itself (codes "local 0\nlocal 0\nlocal 0\nback\nmatch 0.0 0.1\nlocal 0\nlocal 0\nwake 0\nback\nback\nback\nback\nlocal 0\nlocal 0\nwake 0\n")
    ≡ codes "ok 1\nok 2\nok 3\nok 2\nok 3\nok 4\nok 5\nok 6\nok 5\nok 4\nok 3\nok 2\nok 3\nok 4\nrefused not-enabled\n"
unfolding digits
row_told_back = refl

-- ---- how many slots are enough: three messages that are taken in another order

abbrev put : ℕ → Tree
put k = send (n 1) (n 1) (n k)

abbrev take_tag : ℕ → Tree
take_tag k = recv (whole x) (n 0) (n k)

-- if rank == 0 { send 1 to 1 tag 0; send 1 to 1 tag 1; send 1 to 1 tag 2; } else { recv x from 0 tag 2; recv x from 0 tag 0; recv x from 0 tag 1; }
abbrev three_messages : Program
three_messages = script 2 one_x
    (two_parts (then_more (put 0) (then_more (put 1) (then_more (put 2) no_more))) (then_more (take_tag 2) (then_more (take_tag 0) (then_more (take_tag 1) no_more))))

abbrev ends : ℕ → Program → List Step → Option Outcome
ends count s steps = option_and_then outcome (in_slots count s steps)

pub row_no_slot : ends 0 three_messages (Local 0 ∷ Local 0 ∷ Local 1 ∷ Local 1 ∷ []) ≡ Some (o.Deadlock (issued_by 1 (call_id 0 0) ∷ issued_by 4 (call_id 1 0) ∷ []))
row_no_slot = refl

pub row_one_slot : ends 1 three_messages (Local 0 ∷ Local 0 ∷ Wake 0 ∷ Local 0 ∷ Local 1 ∷ Local 1 ∷ []) ≡ Some (o.Deadlock (issued_by 2 (call_id 0 1) ∷ issued_by 4 (call_id 1 0) ∷ []))
row_one_slot = refl

-- the third send is paired at once, and needs none
pub row_two_slots : ends 2 three_messages
    (Local 0 ∷ Local 0 ∷ Wake 0 ∷ Local 0 ∷ Wake 0 ∷ Local 0 ∷ Local 1 ∷ Local 1 ∷ Match (call_id 0 2) (call_id 1 0) ∷ Wake 0 ∷ Wake 1
    ∷ Local 1 ∷ Match (call_id 0 0) (call_id 1 1) ∷ Wake 1 ∷ Local 1 ∷ Match (call_id 0 1) (call_id 1 2) ∷ Wake 1 ∷ []) ≡ Some o.Done
row_two_slots = refl

pub row_two_slots_held : held 2 three_messages 0
    ((Local 0 ∷ Local 0 ∷ Wake 0 ∷ Local 0 ∷ Wake 0 ∷ Local 0 ∷ []) ∷ (Local 0 ∷ Local 0 ∷ Wake 0 ∷ Local 0 ∷ Wake 0 ∷ Local 0 ∷ Local 1 ∷ Local 1 ∷ Match (call_id 0 2) (call_id 1 0) ∷ Wake 0 ∷ Wake 1 ∷ [])
    ∷ (Local 0 ∷ Local 0 ∷ Wake 0 ∷ Local 0 ∷ Wake 0 ∷ Local 0 ∷ Local 1 ∷ Local 1 ∷ Match (call_id 0 2) (call_id 1 0) ∷ Wake 0 ∷ Wake 1 ∷ Local 1 ∷ Match (call_id 0 0) (call_id 1 1) ∷ []) ∷ [])
    ≡ Some 2 ∷ Some 2 ∷ Some 1 ∷ []
row_two_slots_held = refl

-- ---- whose slots they are

-- issend r[0] 1 to 0 tag 0; isend r[1] 2 to 0 tag 0; isend r[2] 3 to 0 tag 0;
abbrev behind_a_synchronous_one : Program
behind_a_synchronous_one = script 1 x_and_three (issend (part r (n 0)) (n 1) (n 0) (n 0) ∷ isend (part r (n 1)) (n 2) (n 0) (n 0) ∷ isend (part r (n 2)) (n 3) (n 0) (n 0) ∷ [])

-- a synchronous send takes none, though there is one
pub row_synchronous : are_buffered 0 (0 ∷ 1 ∷ 2 ∷ []) (in_slots 1 behind_a_synchronous_one (Local 0 ∷ Local 0 ∷ Local 0 ∷ [])) ≡ Some (false ∷ true ∷ false ∷ [])
row_synchronous = refl

pub row_synchronous_held : held 1 behind_a_synchronous_one 0 ((Local 0 ∷ []) ∷ (Local 0 ∷ Local 0 ∷ []) ∷ (Local 0 ∷ Local 0 ∷ Local 0 ∷ []) ∷ []) ≡ Some 0 ∷ Some 1 ∷ Some 1 ∷ []
row_synchronous_held = refl

-- ssend 1 to 0 tag 0;
pub row_ssend_waits : ends 9 (script 1 [] (ssend (n 1) (n 0) (n 0) ∷ [])) (Local 0 ∷ []) ≡ Some (o.Deadlock (issued_by 0 (call_id 0 0) ∷ []))
row_ssend_waits = refl

-- two ranks, each of which sends twice to the other: isend r[0] 1 to 1 - rank tag 0; isend r[1] 2 to 1 - rank tag 0;
abbrev the_other : Term
the_other = op2 Subtract (n 1) own_rank

abbrev each_to_the_other : Program
each_to_the_other = script 2 x_and_three (isend (part r (n 0)) (n 1) the_other (n 0) ∷ isend (part r (n 1)) (n 2) the_other (n 0) ∷ [])

abbrev one_rank_after_the_other : List Step
one_rank_after_the_other = Local 0 ∷ Local 0 ∷ Local 1 ∷ Local 1 ∷ []

pub row_each_rank : map {B = Option (List Bool)} (λ p. are_buffered p (0 ∷ 1 ∷ []) (in_slots 1 each_to_the_other one_rank_after_the_other)) (0 ∷ 1 ∷ []) ≡ Some (true ∷ false ∷ []) ∷ Some (true ∷ false ∷ []) ∷ []
row_each_rank = refl

pub row_each_rank_held : held 1 each_to_the_other 0 ((Local 0 ∷ Local 0 ∷ []) ∷ one_rank_after_the_other ∷ []) ++ held 1 each_to_the_other 1 ((Local 0 ∷ Local 0 ∷ []) ∷ one_rank_after_the_other ∷ [])
    ≡ Some 1 ∷ Some 1 ∷ Some 0 ∷ Some 1 ∷ []
row_each_rank_held = refl

-- ---- what frees none

-- send 1 to 0 tag 0; send 2 to 0 tag 0;
abbrev two_sends : Program
two_sends = script 1 [] (send (n 1) (n 0) (n 0) ∷ send (n 2) (n 0) (n 0) ∷ [])

-- the rank goes on from its first send, whose message is still there
pub row_wake_frees_none : held 1 two_sends 0 ((Local 0 ∷ []) ∷ (Local 0 ∷ Wake 0 ∷ []) ∷ (Local 0 ∷ Wake 0 ∷ Local 0 ∷ []) ∷ []) ≡ Some 1 ∷ Some 1 ∷ Some 1 ∷ []
row_wake_frees_none = refl

pub row_second_waits : map {B = Option Outcome} (λ count. ends count two_sends (Local 0 ∷ Wake 0 ∷ Local 0 ∷ [])) (1 ∷ 2 ∷ []) ≡ Some (o.Deadlock (issued_by 1 (call_id 0 1) ∷ [])) ∷ None ∷ []
row_second_waits = refl

-- isend r[0] 1 to 0 tag 0; wait r[0]; isend r[0] 2 to 0 tag 0; wait r[0];
abbrev waited_for : Program
waited_for = script 1 x_and_three (isend (part r (n 0)) (n 1) (n 0) (n 0) ∷ wait (part r (n 0)) ∷ isend (part r (n 0)) (n 2) (n 0) (n 0) ∷ wait (part r (n 0)) ∷ [])

-- nor does a wait for the send
pub row_wait_frees_none : ends 1 waited_for (Local 0 ∷ Local 0 ∷ Wake 0 ∷ Local 0 ∷ Local 0 ∷ []) ≡ Some (o.Deadlock (issued_by 3 (call_id 0 3) ∷ []))
row_wait_frees_none = refl

-- isend r[0] 1 to 0 tag 0; isend r[0] 2 to 0 tag 0; isend r[0] 3 to 0 tag 0;
abbrev requests_lost : Program
requests_lost = script 1 x_and_three (isend (part r (n 0)) (n 1) (n 0) (n 0) ∷ isend (part r (n 0)) (n 2) (n 0) (n 0) ∷ isend (part r (n 0)) (n 3) (n 0) (n 0) ∷ [])

-- nor a handle that loses its request
pub row_lost_request : are_buffered 0 (0 ∷ 1 ∷ 2 ∷ []) (in_slots 2 requests_lost (Local 0 ∷ Local 0 ∷ Local 0 ∷ [])) ≡ Some (true ∷ true ∷ false ∷ [])
row_lost_request = refl
