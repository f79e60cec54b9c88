use Rattle.std.proofs.Common.{rules, ◌≡◌, ◌≤◌, ◌+◌, ◌++◌, ◌∷◌, [], ℕ, List, length, ap, sym, subst, ◌∙◌, arith}
use Rattle.mpd_model.specs.declared.step.CallId.{CallId}
use Rattle.mpd_model.specs.declared.call.MatchSet.{MatchSet}
use Rattle.mpd_model.specs.declared.call.MatchSet.TheVariants.{Pair}
use Rattle.std.proofs.lemmas.List.{length-map}
use Rattle.mpd_model.specs.steps.World.{Board, kind_at, calls_of}
use Rattle.mpd_queue.specs.InOrder.{next_of}
use Rattle.mpd_match.specs.Views.{SideView, BoardView, calls_in, board_in}
use Rattle.mpd_match.specs.Lines.{line_of}
use Rattle.mpd_match.specs.Changes.{without_last_set, last_set, record_of_pair, Recorded}
use Rattle.mpd_match.specs.declared.record.PairRecord.{PairRecord}
use Rattle.mpd_match.specs.Held.{Meets}
use Rattle.mpd_match.specs.Slots.{slots_of, slots_paired, Counted}
use Rattle.mpd_match.proofs.AtSide.{listed_at, more_set_room}
use Rattle.mpd_match.proofs.Partners.{last_paired}
use Rattle.mpd_match.proofs.Counted.{one_slot, unpaired_few, counted_unpair}
use Rattle.mpd_match.proofs.Boards.{pair_of, lines_of_last, last_is, kind_is, side_calls, side_exists, as_many_sides, kind_stays, send_marked, recv_marked, send_line, recv_line, recorded_last, meets_unpair}
use Rattle.mpd_match.proofs.board.Board.unpair.Goals as goal

pub overflow_add-recv : goal.overflow_add-recv
overflow_add-recv c =
    let s = c.self.inside in
    let e : board_in s.mode s.sides.items s.sets.items ≡ c.args.self.now.board = ap (λ (v : BoardView). v.board) c.self.view_is in
    let h : Meets (board_in s.mode s.sides.items s.sets.items) s.sides.items = c.self.invariant.meets in
    let sides : List SideView = s.sides.items in
    let before : List MatchSet = c.pop.new.self.items in
    let send : CallId = c.in-Some-Pair.send in
    let recv : CallId = c.in-Some-Pair.recv in
    let items : s.sets.items ≡ before ++ Pair send recv ∷ [] = c.in-Some-Pair.ensures.items ∙ ap (λ (m : MatchSet). before ++ m ∷ []) c.in-Some-Pair.field-0-is in
    let held : Meets (board_in s.mode sides (before ++ Pair send recv ∷ [])) sides = pair_of s.mode sides s.sets.items before send recv items h in
    let lines = lines_of_last s.mode sides before send recv held in
    let few : recv.rank + 1 ≤ 16 = omega (arith, side_exists sides recv 0 lines.1, h.few) in
    search rules

pub unpair_at-requires-clause-within : goal.unpair_at-requires-clause-within
unpair_at-requires-clause-within c =
    let s = c.self.inside in
    let e : board_in s.mode s.sides.items s.sets.items ≡ c.args.self.now.board = ap (λ (v : BoardView). v.board) c.self.view_is in
    let h : Meets (board_in s.mode s.sides.items s.sets.items) s.sides.items = c.self.invariant.meets in
    let sides : List SideView = s.sides.items in
    let before : List MatchSet = c.pop.new.self.items in
    let send : CallId = c.in-Some-Pair.send in
    let recv : CallId = c.in-Some-Pair.recv in
    let items : s.sets.items ≡ before ++ Pair send recv ∷ [] = c.in-Some-Pair.ensures.items ∙ ap (λ (m : MatchSet). before ++ m ∷ []) c.in-Some-Pair.field-0-is in
    let held : Meets (board_in s.mode sides (before ++ Pair send recv ∷ [])) sides = pair_of s.mode sides s.sets.items before send recv items h in
    let lines = lines_of_last s.mode sides before send recv held in
    side_exists sides send (recv.rank + 1) lines.0

pub unpair_at-requires-clause-line : goal.unpair_at-requires-clause-line
unpair_at-requires-clause-line c =
    let s = c.self.inside in
    let e : board_in s.mode s.sides.items s.sets.items ≡ c.args.self.now.board = ap (λ (v : BoardView). v.board) c.self.view_is in
    let h : Meets (board_in s.mode s.sides.items s.sets.items) s.sides.items = c.self.invariant.meets in
    let sides : List SideView = s.sides.items in
    let before : List MatchSet = c.pop.new.self.items in
    let send : CallId = c.in-Some-Pair.send in
    let recv : CallId = c.in-Some-Pair.recv in
    let items : s.sets.items ≡ before ++ Pair send recv ∷ [] = c.in-Some-Pair.ensures.items ∙ ap (λ (m : MatchSet). before ++ m ∷ []) c.in-Some-Pair.field-0-is in
    let held : Meets (board_in s.mode sides (before ++ Pair send recv ∷ [])) sides = pair_of s.mode sides s.sets.items before send recv items h in
    let lines = lines_of_last s.mode sides before send recv held in
    lines.0

pub unpair_at-requires-clause-paired : goal.unpair_at-requires-clause-paired
unpair_at-requires-clause-paired c =
    let s = c.self.inside in
    let e : board_in s.mode s.sides.items s.sets.items ≡ c.args.self.now.board = ap (λ (v : BoardView). v.board) c.self.view_is in
    let h : Meets (board_in s.mode s.sides.items s.sets.items) s.sides.items = c.self.invariant.meets in
    let sides : List SideView = s.sides.items in
    let before : List MatchSet = c.pop.new.self.items in
    let send : CallId = c.in-Some-Pair.send in
    let recv : CallId = c.in-Some-Pair.recv in
    let items : s.sets.items ≡ before ++ Pair send recv ∷ [] = c.in-Some-Pair.ensures.items ∙ ap (λ (m : MatchSet). before ++ m ∷ []) c.in-Some-Pair.field-0-is in
    let held : Meets (board_in s.mode sides (before ++ Pair send recv ∷ [])) sides = pair_of s.mode sides s.sets.items before send recv items h in
    let lines = lines_of_last s.mode sides before send recv held in
    send_marked s.mode sides before send recv held

pub unpair_at-requires-clause-spot : goal.unpair_at-requires-clause-spot
unpair_at-requires-clause-spot c =
    let s = c.self.inside in
    let e : board_in s.mode s.sides.items s.sets.items ≡ c.args.self.now.board = ap (λ (v : BoardView). v.board) c.self.view_is in
    let h : Meets (board_in s.mode s.sides.items s.sets.items) s.sides.items = c.self.invariant.meets in
    let sides : List SideView = s.sides.items in
    let before : List MatchSet = c.pop.new.self.items in
    let send : CallId = c.in-Some-Pair.send in
    let recv : CallId = c.in-Some-Pair.recv in
    let items : s.sets.items ≡ before ++ Pair send recv ∷ [] = c.in-Some-Pair.ensures.items ∙ ap (λ (m : MatchSet). before ++ m ∷ []) c.in-Some-Pair.field-0-is in
    let held : Meets (board_in s.mode sides (before ++ Pair send recv ∷ [])) sides = pair_of s.mode sides s.sets.items before send recv items h in
    let lines = lines_of_last s.mode sides before send recv held in
    let done : c.args.done ≡ record_of_pair (board_in s.mode sides before) send recv = recorded_last s.mode sides s.sets.items before send recv c.args.done items (subst (λ (b : Board). Recorded (without_last_set b) c.args.done (last_set b)) (sym e) c.requires) in
    ap (λ (d : PairRecord). d.send_spot) done ∙ ap (λ (zs : List ℕ). next_of zs send.index) (sym (send_line s.mode sides before send recv held))

pub unpair_at-requires-2-clause-within : goal.unpair_at-requires-2-clause-within
unpair_at-requires-2-clause-within c =
    let s = c.self.inside in
    let e : board_in s.mode s.sides.items s.sets.items ≡ c.args.self.now.board = ap (λ (v : BoardView). v.board) c.self.view_is in
    let h : Meets (board_in s.mode s.sides.items s.sets.items) s.sides.items = c.self.invariant.meets in
    let sides : List SideView = s.sides.items in
    let before : List MatchSet = c.pop.new.self.items in
    let send : CallId = c.in-Some-Pair.send in
    let recv : CallId = c.in-Some-Pair.recv in
    let items : s.sets.items ≡ before ++ Pair send recv ∷ [] = c.in-Some-Pair.ensures.items ∙ ap (λ (m : MatchSet). before ++ m ∷ []) c.in-Some-Pair.field-0-is in
    let held : Meets (board_in s.mode sides (before ++ Pair send recv ∷ [])) sides = pair_of s.mode sides s.sets.items before send recv items h in
    let lines = lines_of_last s.mode sides before send recv held in
    let mid : List SideView = c.unpair_at.new.sides.items in
    omega (arith, side_exists sides recv 0 lines.1, as_many_sides sides mid c.unpair_at.ensures.lines)

pub unpair_at-requires-2-clause-line : goal.unpair_at-requires-2-clause-line
unpair_at-requires-2-clause-line c =
    let s = c.self.inside in
    let e : board_in s.mode s.sides.items s.sets.items ≡ c.args.self.now.board = ap (λ (v : BoardView). v.board) c.self.view_is in
    let h : Meets (board_in s.mode s.sides.items s.sets.items) s.sides.items = c.self.invariant.meets in
    let sides : List SideView = s.sides.items in
    let before : List MatchSet = c.pop.new.self.items in
    let send : CallId = c.in-Some-Pair.send in
    let recv : CallId = c.in-Some-Pair.recv in
    let items : s.sets.items ≡ before ++ Pair send recv ∷ [] = c.in-Some-Pair.ensures.items ∙ ap (λ (m : MatchSet). before ++ m ∷ []) c.in-Some-Pair.field-0-is in
    let held : Meets (board_in s.mode sides (before ++ Pair send recv ∷ [])) sides = pair_of s.mode sides s.sets.items before send recv items h in
    let lines = lines_of_last s.mode sides before send recv held in
    let mid : List SideView = c.unpair_at.new.sides.items in
    ap line_of (kind_stays sides mid recv c.unpair_at.ensures.calls) ∙ lines.1

pub unpair_at-requires-2-clause-paired : goal.unpair_at-requires-2-clause-paired
unpair_at-requires-2-clause-paired c =
    let s = c.self.inside in
    let e : board_in s.mode s.sides.items s.sets.items ≡ c.args.self.now.board = ap (λ (v : BoardView). v.board) c.self.view_is in
    let h : Meets (board_in s.mode s.sides.items s.sets.items) s.sides.items = c.self.invariant.meets in
    let sides : List SideView = s.sides.items in
    let before : List MatchSet = c.pop.new.self.items in
    let send : CallId = c.in-Some-Pair.send in
    let recv : CallId = c.in-Some-Pair.recv in
    let items : s.sets.items ≡ before ++ Pair send recv ∷ [] = c.in-Some-Pair.ensures.items ∙ ap (λ (m : MatchSet). before ++ m ∷ []) c.in-Some-Pair.field-0-is in
    let held : Meets (board_in s.mode sides (before ++ Pair send recv ∷ [])) sides = pair_of s.mode sides s.sets.items before send recv items h in
    let lines = lines_of_last s.mode sides before send recv held in
    let mid : List SideView = c.unpair_at.new.sides.items in
    recv_marked s.mode sides mid before send recv held c.unpair_at.ensures.marks

pub unpair_at-requires-2-clause-spot : goal.unpair_at-requires-2-clause-spot
unpair_at-requires-2-clause-spot c =
    let s = c.self.inside in
    let e : board_in s.mode s.sides.items s.sets.items ≡ c.args.self.now.board = ap (λ (v : BoardView). v.board) c.self.view_is in
    let h : Meets (board_in s.mode s.sides.items s.sets.items) s.sides.items = c.self.invariant.meets in
    let sides : List SideView = s.sides.items in
    let before : List MatchSet = c.pop.new.self.items in
    let send : CallId = c.in-Some-Pair.send in
    let recv : CallId = c.in-Some-Pair.recv in
    let items : s.sets.items ≡ before ++ Pair send recv ∷ [] = c.in-Some-Pair.ensures.items ∙ ap (λ (m : MatchSet). before ++ m ∷ []) c.in-Some-Pair.field-0-is in
    let held : Meets (board_in s.mode sides (before ++ Pair send recv ∷ [])) sides = pair_of s.mode sides s.sets.items before send recv items h in
    let lines = lines_of_last s.mode sides before send recv held in
    let mid : List SideView = c.unpair_at.new.sides.items in
    let done : c.args.done ≡ record_of_pair (board_in s.mode sides before) send recv = recorded_last s.mode sides s.sets.items before send recv c.args.done items (subst (λ (b : Board). Recorded (without_last_set b) c.args.done (last_set b)) (sym e) c.requires) in
    ap (λ (d : PairRecord). d.recv_spot) done ∙ ap (λ (zs : List ℕ). next_of zs recv.index) (sym (recv_line s.mode sides mid before send recv held c.unpair_at.ensures.calls c.unpair_at.ensures.marks))

pub take_slot-requires-clause-within : goal.take_slot-requires-clause-within
take_slot-requires-clause-within c =
    let s = c.self.inside in
    let e : board_in s.mode s.sides.items s.sets.items ≡ c.args.self.now.board = ap (λ (v : BoardView). v.board) c.self.view_is in
    let h : Meets (board_in s.mode s.sides.items s.sets.items) s.sides.items = c.self.invariant.meets in
    let sides : List SideView = s.sides.items in
    let before : List MatchSet = c.pop.new.self.items in
    let send : CallId = c.in-Some-Pair.send in
    let recv : CallId = c.in-Some-Pair.recv in
    let items : s.sets.items ≡ before ++ Pair send recv ∷ [] = c.in-Some-Pair.ensures.items ∙ ap (λ (m : MatchSet). before ++ m ∷ []) c.in-Some-Pair.field-0-is in
    let held : Meets (board_in s.mode sides (before ++ Pair send recv ∷ [])) sides = pair_of s.mode sides s.sets.items before send recv items h in
    let lines = lines_of_last s.mode sides before send recv held in
    let mid : List SideView = c.unpair_at.new.sides.items in
    let last = last_paired (kind_at (board_in s.mode sides (before ++ Pair send recv ∷ []))) before send recv held.paired in
    let new : List SideView = c.unpair_at-2.new.sides.items in
    let calls : calls_in new ≡ calls_in sides = c.unpair_at-2.ensures.calls ∙ c.unpair_at.ensures.calls in
    let counted : Counted (board_in s.mode sides (before ++ Pair send recv ∷ [])) s.slots.items = subst (λ (zs : List MatchSet). Counted (board_in s.mode sides zs) s.slots.items) items c.self.invariant.counted in
    let kind : c.kind_on-kind.result ≡ kind_at (board_in s.mode sides before) send = c.kind_on-kind.ensures ∙ kind_stays sides new send calls ∙ kind_is s.mode sides before send in
    omega (arith, side_exists sides send (recv.rank + 1) lines.0, counted.ranks, length-map sides (λ (v : SideView). v.calls))

pub take_slot-requires-clause-few : goal.take_slot-requires-clause-few
take_slot-requires-clause-few c =
    let s = c.self.inside in
    let e : board_in s.mode s.sides.items s.sets.items ≡ c.args.self.now.board = ap (λ (v : BoardView). v.board) c.self.view_is in
    let h : Meets (board_in s.mode s.sides.items s.sets.items) s.sides.items = c.self.invariant.meets in
    let sides : List SideView = s.sides.items in
    let before : List MatchSet = c.pop.new.self.items in
    let send : CallId = c.in-Some-Pair.send in
    let recv : CallId = c.in-Some-Pair.recv in
    let items : s.sets.items ≡ before ++ Pair send recv ∷ [] = c.in-Some-Pair.ensures.items ∙ ap (λ (m : MatchSet). before ++ m ∷ []) c.in-Some-Pair.field-0-is in
    let held : Meets (board_in s.mode sides (before ++ Pair send recv ∷ [])) sides = pair_of s.mode sides s.sets.items before send recv items h in
    let lines = lines_of_last s.mode sides before send recv held in
    let mid : List SideView = c.unpair_at.new.sides.items in
    let last = last_paired (kind_at (board_in s.mode sides (before ++ Pair send recv ∷ []))) before send recv held.paired in
    let new : List SideView = c.unpair_at-2.new.sides.items in
    let calls : calls_in new ≡ calls_in sides = c.unpair_at-2.ensures.calls ∙ c.unpair_at.ensures.calls in
    let counted : Counted (board_in s.mode sides (before ++ Pair send recv ∷ [])) s.slots.items = subst (λ (zs : List MatchSet). Counted (board_in s.mode sides zs) s.slots.items) items c.self.invariant.counted in
    let kind : c.kind_on-kind.result ≡ kind_at (board_in s.mode sides before) send = c.kind_on-kind.ensures ∙ kind_stays sides new send calls ∙ kind_is s.mode sides before send in
    let many : length (calls_of (board_in s.mode sides before) send.rank) ≤ 4294967295 =
    omega (
      arith,
      c.unpair_at.ensures.few,
      ap length (side_calls sides mid send.rank c.unpair_at.ensures.calls),
      ap length (listed_at sides send.rank),
    ) in
    omega (arith, many, unpaired_few s.mode sides before s.slots.items send recv c.kind_on-kind.result last.1 last.0 kind counted)

pub invariant_of-self : goal.invariant_of-self
invariant_of-self c =
    let s = c.self.inside in
    let e : board_in s.mode s.sides.items s.sets.items ≡ c.args.self.now.board = ap (λ (v : BoardView). v.board) c.self.view_is in
    let h : Meets (board_in s.mode s.sides.items s.sets.items) s.sides.items = c.self.invariant.meets in
    let sides : List SideView = s.sides.items in
    let before : List MatchSet = c.pop.new.self.items in
    let send : CallId = c.in-Some-Pair.send in
    let recv : CallId = c.in-Some-Pair.recv in
    let items : s.sets.items ≡ before ++ Pair send recv ∷ [] = c.in-Some-Pair.ensures.items ∙ ap (λ (m : MatchSet). before ++ m ∷ []) c.in-Some-Pair.field-0-is in
    let held : Meets (board_in s.mode sides (before ++ Pair send recv ∷ [])) sides = pair_of s.mode sides s.sets.items before send recv items h in
    let lines = lines_of_last s.mode sides before send recv held in
    let mid : List SideView = c.unpair_at.new.sides.items in
    let last = last_paired (kind_at (board_in s.mode sides (before ++ Pair send recv ∷ []))) before send recv held.paired in
    let new : List SideView = c.unpair_at-2.new.sides.items in
    let calls : calls_in new ≡ calls_in sides = c.unpair_at-2.ensures.calls ∙ c.unpair_at.ensures.calls in
    let counted : Counted (board_in s.mode sides (before ++ Pair send recv ∷ [])) s.slots.items = subst (λ (zs : List MatchSet). Counted (board_in s.mode sides zs) s.slots.items) items c.self.invariant.counted in
    let kind : c.kind_on-kind.result ≡ kind_at (board_in s.mode sides before) send = c.kind_on-kind.ensures ∙ kind_stays sides new send calls ∙ kind_is s.mode sides before send in
    record {
      meets =
          meets_unpair s.mode sides mid c.unpair_at-2.new.sides.items before send recv held
          c.unpair_at.ensures.calls c.unpair_at.ensures.lines c.unpair_at.ensures.marks
          c.unpair_at-2.ensures.calls c.unpair_at-2.ensures.lines c.unpair_at-2.ensures.marks;
      counted =
          counted_unpair s.mode sides new before s.slots.items c.take_slot.new.slots.items send recv c.kind_on-kind.result last.1 last.0 calls kind
          c.take_slot.ensures.ranks c.take_slot.ensures.held counted;
    }

pub returns-clause-writes : goal.returns-clause-writes
returns-clause-writes c =
    let s = c.self.inside in
    let e : board_in s.mode s.sides.items s.sets.items ≡ c.args.self.now.board = ap (λ (v : BoardView). v.board) c.self.view_is in
    let h : Meets (board_in s.mode s.sides.items s.sets.items) s.sides.items = c.self.invariant.meets in
    let sides : List SideView = s.sides.items in
    let before : List MatchSet = c.pop.new.self.items in
    let send : CallId = c.in-Some-Pair.send in
    let recv : CallId = c.in-Some-Pair.recv in
    let items : s.sets.items ≡ before ++ Pair send recv ∷ [] = c.in-Some-Pair.ensures.items ∙ ap (λ (m : MatchSet). before ++ m ∷ []) c.in-Some-Pair.field-0-is in
    let held : Meets (board_in s.mode sides (before ++ Pair send recv ∷ [])) sides = pair_of s.mode sides s.sets.items before send recv items h in
    let lines = lines_of_last s.mode sides before send recv held in
    let mid : List SideView = c.unpair_at.new.sides.items in
    let last = last_paired (kind_at (board_in s.mode sides (before ++ Pair send recv ∷ []))) before send recv held.paired in
    let new : List SideView = c.unpair_at-2.new.sides.items in
    let calls : calls_in new ≡ calls_in sides = c.unpair_at-2.ensures.calls ∙ c.unpair_at.ensures.calls in
    let counted : Counted (board_in s.mode sides (before ++ Pair send recv ∷ [])) s.slots.items = subst (λ (zs : List MatchSet). Counted (board_in s.mode sides zs) s.slots.items) items c.self.invariant.counted in
    let kind : c.kind_on-kind.result ≡ kind_at (board_in s.mode sides before) send = c.kind_on-kind.ensures ∙ kind_stays sides new send calls ∙ kind_is s.mode sides before send in
    let all : slots_paired c.args.self.now.board (last_set c.args.self.now.board) ≡ slots_of c.kind_on-kind.result =
    ap (λ (b : Board). slots_paired b (last_set b)) (sym e)
    ∙ ap (slots_paired (board_in s.mode sides s.sets.items)) (last_is s.mode sides s.sets.items before (Pair send recv) items)
    ∙ sym (ap slots_of kind) in
    omega (
      arith,
      all,
      c.in-Some-Pair.ensures.last.1,
      c.unpair_at.ensures.writes,
      c.unpair_at-2.ensures.writes,
      c.take_slot.ensures.writes,
      ap (λ (v : BoardView). v.writes) c.self.view_is,
    )

pub returns-clause-room : goal.returns-clause-room
returns-clause-room c =
    let s = c.self.inside in
    let more : c.pop.new.self.room ≡ s.sets.room + 1 = c.in-Some-Pair.ensures.last.0 in
    omega (
      arith,
      ap (λ (v : BoardView). v.room) c.self.view_is,
      c.unpair_at.ensures.room c.pop.new.self.room,
      c.unpair_at-2.ensures.room c.pop.new.self.room,
      more_set_room s.sides.items s.sets.room c.pop.new.self.room 0 (omega (arith, more)),
    )

pub returns-clause-few_writes : goal.returns-clause-few_writes
returns-clause-few_writes c =
    omega (
      arith,
      c.in-Some-Pair.ensures.last.1,
      c.unpair_at.ensures.writes,
      c.unpair_at-2.ensures.writes,
      c.take_slot.ensures.writes,
      one_slot c.kind_on-kind.result,
      ap (λ (v : BoardView). v.writes) c.self.view_is,
    )
