use Rattle.std.proofs.Common.{◌≡◌, ◌<◌, List, [], ◌∷◌, ◌++◌, Some, None, length, length-append, slice_get, ap, sym, ◌∙◌, arith}
use Rattle.std.proofs.lemmas.List.{length-map}
use Rattle.mpd_model.specs.declared.step.CallId.{CallId}
use Rattle.mpd_model.specs.declared.call.Call.{Call}
use Rattle.mpd_model.specs.steps.World.{call_id, listed_calls, partner}
use Rattle.mpd_laws.proofs.buffered.Slots.{slots_within}
use Rattle.mpd_match.specs.Views.{SideView, BoardView, board_in, calls_in}
use Rattle.mpd_match.specs.Held.{Meets}
use Rattle.mpd_match.proofs.AtSide.{some_room_at}
use Rattle.mpd_match.proofs.Boards.{listed_here, meets_issue, issue_back, issued_free}
use Rattle.mpd_match.proofs.Counted.{one_slot, counted_issue}
use Rattle.mpd_match.proofs.board.Board.add_call.Goals as goal

pub issue_at-number-requires-clause-room : goal.issue_at-number-requires-clause-room
issue_at-number-requires-clause-room c =
    let s = c.self.inside in
    let ranks : length c.args.self.now.board.calls ≡ length s.sides.items = ap (λ (v : BoardView). length v.board.calls) (sym c.self.view_is) ∙ length-map s.sides.items (λ (v : SideView). v.calls) in
    let lt : c.args.rank < length s.sides.items = omega (arith, c.requires.rank, ranks) in
    omega (arith, c.requires.room, ap (λ (v : BoardView). v.room) c.self.view_is, some_room_at s.sides.items c.args.rank s.sets.room lt)

pub take_slot-requires-clause-few : goal.take_slot-requires-clause-few
take_slot-requires-clause-few c =
    let s = c.self.inside in
    let held = c.self.invariant.counted.held c.args.rank in
    let within = slots_within (board_in s.mode s.sides.items s.sets.items) c.args.rank in
    omega (arith, held, within, one_slot (Some c.args.call.kind), c.issue_at-number.ensures.number, c.issue_at-number.ensures.small)

pub invariant_of-self : goal.invariant_of-self
invariant_of-self c =
    let s = c.self.inside in
    let h : Meets (board_in s.mode s.sides.items s.sets.items) s.sides.items = c.self.invariant.meets in
    let calls : List (List Call) = calls_in s.sides.items in
    let place : CallId = call_id c.args.rank (length (listed_calls (slice_get calls c.args.rank))) in
    let free : partner s.sets.items place ≡ None = sym (h.marks place) ∙ sym (c.issue_at-number.ensures.marks place) ∙ c.issue_at-number.ensures.free in
    let lt : c.args.rank < length (calls_in s.sides.items) = omega (arith, c.requires.rank, ap (λ (v : BoardView). length v.board.calls) c.self.view_is) in
    record {
      meets =
          meets_issue s.mode s.sides.items c.issue_at-number.new.sides.items s.sets.items c.args.rank c.args.call lt c.issue_at-number.ensures.calls c.issue_at-number.ensures.lines c.issue_at-number.ensures.marks h;
      counted =
          counted_issue s.mode s.sides.items c.issue_at-number.new.sides.items s.sets.items s.slots.items c.take_slot.new.slots.items c.args.rank c.args.call lt c.issue_at-number.ensures.calls free
          c.take_slot.ensures.ranks c.take_slot.ensures.held c.self.invariant.counted;
    }

pub returns-clause-some : goal.returns-clause-some
returns-clause-some c =
    let s = c.self.inside in
    let calls : List (List Call) = calls_in s.sides.items in
    let lt : c.args.rank < length calls = omega (arith, c.requires.rank, ap (λ (v : BoardView). length v.board.calls) c.self.view_is) in
    let own : List Call = listed_calls (slice_get calls c.args.rank) ++ c.args.call ∷ [] in
    let long : length (listed_calls (slice_get (calls_in c.issue_at-number.new.sides.items) c.args.rank)) ≡ length own =
    ap (λ (zs : List (List Call)). length (listed_calls (slice_get zs c.args.rank))) c.issue_at-number.ensures.calls ∙ ap length (listed_here calls c.args.rank own lt) in
    omega (arith, long, length-append (listed_calls (slice_get calls c.args.rank)) (c.args.call ∷ []))

pub returns-clause-back : goal.returns-clause-back
returns-clause-back c =
    let s = c.self.inside in
    let e : board_in s.mode s.sides.items s.sets.items ≡ c.args.self.now.board = ap (λ (v : BoardView). v.board) c.self.view_is in
    let h : Meets (board_in s.mode s.sides.items s.sets.items) s.sides.items = c.self.invariant.meets in
    let lt : c.args.rank < length (calls_in s.sides.items) = omega (arith, c.requires.rank, ap (λ (v : BoardView). length v.board.calls) c.self.view_is) in
    issue_back s.mode s.sides.items c.issue_at-number.new.sides.items s.sets.items c.args.rank c.args.call lt c.issue_at-number.ensures.calls ∙ e

pub returns-clause-free : goal.returns-clause-free
returns-clause-free c =
    let s = c.self.inside in
    let lt : c.args.rank < length (calls_in s.sides.items) = omega (arith, c.requires.rank, ap (λ (v : BoardView). length v.board.calls) c.self.view_is) in
    issued_free s.mode s.sides.items c.issue_at-number.new.sides.items s.sets.items c.args.rank c.args.call lt c.issue_at-number.ensures.calls c.issue_at-number.ensures.marks c.issue_at-number.ensures.free c.self.invariant.meets
