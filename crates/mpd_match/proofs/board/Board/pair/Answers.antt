use Rattle.std.proofs.Common.{rules, ◌≡◌, ◌≤◌, ◌+◌, ℕ, true, List, Some, ap, sym, subst, ◌∙◌, arith}
use Rattle.mpd_model.specs.steps.World.{Board, kind_at, pending, posted, eligible}
use Rattle.mpd_queue.specs.InOrder.{next_of}
use Rattle.mpd_match.specs.Views.{SideView, BoardView, board_in}
use Rattle.mpd_match.specs.Lines.{line_of}
use Rattle.mpd_match.specs.Held.{Meets}
use Rattle.mpd_match.proofs.AtSide.{some_set_room, more_set_room}
use Rattle.mpd_match.proofs.Boards.{lines_of_pair, side_exists, as_many_sides, kind_stays, pending_on, posted_on, other_line, meets_pair, recorded_new}
use Rattle.mpd_match.proofs.Counted.{one_slot, paired_held, counted_pair}
use Rattle.mpd_match.proofs.board.Board.pair.Goals as goal

pub push_kept-requires : goal.push_kept-requires
push_kept-requires c =
    let s = c.self.inside in
    omega (arith, c.requires.room, ap (λ (v : BoardView). v.room) c.self.view_is, some_set_room s.sides.items s.sets.room)

pub overflow_add-recv : goal.overflow_add-recv
overflow_add-recv c =
    let s = c.self.inside in
    let e : board_in s.mode s.sides.items s.sets.items ≡ c.args.self.now.board = ap (λ (v : BoardView). v.board) c.self.view_is in
    let h : Meets (board_in s.mode s.sides.items s.sets.items) s.sides.items = c.self.invariant.meets in
    let sides : List SideView = s.sides.items in
    let able : eligible (board_in s.mode sides s.sets.items) c.args.send c.args.recv ≡ true = subst (λ (b : Board). eligible b c.args.send c.args.recv ≡ true) (sym e) c.requires.eligible in
    let lines = lines_of_pair s.mode sides s.sets.items c.args.send c.args.recv able in
    let few : c.args.recv.rank + 1 ≤ 16 = omega (arith, side_exists sides c.args.recv 0 lines.1, h.few) in
    search rules

pub pair_at-send_spot-requires-clause-within : goal.pair_at-send_spot-requires-clause-within
pair_at-send_spot-requires-clause-within c =
    let s = c.self.inside in
    let e : board_in s.mode s.sides.items s.sets.items ≡ c.args.self.now.board = ap (λ (v : BoardView). v.board) c.self.view_is in
    let h : Meets (board_in s.mode s.sides.items s.sets.items) s.sides.items = c.self.invariant.meets in
    let sides : List SideView = s.sides.items in
    let able : eligible (board_in s.mode sides s.sets.items) c.args.send c.args.recv ≡ true = subst (λ (b : Board). eligible b c.args.send c.args.recv ≡ true) (sym e) c.requires.eligible in
    let lines = lines_of_pair s.mode sides s.sets.items c.args.send c.args.recv able in
    side_exists sides c.args.send (c.args.recv.rank + 1) lines.0

pub pair_at-send_spot-requires-clause-line : goal.pair_at-send_spot-requires-clause-line
pair_at-send_spot-requires-clause-line c =
    let s = c.self.inside in
    let e : board_in s.mode s.sides.items s.sets.items ≡ c.args.self.now.board = ap (λ (v : BoardView). v.board) c.self.view_is in
    let h : Meets (board_in s.mode s.sides.items s.sets.items) s.sides.items = c.self.invariant.meets in
    let sides : List SideView = s.sides.items in
    let able : eligible (board_in s.mode sides s.sets.items) c.args.send c.args.recv ≡ true = subst (λ (b : Board). eligible b c.args.send c.args.recv ≡ true) (sym e) c.requires.eligible in
    let lines = lines_of_pair s.mode sides s.sets.items c.args.send c.args.recv able in
    lines.0

pub pair_at-recv_spot-requires-clause-within : goal.pair_at-recv_spot-requires-clause-within
pair_at-recv_spot-requires-clause-within c =
    let s = c.self.inside in
    let e : board_in s.mode s.sides.items s.sets.items ≡ c.args.self.now.board = ap (λ (v : BoardView). v.board) c.self.view_is in
    let h : Meets (board_in s.mode s.sides.items s.sets.items) s.sides.items = c.self.invariant.meets in
    let sides : List SideView = s.sides.items in
    let mid : List SideView = c.pair_at-send_spot.new.sides.items in
    let able : eligible (board_in s.mode sides s.sets.items) c.args.send c.args.recv ≡ true = subst (λ (b : Board). eligible b c.args.send c.args.recv ≡ true) (sym e) c.requires.eligible in
    let lines = lines_of_pair s.mode sides s.sets.items c.args.send c.args.recv able in
    omega (arith, side_exists sides c.args.recv 0 lines.1, as_many_sides sides mid c.pair_at-send_spot.ensures.lines)

pub pair_at-recv_spot-requires-clause-line : goal.pair_at-recv_spot-requires-clause-line
pair_at-recv_spot-requires-clause-line c =
    let s = c.self.inside in
    let e : board_in s.mode s.sides.items s.sets.items ≡ c.args.self.now.board = ap (λ (v : BoardView). v.board) c.self.view_is in
    let h : Meets (board_in s.mode s.sides.items s.sets.items) s.sides.items = c.self.invariant.meets in
    let sides : List SideView = s.sides.items in
    let mid : List SideView = c.pair_at-send_spot.new.sides.items in
    let able : eligible (board_in s.mode sides s.sets.items) c.args.send c.args.recv ≡ true = subst (λ (b : Board). eligible b c.args.send c.args.recv ≡ true) (sym e) c.requires.eligible in
    let lines = lines_of_pair s.mode sides s.sets.items c.args.send c.args.recv able in
    ap line_of (kind_stays sides mid c.args.recv c.pair_at-send_spot.ensures.calls) ∙ lines.1

pub give_slot_back-requires-clause-some : goal.give_slot_back-requires-clause-some
give_slot_back-requires-clause-some c =
    let s = c.self.inside in
    let e : board_in s.mode s.sides.items s.sets.items ≡ c.args.self.now.board = ap (λ (v : BoardView). v.board) c.self.view_is in
    let sides : List SideView = s.sides.items in
    let able : eligible (board_in s.mode sides s.sets.items) c.args.send c.args.recv ≡ true = subst (λ (b : Board). eligible b c.args.send c.args.recv ≡ true) (sym e) c.requires.eligible in
    let kind : c.kind-kind.result ≡ kind_at (board_in s.mode sides s.sets.items) c.args.send = c.kind-kind.ensures ∙ ap (λ (b : Board). kind_at b c.args.send) (sym e) in
    paired_held s.mode sides s.sets.items s.slots.items c.args.send c.args.recv c.kind-kind.result able kind c.self.invariant.counted

pub invariant_of-self : goal.invariant_of-self
invariant_of-self c =
    let s = c.self.inside in
    let e : board_in s.mode s.sides.items s.sets.items ≡ c.args.self.now.board = ap (λ (v : BoardView). v.board) c.self.view_is in
    let h : Meets (board_in s.mode s.sides.items s.sets.items) s.sides.items = c.self.invariant.meets in
    let sides : List SideView = s.sides.items in
    let mid : List SideView = c.pair_at-send_spot.new.sides.items in
    let able : eligible (board_in s.mode sides s.sets.items) c.args.send c.args.recv ≡ true = subst (λ (b : Board). eligible b c.args.send c.args.recv ≡ true) (sym e) c.requires.eligible in
    let lines = lines_of_pair s.mode sides s.sets.items c.args.send c.args.recv able in
    let kind : c.kind-kind.result ≡ kind_at (board_in s.mode sides s.sets.items) c.args.send = c.kind-kind.ensures ∙ ap (λ (b : Board). kind_at b c.args.send) (sym e) in
    record {
      meets =
          meets_pair s.mode sides mid c.pair_at-recv_spot.new.sides.items s.sets.items c.push_kept.new.self.items c.args.send c.args.recv c.push_kept.ensures.items able
          c.pair_at-send_spot.ensures.calls c.pair_at-send_spot.ensures.lines c.pair_at-send_spot.ensures.marks
          c.pair_at-recv_spot.ensures.calls c.pair_at-recv_spot.ensures.lines c.pair_at-recv_spot.ensures.marks h;
      counted =
          counted_pair s.mode sides c.pair_at-recv_spot.new.sides.items s.sets.items c.push_kept.new.self.items s.slots.items c.give_slot_back.new.slots.items c.args.send c.args.recv c.kind-kind.result c.push_kept.ensures.items able
          (c.pair_at-recv_spot.ensures.calls ∙ c.pair_at-send_spot.ensures.calls) kind
          c.give_slot_back.ensures.ranks c.give_slot_back.ensures.held c.self.invariant.counted;
    }

pub returns-clause-recorded : goal.returns-clause-recorded
returns-clause-recorded c =
    let s = c.self.inside in
    let e : board_in s.mode s.sides.items s.sets.items ≡ c.args.self.now.board = ap (λ (v : BoardView). v.board) c.self.view_is in
    let h : Meets (board_in s.mode s.sides.items s.sets.items) s.sides.items = c.self.invariant.meets in
    let sides : List SideView = s.sides.items in
    let mid : List SideView = c.pair_at-send_spot.new.sides.items in
    let able : eligible (board_in s.mode sides s.sets.items) c.args.send c.args.recv ≡ true = subst (λ (b : Board). eligible b c.args.send c.args.recv ≡ true) (sym e) c.requires.eligible in
    let lines = lines_of_pair s.mode sides s.sets.items c.args.send c.args.recv able in
    let first : c.pair_at-send_spot.result ≡ next_of (pending c.args.self.now.board c.args.send.rank c.args.recv.rank) c.args.send.index =
    c.pair_at-send_spot.ensures.spot
    ∙ ap (λ (zs : List ℕ). next_of zs c.args.send.index) (pending_on s.mode sides s.sets.items c.args.send.rank c.args.recv.rank h)
    ∙ ap (λ (b : Board). next_of (pending b c.args.send.rank c.args.recv.rank) c.args.send.index) e in
    let second : c.pair_at-recv_spot.result ≡ next_of (posted c.args.self.now.board c.args.recv.rank) c.args.recv.index =
    c.pair_at-recv_spot.ensures.spot
    ∙ ap (λ (zs : List ℕ). next_of zs c.args.recv.index)
    (other_line sides mid c.args.send (Some c.args.recv) (c.args.recv.rank + 1) 0 c.args.recv.rank c.pair_at-send_spot.ensures.calls c.pair_at-send_spot.ensures.marks lines.0 (λ z. absurd (omega arith))
    ∙ posted_on s.mode sides s.sets.items c.args.recv.rank h)
    ∙ ap (λ (b : Board). next_of (posted b c.args.recv.rank) c.args.recv.index) e in
    λ k. record { send_spot = first k; recv_spot = second k }

pub returns-clause-undoable : goal.returns-clause-undoable
returns-clause-undoable c =
    let s = c.self.inside in
    let e : board_in s.mode s.sides.items s.sets.items ≡ c.args.self.now.board = ap (λ (v : BoardView). v.board) c.self.view_is in
    let h : Meets (board_in s.mode s.sides.items s.sets.items) s.sides.items = c.self.invariant.meets in
    let sides : List SideView = s.sides.items in
    let mid : List SideView = c.pair_at-send_spot.new.sides.items in
    let able : eligible (board_in s.mode sides s.sets.items) c.args.send c.args.recv ≡ true = subst (λ (b : Board). eligible b c.args.send c.args.recv ≡ true) (sym e) c.requires.eligible in
    let lines = lines_of_pair s.mode sides s.sets.items c.args.send c.args.recv able in
    let first : c.pair_at-send_spot.result ≡ next_of (pending (board_in s.mode sides s.sets.items) c.args.send.rank c.args.recv.rank) c.args.send.index =
    c.pair_at-send_spot.ensures.spot
    ∙ ap (λ (zs : List ℕ). next_of zs c.args.send.index) (pending_on s.mode sides s.sets.items c.args.send.rank c.args.recv.rank h) in
    let second : c.pair_at-recv_spot.result ≡ next_of (posted (board_in s.mode sides s.sets.items) c.args.recv.rank) c.args.recv.index =
    c.pair_at-recv_spot.ensures.spot
    ∙ ap (λ (zs : List ℕ). next_of zs c.args.recv.index)
    (other_line sides mid c.args.send (Some c.args.recv) (c.args.recv.rank + 1) 0 c.args.recv.rank c.pair_at-send_spot.ensures.calls c.pair_at-send_spot.ensures.marks lines.0 (λ z. absurd (omega arith))
    ∙ posted_on s.mode sides s.sets.items c.args.recv.rank h) in
    recorded_new s.mode sides c.pair_at-recv_spot.new.sides.items s.sets.items c.push_kept.new.self.items c.args.send c.args.recv
    (record { send_spot = c.pair_at-send_spot.result; recv_spot = c.pair_at-recv_spot.result }) c.push_kept.ensures.items
    (c.pair_at-recv_spot.ensures.calls ∙ c.pair_at-send_spot.ensures.calls) (λ k. record { send_spot = first k; recv_spot = second k })

pub returns-clause-room : goal.returns-clause-room
returns-clause-room c =
    let s = c.self.inside in
    omega (
      arith,
      ap (λ (v : BoardView). v.room) c.self.view_is,
      c.pair_at-send_spot.ensures.room c.push_kept.new.self.room,
      c.pair_at-recv_spot.ensures.room c.push_kept.new.self.room,
      more_set_room s.sides.items s.sets.room c.push_kept.new.self.room 1 (omega (arith, c.push_kept.ensures.room)),
    )

pub returns-clause-few_writes : goal.returns-clause-few_writes
returns-clause-few_writes c =
    omega (
      arith,
      c.push_kept.ensures.writes,
      c.pair_at-send_spot.ensures.writes,
      c.pair_at-recv_spot.ensures.writes,
      c.give_slot_back.ensures.writes,
      one_slot c.kind-kind.result,
      ap (λ (v : BoardView). v.writes) c.self.view_is,
    )
