use Rattle.std.proofs.Common.{◌≡◌, ◌≤◌, true, sym, ap, subst, arith}
use Rattle.mpd_model.specs.steps.World.{Board}
use Rattle.mpd_match.specs.Changes.{last_set, is_lone}
use Rattle.mpd_match.specs.Views.{BoardView, board_in}
use Rattle.mpd_match.proofs.AtSide.{more_set_room}
use Rattle.mpd_match.proofs.Boards.{meets_dropped, popped_room}
use Rattle.mpd_match.proofs.Counted.{counted_dropped}
use Rattle.mpd_match.proofs.board.Board.drop_set.Goals as goal

pub invariant_of-self : goal.invariant_of-self
invariant_of-self c =
    let s = c.self.inside in
    let e : board_in s.mode s.sides.items s.sets.items ≡ c.args.self.now.board = ap (λ (v : BoardView). v.board) c.self.view_is in
    let lone : is_lone (last_set (board_in s.mode s.sides.items s.sets.items)) ≡ true = subst (λ (b : Board). is_lone (last_set b) ≡ true) (sym e) c.requires in
    record {
      meets = meets_dropped s.mode s.sides.items s.sets.items c.pop.new.self.items c.pop.result c.pop.ensures.items lone c.self.invariant.meets;
      counted = counted_dropped s.mode s.sides.items s.sets.items c.pop.new.self.items s.slots.items c.pop.result c.pop.ensures.items lone c.self.invariant.counted;
    }

pub returns-clause-room : goal.returns-clause-room
returns-clause-room c =
    let s = c.self.inside in
    let more : s.sets.room ≤ c.pop.new.self.room = popped_room s.sets.items c.pop.result s.sets.room c.pop.new.self.room s.sets.writes c.pop.new.self.writes c.pop.ensures.last c.pop.ensures.empty in
    omega (arith, ap (λ (v : BoardView). v.room) c.self.view_is, more_set_room s.sides.items s.sets.room c.pop.new.self.room 0 (omega (arith, more)))
