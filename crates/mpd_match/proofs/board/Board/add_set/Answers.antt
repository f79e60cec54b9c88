use Rattle.std.proofs.Common.{ap, arith}
use Rattle.mpd_match.specs.Views.{BoardView}
use Rattle.mpd_match.proofs.AtSide.{some_set_room, more_set_room}
use Rattle.mpd_match.proofs.Boards.{meets_lone, last_is}
use Rattle.mpd_match.proofs.Counted.{counted_lone}
use Rattle.mpd_match.proofs.board.Board.add_set.Goals as goal

pub push_kept-requires : goal.push_kept-requires
push_kept-requires c =
    let s = c.self.inside in
    omega (arith, c.requires.room, ap (λ (v : BoardView). v.room) c.self.view_is, some_set_room s.sides.items s.sets.room)

pub invariant_of-self : goal.invariant_of-self
invariant_of-self c =
    let s = c.self.inside in
    record {
      meets = meets_lone s.mode s.sides.items s.sets.items c.push_kept.new.self.items c.args.set c.requires.lone c.push_kept.ensures.items c.self.invariant.meets;
      counted = counted_lone s.mode s.sides.items s.sets.items c.push_kept.new.self.items s.slots.items c.args.set c.requires.lone c.push_kept.ensures.items c.self.invariant.counted;
    }

pub returns-clause-last : goal.returns-clause-last
returns-clause-last c =
    let s = c.self.inside in
    last_is s.mode s.sides.items c.push_kept.new.self.items s.sets.items c.args.set c.push_kept.ensures.items

pub returns-clause-room : goal.returns-clause-room
returns-clause-room c =
    let s = c.self.inside in
    omega (arith, ap (λ (v : BoardView). v.room) c.self.view_is, more_set_room s.sides.items s.sets.room c.push_kept.new.self.room 1 (omega (arith, c.push_kept.ensures.room)))
