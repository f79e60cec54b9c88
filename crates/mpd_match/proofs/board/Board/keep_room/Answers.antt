use Rattle.std.proofs.Common.{◌≡◌, ap, arith}
use Rattle.mpd_match.specs.Views.{BoardView}
use Rattle.mpd_match.proofs.AtSide.{some_set_room, more_set_room}
use Rattle.mpd_match.proofs.Gathered.{refused_with}
use Rattle.mpd_match.proofs.board.Board.keep_room.Goals as goal

pub returns-in_err-keep_room-clause-missing : goal.returns-in_err-keep_room-clause-missing
returns-in_err-keep_room-clause-missing c =
    let s = c.self.inside in
    let none : c.args.self.now.room ≡ 0 = omega (arith, ap (λ (v : BoardView). v.room) c.self.view_is, c.in_err-keep_room.ensures.missing, c.keep_room.ensures.never_less, some_set_room s.sides.items s.sets.room) in
    refused_with _ none

pub returns-clause-never_less : goal.returns-clause-never_less
returns-clause-never_less c =
    let s = c.self.inside in
    omega (
      arith,
      ap (λ (v : BoardView). v.room) c.self.view_is,
      more_set_room s.sides.items s.sets.room c.keep_room.new.self.room 0 (omega (arith, c.keep_room.ensures.never_less)),
      c.keep_rooms.ensures.never_less c.keep_room.new.self.room,
    )
