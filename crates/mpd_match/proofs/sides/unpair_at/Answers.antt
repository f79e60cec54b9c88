use Rattle.std.proofs.Common.{List}
use Rattle.mpd_match.specs.Views.{SideView}
use Rattle.mpd_match.proofs.AtSide.{same_part, room_same}
use Rattle.mpd_match.proofs.sides.unpair_at.Goals as goal

pub returns-clause-lines : goal.returns-clause-lines
returns-clause-lines c =
    let sides : List SideView = c.args.sides.now.items in
    let v : SideView = c.index_mut-side.result.now in
    let w : SideView = c.unpair.new.self in
    same_part (λ (u : SideView). u.lines) sides c.args.id.rank v w c.index_mut-side.ensures.value c.unpair.ensures.lines

pub returns-clause-calls : goal.returns-clause-calls
returns-clause-calls c =
    let sides : List SideView = c.args.sides.now.items in
    let v : SideView = c.index_mut-side.result.now in
    let w : SideView = c.unpair.new.self in
    same_part (λ (u : SideView). u.calls) sides c.args.id.rank v w c.index_mut-side.ensures.value c.unpair.ensures.calls

pub returns-clause-room : goal.returns-clause-room
returns-clause-room c = λ k.
    let sides : List SideView = c.args.sides.now.items in
    let v : SideView = c.index_mut-side.result.now in
    let w : SideView = c.unpair.new.self in
    room_same sides c.args.id.rank v w k c.index_mut-side.ensures.value c.unpair.ensures.room
