use Rattle.std.proofs.Common.{◌≡◌, ◌-◌, List, length, take, arith}
use Rattle.mpd_model.specs.declared.call.Call.{Call}
use Rattle.mpd_match.specs.Views.{SideView, side_at}
use Rattle.mpd_match.specs.Lines.{kind_in}
use Rattle.mpd_match.specs.Changes.{unissue_writes}
use Rattle.mpd_match.proofs.AtSide.{read_side, listed_at, same_part, calls_at, room_less, writes_more}
use Rattle.mpd_match.proofs.sides.unissue_at.Goals as goal

pub returns-clause-lines : goal.returns-clause-lines
returns-clause-lines c =
    let sides : List SideView = c.args.sides.now.items in
    let v : SideView = c.index_mut-side.result.now in
    let w : SideView = c.unissue.new.self in
    same_part (λ (u : SideView). u.lines) sides c.args.rank v w c.index_mut-side.ensures.value c.unissue.ensures.lines

pub returns-clause-calls : goal.returns-clause-calls
returns-clause-calls c =
    let sides : List SideView = c.args.sides.now.items in
    let v : SideView = c.index_mut-side.result.now in
    let w : SideView = c.unissue.new.self in
    calls_at sides c.args.rank v w (λ (calls : List Call). take (length calls - 1) calls) c.requires.within c.index_mut-side.ensures.value c.unissue.ensures.calls

pub returns-clause-room : goal.returns-clause-room
returns-clause-room c = λ k.
    let sides : List SideView = c.args.sides.now.items in
    let v : SideView = c.index_mut-side.result.now in
    let w : SideView = c.unissue.new.self in
    omega (arith, room_less sides c.args.rank v w 0 k c.requires.within c.index_mut-side.ensures.value (omega (arith, c.unissue.ensures.room)))

pub returns-clause-writes : goal.returns-clause-writes
returns-clause-writes c =
    let sides : List SideView = c.args.sides.now.items in
    let v : SideView = c.index_mut-side.result.now in
    let w : SideView = c.unissue.new.self in
    let read : side_at sides c.args.rank ≡ v = read_side sides c.args.rank v c.requires.within c.index_mut-side.ensures.value in
    rw (listed_at sides c.args.rank, read)
    (writes_more sides c.args.rank v w (unissue_writes (kind_in v.calls (length v.calls - 1))) c.requires.within c.index_mut-side.ensures.value c.unissue.ensures.writes)
