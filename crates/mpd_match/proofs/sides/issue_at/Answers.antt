use Rattle.std.proofs.Common.{◌≡◌, ◌++◌, ◌∷◌, [], suc, List, length, sym, ap, ◌∙◌, arith}
use Rattle.mpd_model.specs.declared.call.Call.{Call}
use Rattle.mpd_match.specs.Views.{SideView}
use Rattle.mpd_match.proofs.AtSide.{read_side, same_part, calls_at, room_less, lines_at, has_line}
use Rattle.mpd_match.proofs.sides.issue_at.Goals as goal

pub returns-clause-lines : goal.returns-clause-lines
returns-clause-lines c =
    let sides : List SideView = c.args.sides.now.items in
    let v : SideView = c.index_mut-side.result.now in
    let w : SideView = c.issue.new.self in
    same_part (λ (u : SideView). u.lines) sides c.args.rank v w c.index_mut-side.ensures.value c.issue.ensures.lines

pub issue-requires-clause-line : goal.issue-requires-clause-line
issue-requires-clause-line c = λ line at.
    let sides : List SideView = c.args.sides.now.items in
    let v : SideView = c.index_mut-side.result.now in
    let wide : v.lines ≡ suc (length sides) = ap (λ (u : SideView). u.lines) (sym (read_side sides c.args.rank v c.requires.within c.index_mut-side.ensures.value)) ∙ lines_at sides c.args.rank c.requires.within c.requires.lines in
    omega (arith, wide, has_line (length sides) c.args.call.kind line c.requires.receiver at)

pub returns-clause-calls : goal.returns-clause-calls
returns-clause-calls c =
    let sides : List SideView = c.args.sides.now.items in
    let v : SideView = c.index_mut-side.result.now in
    let w : SideView = c.issue.new.self in
    calls_at sides c.args.rank v w (λ (calls : List Call). calls ++ c.args.call ∷ []) c.requires.within c.index_mut-side.ensures.value c.issue.ensures.calls

pub returns-clause-room : goal.returns-clause-room
returns-clause-room c = λ k.
    let sides : List SideView = c.args.sides.now.items in
    let v : SideView = c.index_mut-side.result.now in
    let w : SideView = c.issue.new.self in
    room_less sides c.args.rank v w 1 k c.requires.within c.index_mut-side.ensures.value (omega (arith, c.issue.ensures.room))
