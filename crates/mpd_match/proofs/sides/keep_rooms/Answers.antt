use Rattle.std.proofs.Common.{rules, ◌≡◌, ◌<◌, ℕ, List, length, set, ◌∙◌, arith}
use Rattle.std.proofs.lemmas.List.{length-set}
use Rattle.mpd_match.specs.Views.{SideView, room_in}
use Rattle.mpd_match.proofs.AtSide.{same_part, marks_told, room_less, room_more, rest_more, no_room_old, writes_more}
use Rattle.mpd_match.proofs.Gathered.{refused_with}
use Rattle.mpd_match.proofs.sides.keep_rooms.Goals as goal

pub returns-in_err-keep_room-clause-calls : goal.returns-in_err-keep_room-clause-calls
returns-in_err-keep_room-clause-calls c =
    let counted : c.len-count.result ≡ length c.args.sides.now.items = search rules in
    let sides : List SideView = c.loop-rank.sides.items in
    let v : SideView = c.index_mut-side.result.now in
    let w : SideView = c.keep_room.new.self in
    let within : c.loop-rank.rank < length sides = omega (arith, counted, c.loop-rank.invariant.size, c.loop-rank-test.true) in
    same_part (λ (u : SideView). u.calls) sides c.loop-rank.rank v w c.index_mut-side.ensures.value c.keep_room.ensures.calls ∙ c.loop-rank.invariant.calls

pub returns-in_err-keep_room-clause-marks : goal.returns-in_err-keep_room-clause-marks
returns-in_err-keep_room-clause-marks c = λ id.
    let counted : c.len-count.result ≡ length c.args.sides.now.items = search rules in
    let sides : List SideView = c.loop-rank.sides.items in
    let v : SideView = c.index_mut-side.result.now in
    let w : SideView = c.keep_room.new.self in
    let within : c.loop-rank.rank < length sides = omega (arith, counted, c.loop-rank.invariant.size, c.loop-rank-test.true) in
    marks_told (set sides c.loop-rank.rank w) c.args.sides.now.items id
    (same_part (λ (u : SideView). u.marks) sides c.loop-rank.rank v w c.index_mut-side.ensures.value c.keep_room.ensures.marks ∙ c.loop-rank.invariant.marks)

pub returns-in_err-keep_room-clause-lines : goal.returns-in_err-keep_room-clause-lines
returns-in_err-keep_room-clause-lines c =
    let counted : c.len-count.result ≡ length c.args.sides.now.items = search rules in
    let sides : List SideView = c.loop-rank.sides.items in
    let v : SideView = c.index_mut-side.result.now in
    let w : SideView = c.keep_room.new.self in
    let within : c.loop-rank.rank < length sides = omega (arith, counted, c.loop-rank.invariant.size, c.loop-rank-test.true) in
    same_part (λ (u : SideView). u.lines) sides c.loop-rank.rank v w c.index_mut-side.ensures.value c.keep_room.ensures.lines ∙ c.loop-rank.invariant.lines

pub returns-in_err-keep_room-clause-never_less : goal.returns-in_err-keep_room-clause-never_less
returns-in_err-keep_room-clause-never_less c = λ k.
    let counted : c.len-count.result ≡ length c.args.sides.now.items = search rules in
    let sides : List SideView = c.loop-rank.sides.items in
    let v : SideView = c.index_mut-side.result.now in
    let w : SideView = c.keep_room.new.self in
    let within : c.loop-rank.rank < length sides = omega (arith, counted, c.loop-rank.invariant.size, c.loop-rank-test.true) in
    omega (arith, c.loop-rank.invariant.never_less k, room_less sides c.loop-rank.rank v w 0 k within c.index_mut-side.ensures.value (omega (arith, c.keep_room.ensures.never_less)))

pub returns-in_err-keep_room-clause-missing : goal.returns-in_err-keep_room-clause-missing
returns-in_err-keep_room-clause-missing c =
    let counted : c.len-count.result ≡ length c.args.sides.now.items = search rules in
    let sides : List SideView = c.loop-rank.sides.items in
    let v : SideView = c.index_mut-side.result.now in
    let w : SideView = c.keep_room.new.self in
    let within : c.loop-rank.rank < length sides = omega (arith, counted, c.loop-rank.invariant.size, c.loop-rank-test.true) in
    let none : (k : ℕ) → room_in k c.args.sides.now.items ≡ 0 = λ k. no_room_old sides c.args.sides.now.items c.loop-rank.rank k v within c.loop-rank.invariant.size c.loop-rank.invariant.rest c.index_mut-side.ensures.value c.in_err-keep_room.ensures.missing in
    refused_with _ none

pub loop-rank-preserved : goal.loop-rank-preserved
loop-rank-preserved c =
    let counted : c.len-count.result ≡ length c.args.sides.now.items = search rules in
    let sides : List SideView = c.loop-rank.sides.items in
    let v : SideView = c.index_mut-side.result.now in
    let w : SideView = c.keep_room.new.self in
    let within : c.loop-rank.rank < length sides = omega (arith, counted, c.loop-rank.invariant.size, c.loop-rank-test.true) in
    record {
      calls = same_part (λ (u : SideView). u.calls) sides c.loop-rank.rank v w c.index_mut-side.ensures.value c.keep_room.ensures.calls ∙ c.loop-rank.invariant.calls;
      marks = same_part (λ (u : SideView). u.marks) sides c.loop-rank.rank v w c.index_mut-side.ensures.value c.keep_room.ensures.marks ∙ c.loop-rank.invariant.marks;
      lines = same_part (λ (u : SideView). u.lines) sides c.loop-rank.rank v w c.index_mut-side.ensures.value c.keep_room.ensures.lines ∙ c.loop-rank.invariant.lines;
      writes = omega (arith, writes_more sides c.loop-rank.rank v w 0 within c.index_mut-side.ensures.value (omega (arith, c.keep_room.ensures.writes)), c.loop-rank.invariant.writes);
      never_less = λ k. omega (arith, c.loop-rank.invariant.never_less k, room_less sides c.loop-rank.rank v w 0 k within c.index_mut-side.ensures.value (omega (arith, c.keep_room.ensures.never_less)));
      size = length-set sides c.loop-rank.rank w ∙ c.loop-rank.invariant.size;
      room = λ k some. room_more sides c.loop-rank.rank k w within some c.in_ok-keep_room.ensures.room c.loop-rank.invariant.room;
      rest = rest_more sides c.args.sides.now.items c.loop-rank.rank w within c.loop-rank.invariant.size c.loop-rank.invariant.rest;
    }
