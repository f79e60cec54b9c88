use Rattle.std.proofs.Common.{◌≡◌, ◌<◌, length, refl, arith}
use Rattle.mpd_outcomes.proofs.PartLemmas.{is_left, is_not_left, nothing_new, more_and_more, read_empty, read_step, fewer}
use Rattle.mpd_outcomes.proofs.parts.Parts.keep_all.Goals as goal

pub returns-then-is_empty-clause-numbers : goal.returns-then-is_empty-clause-numbers
returns-then-is_empty-clause-numbers c =
    let end : length c.loop-done.left.now ≡ 0 = is_not_left c.loop-done.left.now c.is_empty.result c.is_empty.ensures c.if-is_empty.true in
    read_empty c.loop-done.self c.args.key.now c.loop-done.left.now _ _ _ end c.shrink_to_fit.ensures.items (c.loop-done.invariant.read c.loop-done.self (nothing_new c.loop-done.self))

pub loop-done-preserved : goal.loop-done-preserved
loop-done-preserved c =
    let some : 0 < length c.loop-done.left.now = is_left c.loop-done.left.now c.is_empty.result c.is_empty.ensures c.if-is_empty.false in
    record {
      more = more_and_more _ _ _ c.loop-done.invariant.more c.keep.ensures.more;
      read = λ later more. read_step later c.args.key.now c.loop-done.left.now c.first_part.result.now c.other_parts-left.result.now _ c.loop-done._done c.in_ok-number.number c.loop-done.numbers.items c.push.new.self.items (let few = c.loop-done.invariant.few in omega (arith, some, few)) some c.first_part.ensures c.other_parts-left.ensures (more.stay _ _ c.in_ok-number.ensures.number) c.in_ok-push.ensures.items (c.loop-done.invariant.read later (more_and_more _ _ _ c.keep.ensures.more more));
      few = fewer c.loop-done.left.now c.other_parts-left.result.now _ c.loop-done._done some c.other_parts-left.ensures c.loop-done.invariant.few;
    }

pub returns-clause-numbers : goal.returns-clause-numbers
returns-clause-numbers c =
    let end : length c.loop-done.left.now ≡ 0 = (let test = c.loop-done-test.false in let few = c.loop-done.invariant.few in omega (arith, test, few)) in
    read_empty c.loop-done.self c.args.key.now c.loop-done.left.now _ _ _ end refl (c.loop-done.invariant.read c.loop-done.self (nothing_new c.loop-done.self))
