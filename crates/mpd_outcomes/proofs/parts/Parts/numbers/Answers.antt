use Rattle.std.proofs.Common.{◌≡◌, ◌<◌, length, refl, sym, ◌∙◌, arith, rules}
use Rattle.mpd_outcomes.proofs.PartLemmas.{is_left, is_not_left, read_empty, read_step, fewer}
use Rattle.mpd_outcomes.proofs.parts.Parts.numbers.Goals as goal

pub returns-then-is_empty : goal.returns-then-is_empty
returns-then-is_empty c =
    let end : length c.loop-done.left.now ≡ 0 = is_not_left c.loop-done.left.now c.is_empty.result c.is_empty.ensures c.if-is_empty.true in
    read_empty c.args.self.now c.args.key.now c.loop-done.left.now _ _ _ end refl c.loop-done.invariant.read

pub loop-done-preserved : goal.loop-done-preserved
loop-done-preserved c =
    let some : 0 < length c.loop-done.left.now = is_left c.loop-done.left.now c.is_empty.result c.is_empty.ensures c.if-is_empty.false in
    record {
      read = read_step c.args.self.now c.args.key.now c.loop-done.left.now c.first_part.result.now c.other_parts-left.result.now _ c.loop-done._done c.in_ok-number.number c.loop-done.numbers.items c.push.new.self.items (let few = c.loop-done.invariant.few in omega (arith, some, few)) some c.first_part.ensures c.other_parts-left.ensures (sym c.number.ensures ∙ c.in_ok-number.was) (search rules) c.loop-done.invariant.read;
      few = fewer c.loop-done.left.now c.other_parts-left.result.now _ c.loop-done._done some c.other_parts-left.ensures c.loop-done.invariant.few;
    }

pub returns : goal.returns
returns c =
    let end : length c.loop-done.left.now ≡ 0 = (let test = c.loop-done-test.false in let few = c.loop-done.invariant.few in omega (arith, test, few)) in
    read_empty c.args.self.now c.args.key.now c.loop-done.left.now _ _ _ end refl c.loop-done.invariant.read
