use Rattle.std.proofs.Common.{◌≡◌, ◌≤◌, ◌+◌, ◌*◌, ◌-◌, ◌^◌, get_or, drop, arith, w64}
use Rattle.std.proofs.lemmas.Grind.{common_steps}
use Rattle.std.proofs.lemmas.Bool.Decides.{nat_tests}
use Rattle.std.proofs.lemmas.Int.{to_z_pos}
use Rattle.std.proofs.lemmas.List.{at_drop_more}
use Rattle.mpd_model.specs.grammar.Tokens.{number, decimal_after}
use Rattle.mpd_script.proofs.Digits.{le-decimal_after}
use Rattle.mpd_script.proofs.lex.number.Goals as goal

pub returns-then-next : goal.returns-then-next
unfolding number
returns-then-next c =
    let l = c.digits in
    let ds = c.args.digits.now in
    let i = l.byte-index in
    let next = l.value * 10 + (get_or ds i 0 - 48) in
    let turn = at_drop_more (decimal_after l.value) ds i 0 c.digits-test.true in
    let grown = le-decimal_after next (drop (i + 1) ds) in
    let large : 2 ^ 63 ≤ decimal_after 0 ds = grind (arith, common_steps) in
    grind (arith, nat_tests, common_steps)

pub returns : goal.returns
unfolding number
returns c =
    let n = c.digits.value in
    let signed = to_z_pos w64 n c.digits.invariant.0 in
    let all : n ≡ decimal_after 0 c.args.digits.now = grind (arith, common_steps) in
    grind (arith, nat_tests, common_steps)
