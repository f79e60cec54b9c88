use Rattle.std.proofs.Common.{◌<◌, arith}
use Rattle.mpd_vocabulary.proofs.PieceLemmas.{few_digits}
use Rattle.mpd_vocabulary.proofs.condition.magnitude_of.Goals as goal

pub overflow_mul-value : goal.overflow_mul-value
overflow_mul-value c =
    let small : c.loop-byte.value < 1000000000000000000 = few_digits c.loop-byte.byte-index c.loop-byte.value (omega (arith, c.loop-byte-test.true, c.if-word-gt-DIGITS_MAX.false)) c.loop-byte.invariant.bound in
    omega (arith, small)

pub overflow_add-value : goal.overflow_add-value
overflow_add-value c =
    let small : c.loop-byte.value < 1000000000000000000 = few_digits c.loop-byte.byte-index c.loop-byte.value (omega (arith, c.loop-byte-test.true, c.if-word-gt-DIGITS_MAX.false)) c.loop-byte.invariant.bound in
    omega (arith, small)
