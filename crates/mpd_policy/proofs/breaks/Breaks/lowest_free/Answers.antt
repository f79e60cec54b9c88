use Rattle.std.proofs.Common.{is_none, rules}
use Rattle.mpd_model.specs.declared.limits.TheConstants.{BREAKS_MAX}
use Rattle.mpd_model.specs.runs.Breakpoints.{break_at}
use Rattle.mpd_policy.proofs.NumberLemmas.{number_begins, number_now, number_over}
use Rattle.mpd_policy.proofs.breaks.Breaks.lowest_free.Goals as goal

pub loop-number-init : goal.loop-number-init
loop-number-init c = number_begins (λ n. is_none (break_at c.args.self.now n)) BREAKS_MAX _ c.numbers_have_places.ensures.size

pub returns-then-is_none-clause-number : goal.returns-then-is_none-clause-number
returns-then-is_none-clause-number c =
    number_now (λ n. is_none (break_at c.args.self.now n)) c.loop-number.number BREAKS_MAX _ c.loop-number-test.true c.loop-number.invariant (search rules)

pub returns-clause-number : goal.returns-clause-number
returns-clause-number c = number_over (λ n. is_none (break_at c.args.self.now n)) c.loop-number.number BREAKS_MAX _ c.loop-number-test.false c.loop-number.invariant
