use Rattle.std.proofs.Common.{ap, sym, ◌∙◌, arith}
use Rattle.mpd_model.specs.declared.limits.TheConstants.{BREAKS_MAX}
use Rattle.mpd_model.specs.runs.Breakpoints.{break_at}
use Rattle.mpd_policy.specs.Places.{told_by}
use Rattle.mpd_policy.proofs.NumberLemmas.{number_begins, number_now, number_end}
use Rattle.mpd_policy.proofs.breaks.Breaks.lowest_told.Goals as goal

pub loop-number-init : goal.loop-number-init
loop-number-init c =
    let core = c.args.core.now in
    number_begins (λ n. told_by core.program (break_at c.args.self.now n) c.args.step core.world) BREAKS_MAX _ c.bound-count.ensures.size

pub returns-then-is_told : goal.returns-then-is_told
returns-then-is_told c =
    let core = c.args.core.now in
    number_now (λ n. told_by core.program (break_at c.args.self.now n) c.args.step core.world) c.loop-number.number BREAKS_MAX _
    (omega (arith, c.loop-number-test.true, c.bound-count.ensures.within)) c.loop-number.invariant
    (ap (λ place. told_by core.program place c.args.step core.world) (sym c.breakpoint.ensures) ∙ sym c.is_told.ensures ∙ c.if-is_told.true)

pub returns : goal.returns
returns c =
    let core = c.args.core.now in
    number_end (λ n. told_by core.program (break_at c.args.self.now n) c.args.step core.world) c.loop-number.number _ _
    (λ k le. ap (λ place. told_by core.program place c.args.step core.world) (c.bound-count.ensures.free k (omega (arith, le, c.loop-number-test.false)))) c.loop-number.invariant
