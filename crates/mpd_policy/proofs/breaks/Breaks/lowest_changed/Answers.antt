use Rattle.std.proofs.Common.{ap, sym, ◌∙◌, arith, get_or}
use Rattle.mpd_model.specs.declared.limits.TheConstants.{BREAKS_MAX}
use Rattle.mpd_model.specs.runs.Breakpoints.{break_at}
use Rattle.mpd_policy.specs.declared.hits.Watched.TheVariants.{Nothing}
use Rattle.mpd_policy.specs.Places.{changed_by}
use Rattle.mpd_policy.proofs.NumberLemmas.{number_begins, number_now, number_end}
use Rattle.mpd_policy.proofs.breaks.Breaks.lowest_changed.Goals as goal

pub loop-number-init : goal.loop-number-init
loop-number-init c =
    let core = c.args.core.now in
    let values = c.args.values.now in
    number_begins (λ n. changed_by (get_or values n Nothing) (break_at c.args.self.now n) core.world) BREAKS_MAX _ c.bound-count.ensures.size

pub returns-then-is_changed : goal.returns-then-is_changed
returns-then-is_changed c =
    let core = c.args.core.now in
    let values = c.args.values.now in
    number_now (λ n. changed_by (get_or values n Nothing) (break_at c.args.self.now n) core.world) c.loop-number.number BREAKS_MAX _
    (omega (arith, c.loop-number-test.true, c.bound-count.ensures.within)) c.loop-number.invariant
    (ap (λ place. changed_by (get_or values c.loop-number.number Nothing) place core.world) (sym c.breakpoint.ensures) ∙ sym c.is_changed.ensures ∙ c.if-is_changed.true)

pub returns : goal.returns
returns c =
    let core = c.args.core.now in
    let values = c.args.values.now in
    number_end (λ n. changed_by (get_or values n Nothing) (break_at c.args.self.now n) core.world) c.loop-number.number _ _
    (λ k le. ap (λ place. changed_by (get_or values k Nothing) place core.world) (c.bound-count.ensures.free k (omega (arith, le, c.loop-number-test.false)))) c.loop-number.invariant
