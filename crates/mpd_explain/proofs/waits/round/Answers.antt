use Rattle.std.proofs.Common.{sym, ap, ◌∙◌}
use Rattle.mpd_model.specs.runs.Breakpoints.{is_number}
use Rattle.mpd_explain.specs.Waits.{after}
use Rattle.mpd_explain.proofs.ListLemmas.{first_on}
use Rattle.mpd_explain.proofs.waits.round.Goals as goal

pub loop-past-preserved : goal.loop-past-preserved
loop-past-preserved c =
    let next = c.args.next.now in
    let p = c.args.rank in
    first_on (λ k. is_number (after next p k) p) c.loop-past.past _ _ c.loop-past-test.true c.loop-past.invariant (ap (λ o. is_number o p) (sym c.after.ensures) ∙ sym c.is_number.ensures ∙ c.if-is_number.false)
