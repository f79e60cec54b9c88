use Rattle.std.proofs.Common.{[], ◌∷◌, ◌++◌, ap, ◌∙◌}
use Rattle.mpd_core.proofs.RangeLemmas.{given_more}
use Rattle.mpd_model.specs.runs.Breakpoints.{break_at}
use Rattle.mpd_console.specs.Again.{place_again}
use Rattle.mpd_console.proofs.again.places_again.Goals as goal

pub loop-number-preserved : goal.loop-number-preserved
loop-number-preserved c =
    given_more (λ n. place_again c.args.old.now.program.decls c.args.new.now.program (break_at c.args.breaks.now n) ∷ []) c.loop-number.number 64 c.loop-number.places.items _ _ c.loop-number-test.true c.loop-number.invariant
    (c.in_ok-push.ensures.items ∙ ap (λ p. c.loop-number.places.items ++ p ∷ []) c.place_again-place.ensures)
