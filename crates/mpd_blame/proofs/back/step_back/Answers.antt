use Rattle.mpd_trail.specs.DebuggerViews.{standing_of}
use Rattle.mpd_blame.proofs.BackLemmas.{led_back}
use Rattle.mpd_blame.proofs.back.step_back.Goals as goal

pub returns-clause-leads : goal.returns-clause-leads
returns-clause-leads c =
    led_back (standing_of c.args.debugger.now) (standing_of c.put_back.new.debugger) c.last_step-step.result c.depth-last.result c.state_is_reached.ensures.reached c.put_back.ensures.reached c.requires.some c.last_step-step.ensures
    c.depth-last.ensures.value c.put_back.ensures.trail
