use Rattle.std.proofs.Common.{subst}
use Rattle.mpd_model.specs.steps.World.{World}
use Rattle.mpd_model.specs.script.Program.{Program}
use Rattle.mpd_outcomes.specs.Keys.{IsKey}
use Rattle.mpd_outcomes.proofs.search.key_here.Goals as goal

pub returns-in-Ok-clause-key : goal.returns-in-Ok-clause-key
returns-in-Ok-clause-key c = subst (λ (p : Program). IsKey p c.args.debugger.now.world c.in-Ok.key.items) c.core.ensures.program (subst (λ (w : World). IsKey c.core.result.now.program w c.in-Ok.key.items) c.core.ensures.world c.in-Ok.ensures)
