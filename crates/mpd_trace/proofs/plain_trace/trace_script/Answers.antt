use Rattle.std.proofs.Common.{refl}
use Rattle.mpd_model.specs.runs.Trail.{first_standing}
use Rattle.mpd_model.specs.declared.call.Mode.TheVariants.{Rendezvous}
use Rattle.mpd_trace.proofs.plain_trace.trace_script.Goals as goal

pub returns-in_default-clause-served : goal.returns-in_default-clause-served
returns-in_default-clause-served g c = (first_standing c.args.script Rendezvous, (refl, refl, refl))
