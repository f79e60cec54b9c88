use Rattle.std.proofs.Common.{sym, ◌∙◌}
use Rattle.mpd_trail.proofs.KeptLemmas.{next_redone}
use Rattle.mpd_trail.proofs.debugger.Debugger.redo.Goals as goal

pub returns-in-Ok-clause-taken : goal.returns-in-Ok-clause-taken
returns-in-Ok-clause-taken c = next_redone c.args.self.now c.forward.new.self c.in-Some.step _ _ (sym c.next_undone.ensures.value ∙ c.in-Some.is) c.in-Ok.ensures.taken
