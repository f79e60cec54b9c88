use Rattle.std.proofs.Common.{rules}
use Rattle.mpd_trail.specs.DebuggerViews.{standing_of}
use Rattle.mpd_policy.proofs.WalkLemmas.{all_found}
use Rattle.mpd_policy.proofs.along.put_back.Goals as goal

pub returns-clause-found : goal.returns-clause-found
returns-clause-found c = all_found (standing_of c.args.debugger.now) (standing_of c.forget_undone.new.self) c.args.base (search rules) c.forget_undone.ensures.reached
