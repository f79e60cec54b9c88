use Rattle.std.proofs.Common.{arith}
use Rattle.mpd_trail.specs.DebuggerViews.{standing_of}
use Rattle.mpd_policy.proofs.WalkLemmas.{beyond_depth}
use Rattle.mpd_check.proofs.shown.witness_of.Goals as goal

pub put_back-requires : goal.put_back-requires
put_back-requires g c = omega (arith, c.depth-base.ensures.value, beyond_depth (standing_of c.args.debugger.now) (standing_of c.witness_there-text.new.debugger) c.state_is_reached.ensures.reached c.witness_there-text.ensures.beyond)

pub returns-clause-as_found : goal.returns-clause-as_found
returns-clause-as_found g c = c.put_back.ensures.found (standing_of c.args.debugger.now) c.state_is_reached.ensures.reached c.requires.clean c.depth-base.ensures.value c.witness_there-text.ensures.beyond
