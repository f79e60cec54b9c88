use Rattle.mpd_runs.proofs.SeekLemmas.{lies_ahead}
use Rattle.mpd_runs.proofs.search.whole_run.Goals as goal

pub returns-clause-lies : goal.returns-clause-lies
returns-clause-lies c =
    lies_ahead c.args.debugger.now.trail c.args.debugger.now.world c.args.fuel c.args.leaf.now _ c.wide_decisions_can_be_followed.ensures c.state_is_reached.ensures.reached c.requires.clean
    c.requires.fits c.requires.has c.in_ok-steps.ensures.steps c.in_ok-ending.ensures
