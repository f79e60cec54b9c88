use Rattle.std.proofs.Common.{◌≡◌, ◌+◌, ◌-◌, ℕ, subst, arith}
use Rattle.std.specs.Prelude.{IfOk}
use Rattle.mpd_trail.specs.DebuggerViews.{standing_of}
use Rattle.mpd_outcomes.specs.Goals.{StopsRuns}
use Rattle.mpd_outcomes.proofs.GatherLemmas.{safe_deep, all_back}
use Rattle.mpd_outcomes.proofs.explore.found_from.Goals as goal

pub put_back-requires : goal.put_back-requires
put_back-requires c = safe_deep c.depth-base.result (standing_of c.args.debugger.now) (standing_of c.find-found.new.debugger) c.state_is_reached.ensures.reached c.find-found.ensures.safe c.depth-base.ensures.value

pub returns-clause-last : goal.returns-clause-last
returns-clause-last c =
    let left : c.depth-base.result + c.args.limits.fuel - c.depth-base.result ≡ c.args.limits.fuel = omega arith in
    subst (λ (n : ℕ). IfOk c.find-found.result (λ o. StopsRuns c.args.limits.until n c.args.debugger.now.world o)) left c.find-found.ensures.last

pub returns-clause-as_found : goal.returns-clause-as_found
returns-clause-as_found c =
    all_back c.depth-base.result (standing_of c.args.debugger.now) (standing_of c.find-found.new.debugger) (standing_of c.put_back.new.debugger) c.state_is_reached.ensures.reached c.put_back.ensures.reached c.requires.clean
    c.find-found.ensures.safe c.depth-base.ensures.value c.put_back.ensures.trail
