use Rattle.std.proofs.Common.{◌-◌, ℕ, nat_lt, arith}
use Rattle.mpd_trail.specs.DebuggerViews.{standing_of}
use Rattle.mpd_model.specs.declared.limits.TheConstants.{STEPS_MAX}
use Rattle.mpd_runs.proofs.FirstLemmas.{lead, fits_few}
use Rattle.mpd_runs.proofs.first.lead_first.Goals as goal

pub returns : goal.returns
returns g c =
    let room : ℕ = STEPS_MAX - c.depth-base.result in
    lead g.S.Schedule.decides c.depth-base.result c.args.fuel c.min.result (nat_lt room c.args.fuel) (standing_of c.args.debugger.now) (standing_of c.walk.new.debugger) _ c.walk.new.chooser c.in_ok-stop.stop c.depth-base.ensures.value
    (omega (arith, c.min.ensures)) (λ e. fits_few c.args.fuel room c.min.result c.min.ensures e) c.in_ok-stop.ensures.walks c.in_ok-fits.ensures
