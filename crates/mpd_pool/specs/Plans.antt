-- What a plan asks of each piece.
use Rattle.mpd_explore.specs.declared.deadlocks.Limits.{Limits}
use Rattle.mpd_pool.specs.declared.pool.CheckPlan.{CheckPlan}

abbrev pub limits_of : CheckPlan → Limits
limits_of p = record { runs = p.runs; fuel = p.fuel }
