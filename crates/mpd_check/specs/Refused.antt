-- Why a check is refused whose pieces or workers are.
use Rattle.mpd_lines.specs.declared.engine.EngineFault.TheVariants as engine
use Rattle.mpd_explore.specs.declared.splitter.SplitFault.{SplitFault}
use Rattle.mpd_explore.specs.declared.splitter.SplitFault.TheVariants as split
use Rattle.mpd_pool.specs.declared.pool.PoolFault.{PoolFault}
use Rattle.mpd_pool.specs.declared.pool.PoolFault.TheVariants as pool
use Rattle.mpd_check.specs.declared.fault.CheckFault.{CheckFault}
use Rattle.mpd_check.specs.declared.fault.CheckFault.TheVariants.{BadWorkers, TooManyPieces, Engine}

abbrev pub refused_by : PoolFault → CheckFault
refused_by pool.BadWorkers = BadWorkers
refused_by pool.TooManyPieces = TooManyPieces
refused_by pool.Memory = Engine engine.Memory

abbrev pub split_refused : SplitFault → CheckFault
split_refused split.TooManyPieces = TooManyPieces
split_refused split.Memory = Engine engine.Memory
