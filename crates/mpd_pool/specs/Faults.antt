-- The number and the name of why there is no report.
use Rattle.std.specs.Prelude.{ℕ, List, codes}
use Rattle.mpd_pool.specs.declared.pool.PoolFault.{PoolFault}
use Rattle.mpd_pool.specs.declared.pool.PoolFault.TheVariants.{BadWorkers, TooManyPieces, Memory}

abbrev pub pool_fault_number : PoolFault → ℕ
pool_fault_number BadWorkers = 35
pool_fault_number TooManyPieces = 31
pool_fault_number Memory = 0

abbrev pub pool_fault_name : PoolFault → List ℕ
pool_fault_name BadWorkers = codes "bad-workers"
pool_fault_name TooManyPieces = codes "too-many-pieces"
pool_fault_name Memory = codes "memory"
