use denote.Param.Send.{sendable}
use Rattle.mpd_pool.proofs.Crossing.{job_send}
use Rattle.mpd_pool.proofs.pool.explore_by_workers.Goals as goal

pub map_vec-requires-send-J : goal.map_vec-requires-send-J
map_vec-requires-send-J g c κs within = search (job_send, sendable) depth 20
