use denote.Param.Send.{sendable}
use Rattle.mpd_session.proofs.Crossing.{shared_sync}
use Rattle.mpd_server.proofs.server.attend.Goals as goal

pub serve_all-requires-sync-T : goal.serve_all-requires-sync-T
serve_all-requires-sync-T g c κs within = search (shared_sync, sendable) depth 20
