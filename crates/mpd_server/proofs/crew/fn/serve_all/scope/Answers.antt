use denote.Param.Send.{sendable}
use Rattle.mpd_server.proofs.crew.fn.serve_all.scope.Goals as goal

pub start_all-requires-clause-seats : goal.start_all-requires-clause-seats
start_all-requires-clause-seats g c κs within = search (sendable) depth 20
