use Rattle.mpd_model.specs.steps.World.{posted}
use Rattle.mpd_queue.specs.InOrder.{HasSpot}
use Rattle.mpd_match.proofs.board.Board.has_many_posted.Given as goal

abbrev pub invariant-loop : goal.invariant-loop
invariant-loop l = HasSpot (posted l.self.board l.receiver) l.here
