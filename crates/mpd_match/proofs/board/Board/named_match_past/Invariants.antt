use Rattle.std.proofs.Common.{length}
use Rattle.mpd_model.specs.steps.World.{call_id, posted}
use Rattle.mpd_model.specs.runs.Decisions.{is_named_match}
use Rattle.mpd_match.specs.Picked.{picked_with}
use Rattle.mpd_match.proofs.Walks.{rest}
use Rattle.mpd_match.proofs.Picked.{Finding}
use Rattle.mpd_match.proofs.board.Board.named_match_past.Given as goal

abbrev pub invariant-walk : goal.invariant-walk
invariant-walk l = Finding (λ j. picked_with is_named_match l.self.board (call_id l.receiver j)) (posted l.self.board l.receiver) l.here

abbrev pub decreases-walk : goal.decreases-walk
decreases-walk l = length (rest l.here (posted l.self.board l.receiver))
