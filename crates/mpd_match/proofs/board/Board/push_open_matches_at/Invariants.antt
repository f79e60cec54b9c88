use Rattle.std.proofs.Common.{length}
use Rattle.mpd_model.specs.steps.World.{call_id, posted}
use Rattle.mpd_model.specs.runs.Decisions.{is_open_match}
use Rattle.mpd_match.specs.Picked.{picked_with, picked_at}
use Rattle.mpd_match.proofs.Walks.{rest}
use Rattle.mpd_match.proofs.Gathered.{Gathering}
use Rattle.mpd_match.proofs.board.Board.push_open_matches_at.Given as goal

abbrev pub invariant-walk : goal.invariant-walk
invariant-walk l = Gathering (λ j. picked_with is_open_match l.self.board (call_id l.receiver j)) (posted l.self.board l.receiver) l.fn.out.items (picked_at is_open_match l.self.board l.receiver) l.out.items l.here

abbrev pub decreases-walk : goal.decreases-walk
decreases-walk l = length (rest l.here (posted l.self.board l.receiver))
