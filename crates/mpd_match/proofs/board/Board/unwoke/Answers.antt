use Rattle.mpd_match.specs.Changes.{last_set}
use Rattle.mpd_match.proofs.Boards.{woke_lone}
use Rattle.mpd_match.proofs.board.Board.unwoke.Goals as goal

pub drop_set-requires : goal.drop_set-requires
drop_set-requires c = woke_lone (last_set c.args.self.now.board) c.requires
