use Rattle.std.proofs.Common.{sym, subst}
use Rattle.mpd_model.specs.steps.World.{Board, posted}
use Rattle.mpd_queue.specs.InOrder.{HasSpot}
use Rattle.mpd_queue.proofs.Spots.{first_spot, next_spot}
use Rattle.mpd_match.proofs.Matches.{posted_tells, posted_free}
use Rattle.mpd_match.proofs.board.Board.has_many_posted.Goals as goal

pub loop-init : goal.loop-init
loop-init c = subst (HasSpot (posted c.args.self.now.board c.args.receiver)) (sym c.first_posted-here.ensures.first) (first_spot (posted c.args.self.now.board c.args.receiver))

pub next_free-here-requires : goal.next_free-here-requires
next_free-here-requires c =
    let b : Board = c.args.self.now.board in
    let stands = subst (HasSpot (posted b c.args.receiver)) c.in-Some.is c.loop.invariant in
    posted_free b c.args.receiver c.in-Some.index stands

pub loop-preserved : goal.loop-preserved
loop-preserved c =
    let b : Board = c.args.self.now.board in
    let stands = subst (HasSpot (posted b c.args.receiver)) c.in-Some.is c.loop.invariant in
    subst (HasSpot (posted b c.args.receiver)) (sym (c.next_free-here.ensures.posted (posted_tells b c.args.receiver c.in-Some.index stands))) (next_spot c.in-Some.index (posted b c.args.receiver))
