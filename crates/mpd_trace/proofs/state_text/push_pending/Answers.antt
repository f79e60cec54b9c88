use Rattle.std.proofs.Common.{ℕ, List, ◌++◌, string_bytes}
use Rattle.std.specs.Prelude.{codes}
use Rattle.std.specs.Fmt.{decimal}
use Rattle.mpd_model.specs.steps.World.{Board, pending}
use Rattle.mpd_match.proofs.Matches.{pending_once, pending_tells, pending_free}
use Rattle.mpd_trace.proofs.WalkTexts.{writing_stands, writing_falls, writing_steps, line_ends}
use Rattle.mpd_trace.proofs.state_text.push_pending.Goals as goal

pub next_free-here-requires : goal.next_free-here-requires
next_free-here-requires c =
    let b : Board = c.args.board.now.board in
    let xs : List ℕ = pending b c.args.sender c.args.receiver in
    pending_free b c.args.sender c.args.receiver c.in-Some.index (writing_stands xs _ _ c.in-Some.index c.walk.here c.in-Some.is c.walk.invariant)

pub walk-smaller : goal.walk-smaller
walk-smaller c =
    let b : Board = c.args.board.now.board in
    let xs : List ℕ = pending b c.args.sender c.args.receiver in
    let stands = writing_stands xs _ _ c.in-Some.index c.walk.here c.in-Some.is c.walk.invariant in
    writing_falls xs _ _ c.in-Some.index c.walk.here c.next_free-here.result (pending_once b c.args.sender c.args.receiver) c.in-Some.is c.walk.invariant
    (c.next_free-here.ensures.pending c.args.receiver (pending_tells b c.args.sender c.args.receiver c.in-Some.index stands))

pub walk-preserved : goal.walk-preserved
walk-preserved c =
    let b : Board = c.args.board.now.board in
    let xs : List ℕ = pending b c.args.sender c.args.receiver in
    let stands = writing_stands xs _ _ c.in-Some.index c.walk.here c.in-Some.is c.walk.invariant in
    writing_steps xs _ _ _ c.in-Some.index c.walk.here c.next_free-here.result (pending_once b c.args.sender c.args.receiver) c.in-Some.is c.walk.invariant
    (c.next_free-here.ensures.pending c.args.receiver (pending_tells b c.args.sender c.args.receiver c.in-Some.index stands)) c.in_ok-push_index.ensures

pub returns : goal.returns
unfolding lib.Utf8.encode
returns c =
    line_ends (pending c.args.board.now.board c.args.sender c.args.receiver) (string_bytes c.args.out.now) (codes "pending " ++ decimal c.args.sender ++ codes " to " ++ decimal c.args.receiver)
    _ _ c.first_pending-here.result c.walk.here c.is_none.result c.first_pending-here.ensures.first c.is_none.ensures c.if-is_none.false c.in_default.is c.walk.invariant c.in_ok-push.ensures.bytes
