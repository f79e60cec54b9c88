use Rattle.std.proofs.Common.{ℕ, List}
use Rattle.mpd_model.specs.steps.World.{Board, call_id, posted}
use Rattle.mpd_model.specs.runs.Decisions.{is_open_match}
use Rattle.mpd_match.specs.Picked.{picked_with, picked_at}
use Rattle.mpd_match.proofs.Matches.{posted_once, posted_tells, posted_free}
use Rattle.mpd_match.proofs.Gathered.{gather_begins, gather_stands, gather_falls, gather_steps, gather_some, gather_ends, refused_with}
use Rattle.mpd_match.proofs.Picked.{posted_picks}
use Rattle.mpd_match.proofs.board.Board.push_open_matches_at.Goals as goal

pub walk-init : goal.walk-init
walk-init c =
    let b : Board = c.args.self.now.board in
    gather_begins (λ j. picked_with is_open_match b (call_id c.args.receiver j)) (posted b c.args.receiver) c.args.out.now.items (picked_at is_open_match b c.args.receiver) c.first_posted-here.result c.first_posted-here.ensures.first (posted_picks is_open_match b c.args.receiver)

pub next_free-here-requires : goal.next_free-here-requires
next_free-here-requires c =
    let b : Board = c.args.self.now.board in
    posted_free b c.args.receiver c.in-Some.index (gather_stands (λ j. picked_with is_open_match b (call_id c.args.receiver j)) (posted b c.args.receiver) _ _ _ c.in-Some.index c.walk.here c.in-Some.is c.walk.invariant)

pub walk-smaller : goal.walk-smaller
walk-smaller c =
    let b : Board = c.args.self.now.board in
    let xs : List ℕ = posted b c.args.receiver in
    let stands = gather_stands (λ j. picked_with is_open_match b (call_id c.args.receiver j)) xs _ _ _ c.in-Some.index c.walk.here c.in-Some.is c.walk.invariant in
    gather_falls (λ j. picked_with is_open_match b (call_id c.args.receiver j)) xs _ _ _ c.in-Some.index c.walk.here c.next_free-here.result (posted_once b c.args.receiver) c.in-Some.is c.walk.invariant
    (c.next_free-here.ensures.posted (posted_tells b c.args.receiver c.in-Some.index stands))

pub walk-preserved : goal.walk-preserved
walk-preserved c =
    let b : Board = c.args.self.now.board in
    let xs : List ℕ = posted b c.args.receiver in
    let stands = gather_stands (λ j. picked_with is_open_match b (call_id c.args.receiver j)) xs _ _ _ c.in-Some.index c.walk.here c.in-Some.is c.walk.invariant in
    gather_steps (λ j. picked_with is_open_match b (call_id c.args.receiver j)) xs _ _ _ _ c.in-Some.index c.walk.here c.next_free-here.result (posted_once b c.args.receiver) c.in-Some.is c.walk.invariant
    (c.next_free-here.ensures.posted (posted_tells b c.args.receiver c.in-Some.index stands)) c.in_ok-push_open_matches_with.ensures.ok

pub returns-in_err-push_open_matches_with-clause-memory : goal.returns-in_err-push_open_matches_with-clause-memory
returns-in_err-push_open_matches_with-clause-memory c =
    let b : Board = c.args.self.now.board in
    refused_with _ (gather_some (λ j. picked_with is_open_match b (call_id c.args.receiver j)) (posted b c.args.receiver) _ _ _ c.in-Some.index c.walk.here (posted_once b c.args.receiver) c.in-Some.is c.walk.invariant c.in_err-push_open_matches_with.ensures.memory)

pub returns : goal.returns
returns c =
    let b : Board = c.args.self.now.board in
    record {
      ok = gather_ends (λ j. picked_with is_open_match b (call_id c.args.receiver j)) (posted b c.args.receiver) _ _ _ c.walk.here c.in_default.is c.walk.invariant;
      memory = tt;
    }
