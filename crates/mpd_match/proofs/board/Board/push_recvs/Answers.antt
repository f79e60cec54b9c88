use Rattle.std.proofs.Common.{◌<◌, ℕ, arith, List, Option}
use Rattle.mpd_model.specs.declared.step.CallId.{CallId}
use Rattle.mpd_model.specs.steps.World.{Board, call_id, posted}
use Rattle.mpd_model.specs.steps.Why.{why_send}
use Rattle.mpd_queue.specs.InOrder.{places_in}
use Rattle.mpd_match.specs.Entries.{partner_entry}
use Rattle.mpd_match.proofs.Matches.{posted_once, posted_tells, posted_free}
use Rattle.mpd_match.proofs.Gathered.{gather_begins, gather_stands, gather_falls, gather_steps, gather_some, gather_ends, refused_with}
use Rattle.mpd_match.proofs.Holders.{recvs_given, no_rank}
use Rattle.mpd_match.proofs.board.Board.push_recvs.Goals as goal

pub returns-then-rank_count-rank-clause-ok : goal.returns-then-rank_count-rank-clause-ok
returns-then-rank_count-rank-clause-ok c =
    no_rank c.args.self.now.board c.args.send c.args.rank _ (let le = c.if-rank_count-rank.true in omega (arith, c.rank_count.ensures.value))

pub walk-init : goal.walk-init
walk-init c =
    let b : Board = c.args.self.now.board in
    let f : ℕ → List (CallId × Option CallId) = λ j. partner_entry b (call_id c.args.rank j) c.args.send (call_id c.args.rank j) in
    let xs : List ℕ = posted b c.args.rank in
    gather_begins f xs c.args.out.now.items (why_send b c.args.send c.args.rank) c.first_posted-here.result c.first_posted-here.ensures.first (recvs_given b c.args.send c.args.rank)

pub next_free-here-requires : goal.next_free-here-requires
next_free-here-requires c =
    let b : Board = c.args.self.now.board in
    let f : ℕ → List (CallId × Option CallId) = λ j. partner_entry b (call_id c.args.rank j) c.args.send (call_id c.args.rank j) in
    let xs : List ℕ = posted b c.args.rank in
    posted_free b c.args.rank c.in-Some.index (gather_stands f xs _ _ _ c.in-Some.index c.walk.here c.in-Some.is c.walk.invariant)

pub walk-smaller : goal.walk-smaller
walk-smaller c =
    let b : Board = c.args.self.now.board in
    let f : ℕ → List (CallId × Option CallId) = λ j. partner_entry b (call_id c.args.rank j) c.args.send (call_id c.args.rank j) in
    let xs : List ℕ = posted b c.args.rank in
    let stands : 0 < places_in xs c.in-Some.index = gather_stands f xs _ _ _ c.in-Some.index c.walk.here c.in-Some.is c.walk.invariant in
    gather_falls f xs _ _ _ c.in-Some.index c.walk.here c.next_free-here.result (posted_once b c.args.rank) c.in-Some.is c.walk.invariant (c.next_free-here.ensures.posted (posted_tells b c.args.rank c.in-Some.index stands))

pub walk-preserved : goal.walk-preserved
walk-preserved c =
    let b : Board = c.args.self.now.board in
    let f : ℕ → List (CallId × Option CallId) = λ j. partner_entry b (call_id c.args.rank j) c.args.send (call_id c.args.rank j) in
    let xs : List ℕ = posted b c.args.rank in
    let stands : 0 < places_in xs c.in-Some.index = gather_stands f xs _ _ _ c.in-Some.index c.walk.here c.in-Some.is c.walk.invariant in
    gather_steps f xs _ _ _ _ c.in-Some.index c.walk.here c.next_free-here.result (posted_once b c.args.rank) c.in-Some.is c.walk.invariant (c.next_free-here.ensures.posted (posted_tells b c.args.rank c.in-Some.index stands)) c.in_ok-push_partner.ensures.ok

pub returns-in_err-push_partner-clause-missing : goal.returns-in_err-push_partner-clause-missing
returns-in_err-push_partner-clause-missing c =
    let b : Board = c.args.self.now.board in
    let f : ℕ → List (CallId × Option CallId) = λ j. partner_entry b (call_id c.args.rank j) c.args.send (call_id c.args.rank j) in
    let xs : List ℕ = posted b c.args.rank in
    refused_with _ (gather_some f xs _ _ _ c.in-Some.index c.walk.here (posted_once b c.args.rank) c.in-Some.is c.walk.invariant c.in_err-push_partner.ensures.missing)

pub returns : goal.returns
returns c =
    let b : Board = c.args.self.now.board in
    let f : ℕ → List (CallId × Option CallId) = λ j. partner_entry b (call_id c.args.rank j) c.args.send (call_id c.args.rank j) in
    let xs : List ℕ = posted b c.args.rank in
    record {
      ok = gather_ends f xs _ _ _ c.walk.here c.in_default.is c.walk.invariant;
      missing = tt;
    }
