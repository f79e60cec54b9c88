use Rattle.std.proofs.Common.{◌<◌, ℕ, List, Option}
use Rattle.mpd_model.specs.declared.step.CallId.{CallId}
use Rattle.mpd_model.specs.steps.World.{Board, call_id, pending}
use Rattle.mpd_model.specs.steps.Why.{why_from}
use Rattle.mpd_queue.specs.InOrder.{places_in}
use Rattle.mpd_match.specs.Entries.{partner_entry}
use Rattle.mpd_match.proofs.Matches.{pending_once, pending_tells, pending_free}
use Rattle.mpd_match.proofs.Gathered.{gather_begins, gather_stands, gather_falls, gather_steps, gather_some, gather_ends, refused_with}
use Rattle.mpd_match.proofs.Holders.{sends_given}
use Rattle.mpd_match.proofs.board.Board.push_sends_from.Goals as goal

pub walk-init : goal.walk-init
walk-init c =
    let b : Board = c.args.self.now.board in
    let f : ℕ → List (CallId × Option CallId) = λ i. partner_entry b (call_id c.args.sender i) (call_id c.args.sender i) c.args.recv in
    let xs : List ℕ = pending b c.args.sender c.args.recv.rank in
    gather_begins f xs c.args.out.now.items (why_from b c.args.recv c.args.sender) c.first_pending-here.result c.first_pending-here.ensures.first (sends_given b c.args.recv c.args.sender)

pub next_free-here-requires : goal.next_free-here-requires
next_free-here-requires c =
    let b : Board = c.args.self.now.board in
    let f : ℕ → List (CallId × Option CallId) = λ i. partner_entry b (call_id c.args.sender i) (call_id c.args.sender i) c.args.recv in
    let xs : List ℕ = pending b c.args.sender c.args.recv.rank in
    pending_free b c.args.sender c.args.recv.rank c.in-Some.index (gather_stands f xs _ _ _ c.in-Some.index c.walk.here c.in-Some.is c.walk.invariant)

pub walk-smaller : goal.walk-smaller
walk-smaller c =
    let b : Board = c.args.self.now.board in
    let f : ℕ → List (CallId × Option CallId) = λ i. partner_entry b (call_id c.args.sender i) (call_id c.args.sender i) c.args.recv in
    let xs : List ℕ = pending b c.args.sender c.args.recv.rank in
    let stands : 0 < places_in xs c.in-Some.index = gather_stands f xs _ _ _ c.in-Some.index c.walk.here c.in-Some.is c.walk.invariant in
    gather_falls f xs _ _ _ c.in-Some.index c.walk.here c.next_free-here.result (pending_once b c.args.sender c.args.recv.rank) c.in-Some.is c.walk.invariant (c.next_free-here.ensures.pending c.args.recv.rank (pending_tells b c.args.sender c.args.recv.rank c.in-Some.index stands))

pub walk-preserved : goal.walk-preserved
walk-preserved c =
    let b : Board = c.args.self.now.board in
    let f : ℕ → List (CallId × Option CallId) = λ i. partner_entry b (call_id c.args.sender i) (call_id c.args.sender i) c.args.recv in
    let xs : List ℕ = pending b c.args.sender c.args.recv.rank in
    let stands : 0 < places_in xs c.in-Some.index = gather_stands f xs _ _ _ c.in-Some.index c.walk.here c.in-Some.is c.walk.invariant in
    gather_steps f xs _ _ _ _ c.in-Some.index c.walk.here c.next_free-here.result (pending_once b c.args.sender c.args.recv.rank) c.in-Some.is c.walk.invariant (c.next_free-here.ensures.pending c.args.recv.rank (pending_tells b c.args.sender c.args.recv.rank c.in-Some.index stands)) c.in_ok-push_partner.ensures.ok

pub returns-in_err-push_partner-clause-missing : goal.returns-in_err-push_partner-clause-missing
returns-in_err-push_partner-clause-missing c =
    let b : Board = c.args.self.now.board in
    let f : ℕ → List (CallId × Option CallId) = λ i. partner_entry b (call_id c.args.sender i) (call_id c.args.sender i) c.args.recv in
    let xs : List ℕ = pending b c.args.sender c.args.recv.rank in
    refused_with _ (gather_some f xs _ _ _ c.in-Some.index c.walk.here (pending_once b c.args.sender c.args.recv.rank) c.in-Some.is c.walk.invariant c.in_err-push_partner.ensures.missing)

pub returns : goal.returns
returns c =
    let b : Board = c.args.self.now.board in
    let f : ℕ → List (CallId × Option CallId) = λ i. partner_entry b (call_id c.args.sender i) (call_id c.args.sender i) c.args.recv in
    let xs : List ℕ = pending b c.args.sender c.args.recv.rank in
    record {
      ok = gather_ends f xs _ _ _ c.walk.here c.in_default.is c.walk.invariant;
      missing = tt;
    }
