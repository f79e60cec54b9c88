use Rattle.std.proofs.Common.{◌≡◌, ◌<◌, ◌≤◌, ℕ, Bool, Option, List, sym, ap, ◌∙◌}
use Rattle.mpd_model.specs.declared.call.CallKind.{CallKind}
use Rattle.mpd_model.specs.steps.World.{Board, call_id, kind_at, fits, fitting, pending}
use Rattle.mpd_queue.specs.InOrder.{places_in}
use Rattle.mpd_match.proofs.Firsts.{find_begins, find_stands, find_falls, find_steps, find_hits, looks_hit, find_ends, looks_end}
use Rattle.mpd_match.proofs.Matches.{pending_once, pending_tells, pending_free}
use Rattle.mpd_match.proofs.board.Board.first_send.Goals as goal

pub walk-init : goal.walk-init
walk-init c =
    let b : Board = c.args.self.now.board in
    let t : ℕ → Bool = λ i. fits b (call_id c.args.sender i) c.args.recv in
    let xs : List ℕ = pending b c.args.sender c.args.recv.rank in
    find_begins t xs c.args.looks.now c.first_pending-here.new.looks c.first_pending-here.result c.first_pending-here.ensures.first c.first_pending-here.ensures.looks

pub returns-then-is_fitting-clause-first : goal.returns-then-is_fitting-clause-first
returns-then-is_fitting-clause-first c =
    let b : Board = c.args.self.now.board in
    let t : ℕ → Bool = λ i. fits b (call_id c.args.sender i) c.args.recv in
    let xs : List ℕ = pending b c.args.sender c.args.recv.rank in
    let once : (z : ℕ) → places_in xs z ≤ 1 = pending_once b c.args.sender c.args.recv.rank in
    let fitted : c.is_fitting.result ≡ t c.in-Some.index = c.is_fitting.ensures
    ∙ ap (λ (k : Option CallKind). fitting k c.kind-kind.result c.args.sender c.args.recv.rank) c.kind.ensures
    ∙ ap (λ (k : Option CallKind). fitting (kind_at b (call_id c.args.sender c.in-Some.index)) k c.args.sender c.args.recv.rank) c.kind-kind.ensures in
    find_hits t xs c.args.looks.now c.walk.looks c.in-Some.index c.walk.here once c.in-Some.is c.walk.invariant (sym fitted ∙ c.if-is_fitting.true)

pub returns-then-is_fitting-clause-looks : goal.returns-then-is_fitting-clause-looks
returns-then-is_fitting-clause-looks c =
    let b : Board = c.args.self.now.board in
    let t : ℕ → Bool = λ i. fits b (call_id c.args.sender i) c.args.recv in
    let xs : List ℕ = pending b c.args.sender c.args.recv.rank in
    let once : (z : ℕ) → places_in xs z ≤ 1 = pending_once b c.args.sender c.args.recv.rank in
    let fitted : c.is_fitting.result ≡ t c.in-Some.index = c.is_fitting.ensures
    ∙ ap (λ (k : Option CallKind). fitting k c.kind-kind.result c.args.sender c.args.recv.rank) c.kind.ensures
    ∙ ap (λ (k : Option CallKind). fitting (kind_at b (call_id c.args.sender c.in-Some.index)) k c.args.sender c.args.recv.rank) c.kind-kind.ensures in
    looks_hit t xs c.args.looks.now c.walk.looks c.in-Some.index c.walk.here once c.in-Some.is c.walk.invariant (sym fitted ∙ c.if-is_fitting.true)

pub next_free-here-requires : goal.next_free-here-requires
next_free-here-requires c =
    let b : Board = c.args.self.now.board in
    let t : ℕ → Bool = λ i. fits b (call_id c.args.sender i) c.args.recv in
    let xs : List ℕ = pending b c.args.sender c.args.recv.rank in
    let once : (z : ℕ) → places_in xs z ≤ 1 = pending_once b c.args.sender c.args.recv.rank in
    pending_free b c.args.sender c.args.recv.rank c.in-Some.index (find_stands t xs c.args.looks.now c.walk.looks c.in-Some.index c.walk.here once c.in-Some.is c.walk.invariant)

pub walk-smaller : goal.walk-smaller
walk-smaller c =
    let b : Board = c.args.self.now.board in
    let t : ℕ → Bool = λ i. fits b (call_id c.args.sender i) c.args.recv in
    let xs : List ℕ = pending b c.args.sender c.args.recv.rank in
    let once : (z : ℕ) → places_in xs z ≤ 1 = pending_once b c.args.sender c.args.recv.rank in
    let stands : 0 < places_in xs c.in-Some.index = find_stands t xs c.args.looks.now c.walk.looks c.in-Some.index c.walk.here once c.in-Some.is c.walk.invariant in
    find_falls t xs c.args.looks.now c.walk.looks c.in-Some.index c.walk.here once c.in-Some.is c.walk.invariant c.next_free-here.result (c.next_free-here.ensures.pending c.args.recv.rank (pending_tells b c.args.sender c.args.recv.rank c.in-Some.index stands))

pub walk-preserved : goal.walk-preserved
walk-preserved c =
    let b : Board = c.args.self.now.board in
    let t : ℕ → Bool = λ i. fits b (call_id c.args.sender i) c.args.recv in
    let xs : List ℕ = pending b c.args.sender c.args.recv.rank in
    let once : (z : ℕ) → places_in xs z ≤ 1 = pending_once b c.args.sender c.args.recv.rank in
    let stands : 0 < places_in xs c.in-Some.index = find_stands t xs c.args.looks.now c.walk.looks c.in-Some.index c.walk.here once c.in-Some.is c.walk.invariant in
    let fitted : c.is_fitting.result ≡ t c.in-Some.index = c.is_fitting.ensures
    ∙ ap (λ (k : Option CallKind). fitting k c.kind-kind.result c.args.sender c.args.recv.rank) c.kind.ensures
    ∙ ap (λ (k : Option CallKind). fitting (kind_at b (call_id c.args.sender c.in-Some.index)) k c.args.sender c.args.recv.rank) c.kind-kind.ensures in
    find_steps t xs c.args.looks.now c.walk.looks c.in-Some.index c.walk.here once c.in-Some.is c.walk.invariant c.next_free-here.result c.next_free-here.new.looks (sym fitted ∙ c.if-is_fitting.false) (c.next_free-here.ensures.pending c.args.recv.rank (pending_tells b c.args.sender c.args.recv.rank c.in-Some.index stands)) c.next_free-here.ensures.looks

pub returns-clause-first : goal.returns-clause-first
returns-clause-first c =
    let b : Board = c.args.self.now.board in
    let t : ℕ → Bool = λ i. fits b (call_id c.args.sender i) c.args.recv in
    let xs : List ℕ = pending b c.args.sender c.args.recv.rank in
    find_ends t xs c.args.looks.now c.walk.looks c.walk.here c.in_default.is c.walk.invariant

pub returns-clause-looks : goal.returns-clause-looks
returns-clause-looks c =
    let b : Board = c.args.self.now.board in
    let t : ℕ → Bool = λ i. fits b (call_id c.args.sender i) c.args.recv in
    let xs : List ℕ = pending b c.args.sender c.args.recv.rank in
    looks_end t xs c.args.looks.now c.walk.looks c.walk.here c.in_default.is c.walk.invariant
