use Rattle.std.proofs.Common.{◌≡◌, ℕ, true, Option, Some, None, sym, ap, ◌∙◌, arith}
use Rattle.std.specs.Option.{option_to_list}
use Rattle.mpd_model.specs.declared.step.CallId.{CallId}
use Rattle.mpd_model.specs.declared.call.CallKind.{CallKind}
use Rattle.mpd_model.specs.steps.World.{Board, call_id, kind_at, is_free}
use Rattle.mpd_match.specs.Lines.{takes_from}
use Rattle.mpd_match.specs.Firsts.{first_recv}
use Rattle.mpd_match.proofs.Matches.{free_exists}
use Rattle.mpd_match.proofs.Candidates.{not_taken, not_free, no_send, no_recv, first_found, none_other, less_other, looks_walked, few_candidate_looks}
use Rattle.mpd_match.proofs.board.Board.candidate.Goals as goal

pub returns-then-not-takes_from-clause-found : goal.returns-then-not-takes_from-clause-found
returns-then-not-takes_from-clause-found c =
    not_taken c.args.self.now.board c.args.sender c.args.recv
    (ap (λ (k : Option CallKind). takes_from k c.args.sender) (sym c.kind.ensures) ∙ sym c.takes_from.ensures ∙ c.if-not-takes_from.true)

pub returns-then-not-is_free-clause-found : goal.returns-then-not-is_free-clause-found
returns-then-not-is_free-clause-found c = not_free c.args.self.now.board c.args.sender c.args.recv (sym c.is_free.ensures ∙ c.if-not-is_free.true)

pub first_send-requires-clause-receiver : goal.first_send-requires-clause-receiver
first_send-requires-clause-receiver c = free_exists c.args.self.now.board c.args.recv (sym c.is_free.ensures ∙ c.if-not-is_free.false)

pub returns-in_err-index-clause-found : goal.returns-in_err-index-clause-found
returns-in_err-index-clause-found c =
    no_send c.args.self.now.board c.args.sender c.args.recv (sym c.in_err-index.ensures.first) ∙ ap option_to_list (sym c.from_residual.ensures)

pub returns-in_err-index-clause-at_most : goal.returns-in_err-index-clause-at_most
returns-in_err-index-clause-at_most c =
    let b : Board = c.args.self.now.board in
    let p : ℕ = c.args.sender in
    let r : CallId = c.args.recv in
    let takes : takes_from (kind_at b r) p ≡ true = ap (λ (k : Option CallKind). takes_from k p) (sym c.kind.ensures) ∙ sym c.takes_from.ensures ∙ c.if-not-takes_from.false in
    let free : is_free b r ≡ true = sym c.is_free.ensures ∙ c.if-not-is_free.false in
    omega (arith, c.in_err-index.ensures.looks, looks_walked b p r None takes free (sym c.in_err-index.ensures.first), few_candidate_looks b p r)

pub first_recv-requires : goal.first_recv-requires
first_recv-requires c = free_exists c.args.self.now.board c.args.recv (sym c.is_free.ensures ∙ c.if-not-is_free.false)

pub returns-in_err-first-clause-found : goal.returns-in_err-first-clause-found
returns-in_err-first-clause-found c =
    let b : Board = c.args.self.now.board in
    let p : ℕ = c.args.sender in
    let r : CallId = c.args.recv in
    let i : ℕ = c.in_ok-index.index in
    no_recv b p i r (sym c.in_ok-index.ensures.first) (none_other r.index (first_recv b (call_id p i) r.rank) (sym c.in_err-first.ensures.first)) ∙ ap option_to_list (sym c.from_residual-in_err-first.ensures)

pub returns-in_err-first-clause-at_most : goal.returns-in_err-first-clause-at_most
returns-in_err-first-clause-at_most c =
    let b : Board = c.args.self.now.board in
    let p : ℕ = c.args.sender in
    let r : CallId = c.args.recv in
    let takes : takes_from (kind_at b r) p ≡ true = ap (λ (k : Option CallKind). takes_from k p) (sym c.kind.ensures) ∙ sym c.takes_from.ensures ∙ c.if-not-takes_from.false in
    let free : is_free b r ≡ true = sym c.is_free.ensures ∙ c.if-not-is_free.false in
    omega (arith, c.in_ok-index.ensures.looks, c.in_err-first.ensures.looks, looks_walked b p r (Some c.in_ok-index.index) takes free (sym c.in_ok-index.ensures.first), few_candidate_looks b p r)

pub returns-then-first-recv-clause-found : goal.returns-then-first-recv-clause-found
returns-then-first-recv-clause-found c =
    let b : Board = c.args.self.now.board in
    let p : ℕ = c.args.sender in
    let r : CallId = c.args.recv in
    let i : ℕ = c.in_ok-index.index in
    no_recv b p i r (sym c.in_ok-index.ensures.first) (less_other c.in_ok-first.first r.index (first_recv b (call_id p i) r.rank) (sym c.in_ok-first.ensures.first) c.if-first-recv.true)

pub returns-then-first-recv-clause-at_most : goal.returns-then-first-recv-clause-at_most
returns-then-first-recv-clause-at_most c =
    let b : Board = c.args.self.now.board in
    let p : ℕ = c.args.sender in
    let r : CallId = c.args.recv in
    let takes : takes_from (kind_at b r) p ≡ true = ap (λ (k : Option CallKind). takes_from k p) (sym c.kind.ensures) ∙ sym c.takes_from.ensures ∙ c.if-not-takes_from.false in
    let free : is_free b r ≡ true = sym c.is_free.ensures ∙ c.if-not-is_free.false in
    omega (arith, c.in_ok-index.ensures.looks, c.in_ok-first.ensures.looks, looks_walked b p r (Some c.in_ok-index.index) takes free (sym c.in_ok-index.ensures.first), few_candidate_looks b p r)

pub returns-clause-found : goal.returns-clause-found
returns-clause-found c =
    let b : Board = c.args.self.now.board in
    let p : ℕ = c.args.sender in
    let r : CallId = c.args.recv in
    let takes : takes_from (kind_at b r) p ≡ true = ap (λ (k : Option CallKind). takes_from k p) (sym c.kind.ensures) ∙ sym c.takes_from.ensures ∙ c.if-not-takes_from.false in
    let free : is_free b r ≡ true = sym c.is_free.ensures ∙ c.if-not-is_free.false in
    first_found b p c.in_ok-index.index c.in_ok-first.first r takes free (sym c.in_ok-index.ensures.first) (sym c.in_ok-first.ensures.first) c.if-first-recv.false

pub returns-clause-at_most : goal.returns-clause-at_most
returns-clause-at_most c =
    let b : Board = c.args.self.now.board in
    let p : ℕ = c.args.sender in
    let r : CallId = c.args.recv in
    let takes : takes_from (kind_at b r) p ≡ true = ap (λ (k : Option CallKind). takes_from k p) (sym c.kind.ensures) ∙ sym c.takes_from.ensures ∙ c.if-not-takes_from.false in
    let free : is_free b r ≡ true = sym c.is_free.ensures ∙ c.if-not-is_free.false in
    omega (arith, c.in_ok-index.ensures.looks, c.in_ok-first.ensures.looks, looks_walked b p r (Some c.in_ok-index.index) takes free (sym c.in_ok-index.ensures.first), few_candidate_looks b p r)
