use Rattle.std.proofs.Common.{◌<◌, ◌≡◌, ℕ, true, Option, None, List, length, sym, ap, subst, ◌∙◌}
use Rattle.mpd_queue.specs.InOrder.{first_of}
use Rattle.mpd_model.specs.declared.step.Step.{Step}
use Rattle.mpd_model.specs.steps.World.{World, Board, call_id, is_free, posted}
use Rattle.mpd_model.specs.steps.Why.{first_in}
use Rattle.mpd_match.proofs.Walks.{rest, walk_falls}
use Rattle.mpd_match.proofs.Matches.{posted_once, posted_free}
use Rattle.mpd_match.proofs.Picked.{Finding, find_begins, find_goes_on, find_finds, find_ends, none_is}
use Rattle.mpd_policy.proofs.QuietLemmas.{quiet_with, at_all, next_is}
use Rattle.mpd_policy.proofs.quiet.quiet_match_at.Goals as goal

pub walk-init : goal.walk-init
walk-init c =
    let w : World = c.args.core.now.world in
    find_begins (λ j. quiet_with w (call_id c.args.receiver j)) (posted w.board c.args.receiver) c.first_posted-here.result
    (subst (λ (b : Board). c.first_posted-here.result ≡ first_of (posted b c.args.receiver)) c.board-board.ensures c.first_posted-here.ensures.first)

pub returns-then-is_some : goal.returns-then-is_some
returns-then-is_some c =
    let w : World = c.args.core.now.world in
    let f : ℕ → List Step = λ j. quiet_with w (call_id c.args.receiver j) in
    let xs : List ℕ = posted w.board c.args.receiver in
    let h = subst (λ (o : Option ℕ). Finding f xs o) c.in-Some.is c.walk.invariant in
    find_finds f xs c.in-Some.index c.quiet_match_with-found.result (posted_once w.board c.args.receiver) h c.quiet_match_with-found.ensures (sym c.is_some.ensures ∙ c.if-is_some.true) ∙ ap first_in (at_all w c.args.receiver)

pub next_free-here-requires : goal.next_free-here-requires
next_free-here-requires c =
    let w : World = c.args.core.now.world in
    let h = subst (λ (o : Option ℕ). Finding (λ j. quiet_with w (call_id c.args.receiver j)) (posted w.board c.args.receiver) o) c.in-Some.is c.walk.invariant in
    subst (λ (b : Board). is_free b (call_id c.args.receiver c.in-Some.index) ≡ true) (sym c.board-board.ensures) (posted_free w.board c.args.receiver c.in-Some.index h.stands)

pub walk-smaller : goal.walk-smaller
walk-smaller c =
    let w : World = c.args.core.now.world in
    let xs : List ℕ = posted w.board c.args.receiver in
    let h = subst (λ (o : Option ℕ). Finding (λ j. quiet_with w (call_id c.args.receiver j)) xs o) c.in-Some.is c.walk.invariant in
    subst (λ (o : Option ℕ). length (rest c.next_free-here.result xs) < length (rest o xs)) (sym c.in-Some.is)
    (walk_falls c.in-Some.index xs c.next_free-here.result (posted_once w.board c.args.receiver) h.stands
    (next_is w c.board-board.result.now.board c.args.receiver c.in-Some.index c.next_free-here.result c.board-board.ensures h.stands c.next_free-here.ensures.posted))

pub walk-preserved : goal.walk-preserved
walk-preserved c =
    let w : World = c.args.core.now.world in
    let f : ℕ → List Step = λ j. quiet_with w (call_id c.args.receiver j) in
    let xs : List ℕ = posted w.board c.args.receiver in
    let h = subst (λ (o : Option ℕ). Finding f xs o) c.in-Some.is c.walk.invariant in
    let none : first_in (f c.in-Some.index) ≡ None = sym c.quiet_match_with-found.ensures ∙ none_is c.quiet_match_with-found.result (sym c.is_some.ensures ∙ c.if-is_some.false) in
    find_goes_on f xs c.in-Some.index c.next_free-here.result (posted_once w.board c.args.receiver) h none
    (next_is w c.board-board.result.now.board c.args.receiver c.in-Some.index c.next_free-here.result c.board-board.ensures h.stands c.next_free-here.ensures.posted)

pub returns : goal.returns
returns c =
    let w : World = c.args.core.now.world in
    let f : ℕ → List Step = λ j. quiet_with w (call_id c.args.receiver j) in
    let xs : List ℕ = posted w.board c.args.receiver in
    let h = subst (λ (o : Option ℕ). Finding f xs o) c.in_default.is c.walk.invariant in
    find_ends f xs h ∙ ap first_in (at_all w c.args.receiver)
