use Rattle.std.proofs.Common.{◌<◌, ◌≡◌, ℕ, Option, None, List, length, sym, ap, subst, ◌∙◌}
use Rattle.mpd_model.specs.declared.step.Step.{Step}
use Rattle.mpd_model.specs.steps.World.{Board, call_id, posted}
use Rattle.mpd_model.specs.steps.Why.{first_in}
use Rattle.mpd_model.specs.runs.Decisions.{is_named_match}
use Rattle.mpd_match.specs.Picked.{picked_with}
use Rattle.mpd_match.proofs.Walks.{rest, walk_falls}
use Rattle.mpd_match.proofs.Matches.{posted_once, posted_tells, posted_free}
use Rattle.mpd_match.proofs.Picked.{Finding, find_begins, find_goes_on, find_finds, find_ends, none_is, posted_picks}
use Rattle.mpd_match.proofs.board.Board.named_match_past.Goals as goal

pub walk-init : goal.walk-init
walk-init c =
    let b : Board = c.args.self.now.board in
    find_begins (λ j. picked_with is_named_match b (call_id c.args.receiver j)) (posted b c.args.receiver) c.first_posted-here.result c.first_posted-here.ensures.first

pub returns-then-is_some : goal.returns-then-is_some
returns-then-is_some c =
    let b : Board = c.args.self.now.board in
    let f : ℕ → List Step = λ j. picked_with is_named_match b (call_id c.args.receiver j) in
    let xs : List ℕ = posted b c.args.receiver in
    let w = subst (λ (o : Option ℕ). Finding f xs o) c.in-Some.is c.walk.invariant in
    find_finds f xs c.in-Some.index c.named_match_by-found.result (posted_once b c.args.receiver) w c.named_match_by-found.ensures (sym c.is_some.ensures ∙ c.if-is_some.true) ∙ ap first_in (posted_picks is_named_match b c.args.receiver)

pub next_free-here-requires : goal.next_free-here-requires
next_free-here-requires c =
    let b : Board = c.args.self.now.board in
    let w = subst (λ (o : Option ℕ). Finding (λ j. picked_with is_named_match b (call_id c.args.receiver j)) (posted b c.args.receiver) o) c.in-Some.is c.walk.invariant in
    posted_free b c.args.receiver c.in-Some.index w.stands

pub walk-smaller : goal.walk-smaller
walk-smaller c =
    let b : Board = c.args.self.now.board in
    let xs : List ℕ = posted b c.args.receiver in
    let w = subst (λ (o : Option ℕ). Finding (λ j. picked_with is_named_match b (call_id c.args.receiver j)) xs o) c.in-Some.is c.walk.invariant in
    subst (λ (o : Option ℕ). length (rest c.next_free-here.result xs) < length (rest o xs)) (sym c.in-Some.is)
    (walk_falls c.in-Some.index xs c.next_free-here.result (posted_once b c.args.receiver) w.stands
    (c.next_free-here.ensures.posted (posted_tells b c.args.receiver c.in-Some.index w.stands)))

pub walk-preserved : goal.walk-preserved
walk-preserved c =
    let b : Board = c.args.self.now.board in
    let f : ℕ → List Step = λ j. picked_with is_named_match b (call_id c.args.receiver j) in
    let xs : List ℕ = posted b c.args.receiver in
    let w = subst (λ (o : Option ℕ). Finding f xs o) c.in-Some.is c.walk.invariant in
    let none : first_in (f c.in-Some.index) ≡ None = sym c.named_match_by-found.ensures ∙ none_is c.named_match_by-found.result (sym c.is_some.ensures ∙ c.if-is_some.false) in
    find_goes_on f xs c.in-Some.index c.next_free-here.result (posted_once b c.args.receiver) w none
    (c.next_free-here.ensures.posted (posted_tells b c.args.receiver c.in-Some.index w.stands))

pub returns : goal.returns
returns c =
    let b : Board = c.args.self.now.board in
    let f : ℕ → List Step = λ j. picked_with is_named_match b (call_id c.args.receiver j) in
    let xs : List ℕ = posted b c.args.receiver in
    let w = subst (λ (o : Option ℕ). Finding f xs o) c.in_default.is c.walk.invariant in
    find_ends f xs w ∙ ap first_in (posted_picks is_named_match b c.args.receiver)
