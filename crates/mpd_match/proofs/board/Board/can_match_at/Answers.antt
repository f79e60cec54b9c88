use Rattle.std.proofs.Common.{◌<◌, ℕ, Bool, Option, List, length, sym, subst, ◌∙◌}
use Rattle.mpd_model.specs.steps.World.{Board, call_id, posted}
use Rattle.mpd_match.proofs.Walks.{Seeking, rest, walk_falls, seek_begins, seek_goes_on, seek_finds, seek_ends}
use Rattle.mpd_match.proofs.Matches.{any_send, posted_once, posted_tells, posted_free, posted_enough}
use Rattle.mpd_match.proofs.board.Board.can_match_at.Goals as goal

pub walk-init : goal.walk-init
walk-init c =
    let b : Board = c.args.self.now.board in
    seek_begins (λ j. any_send b (call_id c.args.receiver j)) (posted b c.args.receiver) c.first_posted-here.result c.first_posted-here.ensures.first

pub returns-then-can_match_with : goal.returns-then-can_match_with
returns-then-can_match_with c =
    let b : Board = c.args.self.now.board in
    let test : ℕ → Bool = λ j. any_send b (call_id c.args.receiver j) in
    let xs : List ℕ = posted b c.args.receiver in
    let w = subst (λ (o : Option ℕ). Seeking test xs o) c.in-Some.is c.walk.invariant in
    seek_finds test xs c.in-Some.index (posted_once b c.args.receiver) w (sym c.can_match_with.ensures ∙ c.if-can_match_with.true) ∙ posted_enough b c.args.receiver

pub next_free-here-requires : goal.next_free-here-requires
next_free-here-requires c =
    let b : Board = c.args.self.now.board in
    let w = subst (λ (o : Option ℕ). Seeking (λ j. any_send b (call_id c.args.receiver j)) (posted b c.args.receiver) o) c.in-Some.is c.walk.invariant in
    posted_free b c.args.receiver c.in-Some.index w.stands

pub walk-smaller : goal.walk-smaller
walk-smaller c =
    let b : Board = c.args.self.now.board in
    let xs : List ℕ = posted b c.args.receiver in
    let w = subst (λ (o : Option ℕ). Seeking (λ j. any_send b (call_id c.args.receiver j)) xs o) c.in-Some.is c.walk.invariant in
    subst (λ (o : Option ℕ). length (rest c.next_free-here.result xs) < length (rest o xs)) (sym c.in-Some.is)
    (walk_falls c.in-Some.index xs c.next_free-here.result (posted_once b c.args.receiver) w.stands
    (c.next_free-here.ensures.posted (posted_tells b c.args.receiver c.in-Some.index w.stands)))

pub walk-preserved : goal.walk-preserved
walk-preserved c =
    let b : Board = c.args.self.now.board in
    let test : ℕ → Bool = λ j. any_send b (call_id c.args.receiver j) in
    let xs : List ℕ = posted b c.args.receiver in
    let w = subst (λ (o : Option ℕ). Seeking test xs o) c.in-Some.is c.walk.invariant in
    seek_goes_on test xs c.in-Some.index c.next_free-here.result (posted_once b c.args.receiver) w (sym c.can_match_with.ensures ∙ c.if-can_match_with.false)
    (c.next_free-here.ensures.posted (posted_tells b c.args.receiver c.in-Some.index w.stands))

pub returns : goal.returns
returns c =
    let b : Board = c.args.self.now.board in
    let test : ℕ → Bool = λ j. any_send b (call_id c.args.receiver j) in
    let xs : List ℕ = posted b c.args.receiver in
    let w = subst (λ (o : Option ℕ). Seeking test xs o) c.in_default.is c.walk.invariant in
    seek_ends test xs w ∙ posted_enough b c.args.receiver
