use Rattle.std.proofs.Common.{◌<◌, ℕ, Option, List, length, sym, ap, subst, ◌∙◌}
use Rattle.mpd_model.specs.steps.World.{Board, call_id, kind_at, pending}
use Rattle.mpd_match.specs.Tags.{tag_place, sent_tag}
use Rattle.mpd_match.proofs.Walks.{rest, walk_falls}
use Rattle.mpd_match.proofs.Matches.{pending_once, pending_tells, pending_free}
use Rattle.mpd_match.proofs.Candidates.{pending_stands}
use Rattle.mpd_match.proofs.Tags.{Marking, mark_goes_on, mark_ends}
use Rattle.mpd_match.proofs.board.Board.mark_tags.Goals as goal

pub next_free-here-requires : goal.next_free-here-requires
next_free-here-requires c =
    let b : Board = c.args.self.now.board in
    let place : ℕ → ℕ = λ i. tag_place c.args.sender (sent_tag (kind_at b (call_id c.args.sender i))) in
    let xs : List ℕ = pending b c.args.sender c.args.receiver in
    let w = subst (λ (o : Option ℕ). Marking place xs c.args.marks.now c.walk.marks o) c.in-Some.is c.walk.invariant in
    pending_free b c.args.sender c.args.receiver c.in-Some.index w.stands

pub walk-smaller : goal.walk-smaller
walk-smaller c =
    let b : Board = c.args.self.now.board in
    let place : ℕ → ℕ = λ i. tag_place c.args.sender (sent_tag (kind_at b (call_id c.args.sender i))) in
    let xs : List ℕ = pending b c.args.sender c.args.receiver in
    let w = subst (λ (o : Option ℕ). Marking place xs c.args.marks.now c.walk.marks o) c.in-Some.is c.walk.invariant in
    subst (λ (o : Option ℕ). length (rest c.next_free-here.result xs) < length (rest o xs)) (sym c.in-Some.is)
    (walk_falls c.in-Some.index xs c.next_free-here.result (pending_once b c.args.sender c.args.receiver) w.stands
    (c.next_free-here.ensures.pending c.args.receiver (pending_tells b c.args.sender c.args.receiver c.in-Some.index w.stands)))

pub walk-preserved : goal.walk-preserved
walk-preserved c =
    let b : Board = c.args.self.now.board in
    let place : ℕ → ℕ = λ i. tag_place c.args.sender (sent_tag (kind_at b (call_id c.args.sender i))) in
    let xs : List ℕ = pending b c.args.sender c.args.receiver in
    let w = subst (λ (o : Option ℕ). Marking place xs c.args.marks.now c.walk.marks o) c.in-Some.is c.walk.invariant in
    subst (λ (marks : List ℕ). Marking place xs c.args.marks.now marks c.next_free-here.result) (sym c.mark.ensures)
    (mark_goes_on place xs c.args.marks.now c.walk.marks c.in-Some.index c.place_of.result c.next_free-here.result (pending_once b c.args.sender c.args.receiver) c.requires.words w
    (c.place_of.ensures ∙ ap (tag_place c.args.sender) (c.sent_tag.ensures ∙ ap sent_tag c.kind.ensures))
    (c.next_free-here.ensures.pending c.args.receiver (pending_tells b c.args.sender c.args.receiver c.in-Some.index w.stands)))

pub returns-clause-marked : goal.returns-clause-marked
returns-clause-marked c i e =
    let b : Board = c.args.self.now.board in
    let place : ℕ → ℕ = λ i. tag_place c.args.sender (sent_tag (kind_at b (call_id c.args.sender i))) in
    let xs : List ℕ = pending b c.args.sender c.args.receiver in
    mark_ends place xs c.args.marks.now c.walk.marks (subst (λ (o : Option ℕ). Marking place xs c.args.marks.now c.walk.marks o) c.in_default.is c.walk.invariant) i
    (pending_stands b c.args.sender c.args.receiver i e)
