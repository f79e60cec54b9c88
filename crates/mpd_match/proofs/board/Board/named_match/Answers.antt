use Rattle.std.proofs.Common.{ap, ◌∙◌, ◌<◌, ◌≤◌, subst}
use Rattle.mpd_model.specs.steps.World.{Board}
use Rattle.mpd_match.specs.Picked.{named_source}
use Rattle.mpd_match.proofs.Picked.{named_nobody, named_none, named_one}
use Rattle.mpd_match.proofs.board.Board.named_match.Goals as goal

pub returns-then-sender-rank_count : goal.returns-then-sender-rank_count
returns-then-sender-rank_count c =
    let b : Board = c.args.self.now.board in
    named_nobody b c.args.recv c.named_source.result c.in-Some.sender (c.named_source.ensures ∙ ap named_source c.kind.ensures) c.in-Some.is
    (subst (λ n. n ≤ c.in-Some.sender) c.rank_count.ensures.value c.if-sender-rank_count.true)

pub returns-in_default-candidate : goal.returns-in_default-candidate
returns-in_default-candidate c =
    let b : Board = c.args.self.now.board in
    named_none b c.args.recv c.named_source.result c.in-Some.sender c.candidate.result (c.named_source.ensures ∙ ap named_source c.kind.ensures) c.in-Some.is
    (subst (λ n. c.in-Some.sender < n) c.rank_count.ensures.value c.if-sender-rank_count.false) c.candidate.ensures.found c.in_default-candidate.is

pub returns : goal.returns
returns c =
    let b : Board = c.args.self.now.board in
    named_one b c.args.recv c.named_source.result c.in-Some.sender c.in-Some-candidate.index c.candidate.result (c.named_source.ensures ∙ ap named_source c.kind.ensures) c.in-Some.is
    (subst (λ n. c.in-Some.sender < n) c.rank_count.ensures.value c.if-sender-rank_count.false) c.candidate.ensures.found c.in-Some-candidate.is
