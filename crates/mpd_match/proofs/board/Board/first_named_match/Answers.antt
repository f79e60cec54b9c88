use Rattle.std.proofs.Common.{sym, ap, ◌∙◌}
use Rattle.mpd_model.specs.steps.Why.{first_in}
use Rattle.mpd_model.specs.runs.Decisions.{is_named_match}
use Rattle.mpd_match.specs.Picked.{picked_at}
use Rattle.mpd_match.proofs.Picked.{first_on, first_now, picked_all}
use Rattle.mpd_match.proofs.board.Board.first_named_match.Goals as goal

pub loop-receiver-preserved : goal.loop-receiver-preserved
loop-receiver-preserved c =
    let b = c.args.self.now.board in
    first_on (picked_at is_named_match b) c.loop-receiver.receiver c.rank_count-count.result _ c.named_match_to-found.result c.loop-receiver-test.true c.loop-receiver.invariant c.named_match_to-found.ensures (sym c.is_some.ensures ∙ c.if-is_some.false)

pub returns-then-is_some : goal.returns-then-is_some
returns-then-is_some c =
    let b = c.args.self.now.board in
    first_now (picked_at is_named_match b) c.loop-receiver.receiver c.rank_count-count.result _ c.named_match_to-found.result c.loop-receiver-test.true c.loop-receiver.invariant c.named_match_to-found.ensures (sym c.is_some.ensures ∙ c.if-is_some.true)
    ∙ ap first_in (picked_all is_named_match b)
