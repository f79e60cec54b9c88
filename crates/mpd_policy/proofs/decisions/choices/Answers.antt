use Rattle.std.proofs.Common.{rules}
use Rattle.mpd_core.proofs.RangeLemmas.{refused_with}
use Rattle.mpd_policy.proofs.StepKinds.{open_now, open_some}
use Rattle.mpd_policy.proofs.decisions.choices.Goals as goal

pub returns-in_err-push_open_matches-clause-memory : goal.returns-in_err-push_open_matches-clause-memory
returns-in_err-push_open_matches-clause-memory c =
    refused_with _ (open_some c.args.core.now.world c.board.result.now.board c.push_any_choices.new.steps.items c.in_ok-push_any_choices.ensures.ok (search rules) c.board.ensures c.in_err-push_open_matches.ensures.memory)

pub returns-clause-ok : goal.returns-clause-ok
returns-clause-ok c =
    open_now c.args.core.now.world c.board.result.now.board c.push_open_matches.new.out.items c.push_any_choices.new.steps.items c.in_ok-push_any_choices.ensures.ok (search rules) c.board.ensures c.in_ok-push_open_matches.ensures.ok
