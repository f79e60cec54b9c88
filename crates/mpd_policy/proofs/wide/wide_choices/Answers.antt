use Rattle.std.proofs.Common.{rules}
use Rattle.mpd_core.proofs.EnabledLemmas.{some_match}
use Rattle.mpd_core.proofs.RangeLemmas.{refused_with}
use Rattle.mpd_policy.proofs.WideLemmas.{choices_are}
use Rattle.mpd_policy.proofs.wide.wide_choices.Goals as goal

pub returns-in_err-push_matches-clause-memory : goal.returns-in_err-push_matches-clause-memory
returns-in_err-push_matches-clause-memory c = refused_with _ (some_match c.args.core.now.world c.board-2.result.now.board c.board-2.ensures c.in_err-push_matches.ensures.memory)

pub returns-clause-ok : goal.returns-clause-ok
returns-clause-ok c =
    choices_are c.args.core.now.world c.board.result.now.board c.board-2.result.now.board c.is_limited.result c.push_any_wakes.new.steps.items c.push_matches.new.out.items
    c.board.ensures (search rules) c.if-is_limited.false c.requires c.in_ok-push_any_wakes.ensures.ok c.board-2.ensures c.in_ok-push_matches.ensures.ok
