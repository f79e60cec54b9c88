use Rattle.mpd_adapter.proofs.DeskLemmas.{kept_typed}
use Rattle.mpd_adapter.proofs.desk.AdapterDesk.talk.Goals as goal

pub returns-clause-kept : goal.returns-clause-kept
returns-clause-kept c =
    kept_typed c.evaluated_sheet.result c.args.self.now c.version.new.self c.type_in.new.self c.version-2.new.self c.args.message.now c.expression_of.result.now c.in_ok-said.said.items
    c.in_ok-before.ensures.same c.expression_of.ensures c.in_ok-said.ensures.said c.in_ok-has_changed.ensures.same
