use Rattle.std.proofs.Common.{rules, ◌≡◌, true}
use Rattle.mpd_adapter.proofs.MarkLemmas.{held_own}
use Rattle.mpd_adapter.proofs.marks.set_marks.Goals as goal

pub returns-clause-held : goal.returns-clause-held
returns-clause-held c =
    let own : true ≡ c.args.is_own = search (rules, c.if-not-is_own.false) in
    held_own c.args.console.now c.remove_lines.new.console c.set_all.new.console c.args.is_own c.args.wanted.now c.in_ok-plans.plans.items c.deref.result.now _ c.session.result.now own c.session.ensures c.code.ensures
    c.in_ok-plans.ensures c.deref.ensures.value c.remove_lines.ensures c.set_all.ensures.held
