use Rattle.serde_json.specs.View.{view}
use Rattle.mpd_dap.specs.declared.name.Event.TheVariants as event
use Rattle.mpd_adapter.proofs.SheetLemmas.{stop_sheet}
use Rattle.mpd_adapter.proofs.sheet.with_stop.Goals as goal

pub returns : goal.returns
returns c =
    stop_sheet c.args.number c.new-sheet.result.number c.respond.new.self.number c.tell.new.self.number c.tell-2.new.self.number c.args.message.now (view c.args.body.value) (view c.args.said.value) (view c.args.last.value) event.Output
    event.Stopped c.new-sheet.result.text.items c.respond.new.self.text.items c.tell.new.self.text.items c.tell-2.new.self.text.items c.new-sheet.ensures.text c.new-sheet.ensures.number c.in_ok-respond.ensures.text
    c.in_ok-respond.ensures.number c.in_ok-tell.ensures.text c.in_ok-tell.ensures.number c.in_ok-tell-2.ensures.text c.in_ok-tell-2.ensures.number
