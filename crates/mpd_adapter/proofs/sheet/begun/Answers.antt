use Rattle.serde_json.specs.View.{view}
use Rattle.mpd_dap.specs.declared.name.Event.TheVariants as event
use Rattle.mpd_adapter.proofs.SheetLemmas.{begun_sheet}
use Rattle.mpd_adapter.proofs.sheet.begun.Goals as goal

pub returns : goal.returns
returns c =
    begun_sheet c.args.number c.new-sheet.result.number c.respond.new.self.number c.tell_started.new.sheet.number c.tell.new.self.number c.args.ranks c.args.message.now (view c.args.body.value) (view c.args.stands.value) event.Stopped
    c.new-sheet.result.text.items c.respond.new.self.text.items c.tell_started.new.sheet.text.items c.tell.new.self.text.items c.new-sheet.ensures.text c.new-sheet.ensures.number c.in_ok-respond.ensures.text
    c.in_ok-respond.ensures.number c.in_ok-tell_started.ensures c.in_ok-tell.ensures.text c.in_ok-tell.ensures.number
