use Rattle.std.proofs.Common.{sym}
use Rattle.mpd_picture.proofs.TableLemmas.{issued_put}
use Rattle.mpd_picture.proofs.marks.put_issued.Goals as goal

pub returns-in-Ok : goal.returns-in-Ok
returns-in-Ok c = issued_put c.args.issued.now.entries c.insert.new.self.entries c.args.call c.args.row c.in-Ok.ensures.updates.0 c.issued_at.result c.issued_at.ensures (sym c.if-is_some.ensures)
