use Rattle.mpd_picture.proofs.TableLemmas.{raised}
use Rattle.mpd_picture.proofs.marks.raise.Goals as goal

pub returns-in-Ok : goal.returns-in-Ok
returns-in-Ok c = raised c.args.rows.now.entries c.insert.new.self.entries c.args.rank c.args.row _ _ c.in-Ok.ensures.updates.0 c.row_at.ensures c.larger-higher.ensures
