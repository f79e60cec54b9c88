use Rattle.std.proofs.Common.{List, subst, sym}
use Rattle.mpd_picture.specs.declared.glyph.Mark.{Mark}
use Rattle.mpd_picture.specs.MarkTable.{IsTable}
use Rattle.mpd_picture.proofs.TableLemmas.{table_more}
use Rattle.mpd_picture.proofs.marks.add_mark.Goals as goal

pub returns-clause-rows : goal.returns-clause-rows
returns-clause-rows c = subst (λ (marks : List Mark). IsTable c.add.new.self marks) (sym c.in_ok-push.ensures.items) (table_more c.args.rows.now c.add.new.self c.args.marks.now.items _ c.requires c.in_ok-add.ensures)
