use Rattle.std.proofs.Common.{sym, ap, ◌∙◌}
use Rattle.std.specs.Option.{unwrap_or}
use Rattle.mpd_picture.proofs.TableLemmas.{row_there}
use Rattle.mpd_picture.proofs.marks.Rows.row_of.Goals as goal

pub returns-in-Some : goal.returns-in-Some
returns-in-Some c marks is = sym (ap (λ o. unwrap_or o 0) c.in-Some.is) ∙ row_there c.args.self.now marks c.args.call c.issued_at.result is c.issued_at.ensures

pub returns-in-None : goal.returns-in-None
returns-in-None c marks is = sym (ap (λ o. unwrap_or o 0) c.in-None.is) ∙ row_there c.args.self.now marks c.args.call c.issued_at.result is c.issued_at.ensures
