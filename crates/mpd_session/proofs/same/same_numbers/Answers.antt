use Rattle.std.specs.Cmp.{unsigned_Decides}
use Rattle.std.proofs.lemmas.Slice.Eq.{slice_eq-Decides}
use Rattle.mpd_session.proofs.same.same_numbers.Goals as goal

pub returns : goal.returns
returns c = slice_eq-Decides unsigned_Decides c.args.one.now c.args.other.now c.eq.result c.eq.ensures
