use Rattle.std.specs.Cmp.{signed_Decides}
use Rattle.std.proofs.lemmas.Slice.Eq.{slice_eq-Decides}
use Rattle.mpd_session.proofs.same.same_integers.Goals as goal

pub returns : goal.returns
returns c = slice_eq-Decides signed_Decides c.args.one.now c.args.other.now c.eq.result c.eq.ensures
