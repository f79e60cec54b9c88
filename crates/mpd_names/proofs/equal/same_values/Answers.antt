use Rattle.std.specs.Cmp.{signed_Decides}
use Rattle.std.proofs.lemmas.Slice.Eq.{slice_eq-Decides}
use Rattle.mpd_names.proofs.equal.same_values.Goals as goal

pub returns : goal.returns
returns c = slice_eq-Decides signed_Decides c.args.one.now c.args.other.now c.eq.result c.eq.ensures
