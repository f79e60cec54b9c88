use Rattle.std.proofs.lemmas.Slice.Eq.{slice_eq-Decides}
use Rattle.mpd_explore.proofs.VerifyLemmas.{same_call}
use Rattle.mpd_explore.proofs.verifier.is_same.Goals as goal

pub returns : goal.returns
returns c = slice_eq-Decides same_call c.args.a.now c.args.b.now c.eq.result c.eq.ensures
