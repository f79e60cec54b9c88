use Rattle.std.proofs.lemmas.Slice.Eq.{slice_eq-Decides}
use Rattle.mpd_names.proofs.EqualLemmas.{option_Decides}
use Rattle.mpd_session.proofs.same.same_handles.Goals as goal

pub returns : goal.returns
returns c = slice_eq-Decides option_Decides c.args.one.now c.args.other.now c.eq.result c.eq.ensures
