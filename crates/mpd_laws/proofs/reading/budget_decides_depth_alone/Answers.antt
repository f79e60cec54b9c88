use Rattle.mpd_laws.proofs.complete.Enough.{expr_more}
use Rattle.mpd_laws.proofs.reading.budget_decides_depth_alone.Goals as goal

pub returns : goal.returns
returns c = expr_more
