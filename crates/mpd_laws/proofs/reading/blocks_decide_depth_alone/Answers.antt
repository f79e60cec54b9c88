use Rattle.mpd_laws.proofs.complete.EnoughBlocks.{body_more}
use Rattle.mpd_laws.proofs.reading.blocks_decide_depth_alone.Goals as goal

pub returns : goal.returns
returns c = body_more
