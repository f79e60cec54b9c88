use Rattle.mpd_model.proofs.LineLaws.{joined_raw_lines}
use Rattle.mpd_model.proofs.lines.lines_lose_nothing.Goals as goal

pub returns : goal.returns
returns c = joined_raw_lines
