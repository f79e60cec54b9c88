use Rattle.mpd_meaning.proofs.local.TokenLines.{each_placed}
use Rattle.mpd_meaning.proofs.tokens.each_token_has_the_line_of_its_place.Goals as goal

pub returns : goal.returns
returns c = each_placed
