use Rattle.mpd_laws.proofs.printed.PrintScript.{canonical_is_read}
use Rattle.mpd_laws.proofs.canonical.canonical_is_read_again.Goals as goal

pub returns : goal.returns
returns c = canonical_is_read
