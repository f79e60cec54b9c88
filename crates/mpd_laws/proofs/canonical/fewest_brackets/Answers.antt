use Rattle.mpd_laws.proofs.printed.PrintableTerms.{fewest}
use Rattle.mpd_laws.proofs.canonical.fewest_brackets.Goals as goal

pub returns : goal.returns
returns c = fewest
