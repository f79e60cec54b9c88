use Rattle.mpd_laws.proofs.printed.PrintableStatements.{read_printable}
use Rattle.mpd_laws.proofs.canonical.read_scripts_are_printable.Goals as goal

pub returns : goal.returns
returns c = read_printable
