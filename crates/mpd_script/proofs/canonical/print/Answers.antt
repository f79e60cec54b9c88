use Rattle.std.proofs.Common.{subst}
use Rattle.mpd_model.specs.grammar.Printable.{IsPrintable}
use Rattle.mpd_laws.proofs.printed.PrintAgain.{read_again}
use Rattle.mpd_script.proofs.canonical.print.Goals as goal

pub returns-clause-again : goal.returns-clause-again
returns-clause-again c = read_again c.args.script.now _ (subst IsPrintable c.script.view_is c.script.invariant) c.in_ok-text.ensures
