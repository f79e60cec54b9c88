use Rattle.mpd_adapter.specs.Says.{all_started}
use Rattle.mpd_adapter.proofs.SheetLemmas.{Going, started_from}
use Rattle.mpd_adapter.proofs.sheet.tell_started.Given as goal

abbrev pub invariant-loop-rank : goal.invariant-loop-rank
invariant-loop-rank l = Going l.fn.sheet.text.items l.fn.sheet.number l.sheet.text.items l.sheet.number (started_from l.rank l.ranks) (all_started l.ranks)
