use Rattle.std.proofs.Common.{◌≡◌}
use Rattle.mpd_model.specs.declared.call.Activity.TheVariants.{Running}
use Rattle.mpd_core.specs.Views.{acting}
use Rattle.mpd_core.proofs.ReleaseLemmas.{changed}
use Rattle.mpd_core.proofs.ranks.let_go.Given as goal

abbrev pub invariant-loop-rank : goal.invariant-loop-rank
invariant-loop-rank l = l.ranks.items ≡ changed (acting Running) l.rank l.fn.ranks.items
