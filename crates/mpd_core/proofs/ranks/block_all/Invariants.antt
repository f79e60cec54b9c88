use Rattle.std.proofs.Common.{◌≡◌}
use Rattle.mpd_model.specs.declared.call.Activity.TheVariants.{Blocked}
use Rattle.mpd_core.specs.Views.{acting}
use Rattle.mpd_core.proofs.ReleaseLemmas.{changed}
use Rattle.mpd_core.proofs.ranks.block_all.Given as goal

abbrev pub invariant-loop-rank : goal.invariant-loop-rank
invariant-loop-rank l = l.ranks.items ≡ changed (acting Blocked) l.rank l.fn.ranks.items
