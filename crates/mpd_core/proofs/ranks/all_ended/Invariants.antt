use Rattle.std.proofs.Common.{◌≡◌, drop}
use Rattle.std.specs.List.{list_all}
use Rattle.mpd_model.specs.steps.Outcomes.{has_ended}
use Rattle.mpd_core.specs.Views.{ranks_in}
use Rattle.mpd_core.proofs.ranks.all_ended.Given as goal

abbrev pub invariant-loop-rank : goal.invariant-loop-rank
invariant-loop-rank l = list_all has_ended (ranks_in l.code.program (drop l.rank-index l.ranks)) ≡ list_all has_ended (ranks_in l.code.program l.ranks)
