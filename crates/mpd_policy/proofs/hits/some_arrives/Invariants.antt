use Rattle.std.proofs.Common.{◌≡◌, ◌-◌}
use Rattle.mpd_model.specs.runs.Breakpoints.{arrives, some_arrives}
use Rattle.mpd_match.proofs.Matches.{any_from}
use Rattle.mpd_policy.proofs.hits.some_arrives.Given as goal

abbrev pub invariant-loop-rank : goal.invariant-loop-rank
invariant-loop-rank l = any_from (arrives l.core.program l.line l.of l.when l.core.world) l.rank (l.count - l.rank) ≡ some_arrives l.core.program l.line l.of l.when l.core.world
