use Rattle.std.proofs.Common.{◌≡◌, map, take}
use Rattle.mpd_adapter.specs.Looks.{thread_id, doing_id}
use Rattle.mpd_adapter.proofs.looks.threads_of.Given as goal

abbrev pub invariant-loop-doing : goal.invariant-loop-doing
invariant-loop-doing l = map thread_id l.list.items ≡ map doing_id (take l.doing-index l.doings)
