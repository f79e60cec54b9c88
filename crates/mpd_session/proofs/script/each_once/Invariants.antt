use Rattle.std.proofs.Common.{◌≡◌, ◌≤◌, ◌+◌, ◌-◌, ◌++◌}
use Rattle.std.specs.List.{flat_map, range_with_len}
use Rattle.mpd_session.specs.Looks.{if_among, each_once}
use Rattle.mpd_session.proofs.script.each_once.Given as goal

abbrev pub invariant-loop-number : goal.invariant-loop-number
invariant-loop-number l = record {
  gathered : l.items.items ++ flat_map (if_among l.lines) (range_with_len l.number (l.most + 1 - l.number)) ≡ each_once l.lines;
  within : l.number ≤ l.most;
}
