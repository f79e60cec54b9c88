use Rattle.std.proofs.Common.{◌≤◌, ◌-◌}
use Rattle.mpd_outcomes.proofs.table.Table.middle_height.Given as goal

abbrev pub invariant-loop-least : goal.invariant-loop-least
invariant-loop-least l = l.least ≤ l.most

abbrev pub decreases-loop-least : goal.decreases-loop-least
decreases-loop-least l = l.most - l.least
