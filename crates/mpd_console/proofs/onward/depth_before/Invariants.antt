use Rattle.std.proofs.Common.{◌≡◌, ◌-◌}
use Rattle.mpd_console.specs.Onward.{depth_before}
use Rattle.mpd_console.proofs.onward.depth_before.Given as goal

abbrev pub invariant-loop-undone : goal.invariant-loop-undone
invariant-loop-undone l = depth_before l.rank l.steps (l.depth - l.undone) ≡ depth_before l.rank l.steps l.depth
