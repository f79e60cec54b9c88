use Rattle.std.proofs.Common.{◌≡◌, take, Some}
use Rattle.mpd_model.specs.steps.Next.{fold}
use Rattle.mpd_explore.proofs.verifier.take_steps.Given as goal

abbrev pub invariant-loop-place : goal.invariant-loop-place
invariant-loop-place l = fold l.fn.core.world (take l.place l.steps) ≡ Some l.core.world
