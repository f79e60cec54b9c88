-- Two debuggers that go along one run, and its states, one step at a time.
use Rattle.std.proofs.Common.{◌≡◌, Some, sym, ap, ◌∙◌}
use Rattle.mpd_model.specs.declared.step.Step.{Step}
use Rattle.mpd_model.specs.steps.World.{World}
use Rattle.mpd_model.specs.steps.Next.{next}

inside : (w v : World) → Some w ≡ Some v → w ≡ v
inside w v h = cc

-- two that stood in one state, and take one step, stand in one state
pub same_there : (w u v x : World) (a : Step) → u ≡ w → next u a ≡ Some v → next w a ≡ Some x → x ≡ v
same_there w u v x a e h k = inside x v (sym k ∙ ap (λ y. next y a) (sym e) ∙ h)
