-- What every run shows of the order of calls, and what any board shows of matching (MPI 4.0, sections 3.5 and 3.7.4).
use Rattle.std.specs.Prelude.{◌≡◌, ℕ, true, List, Some}
use Rattle.mpd_model.specs.declared.call.Mode.{Mode}
use Rattle.mpd_model.specs.declared.step.CallId.{CallId}
use Rattle.mpd_model.specs.declared.step.Step.{Step}
use Rattle.mpd_model.specs.script.Program.{Program}
use Rattle.mpd_model.specs.steps.World.{Board, World, start, call_id, eligible}
use Rattle.mpd_model.specs.steps.Next.{fold}
use Rattle.mpd_model.specs.steps.Order.{before, Ordered}

-- Of two calls of which one completes before the other, every world that steps lead to has them in that order.
abbrev pub CallsCompleteInOrder : Type 0
CallsCompleteInOrder =
    (s : Program) (mode : Mode) (steps : List Step) (w : World) → fold (start s mode) steps ≡ Some w
    → (x y : CallId) → before w.board x y ≡ true → Ordered w.board x y

-- Of the sends of one sender, at most one is eligible with a receive.
abbrev pub OneSendIsEligible : Type 0
OneSendIsEligible = (b : Board) (p i j : ℕ) (r : CallId) → eligible b (call_id p i) r ≡ true → eligible b (call_id p j) r ≡ true → i ≡ j
