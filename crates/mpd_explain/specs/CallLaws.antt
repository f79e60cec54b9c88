-- Which statement a call names, so which line it has.
use Rattle.std.specs.Prelude.{◌≡◌, ℕ, Option, Some, None, IfSome, slice_get}
use Rattle.mpd_model.specs.steps.World.{RankWorld, World}
use Rattle.mpd_model.specs.steps.Next.{Ran, local_at}
use Rattle.mpd_model.specs.steps.Outcomes.{first_number}

-- the number of the statement that a rank is at
abbrev pub next_number : Option RankWorld → Option ℕ
next_number None = None
next_number (Some r) = first_number r.rest

-- The call that a local step issues names the statement that its rank was at before the step.
abbrev pub CallsNameTheirStatements : Type 0
CallsNameTheirStatements = (w : World) (p : ℕ) (done : Ran) → local_at w p ≡ Some done → IfSome done.call (λ c. next_number (slice_get w.ranks p) ≡ Some c.statement)
