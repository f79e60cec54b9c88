-- What is seen of the world of a session.
use Rattle.std.specs.Prelude.{Option, Some, None}
use Rattle.mpd_model.specs.steps.World.{World}

-- what is told of the world of a trail; no session holds a trail that leads nowhere
abbrev pub seen : {A : Type 0} → A → (World → A) → Option World → A
seen other f None = other
seen other f (Some w) = f w
