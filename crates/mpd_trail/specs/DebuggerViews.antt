-- What a debugger shows to contracts, part by part, and where it stands.
use Rattle.std.specs.Prelude.{◌≡◌, ℕ, refl}
use Rattle.std.specs.Coded.{Coded, code_by, coded×, coded_ℕ}
use Rattle.mpd_model.specs.steps.World.{World, world_code}
use Rattle.mpd_model.specs.runs.Trail.{Trail, Standing, IsReached, trail_code}

pub record DebuggerView : Type 0 where
  pub trail : Trail
  pub world : World
  -- for how many steps, whatever they are, room is kept
  pub room : ℕ
  -- how many writes its core has counted
  pub writes : ℕ

abbrev pub debugger_view_code : Coded DebuggerView
debugger_view_code =
    code_by (Trail × (World × (ℕ × ℕ))) (coded× trail_code (coded× world_code (coded× coded_ℕ coded_ℕ)))
    (λ v. (v.trail, (v.world, (v.room, v.writes)))) (λ q. record { trail = q.0; world = q.1.0; room = q.1.1.0; writes = q.1.1.1 }) (λ _. refl)

-- where it stands
abbrev pub standing_of : DebuggerView → Standing
standing_of v = record { trail = v.trail; world = v.world }

-- a debugger that is as it was
pub record AsFound (d e : Standing) : Type 0 where
  pub trail : e.trail ≡ d.trail
  pub world : e.world ≡ d.world
  pub reached : IsReached e

-- where a list of commands has come: the trail, for how many steps room is left, and how many writes there were
pub record Place : Type 0 where
  pub trail : Trail
  pub room : ℕ
  pub writes : ℕ

abbrev pub place_of : DebuggerView → Place
place_of v = record { trail = v.trail; room = v.room; writes = v.writes }
