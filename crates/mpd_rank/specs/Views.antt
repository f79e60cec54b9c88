-- What a rank shows to contracts, part by part, and the rank of the world that it is.
use Rattle.std.specs.Prelude.{ℕ, ℤ, List, [], ◌∷◌, Option, Some, None, refl}
use Rattle.std.specs.Coded.{Coded, code_by, coded×, coded_ℕ, coded_ℤ, coded_list, coded_option}
use Rattle.mpd_model.specs.declared.call.Activity.{Activity}
use Rattle.mpd_model.specs.declared.call.Activity.TheVariants.{Running}
use Rattle.mpd_model.specs.contracts.call.Activity as activity_row
use Rattle.mpd_model.specs.script.Program.{Program}
use Rattle.mpd_model.specs.steps.World.{RankWorld}
use Rattle.mpd_code.specs.Left.{left_at}
use Rattle.mpd_rank.specs.declared.control.Control.{Control}

-- a list of one cell at most
abbrev pub listed : Option (ℕ × ℤ) → List (ℕ × ℤ)
listed None = []
listed (Some w) = w ∷ []

abbrev pub cells_code : Coded (List (ℕ × ℤ))
cells_code = coded_list (coded× coded_ℕ coded_ℤ)

-- the one that a tape of one holds
abbrev pub control_in : List Control → Control
control_in [] = record { node = 0; activity = Running }
control_in (s ∷ ss) = s

pub record RankView : Type 0 where
  -- which rank it is, from 0
  pub rank : ℕ
  -- where it goes on
  pub node : ℕ
  pub activity : Activity
  pub vars : List ℤ
  pub handles : List (Option ℕ)
  pub out : List ℤ
  -- how many values may be printed before a growth
  pub room : ℕ
  -- how many writes its tapes have counted
  pub writes : ℕ

abbrev pub rank_view_code : Coded RankView
rank_view_code =
    code_by (ℕ × (ℕ × (Activity × (List ℤ × (List (Option ℕ) × (List ℤ × (ℕ × ℕ)))))))
    (coded× coded_ℕ (coded× coded_ℕ (coded× activity_row.the_row.coded (coded× (coded_list coded_ℤ) (coded× (coded_list (coded_option coded_ℕ))
    (coded× (coded_list coded_ℤ) (coded× coded_ℕ coded_ℕ)))))))
    (λ v. (v.rank, (v.node, (v.activity, (v.vars, (v.handles, (v.out, (v.room, v.writes))))))))
    (λ q. record { rank = q.0; node = q.1.0; activity = q.1.1.0; vars = q.1.1.1.0; handles = q.1.1.1.1.0; out = q.1.1.1.1.1.0; room = q.1.1.1.1.1.1.0; writes = q.1.1.1.1.1.1.1 }) (λ _. refl)

-- its rank of the world of a program
abbrev pub rank_of : Program → RankView → RankWorld
rank_of p v = record { rest = left_at p v.node; vars = v.vars; handles = v.handles; out = v.out; activity = v.activity }
