-- What lowered code shows to contracts.
use Rattle.std.specs.Prelude.{ℕ, ℤ, List, Option, refl}
use Rattle.std.specs.Coded.{Coded, code_by, coded×, coded_ℕ, coded_ℤ, coded_list, coded_option}
use Rattle.mpd_model.specs.script.Program.{Program, program_code}
use Rattle.mpd_model.specs.script.Term.{Env}

pub record CodeView : Type 0 where
  -- what it was lowered from
  pub program : Program

abbrev pub code_view_code : Coded CodeView
code_view_code = code_by Program program_code (λ v. v.program) (λ p. record { program = p }) (λ _. refl)

abbrev pub env_code : Coded Env
env_code =
    code_by (List ℤ × (List (Option ℕ) × (ℕ × ℕ)))
    (coded× (coded_list coded_ℤ) (coded× (coded_list (coded_option coded_ℕ)) (coded× coded_ℕ coded_ℕ)))
    (λ e. (e.vars, (e.handles, (e.rank, e.size)))) (λ q. record { vars = q.0; handles = q.1.0; rank = q.1.1.0; size = q.1.1.1 }) (λ _. refl)
