-- When a device that is made to fail does so.
use Rattle.std.specs.Prelude.{ℕ, ◌-◌, min, Bool, ◌==◌}
use Rattle.mpd_model.specs.declared.failing.Limit.{Limit}
use Rattle.mpd_model.specs.declared.failing.Limit.TheVariants.{Calls, Bytes}

-- no call, or no byte, is left
abbrev pub is_reached : Limit → Bool
is_reached (Calls n) = n == 0
is_reached (Bytes n) = n == 0

-- what is left after a call that gave or took so many bytes
abbrev pub limit_after : Limit → ℕ → Limit
limit_after (Calls n) count = Calls (n - 1)
limit_after (Bytes n) count = Bytes (n - count)

-- how many of so many bytes one call may give or take
abbrev pub most_of : Limit → ℕ → ℕ
most_of (Calls n) count = count
most_of (Bytes n) count = min n count
