-- Reads that gave no byte.
use Rattle.std.specs.Prelude.{ℕ, zero, suc, Result, Ok, Err}

-- 1 where a read gave no byte, else 0
abbrev pub ends_of : {E : Type 0} → Result ℕ E → ℕ
ends_of (Ok zero) = 1
ends_of (Ok (suc n)) = 0
ends_of (Err e) = 0
