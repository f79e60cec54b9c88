-- How bytes are shown.
use Rattle.std.specs.Prelude.{ℕ, ◌==◌, ◌||◌, if◌then◌else◌, nat_lt}

-- a question mark for what is no printable ASCII, nor a line feed or a tab
abbrev pub shown_byte : ℕ → ℕ
shown_byte b = if b == 9 || b == 10 then b else (if nat_lt b 32 || nat_lt 126 b then 63 else b)
