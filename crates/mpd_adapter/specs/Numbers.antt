-- The numbers by which an editor names ranks and what they hold (docs/ADAPTER.md, "Numbers").
use Rattle.std.specs.Prelude.{ℕ, ◌+◌, ◌-◌, ◌/◌, ◌%◌, ◌==◌, Bool, nat_lt, ◌||◌, if◌then◌else◌, Option, Some, None}
use Rattle.mpd_adapter.specs.declared.numbers.Scope.{Scope}
use Rattle.mpd_adapter.specs.declared.numbers.Scope.TheVariants.{Variables, Requests, Calls, Printed}
use Rattle.mpd_adapter.specs.declared.numbers.Shelf.{Shelf}

-- rank P is the thread P + 1, and the frame P + 1
abbrev pub rank_of_thread : ℕ → ℕ → Option ℕ
rank_of_thread t ranks = if (t == 0) || nat_lt ranks t then None else Some (t - 1)

-- its scopes have the references 4 P + 1 to 4 P + 4, in their order
abbrev pub scope_at : ℕ → Scope
scope_at n = if n == 0 then Variables else if n == 1 then Requests else if n == 2 then Calls else Printed

abbrev pub shelf_in : ℕ → ℕ → Option Shelf
shelf_in n ranks = if nat_lt (n / 4) ranks then Some (record { rank = n / 4; scope = scope_at (n % 4) }) else None

abbrev pub shelf_of : ℕ → ℕ → Option Shelf
shelf_of r ranks = if r == 0 then None else shelf_in (r - 1) ranks

-- as far as 64 bits go
abbrev pub one_more : ℕ → ℕ
one_more n = if n == 18446744073709551615 then n else n + 1
