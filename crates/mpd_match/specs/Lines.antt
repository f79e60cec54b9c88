-- The lines that free calls of one rank wait in: line 0 has its receives, line q + 1 its sends to rank q.
use Rattle.std.specs.Prelude.{ℕ, ◌+◌, Bool, false, ◌&&◌, ◌||◌, not, ◌==◌, cond, nat_lt, Option, Some, None, is_none, List, [], ◌∷◌, length, slice_get, slice_index_or}
use Rattle.std.specs.List.{filter, list_any, range_with_len}
use Rattle.mpd_model.specs.declared.step.CallId.{CallId}
use Rattle.mpd_model.specs.declared.call.Call.{Call}
use Rattle.mpd_model.specs.declared.call.CallKind.{CallKind}
use Rattle.mpd_model.specs.declared.call.CallKind.TheVariants.{Send, Recv}
use Rattle.mpd_model.specs.steps.World.{kind_of, id_eq, is_any_or, fitting}
use Rattle.mpd_match.specs.Views.{SideView, side_at}

-- the line of a call, where it has one
abbrev pub line_of : Option CallKind → Option ℕ
line_of (Some (Send s)) = Some (s.to + 1)
line_of (Some (Recv r)) = Some 0
line_of kind = None

abbrev pub is_line : Option ℕ → ℕ → Bool
is_line None line = false
is_line (Some own) line = own == line

-- ---- one rank: its calls, and the partner of each

abbrev pub kind_in : List Call → ℕ → Option CallKind
kind_in calls i = kind_of (slice_get calls i)

abbrev pub mark_in : List (Option CallId) → ℕ → Option CallId
mark_in marks i = slice_index_or marks i None

-- the partners, after one of them changed
abbrev pub with_mark : (ℕ → Option CallId) → ℕ → Option CallId → ℕ → Option CallId
with_mark mark index partner i = cond (i == index) partner (mark i)

abbrev pub waits : List Call → (ℕ → Option CallId) → ℕ → ℕ → Bool
waits calls mark line i = is_none (mark i) && is_line (line_of (kind_in calls i)) line

-- the calls of a line, in the order of issue
abbrev pub waiting : List Call → (ℕ → Option CallId) → ℕ → List ℕ
waiting calls mark line = filter (waits calls mark line) (range_with_len 0 (length calls))

-- how many calls of a line stand before this one, up to the first that passes the test
abbrev pub passed : (ℕ → Bool) → ℕ → List ℕ → ℕ
passed test index [] = 0
passed test index (x ∷ xs) = cond (nat_lt x index && not (test x)) (1 + passed test index xs) 0

-- how many numbers stand ahead of the first that passes the test; all of them, where none does
abbrev pub ahead : (ℕ → Bool) → List ℕ → ℕ
ahead test [] = 0
ahead test (x ∷ xs) = cond (test x) 0 (1 + ahead test xs)

-- a receive whose source is any, or this rank
abbrev pub takes_from : Option CallKind → ℕ → Bool
takes_from (Some (Recv r)) p = is_any_or r.from p
takes_from kind p = false

-- one of the two is a send of rank p to rank q, and the other a receive that fits it
abbrev pub fitting_either : Option CallKind → Option CallKind → ℕ → ℕ → Bool
fitting_either one other p q = fitting one other p q || fitting other one p q

-- a call of the line before this one, that fits another call
abbrev pub has_earlier : List Call → (ℕ → Option CallId) → ℕ → ℕ → Option CallKind → ℕ → ℕ → Bool
has_earlier calls mark line index other p q = list_any (λ i. nat_lt i index && fitting_either (kind_in calls i) other p q) (waiting calls mark line)

-- ---- all ranks

abbrev pub mark_at : List SideView → CallId → Option CallId
mark_at sides c = mark_in (side_at sides c.rank).marks c.index

abbrev pub kind_on : List SideView → CallId → Option CallKind
kind_on sides c = kind_in (side_at sides c.rank).calls c.index

abbrev pub waiting_on : List SideView → ℕ → ℕ → List ℕ
waiting_on sides p line = waiting (side_at sides p).calls (mark_in (side_at sides p).marks) line

-- the partners of all calls, after one of them changed
abbrev pub with_partner : (CallId → Option CallId) → CallId → Option CallId → CallId → Option CallId
with_partner mark id partner c = cond (id_eq c id) partner (mark c)
