-- What taking a step back makes of a rank.
use Rattle.std.specs.Prelude.{ℕ, ◌-◌, ℤ, List, [], ◌∷◌, ◌++◌, length, take, slice_get, slice_set, Option, Some, None, refl}
use Rattle.std.specs.Coded.{Coded, code_by, coded×, coded_ℕ}
use Rattle.std.specs.Option.{option_map}
use Rattle.mpd_model.specs.declared.call.Activity.TheVariants.{Running, Blocked}
use Rattle.mpd_model.specs.script.Program.{Program}
use Rattle.mpd_model.specs.steps.World.{RankWorld}
use Rattle.mpd_model.specs.steps.Next.{write_cells}
use Rattle.mpd_code.specs.Left.{left_at}
use Rattle.mpd_rank.specs.declared.change.LocalChange.{LocalChange}
use Rattle.mpd_rank.specs.declared.change.LocalChange.TheVariants.{Moved, Assigned, Printed, Issued, Trapped}
use Rattle.mpd_rank.specs.declared.change.WakeRecord.{WakeRecord}
use Rattle.mpd_rank.specs.contracts.change.LocalChange as change_row
use Rattle.mpd_rank.specs.Views.{listed}

-- what a local step did: where its rank stood, and what it did beside moving it
pub record LocalDone : Type 0 where
  pub from : ℕ
  pub change : LocalChange

abbrev pub local_done_code : Coded LocalDone
local_done_code = code_by (ℕ × LocalChange) (coded× coded_ℕ change_row.the_row.coded) (λ d. (d.from, d.change)) (λ q. record { from = q.0; change = q.1 }) (λ _. refl)

-- a place of a list and what it holds, where there is such a place
abbrev pub entry_at : {A : Type 0} → List A → ℕ → Option (ℕ × A)
entry_at xs i = option_map (λ x. (i, x)) (slice_get xs i)

-- What writes of cells overwrite, one after the other: the last first, so that written back in this order they leave what was there.
abbrev pub entries_before : List ℤ → List (ℕ × ℤ) → List (ℕ × ℤ)
entries_before vars [] = []
entries_before vars (w ∷ ws) = entries_before (slice_set vars w.0 w.1) ws ++ listed (entry_at vars w.0)

-- a handle and the call that it has, where one is named
abbrev pub handle_entry : Option ℕ → List (Option ℕ) → Option (ℕ × Option ℕ)
handle_entry None handles = None
handle_entry (Some h) handles = entry_at handles h

-- a list with what was held put back
abbrev pub put_entry : {A : Type 0} → Option (ℕ × A) → List A → List A
put_entry None xs = xs
put_entry (Some w) xs = slice_set xs w.0 w.1

-- an assignment that overwrote a cell; where there is no such cell nothing was overwritten
abbrev pub assigned_change : Option (ℕ × ℤ) → LocalChange
assigned_change None = Moved
assigned_change (Some w) = Assigned w.0 w.1

-- a rank before a local step, given where it stood and what else the step did
abbrev pub put_back : Program → RankWorld → ℕ → LocalChange → RankWorld
put_back s r from Moved = record r { rest = left_at s from; activity = Running }
put_back s r from (Assigned cell was) = record r { rest = left_at s from; vars = slice_set r.vars cell was; activity = Running }
put_back s r from Printed = record r { rest = left_at s from; out = take (length r.out - 1) r.out; activity = Running }
put_back s r from (Issued handle) = record r { rest = left_at s from; handles = put_entry handle r.handles; activity = Running }
put_back s r from Trapped = record r { rest = left_at s from; activity = Running }

abbrev pub undone_rank : Program → RankWorld → LocalDone → RankWorld
undone_rank s r done = put_back s r done.from done.change

-- a rank before a wake, which moves no rank
abbrev pub unwoken : RankWorld → WakeRecord → RankWorld
unwoken r was = record r { vars = write_cells was.cells r.vars; handles = put_entry was.handle r.handles; activity = Blocked }

-- a rank before a release, which let it go on from a barrier
abbrev pub blocked_again : RankWorld → RankWorld
blocked_again r = record r { activity = Blocked }

-- a change that is the rank's own: it issued no call
abbrev pub IsOwn : LocalChange → Type 0
IsOwn (Issued handle) = ⊥
IsOwn change = Unit {0}
