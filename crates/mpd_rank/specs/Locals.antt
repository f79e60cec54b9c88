-- What a local step did, as numbers: its kind, the cell that was written, the handle and its call, and what the cell held. Those that
-- a kind has no use for are 0, or 4294967295 for no handle and no call.
use Rattle.std.specs.Prelude.{◌≡◌, ℕ, ℤ, pos, Option, None}
use Rattle.std.proofs.Common.{refl, sym}
use Rattle.mpd_rank.specs.declared.change.LocalChange.{LocalChange}
use Rattle.mpd_rank.specs.declared.change.LocalChange.TheVariants.{Moved, Assigned, Printed, Issued, Trapped}
use Rattle.mpd_rank.specs.declared.change.LocalKind.{LocalKind}
use Rattle.mpd_rank.specs.declared.change.LocalKind.TheVariants as kind
use Rattle.mpd_rank.specs.declared.change.LocalRecord.TheInside as local
use Rattle.mpd_rank.specs.Entries.{old_handle, handle_of, call_of, handle_numbers_back}
use Rattle.mpd_rank.specs.Undone.{LocalDone}

abbrev pub local_change : LocalKind → ℕ → ℕ → ℕ → ℤ → LocalChange
local_change kind.Moved cell handle call was = Moved
local_change kind.Assigned cell handle call was = Assigned cell was
local_change kind.Printed cell handle call was = Printed
local_change kind.Issued cell handle call was = Issued (old_handle handle call)
local_change kind.Trapped cell handle call was = Trapped

-- ---- the numbers of a change, and those that a kind has no use for

abbrev NoHandle : ℕ → ℕ → Type 0
NoHandle handle call = (handle ≡ 4294967295) × (call ≡ 4294967295)

abbrev NoCell : ℕ → ℤ → Type 0
NoCell cell was = (cell ≡ 0) × (was ≡ pos 0)

abbrev pub IsLocal : LocalKind → ℕ → ℕ → ℕ → ℤ → Type 0
IsLocal kind.Moved cell handle call was = NoCell cell was × NoHandle handle call
IsLocal kind.Assigned cell handle call was = NoHandle handle call
IsLocal kind.Printed cell handle call was = NoCell cell was × NoHandle handle call
IsLocal kind.Issued cell handle call was = NoCell cell was × (handle ≡ 4294967295 → call ≡ 4294967295)
IsLocal kind.Trapped cell handle call was = NoCell cell was × NoHandle handle call

-- the handle that a call wrote, and what that held
abbrev pub issued_handle : LocalChange → Option (ℕ × Option ℕ)
issued_handle Moved = None
issued_handle (Assigned cell was) = None
issued_handle Printed = None
issued_handle (Issued handle) = handle
issued_handle Trapped = None

abbrev kind_of : LocalChange → LocalKind
kind_of Moved = kind.Moved
kind_of (Assigned cell was) = kind.Assigned
kind_of Printed = kind.Printed
kind_of (Issued handle) = kind.Issued
kind_of Trapped = kind.Trapped

abbrev cell_of : LocalChange → ℕ
cell_of Moved = 0
cell_of (Assigned cell was) = cell
cell_of Printed = 0
cell_of (Issued handle) = 0
cell_of Trapped = 0

abbrev was_of : LocalChange → ℤ
was_of Moved = pos 0
was_of (Assigned cell was) = was
was_of Printed = pos 0
was_of (Issued handle) = pos 0
was_of Trapped = pos 0

-- ---- a change gives its numbers back

abbrev GivesBack : LocalKind → ℕ → ℕ → ℕ → ℤ → LocalChange → Type 0
GivesBack k cell handle call was c = (kind_of c ≡ k) × ((cell_of c ≡ cell) × ((handle_of (issued_handle c) ≡ handle) × ((call_of (issued_handle c) ≡ call) × (was_of c ≡ was))))

changed_back : (k : LocalKind) (cell handle call : ℕ) (was : ℤ) → IsLocal k cell handle call was → GivesBack k cell handle call was (local_change k cell handle call was)
changed_back kind.Moved cell handle call was h = (refl, (sym h.0.0, (sym h.1.0, (sym h.1.1, sym h.0.1))))
changed_back kind.Assigned cell handle call was h = (refl, (refl, (sym h.0, (sym h.1, refl))))
changed_back kind.Printed cell handle call was h = (refl, (sym h.0.0, (sym h.1.0, (sym h.1.1, sym h.0.1))))
changed_back kind.Issued cell handle call was h =
    let back = handle_numbers_back handle call h.1 in
    (refl, (sym h.0.0, (back.0, (back.1, sym h.0.1))))
changed_back kind.Trapped cell handle call was h = (refl, (sym h.0.0, (sym h.1.0, (sym h.1.1, sym h.0.1))))

abbrev pub numbers_of : LocalDone → local.Inside
numbers_of r = record { from = r.from; kind = kind_of r.change; cell_index = cell_of r.change; was = was_of r.change; handle_index = handle_of (issued_handle r.change); call_before = call_of (issued_handle r.change) }

pub numbers_back : (a : local.Inside) → IsLocal a.kind a.cell_index a.handle_index a.call_before a.was → numbers_of (record { from = a.from; change = local_change a.kind a.cell_index a.handle_index a.call_before a.was }) ≡ a
numbers_back a h =
    let back = changed_back a.kind a.cell_index a.handle_index a.call_before a.was h in
    (λ i. record { from = a.from; kind = back.0 i; cell_index = back.1.0 i; was = back.1.1.1.1 i; handle_index = back.1.1.0 i; call_before = back.1.1.1.0 i })
