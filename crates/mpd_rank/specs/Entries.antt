-- What a step overwrote, as numbers: 65535 is no cell, and 4294967295 no handle and no call.
use Rattle.std.specs.Prelude.{◌≡◌, ℕ, ◌<◌, ◌≤◌, ℤ, pos, Bool, cond, eqb, List, length, All, Option, Some, None, IfSome}
use Rattle.std.proofs.Common.{inl, inr, sym, ap, ◌∙◌}
use Rattle.std.proofs.lemmas.Bool.Decides.{eqb_tells}
use Rattle.mpd_model.specs.declared.limits.TheConstants.{CELLS_MAX, HANDLES_MAX}
use Rattle.mpd_rank.specs.declared.control.Control.{Control}
use Rattle.mpd_rank.specs.declared.change.OldHandle.TheInside as handle

-- a number below 4294967295, or none
abbrev pub IsSmall : Option ℕ → Type 0
IsSmall o = IfSome o (λ n. n < 4294967295)

abbrev pub some_number : ℕ → Option ℕ
some_number n = cond (eqb n 4294967295) None (Some n)

abbrev pub number_of : Option ℕ → ℕ
number_of None = 4294967295
number_of (Some n) = n

number_back : (n : ℕ) → number_of (some_number n) ≡ n
number_back n =
    elim (eqb_tells n 4294967295) [
      | inl t ↦ ap (λ (b : Bool). number_of (cond b None (Some n))) t.0 ∙ sym t.1
      | inr t ↦ ap (λ (b : Bool). number_of (cond b None (Some n))) t.0
    ]

-- a cell and what it held
abbrev pub old_cell : ℕ → ℤ → Option (ℕ × ℤ)
old_cell n was = cond (eqb n 65535) None (Some (n, was))

abbrev pub cell_of : Option (ℕ × ℤ) → ℕ
cell_of None = 65535
cell_of (Some w) = w.0

abbrev pub was_of : Option (ℕ × ℤ) → ℤ
was_of None = pos 0
was_of (Some w) = w.1

-- a handle and what it held
abbrev pub old_handle : ℕ → ℕ → Option (ℕ × Option ℕ)
old_handle n call = cond (eqb n 4294967295) None (Some (n, some_number call))

abbrev pub handle_of : Option (ℕ × Option ℕ) → ℕ
handle_of None = 4294967295
handle_of (Some w) = w.0

abbrev pub call_of : Option (ℕ × Option ℕ) → ℕ
call_of None = 4294967295
call_of (Some w) = number_of w.1

-- ---- both give their numbers back

-- where there is no cell, nothing was held
abbrev pub IsOldCell : ℕ → ℤ → Type 0
IsOldCell n was = n ≡ 65535 → was ≡ pos 0

pub cell_back : (n : ℕ) (was : ℤ) → IsOldCell n was → (cell_of (old_cell n was) ≡ n) × (was_of (old_cell n was) ≡ was)
cell_back n was h =
    let old : Bool → Option (ℕ × ℤ) = λ b. cond b None (Some (n, was)) in
    elim (eqb_tells n 65535) [
      | inl t ↦ (ap (λ b. cell_of (old b)) t.0 ∙ sym t.1, ap (λ b. was_of (old b)) t.0 ∙ sym (h t.1))
      | inr t ↦ (ap (λ b. cell_of (old b)) t.0, ap (λ b. was_of (old b)) t.0)
    ]

pub handle_numbers_back : (handle call : ℕ) → (handle ≡ 4294967295 → call ≡ 4294967295) → (handle_of (old_handle handle call) ≡ handle) × (call_of (old_handle handle call) ≡ call)
handle_numbers_back n call h =
    let old : Bool → Option (ℕ × Option ℕ) = λ b. cond b None (Some (n, some_number call)) in
    elim (eqb_tells n 4294967295) [
      | inl t ↦ (ap (λ b. handle_of (old b)) t.0 ∙ sym t.1, ap (λ b. call_of (old b)) t.0 ∙ sym (h t.1))
      | inr t ↦ (ap (λ b. handle_of (old b)) t.0, ap (λ b. call_of (old b)) t.0 ∙ number_back call)
    ]

pub handle_back : (a : handle.Inside) → (a.handle ≡ 4294967295 → a.call ≡ 4294967295) → record { handle = handle_of (old_handle a.handle a.call); call = call_of (old_handle a.handle a.call) } ≡ a
handle_back a h =
    let back = handle_numbers_back a.handle a.call h in
    (λ i. record { handle = back.0 i; call = back.1 i })

-- what the tapes of a rank keep: one control, few cells and handles, and small numbers of calls
pub record KeepsSmall (control : List Control) (vars : List ℤ) (handles : List (Option ℕ)) : Type 0 where
  pub one : length control ≡ 1
  pub cells : length vars ≤ CELLS_MAX
  pub few : length handles ≤ HANDLES_MAX
  pub calls : All IsSmall handles
