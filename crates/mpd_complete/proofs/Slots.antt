-- What a match changes for a rank that issues a standard send: nothing, unless the rank lacks a slot and the match gives it one back.
use Rattle.std.proofs.Common.{◌≡◌, ◌≢◌, ℕ, zero, ◌≤◌, ◌==◌, nat_lt, Bool, true, false, cond, ◌&&◌, not, Option, Some, None, inl, inr, refl, sym, ap, ◌∙◌, arith, ◌⊎◌}
use Rattle.std.proofs.lemmas.Bool.{ltb-true, ltb-false, lt-ltb, le-ltb, and_cases, not-false}
use Rattle.mpd_model.specs.declared.step.CallId.{CallId}
use Rattle.mpd_model.specs.declared.call.Call.{Call}
use Rattle.mpd_model.specs.declared.call.CallKind.{CallKind}
use Rattle.mpd_model.specs.declared.call.CallKind.TheVariants.{Send}
use Rattle.mpd_model.specs.declared.call.Mode.{Mode}
use Rattle.mpd_model.specs.declared.call.Mode.TheVariants.{Rendezvous, Buffered, Slots}
use Rattle.mpd_model.specs.steps.World.{World, RankWorld, kind_of, kind_at, is_buffered, is_limited, eligible, slots_used}
use Rattle.mpd_model.specs.steps.Next.{Ran, local_at, buffers_one, has_buffer, buffered_by}
use Rattle.mpd_laws.proofs.buffered.Slots.{slots_with_match}
use Rattle.mpd_policy.specs.Wide.{is_standard, issues_standard, is_full, lacks_slot, frees_slot, gives_slot}
use Rattle.mpd_policy.proofs.QuietLemmas.{never_full}
use Rattle.mpd_meaning.proofs.moving.Moves.{moved, paired, joining, joining_by, local_elsewhere, slots_elsewhere}

-- ---- tests

pub false_and : (x y : Bool) → (x ≡ false) ⊎ (y ≡ false) → (x && y) ≡ false
false_and true y (inr e) = e
false_and false y h = refl
false_and true y (inl e) = absurd (cc)

-- ---- a mode whose buffers run out, of which fewer are held

no_slots : (count n : ℕ) → nat_lt 0 count ≡ false → nat_lt n count ≡ false
no_slots count n e = let none = ltb-false 0 count e in le-ltb n count (omega (arith, none))

some_left : (count less held : ℕ) → less ≤ held → not (nat_lt held count) ≡ false → nat_lt less count ≡ true
some_left count less held le e = let left = ltb-true held count (not-false (nat_lt held count) e) in lt-ltb less count (omega (arith, le, left))

pub less_told : (mode : Mode) (less held : ℕ) → less ≤ held → is_full mode held ≡ false → buffers_one mode less ≡ buffers_one mode held
less_told Rendezvous less held le e = refl
less_told Buffered less held le e = refl
less_told (Slots count) less held le e =
    elim (and_cases (nat_lt 0 count) (not (nat_lt held count)) e) [
      | inl none ↦ no_slots count less none ∙ sym (no_slots count held none)
      | inr some ↦ some_left count less held le some ∙ sym (not-false (nat_lt held count) some)
    ]

pub less_full : (mode : Mode) (less held : ℕ) → less ≤ held → is_full mode held ≡ false → is_full mode less ≡ false
less_full (Slots count) less held le e =
    elim (and_cases (nat_lt 0 count) (not (nat_lt held count)) e) [
      | inl none ↦ ap (λ (t : Bool). t && not (nat_lt less count)) none
      | inr some ↦ false_and (nat_lt 0 count) (not (nat_lt less count)) (inr (ap not (some_left count less held le some)))
    ]
less_full mode less held le e = refl

-- ---- what a match gives back

freed_less : (w : World) (s r : CallId) (p : ℕ) → eligible w.board s r ≡ true → slots_used (paired w s r).board p ≤ slots_used w.board p
freed_less w s r p e = let more = slots_with_match w.board s r p e in omega (arith, more)

abbrev count_of : Bool → ℕ
count_of y = cond y 1 0

abbrev count_at : Bool → Bool → ℕ
count_at x y = cond x (count_of y) 0

none_at : (x y : Bool) → (x && y) ≡ false → count_at x y ≡ zero
none_at true y e = ap count_of e
none_at false y e = refl

-- of another rank, or of a send that holds none
freed_none : (w : World) (s r : CallId) (p : ℕ) → eligible w.board s r ≡ true → (p == s.rank && is_buffered (kind_at w.board s)) ≡ false → slots_used (paired w s r).board p ≡ slots_used w.board p
freed_none w s r p e none =
    let more = slots_with_match w.board s r p e in
    let zero = none_at (p == s.rank) (is_buffered (kind_at w.board s)) none in
    omega (arith, more, zero)

-- ---- what a rank issues after a match

entered_told : (x y : Bool) (k : CallKind) → is_standard (Some k) ≡ false → buffered_by x k ≡ buffered_by y k
entered_told x y (Send s) e = ap (λ (t : Bool). Send (record s { buffered = t })) (and_last x (not s.synchronous) e ∙ sym (and_last y (not s.synchronous) e))
  where
    and_last : (a b : Bool) → b ≡ false → (a && b) ≡ false
    and_last true b f = f
    and_last false b f = refl
entered_told x y k e = refl

joined_told : (x y : Bool) (o : Option Call) → is_standard (kind_of o) ≡ false → joining_by x o ≡ joining_by y o
joined_told x y None e = refl
joined_told x y (Some c) e = ap (λ (k : CallKind). Some (record c { kind = k })) (entered_told x y c.kind e)

-- the same, unless the match gives the slot that it lacks
pub joining_paired : (w : World) (s t : CallId) (p : ℕ) (ran : Ran) → local_at w p ≡ Some ran → eligible w.board s t ≡ true → gives_slot w p s ≡ false
    → joining (paired w s t).board p ran.call ≡ joining w.board p ran.call
joining_paired w s t p ran at e none =
    elim (and_cases (lacks_slot w p) (p == s.rank && is_buffered (kind_at w.board s)) none) [
      | inl lacks ↦ elim (and_cases (is_full w.board.mode (slots_used w.board p)) (issues_standard (local_at w p)) lacks) [
        | inr other ↦ joined_told (has_buffer (paired w s t).board p) (has_buffer w.board p) ran.call (sym (ap issues_standard at) ∙ other)
        | inl room ↦ ap (λ (x : Bool). joining_by x ran.call) (less_told w.board.mode (slots_used (paired w s t).board p) (slots_used w.board p) (freed_less w s t p e) room)
      ]
      | inr off ↦ ap (λ (n : ℕ). joining_by (buffers_one w.board.mode n) ran.call) (freed_none w s t p e off)
    ]

-- ---- what lacks no slot goes on so

pub lacks_elsewhere : (w : World) (p : ℕ) (r : RankWorld) (o : Option Call) (m : Option CallId) (q : ℕ) → q ≢ p → lacks_slot (moved w p r o m) q ≡ lacks_slot w q
lacks_elsewhere w p r o m q ne = λ i. is_full w.board.mode (slots_elsewhere w p r o m q ne i) && issues_standard (local_elsewhere w p r o m q ne i)

pub lacks_paired : (w : World) (s t : CallId) (p : ℕ) → eligible w.board s t ≡ true → lacks_slot w p ≡ false → lacks_slot (paired w s t) p ≡ false
lacks_paired w s t p e none =
    false_and (is_full w.board.mode (slots_used (paired w s t).board p)) (issues_standard (local_at w p))
    (elim (and_cases (is_full w.board.mode (slots_used w.board p)) (issues_standard (local_at w p)) none) [
      | inr other ↦ inr other
      | inl room ↦ inl (less_full w.board.mode (slots_used (paired w s t).board p) (slots_used w.board p) (freed_less w s t p e) room)
    ])

-- a match whose send frees no slot gives none to any rank
pub gives_none : (w : World) (p : ℕ) (s : CallId) → frees_slot w.board s ≡ false → gives_slot w p s ≡ false
gives_none w p s none =
    elim (and_cases (is_limited w.board.mode) (is_buffered (kind_at w.board s)) none) [
      | inl mode ↦
          ap (λ (t : Bool). t && (p == s.rank && is_buffered (kind_at w.board s)))
          (false_and (is_full w.board.mode (slots_used w.board p)) (issues_standard (local_at w p)) (inl (never_full w.board.mode (slots_used w.board p) mode)))
      | inr held ↦ false_and (lacks_slot w p) (p == s.rank && is_buffered (kind_at w.board s)) (inr (false_and (p == s.rank) (is_buffered (kind_at w.board s)) (inr held)))
    ]
