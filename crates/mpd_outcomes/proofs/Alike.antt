-- Worlds with the same future, as proofs use it: call by call.
use Rattle.std.proofs.Common.{◌≡◌, ◌⊎◌, ℕ, true, Some, is_some, length, slice_get, Bool, false, Option}
use Rattle.std.specs.Option.{option_map}
use Rattle.mpd_model.specs.declared.step.CallId.{CallId}
use Rattle.mpd_model.specs.declared.call.CallKind.{CallKind}
use Rattle.mpd_model.specs.declared.call.CallKind.TheVariants.{Send}
use Rattle.mpd_model.specs.steps.World.{World, Board, calls_of, kind_at, partner, is_message_kind, awaited, last_call, receives}
use Rattle.mpd_model.specs.steps.Next.{waits, held_in}
use Rattle.mpd_outcomes.specs.Future.{quieted, open_call, seen, last_statement}

-- A call that a handle holds, or that a blocked rank waits at or for.
abbrev pub IsHeld : World → CallId → Type 0
IsHeld w c = (h : ℕ) × (held_in c.rank (slice_get w.ranks c.rank) (Some h) ≡ Some c)

abbrev pub IsWaitedFor : World → CallId → Type 0
IsWaitedFor w c = (waits (slice_get w.ranks c.rank) ≡ true) × ((last_call w.board c.rank ≡ c) ⊎ (awaited w.board (last_call w.board c.rank) ≡ Some c))

abbrev pub Due : World → CallId → Type 0
Due w c = IsHeld w c ⊎ IsWaitedFor w c

pub record Alike (w v : World) : Type 0 where
  pub ranks : (p : ℕ) → option_map (quieted w.board p) (slice_get w.ranks p) ≡ option_map (quieted v.board p) (slice_get v.ranks p)
  pub size : length w.ranks ≡ length v.ranks
  pub mode : w.board.mode ≡ v.board.mode
  pub many : length w.board.calls ≡ length v.board.calls
  pub counts : (p : ℕ) → length (calls_of w.board p) ≡ length (calls_of v.board p)
  pub opens : (c : CallId) → open_call w.board c ≡ open_call v.board c
  pub due : (c : CallId) → Due w c → seen w.board c ≡ seen v.board c
  pub stands : (p : ℕ) → waits (slice_get w.ranks p) ≡ true → last_statement w.board p ≡ last_statement v.board p

abbrev pub is_send : Option CallKind → Bool
is_send (Some (Send s)) = true
is_send kind = false

-- What every world of a run keeps: pairs are of calls that were issued, and handles hold sends and receives.
abbrev pub PairsKnown : Board → Type 0
PairsKnown b = (c d : CallId) → partner b.sets c ≡ Some d → (is_some (kind_at b c) ≡ true) × (is_some (kind_at b d) ≡ true)

-- A receive is paired with a send.
abbrev pub PairsTyped : Board → Type 0
PairsTyped b = (c d : CallId) → partner b.sets c ≡ Some d → receives (kind_at b c) ≡ true → is_send (kind_at b d) ≡ true

pub record Tidy (w : World) : Type 0 where
  pub typed : PairsTyped w.board
  pub known : PairsKnown w.board
  pub held : (c : CallId) → IsHeld w c → is_message_kind (kind_at w.board c) ≡ true
  pub sized : length w.ranks ≡ length w.board.calls
