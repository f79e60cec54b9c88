-- Worked rows: the words of numbers, of calls, of what a matched receive writes, and of two ranks.
use Rattle.std.specs.Prelude.{◌≡◌, ℕ, ◌^◌, ◌-◌, ℤ, pos, negsuc, true, false, List, [], ◌∷◌, map, length, Some, None, refl}
use Rattle.mpd_model.specs.declared.call.Activity.{Activity}
use Rattle.mpd_model.specs.declared.call.Activity.TheVariants.{Running, Blocked, Trapped}
use Rattle.mpd_model.specs.declared.call.Trap.TheVariants.{Overflow, Assertion}
use Rattle.mpd_model.specs.declared.call.CallKind.{CallKind}
use Rattle.mpd_model.specs.declared.call.CallKind.TheVariants.{Send, Recv, Wait, Waitany, Barrier}
use Rattle.mpd_model.specs.declared.call.MatchSet.TheVariants.{Pair}
use Rattle.mpd_model.specs.declared.call.Mode.TheVariants.{Rendezvous}
use Rattle.mpd_model.specs.declared.stmt.Simple.TheVariants as st
use Rattle.mpd_model.specs.script.Tree.{simple}
use Rattle.mpd_model.specs.steps.World.{World, call_id}
use Rattle.mpd_outcomes.specs.Words.{number_word, kind_words, activity_word}
use Rattle.mpd_outcomes.specs.Keys.{part_at, key_words}

-- ---- single words

pub row_numbers : map {B = ℤ} (λ (n : ℕ). number_word n) (0 ∷ 7 ∷ (2 ^ 63 - 1) ∷ (2 ^ 63) ∷ (2 ^ 64 - 1) ∷ []) ≡ pos 0 ∷ pos 7 ∷ pos 9223372036854775807 ∷ negsuc 0 ∷ negsuc 9223372036854775807 ∷ []
unfolding number_word
row_numbers = refl

pub row_activities : map {B = ℤ} (λ (a : Activity). activity_word a) (Running ∷ Blocked ∷ Trapped Overflow ∷ Trapped Assertion ∷ []) ≡ pos 0 ∷ pos 1 ∷ pos 2 ∷ pos 7 ∷ []
row_activities = refl

-- ---- calls

-- isend 8 to 0 tag 4; ssend 9 to 1 tag 3; recv from any tag 5 into cell 2; irecv from 3 tag any into cell 0, its status into cells 1 and 4;
-- a wait for handle 2, which holds call 6, and one for handle 0, which holds none; a waitany of handles 1 and 2 into cell 3; a barrier
abbrev kinds : List CallKind
kinds =
    Send (record { to = 0; tag = 4; value = pos 8; synchronous = false; blocks = false; buffered = true })
    ∷ Send (record { to = 1; tag = 3; value = pos 9; synchronous = true; blocks = true; buffered = false })
    ∷ Recv (record { from = None; tag = Some 5; cell = 2; status = None; blocks = true })
    ∷ Recv (record { from = Some 3; tag = None; cell = 0; status = Some (record { source = 1; tag = 4 }); blocks = false })
    ∷ Wait (record { handle = 2; target = Some 6 })
    ∷ Wait (record { handle = 0; target = None })
    ∷ Waitany (record { first = 1; count = 2; cell = 3; active = true })
    ∷ Barrier
    ∷ []

pub row_kinds : map {B = List ℤ} (λ (k : CallKind). kind_words k) kinds
    ≡ (pos 1 ∷ pos 0 ∷ pos 4 ∷ pos 8 ∷ pos 0 ∷ pos 0 ∷ pos 1 ∷ [])
    ∷ (pos 1 ∷ pos 1 ∷ pos 3 ∷ pos 9 ∷ pos 1 ∷ pos 1 ∷ pos 0 ∷ [])
    ∷ (pos 2 ∷ pos 0 ∷ pos 0 ∷ pos 1 ∷ pos 5 ∷ pos 2 ∷ pos 0 ∷ pos 0 ∷ pos 0 ∷ pos 1 ∷ [])
    ∷ (pos 2 ∷ pos 1 ∷ pos 3 ∷ pos 0 ∷ pos 0 ∷ pos 0 ∷ pos 1 ∷ pos 1 ∷ pos 4 ∷ pos 0 ∷ [])
    ∷ (pos 3 ∷ pos 2 ∷ pos 1 ∷ pos 6 ∷ [])
    ∷ (pos 3 ∷ pos 0 ∷ pos 0 ∷ pos 0 ∷ [])
    ∷ (pos 4 ∷ pos 1 ∷ pos 2 ∷ pos 3 ∷ pos 1 ∷ [])
    ∷ (pos 5 ∷ [])
    ∷ []
unfolding number_word
row_kinds = refl

-- ---- two ranks

-- Rank 0 is blocked on a receive with a status, which is paired with the first send of rank 1. Rank 1 has ended, and a handle of it has
-- its second send, which waits still.
abbrev meeting : World
meeting = record {
  ranks =
      record { rest = (2, simple st.Barrier) ∷ []; vars = pos 5 ∷ pos 6 ∷ pos 7 ∷ pos 4 ∷ []; handles = None ∷ []; out = pos 3 ∷ []; activity = Blocked }
      ∷ record { rest = []; vars = pos 5 ∷ pos 6 ∷ pos 7 ∷ pos 4 ∷ []; handles = Some 1 ∷ []; out = []; activity = Running }
      ∷ [];
  board = record {
    mode = Rendezvous;
    calls =
        (record { statement = 1; kind = Recv (record { from = None; tag = None; cell = 0; status = Some (record { source = 1; tag = 2 }); blocks = true }) } ∷ [])
        ∷ (record { statement = 4; kind = Send (record { to = 0; tag = 3; value = pos 9; synchronous = false; blocks = false; buffered = false }) }
        ∷ record { statement = 5; kind = Send (record { to = 0; tag = 4; value = pos 8; synchronous = false; blocks = false; buffered = false }) } ∷ [])
        ∷ [];
    sets = Pair (call_id 1 0) (call_id 0 0) ∷ [];
  };
}

-- it goes on at statement 2 and is blocked; of its four variables the three that the receive overwrites are 0; a handle, which holds none;
-- a call, which isn't free; statement 1 issued it; it is paired and writes 9 to cell 0, 1 to cell 1 and 3 to cell 2; the same call is what
-- it waits for
pub row_blocked : part_at meeting 0
    ≡ pos 1 ∷ pos 2 ∷ pos 1
    ∷ pos 4 ∷ pos 0 ∷ pos 0 ∷ pos 0 ∷ pos 4
    ∷ pos 1 ∷ pos 0
    ∷ pos 1 ∷ pos 0
    ∷ pos 1
    ∷ pos 0 ∷ pos 1 ∷ pos 2 ∷ pos 0 ∷ pos 9 ∷ pos 1 ∷ pos 1 ∷ pos 2 ∷ pos 3
    ∷ pos 1 ∷ pos 0 ∷ pos 1 ∷ pos 2 ∷ pos 0 ∷ pos 9 ∷ pos 1 ∷ pos 1 ∷ pos 2 ∷ pos 3
    ∷ []
unfolding number_word
row_blocked = refl

-- no statement, running; no variable that is read; a handle, which holds call 1: a send that isn't paired and writes nothing; two calls, of
-- which call 1 is free, which statement 5 issued
pub row_ended : part_at meeting 1
    ≡ pos 0 ∷ pos 0 ∷ pos 0
    ∷ pos 0
    ∷ pos 1 ∷ pos 1 ∷ pos 1 ∷ pos 1 ∷ pos 0 ∷ pos 4 ∷ pos 8 ∷ pos 0 ∷ pos 0 ∷ pos 0 ∷ pos 0 ∷ pos 0
    ∷ pos 2 ∷ pos 1 ∷ pos 1 ∷ pos 5 ∷ pos 1 ∷ pos 0 ∷ pos 4 ∷ pos 8 ∷ pos 0 ∷ pos 0 ∷ pos 0 ∷ pos 0
    ∷ []
unfolding number_word
row_ended = refl

-- both parts, each after its length
pub row_lengths : length (part_at meeting 0) ∷ length (part_at meeting 1) ∷ length (key_words meeting) ∷ [] ≡ 32 ∷ 28 ∷ 62 ∷ []
row_lengths = refl
