-- Worked rows of requests that are lost. What is wanted was worked out by hand.
use Rattle.std.specs.Prelude.{◌≡◌, ℕ, pos, Bool, true, false, map, List, [], ◌∷◌, Option, Some, None, refl}
use Rattle.mpd_model.specs.declared.call.Activity.TheVariants.{Running}
use Rattle.mpd_model.specs.declared.call.Call.{Call}
use Rattle.mpd_model.specs.declared.call.CallKind.{CallKind}
use Rattle.mpd_model.specs.declared.call.CallKind.TheVariants as on
use Rattle.mpd_model.specs.declared.call.MatchSet.TheVariants.{Pair}
use Rattle.mpd_model.specs.declared.call.Mode.TheVariants.{Rendezvous}
use Rattle.mpd_model.specs.declared.stmt.Simple.TheVariants as st
use Rattle.mpd_model.specs.script.Tree.{simple}
use Rattle.mpd_model.specs.script.Program.{Program}
use Rattle.mpd_model.specs.steps.World.{RankWorld, World, call_id}
use Rattle.mpd_explain.specs.declared.lost.Loss.{Loss}
use Rattle.mpd_explain.specs.Lost.{is_lost, all_losses, losses}

-- statement k stands on line k + 10
abbrev script : Program
script = record { version = 1; ranks = 2; decls = []; body = simple st.Barrier ∷ []; lines = 10 ∷ 11 ∷ 12 ∷ 13 ∷ 14 ∷ 15 ∷ [] }

abbrev call : ℕ → CallKind → Call
call statement kind = record { statement = statement; kind = kind }

abbrev send : ℕ → Bool → CallKind
send to blocks = on.Send (record { to = to; tag = 7; value = pos 5; synchronous = false; blocks = blocks; buffered = false })

abbrev irecv : CallKind
irecv = on.Recv (record { from = None; tag = Some 7; cell = 0; status = None; blocks = false })

abbrev wait : Option ℕ → CallKind
wait target = on.Wait (record { handle = 0; target = target })

abbrev waitany : CallKind
waitany = on.Waitany (record { first = 0; count = 1; cell = 0; active = true })

abbrev rank : List (Option ℕ) → RankWorld
rank handles = record { rest = []; vars = []; handles = handles; out = []; activity = Running }

-- Of rank 0 a handle holds call 0, call 2 blocked, call 4 is a wait for call 3, and call 5 is
-- complete. Rank 1 has issued a waitany, and its call 0 is complete.
abbrev here : World
here = record {
  ranks = rank (Some 0 ∷ None ∷ []) ∷ rank (None ∷ []) ∷ [];
  board = record {
    mode = Rendezvous;
    calls =
        (call 0 irecv ∷ call 1 (send 1 false) ∷ call 2 (send 1 true) ∷ call 3 irecv ∷ call 4 (wait (Some 3)) ∷ call 5 irecv ∷ [])
        ∷ (call 3 (send 0 false) ∷ call 4 waitany ∷ call 5 irecv ∷ []) ∷ [];
    sets = Pair (call_id 1 0) (call_id 0 5) ∷ [];
  };
}

pub row_lost : map {B = List Bool} (map (is_lost here)) ((call_id 0 0 ∷ call_id 0 1 ∷ call_id 0 2 ∷ call_id 0 3 ∷ call_id 0 4 ∷ call_id 0 5 ∷ call_id 0 6 ∷ []) ∷ (call_id 1 0 ∷ call_id 1 1 ∷ call_id 1 2 ∷ []) ∷ (call_id 2 0 ∷ []) ∷ [])
    ≡ (false ∷ true ∷ false ∷ false ∷ false ∷ true ∷ false ∷ []) ∷ (false ∷ false ∷ true ∷ []) ∷ (false ∷ []) ∷ []
row_lost = refl

-- so many requests of rank p, of which the first is call i, issued at this line
abbrev lost : ℕ → ℕ → ℕ → CallKind → ℕ → Loss
lost p i line kind count = record { first = record { call = call_id p i; line = line; kind = Some kind }; count = count }

pub row_lines : all_losses script here ≡ lost 0 1 11 (send 1 false) 1 ∷ lost 0 5 15 irecv 1 ∷ lost 1 2 15 irecv 1 ∷ []
row_lines = refl

-- ---- a line each: rank 0 has lost three requests of line 11, and one of line 12; rank 1 two of line 11

abbrev many : World
many = record {
  ranks = rank [] ∷ rank [] ∷ [];
  board = record {
    mode = Rendezvous;
    calls =
        (call 1 (send 1 false) ∷ call 2 irecv ∷ call 1 (send 1 false) ∷ call 1 irecv ∷ [])
        ∷ (call 1 irecv ∷ call 1 irecv ∷ []) ∷ [];
    sets = [];
  };
}

pub row_many : all_losses script many ≡ lost 0 0 11 (send 1 false) 3 ∷ lost 0 1 12 irecv 1 ∷ lost 1 0 11 irecv 2 ∷ []
row_many = refl

-- a request of line 11 of rank 0 was lost before
pub row_before : losses script many.board (call_id 0 2 ∷ []) (call_id 0 1 ∷ call_id 0 2 ∷ call_id 0 3 ∷ call_id 1 1 ∷ []) ≡ lost 0 1 12 irecv 1 ∷ lost 1 1 11 irecv 1 ∷ []
row_before = refl

-- a send that is complete is not lost, and a receive that is is
abbrev over : World
over = record {
  ranks = rank [] ∷ rank [] ∷ [];
  board = record {
    mode = Rendezvous;
    calls = (call 0 (send 1 false) ∷ call 1 (send 1 false) ∷ []) ∷ (call 2 irecv ∷ call 3 irecv ∷ []) ∷ [];
    sets = Pair (call_id 0 0) (call_id 1 0) ∷ [];
  };
}

pub row_over : map {B = Bool} (is_lost over) (call_id 0 0 ∷ call_id 0 1 ∷ call_id 1 0 ∷ call_id 1 1 ∷ []) ≡ false ∷ true ∷ true ∷ true ∷ []
row_over = refl
