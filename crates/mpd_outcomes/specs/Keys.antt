-- The key of a state as words. States of a script that have the same words have the same future.
use Rattle.std.specs.Prelude.{◌≡◌, ◌<◌, ℕ, ℤ, pos, Bool, true, false, List, [], ◌∷◌, ◌++◌, length, slice_get, Option, Some, None, is_some, IfSome}
use Rattle.std.specs.List.{flat_map}
use Rattle.mpd_model.specs.declared.step.CallId.{CallId}
use Rattle.mpd_model.specs.declared.call.Call.{Call}
use Rattle.mpd_model.specs.declared.call.Activity.{Activity}
use Rattle.mpd_model.specs.script.Tree.{Tree}
use Rattle.mpd_model.specs.script.Program.{Program}
use Rattle.mpd_model.specs.steps.World.{RankWorld, World, Board, call_id, kind_at, rank_numbers, call_numbers, calls_of, awaited, last_call}
use Rattle.mpd_model.specs.steps.Next.{is_blocked}
use Rattle.mpd_model.specs.steps.Outcomes.{first_number}
use Rattle.mpd_code.specs.Left.{left_at}
use Rattle.mpd_outcomes.specs.Future.{overwritten, live_vars, open_call, last_statement, SameFuture}
use Rattle.mpd_outcomes.specs.Words.{number_word, flag_word, number_or_zero, sized, kind_words, seen_words, activity_word}

-- where a rank goes on, and what it is doing
abbrev pub place_words : Option ℕ → Activity → List ℤ
place_words number activity = flag_word (is_some number) ∷ number_or_zero number ∷ activity_word activity ∷ []

-- a handle: the call that it holds, and what may still be learnt of that
abbrev pub held_words : Board → ℕ → Option ℕ → List ℤ
held_words b p None = pos 0 ∷ []
held_words b p (Some i) = pos 1 ∷ number_word i ∷ seen_words b (call_id p i)

abbrev pub handle_words : Board → ℕ → List (Option ℕ) → List ℤ
handle_words b p handles = number_word (length handles) ∷ flat_map (held_words b p) handles

-- which statement issued a call, and what it asks for
abbrev pub open_words : Call → List ℤ
open_words c = number_word c.statement ∷ kind_words c.kind

-- the call of a number, where it is free
abbrev pub numbered_words : ℕ → Option Call → List ℤ
numbered_words i None = []
numbered_words i (Some c) = pos 1 ∷ number_word i ∷ open_words c

abbrev pub free_words : Board → ℕ → ℕ → List ℤ
free_words b p i = numbered_words i (open_call b (call_id p i))

-- how many calls a rank has issued, and the free ones; a 0 ends them
abbrev pub call_words : Board → ℕ → List ℤ
call_words b p = number_word (length (calls_of b p)) ∷ (flat_map (free_words b p) (call_numbers b p) ++ pos 0 ∷ [])

-- the call that a rank waits for, if any
abbrev pub target_words : Board → Option CallId → List ℤ
target_words b None = pos 0 ∷ []
target_words b (Some c) = pos 1 ∷ seen_words b c

-- which statement issued the call that a blocked rank is blocked on, and what may still be learnt there
abbrev pub blocked_words : Board → ℕ → Bool → List ℤ
blocked_words b p false = []
blocked_words b p true = number_word (last_statement b p) ∷ (seen_words b (last_call b p) ++ target_words b (awaited b (last_call b p)))

-- a rank's part
abbrev pub rank_words : Board → ℕ → RankWorld → List ℤ
rank_words b p r =
    place_words (first_number r.rest) r.activity
    ++ sized (live_vars (overwritten (kind_at b (last_call b p))) r.activity r.rest r.vars)
    ++ handle_words b p r.handles
    ++ call_words b p
    ++ blocked_words b p (is_blocked r.activity)

abbrev pub part_of : Board → ℕ → Option RankWorld → List ℤ
part_of b p None = []
part_of b p (Some r) = rank_words b p r

abbrev pub part_at : World → ℕ → List ℤ
part_at w p = part_of w.board p (slice_get w.ranks p)

-- all parts, each after its length
abbrev pub key_words : World → List ℤ
key_words w = flat_map (λ p. sized (part_at w p)) (rank_numbers w.board)

-- ---- what a key is

-- What a rank has left is what stands at the number of its next statement.
abbrev pub left_from : Program → Option ℕ → List (ℕ × Tree)
left_from s None = []
left_from s (Some n) = left_at s n

abbrev pub IsPlaced : Program → World → ℕ → Type 0
IsPlaced s w p = IfSome (slice_get w.ranks p) (λ r. r.rest ≡ left_from s (first_number r.rest))

-- The list is the key of a world that the script can come to.
pub record IsKey (s : Program) (w : World) (k : List ℤ) : Type 0 where
  pub words : k ≡ key_words w
  pub ranks : length w.board.calls ≡ s.ranks
  pub placed : (p : ℕ) → p < s.ranks → IsPlaced s w p

-- Two states that a script can come to in one mode, and that have the same key, have the same future.
abbrev pub OneKeyOneFuture : Type 0
OneKeyOneFuture = (s : Program) (w v : World) → w.board.mode ≡ v.board.mode → (k : List ℤ) → IsKey s w k → IsKey s v k → SameFuture w v

-- And states with the same future have the same key: it tells nothing else.
abbrev pub OneFutureOneKey : Type 0
OneFutureOneKey = (s : Program) (w v : World) → SameFuture w v → (k : List ℤ) → IsKey s w k → IsKey s v k
