-- No step takes a rank its list of calls.
use Rattle.std.proofs.Common.{◌≡◌, ℕ, ℤ, Bool, true, false, cond, List, [], ◌∷◌, length, slice_get, Option, Some, None, refl, subst, arith}
use Rattle.mpd_laws.proofs.ordered.CallsInOrder.{joined_from}
use Rattle.std.proofs.lemmas.List.{length-set, length-map, length-replicate}
use Rattle.std.specs.Option.{option_map}
use Rattle.mpd_model.specs.declared.call.Call.{Call}
use Rattle.mpd_model.specs.declared.call.MatchSet.TheVariants.{Pair}
use Rattle.mpd_model.specs.declared.call.Mode.{Mode}
use Rattle.mpd_model.specs.declared.step.Step.{Step}
use Rattle.mpd_model.specs.declared.step.Step.TheVariants.{Local, Match, Wake, WakeAny, Release}
use Rattle.mpd_model.specs.script.Program.{Program}
use Rattle.mpd_model.specs.steps.World.{World, Board, RankWorld, start, start_rank, eligible}
use Rattle.mpd_model.specs.steps.Next.{local_at, stepped, with_issued, put_at, woken_rank, wake_writes, wake_clears, can_wake, woken_by, woken, any_writes, any_handle, can_wake_any, woken_any, going_on, can_release, released, with_set, next, fold}
use Rattle.mpd_meaning.specs.StepLaws.{HasCalls}

chosen : {A : Type 0} (b : Bool) (x y : A) → cond b (Some x) None ≡ Some y → x ≡ y
chosen true x y e = cc
chosen false x y e = absurd (cc)

mapped_from : {A B : Type 0} (f : A → B) (o : Option A) (y : B) → option_map f o ≡ Some y → (x : A) × (f x ≡ y)
mapped_from f None y e = absurd (cc)
mapped_from f (Some x) y e = let is : f x ≡ y = cc in (x, is)

-- as many calls' lists and ranks as before
record IsAsLarge (w v : World) : Type 0 where
  ranks : length v.ranks ≡ length w.ranks
  calls : length v.board.calls ≡ length w.board.calls

kept : (w v : World) → IsAsLarge w v → HasCalls w → HasCalls v
kept w v s h = let a = s.ranks in let b = s.calls in omega (arith, a, b, h)

issued_calls : (b : Board) (p : ℕ) (o : Option Call) → length (with_issued b p o).calls ≡ length b.calls
issued_calls b p None = refl
issued_calls b p (Some c) = length-set b.calls p _

put_ranks : (ranks : List RankWorld) (p : ℕ) (o : Option RankWorld) (f : RankWorld → RankWorld) → length (put_at ranks p o f) ≡ length ranks
put_ranks ranks p None f = refl
put_ranks ranks p (Some r) f = length-set ranks p (f r)

woken_keeps : (w : World) (p : ℕ) (writes : List (ℕ × ℤ)) (handle : Option ℕ) → IsAsLarge w (woken_by w p writes handle)
woken_keeps w p writes handle = record { ranks = put_ranks w.ranks p (slice_get w.ranks p) (woken_rank writes handle); calls = refl }

next_keeps : (w : World) (a : Step) (v : World) → next w a ≡ Some v → IsAsLarge w v
next_keeps w (Local p) v e =
    let ran = mapped_from (stepped w p) (local_at w p) v e in
    subst (IsAsLarge w) ran.1 (record { ranks = length-set w.ranks p ran.0.rank; calls = issued_calls w.board p ran.0.call })
next_keeps w (Match s r) v e = subst (IsAsLarge w) (chosen (eligible w.board s r) (record w { board = with_set w.board (Pair s r) }) v e) (record { ranks = refl; calls = refl })
next_keeps w (Wake p) v e = subst (IsAsLarge w) (chosen (can_wake w p) (woken w p) v e) (woken_keeps w p (wake_writes w.board p) (wake_clears w.board p))
next_keeps w (WakeAny p i) v e =
    subst (IsAsLarge w) (chosen (can_wake_any w p i) (woken_any w p i) v e) (woken_keeps w p (any_writes w p i) (any_handle w p i))
next_keeps w Release v e = subst (IsAsLarge w) (chosen (can_release w) (released w) v e) (record { ranks = length-map w.ranks going_on; calls = refl })

fold_keeps : (steps : List Step) (u w : World) → fold u steps ≡ Some w → HasCalls u → HasCalls w
fold_keeps [] u w e h = let same : u ≡ w = cc in subst HasCalls same h
fold_keeps (a ∷ steps) u w e h =
    let after = joined_from (λ v. fold v steps) (next u a) w e in
    fold_keeps steps after.0 w after.2 (kept u after.0 (next_keeps u a after.0 after.1) h)

start_has : (s : Program) (mode : Mode) → HasCalls (start s mode)
start_has s mode = let a = length-replicate s.ranks (start_rank s) in let b = length-replicate {A = List Call} s.ranks [] in omega (arith, a, b)

pub reached_has : (s : Program) (mode : Mode) (steps : List Step) (w : World) → fold (start s mode) steps ≡ Some w → HasCalls w
reached_has s mode steps w e = fold_keeps steps (start s mode) w e (start_has s mode)
