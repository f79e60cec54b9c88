-- The requests of a waitany, and what a wake from one writes.
use Rattle.std.proofs.Common.{◌≡◌, ℕ, zero, suc, ◌≤◌, ◌&&◌, Bool, true, false, List, [], ◌∷◌, ◌++◌, length, slice_index_or, Option, Some, None, IfSome, ℤ, refl, sym, ap, ◌∙◌, arith}
use Rattle.std.proofs.lemmas.List.{append-nil}
use Rattle.std.specs.Option.{option_map}
use Rattle.mpd_model.specs.declared.call.CallKind.{CallKind}
use Rattle.mpd_model.specs.declared.call.CallKind.TheVariants.{Waitany}
use Rattle.mpd_model.specs.declared.step.CallId.{CallId}
use Rattle.mpd_model.specs.steps.World.{RankWorld, Board, call_id, kind_at, awaited_by, awaited, complete, last_call}
use Rattle.mpd_model.specs.steps.Next.{own_writes, held_in, is_complete_some}

-- ---- the call of a handle

-- of a rank that is not there, of a handle that is not there, and of one that is
pub held_nowhere : (p : ℕ) (o : Option RankWorld) (h : Option ℕ) → o ≡ None → held_in p o h ≡ None
held_nowhere p None h e = refl
held_nowhere p (Some r) h e = absurd (cc)

past : (handles : List (Option ℕ)) (h : ℕ) → length handles ≤ h → slice_index_or handles h None ≡ None
past [] h le = refl
past (x ∷ handles) zero le = absurd (omega (arith, le))
past (x ∷ handles) (suc h) le = past handles h (omega (arith, le))

pub held_past : (p : ℕ) (r : RankWorld) (h : Option ℕ) → IfSome h (λ handle. length r.handles ≤ handle) → held_in p (Some r) h ≡ None
held_past p r None le = refl
held_past p r (Some handle) le = ap (option_map (call_id p)) (past r.handles handle le)

pub held_at : (p : ℕ) (r : RankWorld) (h call : Option ℕ) (handle : ℕ) → h ≡ Some handle → call ≡ slice_index_or r.handles handle None → held_in p (Some r) h ≡ option_map (call_id p) call
held_at p r h call handle e is = ap (held_in p (Some r)) e ∙ ap (option_map (call_id p)) (sym is)

-- ---- whether it is complete

pub none_ready : (waiting : Bool) (b : Board) (o : Option CallId) → o ≡ None → waiting && is_complete_some b o ≡ false
none_ready true b o e = ap (is_complete_some b) e
none_ready false b o e = refl

pub ruleset requesting = (held_nowhere, held_past, held_at, none_ready)

-- ---- what a wake writes

-- where a call is awaited, it is from no waitany
no_own : (c d : CallId) (k : Option CallKind) → awaited_by c k ≡ Some d → own_writes k ≡ []
no_own c d (Some (Waitany a)) e = absurd (cc)
no_own c d k e = refl

pub awaited_alone : (b : Board) (c d : CallId) (ws : List (ℕ × ℤ)) → awaited b c ≡ Some d → ws ≡ ws ++ own_writes (kind_at b c)
awaited_alone b c d ws e = sym (ap (λ l. ws ++ l) (no_own c d (kind_at b c) e) ∙ append-nil ws)

pub ruleset owning = (awaited_alone)
