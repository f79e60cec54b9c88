-- What every world of a run keeps: pairs name calls that were issued, each rank has its list of calls, and a waitany for nothing has no request.
use Rattle.std.proofs.Common.{◌≡◌, ℕ, Bool, true, false, Option, Some, None, is_some, List, [], ◌∷◌, length, refl, sym, ap, subst, ◌∙◌, arith}
use Rattle.std.proofs.lemmas.List.{length-set, length-map, length-replicate}
use Rattle.mpd_model.specs.declared.step.CallId.{CallId}
use Rattle.mpd_model.specs.declared.step.Step.{Step}
use Rattle.mpd_model.specs.declared.step.Step.TheVariants.{Local, Match, Wake, WakeAny, Release}
use Rattle.mpd_model.specs.declared.call.Call.{Call}
use Rattle.mpd_model.specs.declared.call.CallKind.{CallKind}
use Rattle.mpd_model.specs.declared.call.Mode.{Mode}
use Rattle.mpd_model.specs.declared.call.MatchSet.TheVariants.{Pair, Woke}
use Rattle.mpd_model.specs.declared.call.MatchSet.TheVariants as set
use Rattle.mpd_model.specs.script.Program.{Program}
use Rattle.mpd_model.specs.steps.World.{World, Board, RankWorld, start, start_rank, id_eq, kind_at, partner, is_limited, eligible, last_call}
use Rattle.mpd_model.specs.steps.Next.{released, going_on, next, fold}
use Rattle.mpd_model.specs.steps.Why.{or_else}
use Rattle.mpd_meaning.specs.StepLaws.{HasCalls}
use Rattle.mpd_complete.specs.CompleteLaws.{KeepsBuffers}
use Rattle.mpd_meaning.proofs.moving.Sets.{partner_more, else_none, partner_by}
use Rattle.mpd_laws.proofs.ordered.CallsInOrder.{joined_from}
use Rattle.mpd_meaning.proofs.moving.Moves.{Known, issued_calls, joining, moved, paired, kind_kept, partner_formed}
use Rattle.mpd_complete.proofs.Pairs.{Later, moved_later, paired_later, send_known, recv_known}
use Rattle.mpd_complete.proofs.Steps.{IsLocalStep, IsWakeStep, local_step, wake_step, any_step, match_step, release_step}
use Rattle.mpd_complete.proofs.Idle.{Idle, idle_running, idle_local, idle_released, idle_start}

pub record Sound (w : World) : Type 0 where
  pub known : Known w.board
  pub has : HasCalls w
  pub idle : Idle w

-- what a step keeps of it
pub record Keeps (w v : World) : Type 0 where
  pub sound : Sound w → Sound v
  pub later : Later w.board v.board
  pub mode : v.board.mode ≡ w.board.mode

-- ---- a local step or a wake

issued_length : (calls : List (List Call)) (p : ℕ) (o : Option Call) → length (issued_calls calls p o) ≡ length calls
issued_length calls p None = refl
issued_length calls p (Some c) = length-set calls p _

moved_keeps : (w : World) (p : ℕ) (r : RankWorld) (o : Option Call) (m : Option CallId) → (Sound w → Idle (moved w p r o m)) → Keeps w (moved w p r o m)
moved_keeps w p r o m idle = record {
  sound = λ h. record {
    known = λ c d e.
        let was = h.known c d (sym (partner_formed w.board.sets m c) ∙ e) in
        ap (λ (k : Option CallKind). is_some k) (kind_kept w p r o m d was) ∙ was;
    has = let a = length-set w.ranks p r in let b = issued_length w.board.calls p o in let c = h.has in omega (arith, a, b, c);
    idle = idle h;
  };
  later = moved_later w p r o m;
  mode = refl;
}

local_keeps : (w : World) (p : ℕ) (v : World) → IsLocalStep w p v → Keeps w v
local_keeps w p v a =
    subst (Keeps w) a.is (moved_keeps w p a.ran.rank (joining w.board p a.ran.call) None (λ h. subst Idle (sym a.is) (idle_local w p v h.has a h.idle)))

wake_keeps : (w : World) (a : Step) (p : ℕ) (v : World) → IsWakeStep w a p v → Keeps w v
wake_keeps w a p v b =
    subst (Keeps w) b.is (moved_keeps w p b.after None (Some (last_call w.board p)) (λ h. idle_running w p b.after b.rank None (Some (last_call w.board p)) b.at b.running h.idle))

-- ---- a match

partner_known : (b : Board) (s r d : CallId) (x y : Bool) → is_some (kind_at b s) ≡ true → is_some (kind_at b r) ≡ true → partner_by x y s r None ≡ Some d → is_some (kind_at b d) ≡ true
partner_known b s r d true y hs hr e = let is : r ≡ d = cc in ap (λ (c : CallId). is_some (kind_at b c)) (sym is) ∙ hr
partner_known b s r d false true hs hr e = let is : s ≡ d = cc in ap (λ (c : CallId). is_some (kind_at b c)) (sym is) ∙ hs
partner_known b s r d false false hs hr e = absurd (cc)

either_known : (b : Board) (s r c d : CallId) → Known b → is_some (kind_at b s) ≡ true → is_some (kind_at b r) ≡ true
    → (o : Option CallId) → partner b.sets c ≡ o → or_else o (partner (Pair s r ∷ []) c) ≡ Some d → is_some (kind_at b d) ≡ true
either_known b s r c d h hs hr (Some z) at e = h c d (at ∙ e)
either_known b s r c d h hs hr None at e = partner_known b s r d (id_eq s c) (id_eq r c) hs hr e

paired_keeps : (w : World) (s r : CallId) → eligible w.board s r ≡ true → Keeps w (paired w s r)
paired_keeps w s r e = record {
  sound = λ h. record {
    known = λ c d is.
        either_known w.board s r c d h.known (send_known w.board s r e) (recv_known w.board s r e) (partner w.board.sets c) refl (sym (partner_more w.board.sets (Pair s r ∷ []) c) ∙ is);
    has = h.has;
    idle = h.idle;
  };
  later = paired_later w s r;
  mode = refl;
}

-- ---- a release

released_keeps : (w : World) → Keeps w (released w)
released_keeps w = record {
  sound = λ h. record { known = λ c d e. h.known c d (sym (same c) ∙ e); has = let a = length-map w.ranks going_on in let b = h.has in omega (arith, a, b); idle = idle_released w };
  later = record { kinds = λ c known. refl; partners = λ c known. ap (λ (o : Option CallId). is_some o) (same c) ∙ known };
  mode = refl;
}
  where
    same : (c : CallId) → partner (released w).board.sets c ≡ partner w.board.sets c
    same c = partner_more w.board.sets (set.Barrier ∷ []) c ∙ else_none (partner w.board.sets c)

-- ---- any step

pub keeps : (w : World) (a : Step) (v : World) → next w a ≡ Some v → Keeps w v
keeps w (Local p) v e = local_keeps w p v (local_step w p v e)
keeps w (Match s r) v e = let m = match_step w s r v e in subst (Keeps w) m.1 (paired_keeps w s r m.0)
keeps w (Wake p) v e = wake_keeps w (Wake p) p v (wake_step w p v e)
keeps w (WakeAny p i) v e = wake_keeps w (WakeAny p i) p v (any_step w p i v e)
keeps w Release v e = subst (Keeps w) (release_step w v e).1 (released_keeps w)

-- the mode stays
pub stays_ample : (w : World) (a : Step) (v : World) → next w a ≡ Some v → KeepsBuffers w.board.mode → KeepsBuffers v.board.mode
stays_ample w a v e h = ap is_limited (keeps w a v e).mode ∙ h

pub fold_ample : (steps : List Step) (u w : World) → fold u steps ≡ Some w → KeepsBuffers u.board.mode → KeepsBuffers w.board.mode
fold_ample [] u w e h = let same : u ≡ w = cc in subst (λ (z : World). KeepsBuffers z.board.mode) same h
fold_ample (a ∷ steps) u w e h =
    let after = joined_from (λ v. fold v steps) (next u a) w e in
    fold_ample steps after.0 w after.2 (stays_ample u a after.0 after.1 h)

pub fold_sound : (steps : List Step) (u w : World) → fold u steps ≡ Some w → Sound u → Sound w
fold_sound [] u w e h = let same : u ≡ w = cc in subst Sound same h
fold_sound (a ∷ steps) u w e h =
    let after = joined_from (λ v. fold v steps) (next u a) w e in
    fold_sound steps after.0 w after.2 ((keeps u a after.0 after.1).sound h)

pub start_sound : (s : Program) (mode : Mode) → Sound (start s mode)
start_sound s mode = record {
  known = λ c d e. absurd (cc);
  has = let a = length-replicate s.ranks (start_rank s) in let b = length-replicate {A = List Call} s.ranks [] in omega (arith, a, b);
  idle = idle_start s mode;
}
