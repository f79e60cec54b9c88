-- Pairs that stay to the end of a run, and a match beside another step, in any mode.
use Rattle.std.proofs.Common.{◌≡◌, ◌⊎◌, ℕ, Bool, true, false, Option, Some, None, is_none, List, [], ◌∷◌, ◌++◌, inl, inr, refl, sym, ap, subst, ◌∙◌}
use Rattle.mpd_model.specs.declared.step.CallId.{CallId}
use Rattle.mpd_model.specs.declared.step.Step.{Step}
use Rattle.mpd_model.specs.declared.step.Step.TheVariants.{Local, Match, Wake, WakeAny, Release}
use Rattle.mpd_model.specs.declared.call.MatchSet.{MatchSet}
use Rattle.mpd_model.specs.declared.call.MatchSet.TheVariants.{Pair}
use Rattle.mpd_model.specs.declared.call.MatchSet.TheVariants as set
use Rattle.mpd_model.specs.steps.World.{World, id_eq, partner, eligible, last_call}
use Rattle.mpd_model.specs.steps.Next.{next, fold}
use Rattle.mpd_model.specs.steps.Why.{or_else}
use Rattle.mpd_laws.proofs.ordered.CallsInOrder.{joined_from}
use Rattle.mpd_laws.proofs.ordered.Eligible.{clash}
use Rattle.mpd_laws.proofs.ordered.Orderly.{same_id}
use Rattle.mpd_meaning.proofs.moving.Sets.{partner_more, partner_by}
use Rattle.mpd_meaning.proofs.moving.Moves.{joining, partner_formed}
use Rattle.mpd_complete.proofs.Pairs.{id_same, recv_free, send_is_no_recv, same_recv, match_again, match_freed, match_paired}
use Rattle.mpd_complete.proofs.Steps.{IsWakeStep, local_step, wake_step, any_step, match_step, release_step}

-- ---- partners stay

kept_at : (w : World) (c d : CallId) → partner w.board.sets c ≡ Some d → (o : Option CallId) → partner w.board.sets c ≡ o → (other : Option CallId) → or_else o other ≡ Some d
kept_at w c d e (Some x) at other = sym at ∙ e
kept_at w c d e None at other = absurd (let clash : None ≡ Some d = sym at ∙ e in cc)

joined_kept : (w : World) (m : MatchSet) (c d : CallId) → partner w.board.sets c ≡ Some d → partner (w.board.sets ++ m ∷ []) c ≡ Some d
joined_kept w m c d e = partner_more w.board.sets (m ∷ []) c ∙ kept_at w c d e (partner w.board.sets c) refl (partner (m ∷ []) c)

wake_kept : (w : World) (a : Step) (p : ℕ) (v : World) → IsWakeStep w a p v → (c : CallId) → partner v.board.sets c ≡ partner w.board.sets c
wake_kept w a p v b c = subst (λ (z : World). partner z.board.sets c ≡ partner w.board.sets c) b.is (partner_formed w.board.sets (Some (last_call w.board p)) c)

partner_kept : (w : World) (b : Step) (v : World) → next w b ≡ Some v → (c d : CallId) → partner w.board.sets c ≡ Some d → partner v.board.sets c ≡ Some d
partner_kept w (Local p) v f c d e =
    let a = local_step w p v f in
    subst (λ (z : World). partner z.board.sets c ≡ Some d) a.is e
partner_kept w (Wake p) v f c d e = wake_kept w (Wake p) p v (wake_step w p v f) c ∙ e
partner_kept w (WakeAny p i) v f c d e = wake_kept w (WakeAny p i) p v (any_step w p i v f) c ∙ e
partner_kept w (Match s r) v f c d e = subst (λ (z : World). partner z.board.sets c ≡ Some d) (match_step w s r v f).1 (joined_kept w (Pair s r) c d e)
partner_kept w Release v f c d e = subst (λ (z : World). partner z.board.sets c ≡ Some d) (release_step w v f).1 (joined_kept w set.Barrier c d e)

pub fold_kept : (steps : List Step) (w v : World) → fold w steps ≡ Some v → (c d : CallId) → partner w.board.sets c ≡ Some d → partner v.board.sets c ≡ Some d
fold_kept [] w v f c d e = let is : w ≡ v = cc in subst (λ (z : World). partner z.board.sets c ≡ Some d) is e
fold_kept (b ∷ steps) w v f c d e =
    let after = joined_from (λ x. fold x steps) (next w b) v f in
    fold_kept steps after.0 v after.2 c d (partner_kept w b after.0 after.1 c d e)

free_none : (o : Option CallId) → is_none o ≡ true → o ≡ None
free_none None e = refl
free_none (Some c) e = absurd (cc)

-- a match makes its pair
pub pair_made : (w : World) (s r : CallId) (u : World) → next w (Match s r) ≡ Some u → partner u.board.sets r ≡ Some s
pair_made w s r u f =
    let m = match_step w s r u f in
    subst (λ (z : World). partner z.board.sets r ≡ Some s) m.1
    (partner_more w.board.sets (Pair s r ∷ []) r
    ∙ ap (λ (o : Option CallId). or_else o (partner (Pair s r ∷ []) r)) (free_none (partner w.board.sets r) (recv_free w.board s r m.0))
    ∙ (λ i. partner_by (send_is_no_recv w.board s r s r m.0 m.0 i) (id_same r r refl i) s r None))

-- ---- a match beside another step

-- the receive was taken by another send
pub record Taken (x : World) (s r : CallId) : Type 0 where
  pub by : CallId
  pub at : partner x.board.sets r ≡ Some by
  pub other : by ≡ s → ⊥

-- in any mode the match can still be taken
pub record StillOn (x : World) (s r : CallId) : Type 0 where
  pub behind : World
  pub leads : next x (Match s r) ≡ Some behind

-- Another step is that match, or the match can still be taken after it, or it has taken the receive.
abbrev pub IsBeside : World → CallId → CallId → Step → Type 0
IsBeside x s r b = (b ≡ Match s r) ⊎ (StillOn x s r ⊎ Taken x s r)

two_by : (w : World) (s r t q : CallId) (u x : World) → next w (Match s r) ≡ Some u → next w (Match t q) ≡ Some x → (y z : Bool) → id_eq t s ≡ y → id_eq q r ≡ z → IsBeside x s r (Match t q)
two_by w s r t q u x e f true z is also =
    let send : t ≡ s = same_id t s is in
    let recv : q ≡ r = same_recv w.board s q r (ap (λ (c : CallId). eligible w.board c q) (sym send) ∙ (match_step w t q x f).0) (match_step w s r u e).0 in
    inl (λ i. Match (send i) (recv i))
two_by w s r t q u x e f false true is also =
    inr (inr (record {
      by = t;
      at = ap (λ (c : CallId). partner x.board.sets c) (sym (same_id q r also)) ∙ pair_made w t q x f;
      other = λ same. clash (id_same t s same) is;
    }))
two_by w s r t q u x e f false false is also =
    let m = match_step w t q x f in
    inr (inl (subst (λ (z : World). StillOn z s r) m.1 (record { behind = _; leads = match_paired w t q s r m.0 (match_step w s r u e).0 is also })))

wake_still_on : (w : World) (s r : CallId) (a : Step) (p : ℕ) (x : World) → eligible w.board s r ≡ true → IsWakeStep w a p x → StillOn x s r
wake_still_on w s r a p x on b =
    subst (λ (z : World). StillOn z s r) b.is (record { behind = _; leads = match_again w p b.after None (Some (last_call w.board p)) s r on })

pub still_on : (w : World) (s r : CallId) (b : Step) (u x : World) → next w (Match s r) ≡ Some u → next w b ≡ Some x → IsBeside x s r b
still_on w s r (Match t q) u x e f = two_by w s r t q u x e f (id_eq t s) (id_eq q r) refl refl
still_on w s r (Local p) u x e f =
    let a = local_step w p x f in
    inr (inl (subst (λ (z : World). StillOn z s r) a.is (record { behind = _; leads = match_again w p a.ran.rank (joining w.board p a.ran.call) None s r (match_step w s r u e).0 })))
still_on w s r (Wake p) u x e f = inr (inl (wake_still_on w s r (Wake p) p x (match_step w s r u e).0 (wake_step w p x f)))
still_on w s r (WakeAny p i) u x e f = inr (inl (wake_still_on w s r (WakeAny p i) p x (match_step w s r u e).0 (any_step w p i x f)))
still_on w s r Release u x e f = inr (inl (subst (λ (z : World). StillOn z s r) (release_step w x f).1 (record { behind = _; leads = match_freed w s r (match_step w s r u e).0 })))

pub some_call : {x y : CallId} → Some x ≡ Some y → x ≡ y
some_call p = cc

some_world : {x y : World} → Some x ≡ Some y → x ≡ y
some_world p = cc

pub free_unpaired : (w : World) (s r : CallId) (u : World) → next w (Match s r) ≡ Some u → partner w.board.sets r ≡ Some s → ⊥
free_unpaired w s r u e p = let clash : None ≡ Some s = sym (free_none (partner w.board.sets r) (recv_free w.board s r (match_step w s r u e).0)) ∙ p in cc
