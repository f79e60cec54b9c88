-- In every world that steps lead to, a send is buffered only as the mode allows.
use Rattle.std.proofs.Common.{◌≡◌, Bool, true, false, ◌&&◌, ◌||◌, not, Option, Some, is_some, List, refl, ap, subst, ◌∙◌}
use Rattle.mpd_model.specs.declared.step.CallId.{CallId}
use Rattle.mpd_model.specs.declared.step.Step.{Step}
use Rattle.mpd_model.specs.declared.call.CallKind.{CallKind}
use Rattle.mpd_model.specs.declared.call.CallKind.TheVariants.{Send}
use Rattle.mpd_model.specs.declared.call.Mode.{Mode}
use Rattle.mpd_model.specs.declared.call.Mode.TheVariants.{Rendezvous, Buffered, Slots}
use Rattle.mpd_model.specs.declared.call.SendCall.{SendCall}
use Rattle.mpd_model.specs.script.Program.{Program}
use Rattle.mpd_model.specs.steps.World.{World, start, kind_at, partner, is_buffered, is_done, is_limited}
use Rattle.mpd_model.specs.steps.Next.{fold}
use Rattle.mpd_laws.proofs.ordered.CallsInOrder.{orderly}
use Rattle.mpd_laws.proofs.ordered.Orderly.{HasAllowedBuffer, may_be}
use Rattle.mpd_laws.proofs.buffered.SlotsHeld.{mode_stays}

-- the mode that buffers every standard send
abbrev takes_all : Mode → Bool
takes_all Buffered = true
takes_all mode = false

pub done_by_match_or_mode : (s : Program) (mode : Mode) (steps : List Step) (w : World) → fold (start s mode) steps ≡ Some w → is_limited mode ≡ false → (c : CallId) (send : SendCall) → kind_at w.board c ≡ Some (Send send)
    → is_done w.board c ≡ (is_some (partner w.board.sets c) || (takes_all w.board.mode && not send.synchronous))
done_by_match_or_mode s mode steps w e unlimited c send is =
    let allowed_buffer : HasAllowedBuffer w.board.mode (Some (Send send)) = subst (HasAllowedBuffer w.board.mode) is ((orderly s mode steps w e).allowed_buffer c) in
    ap (λ (k : Option CallKind). is_some (partner w.board.sets c) || is_buffered k) is
    ∙ ap (λ (b : Bool). is_some (partner w.board.sets c) || b) (by_mode w.board.mode send.buffered send.synchronous (ap is_limited (mode_stays s mode steps w e) ∙ unlimited) allowed_buffer)
  where
    by_mode : (m : Mode) (buffered synchronous : Bool) → is_limited m ≡ false → buffered ≡ (may_be m buffered && not synchronous) → buffered ≡ (takes_all m && not synchronous)
    by_mode Rendezvous buffered synchronous e f = f
    by_mode Buffered buffered synchronous e f = f
    by_mode (Slots count) buffered synchronous e f = absurd (cc)

pub synchronous_await : (s : Program) (mode : Mode) (steps : List Step) (w : World) → fold (start s mode) steps ≡ Some w → (c : CallId) (send : SendCall) → kind_at w.board c ≡ Some (Send send) → send.synchronous ≡ true
    → is_done w.board c ≡ is_some (partner w.board.sets c)
synchronous_await s mode steps w e c send is synchronous =
    let allowed_buffer : HasAllowedBuffer w.board.mode (Some (Send send)) = subst (HasAllowedBuffer w.board.mode) is ((orderly s mode steps w e).allowed_buffer c) in
    ap (λ (k : Option CallKind). is_some (partner w.board.sets c) || is_buffered k) is
    ∙ ap (λ (b : Bool). is_some (partner w.board.sets c) || b) (allowed_buffer ∙ ap (λ (b : Bool). may_be w.board.mode send.buffered && not b) synchronous)
    ∙ never_buffered (is_some (partner w.board.sets c)) (may_be w.board.mode send.buffered)
  where
    never_buffered : (x y : Bool) → (x || (y && false)) ≡ x
    never_buffered true y = refl
    never_buffered false true = refl
    never_buffered false false = refl
