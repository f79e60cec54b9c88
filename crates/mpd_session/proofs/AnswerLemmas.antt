-- What a session replies, by what a command comes to.
use Rattle.std.proofs.Common.{◌≡◌, ℕ, true, false, List, Option, Some, refl, ap, sym, ◌∙◌}
use Rattle.mpd_model.specs.declared.breakpoint.Breakpoint.{Breakpoint}
use Rattle.mpd_model.specs.steps.World.{World}
use Rattle.mpd_model.specs.runs.Trail.{Trail, IsReached, world_of}
use Rattle.mpd_session.specs.declared.request.Request.{Request}
use Rattle.mpd_session.specs.declared.reply.Reply.{Reply}
use Rattle.mpd_session.specs.declared.reply.Reply.TheVariants as reply
use Rattle.mpd_session.specs.declared.reply.Refusal.TheVariants.{Stale}
use Rattle.mpd_session.specs.declared.effect.Effect.{Effect}
use Rattle.mpd_session.specs.Held.{Held}
use Rattle.mpd_session.specs.Respond.{Carried, carried, respond, respond_in, respond_at, reply_to, version_then, finished, is_current}

abbrev held : Trail → List (Option Breakpoint) → ℕ → Held
held t places v = record { trail = t; breaks = places; version = v }

abbrev Replied : Type 0
Replied = Reply × Held

in_world : (s : Held) (w : World) (q : Request) → world_of s.trail ≡ Some w → respond s q ≡ respond_in s w q
unfolding respond
in_world s w q e = ap (λ o. respond_at s o q) e

stale : (s : Held) (w : World) (q : Request) → world_of s.trail ≡ Some w → is_current s.version q.at ≡ false → respond s q ≡ (let p : Replied = (reply.Refused (Stale s.version), s) in p)
stale s w q e old = in_world s w q e ∙ rw old refl

current : (s : Held) (w : World) (q : Request) → world_of s.trail ≡ Some w → is_current s.version q.at ≡ true → respond s q ≡ finished s.version (carried s.trail s.breaks w q.command)
current s w q e now = in_world s w q e ∙ rw now refl

module _ (t : Trail) (places : List (Option Breakpoint)) (v : ℕ) (w : World) (q : Request) where
  pub stale_0 : IsReached (record { trail = t; world = w }) → is_current v q.at ≡ false → reply.Refused (Stale v) ≡ (respond (held t places v) q).0
  stale_0 h old = ap (λ (p : Replied). p.0) (sym (stale (held t places v) w q h.world old))

  pub stale_1 : IsReached (record { trail = t; world = w }) → is_current v q.at ≡ false → held t places v ≡ (respond (held t places v) q).1
  stale_1 h old = ap (λ (p : Replied). p.1) (sym (stale (held t places v) w q h.world old))

  abbrev comes : Carried
  comes = carried t places w q.command

  pub current_0 : IsReached (record { trail = t; world = w }) → is_current v q.at ≡ true → (effect : Effect) (r : Reply) → effect ≡ comes.0 → r ≡ reply_to v effect → r ≡ (respond (held t places v) q).0
  current_0 h now effect r is told = told ∙ ap (reply_to v) is ∙ ap (λ (p : Replied). p.0) (sym (current (held t places v) w q h.world now))

  pub current_1 : IsReached (record { trail = t; world = w }) → is_current v q.at ≡ true → (effect : Effect) (u : Trail) (set : List (Option Breakpoint)) (n : ℕ)
      → effect ≡ comes.0 → u ≡ comes.1.0 → set ≡ comes.1.1 → n ≡ version_then v effect → held u set n ≡ (respond (held t places v) q).1
  current_1 h now effect u set n is trail breaks version =
      ap (λ x. held x set n) trail ∙ ap (λ x. held comes.1.0 x n) breaks ∙ ap (held comes.1.0 comes.1.1) (version ∙ ap (version_then v) is)
      ∙ ap (λ (p : Replied). p.1) (sym (current (held t places v) w q h.world now))

-- a session whose debugger is as it was found
pub found : (t u : Trail) (places : List (Option Breakpoint)) (v : ℕ) → u ≡ t → held u places v ≡ held t places v
found t u places v same = ap (λ x. held x places v) same

pub ruleset answering = (stale_0, stale_1, current_0, current_1)
