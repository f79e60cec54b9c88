-- What breakpoints come to.
use Rattle.std.proofs.Common.{◌≡◌, ℕ, true, List, Option, Some, None, ap, sym, ◌∙◌, slice_set}
use Rattle.mpd_model.specs.declared.breakpoint.Breakpoint.{Breakpoint}
use Rattle.mpd_model.specs.steps.World.{World}
use Rattle.mpd_model.specs.runs.Breakpoints.{lowest_free}
use Rattle.mpd_session.specs.declared.reply.Answer.TheVariants as answer
use Rattle.mpd_session.specs.declared.reply.Refusal.TheVariants.{BreaksFull}
use Rattle.mpd_session.specs.declared.effect.Effect.TheVariants.{Refused, Changed}
use Rattle.mpd_session.specs.Effects.{OnBreaks, is_there, break_effect, added_effect}

by_place : (places : List (Option Breakpoint)) (w : World) (b : Breakpoint) (o : Option ℕ) → is_there w b ≡ true → lowest_free places ≡ o → break_effect places w b ≡ added_effect places b o
by_place places w b o there e = rw there (ap (added_effect places b) e)

pub added_0 : (places : List (Option Breakpoint)) (w : World) (b : Breakpoint) (n : ℕ) → is_there w b ≡ true → Some n ≡ lowest_free places → Changed (answer.Added n) ≡ (break_effect places w b).0
added_0 places w b n there e = ap (λ (p : OnBreaks). p.0) (sym (by_place places w b (Some n) there (sym e)))

pub added_1 : (places set : List (Option Breakpoint)) (w : World) (b : Breakpoint) (n : ℕ) → is_there w b ≡ true → Some n ≡ lowest_free places → set ≡ slice_set places n (Some b) → set ≡ (break_effect places w b).1
added_1 places set w b n there e is = is ∙ ap (λ (p : OnBreaks). p.1) (sym (by_place places w b (Some n) there (sym e)))

pub full_0 : (places : List (Option Breakpoint)) (w : World) (b : Breakpoint) → is_there w b ≡ true → None ≡ lowest_free places → Refused BreaksFull ≡ (break_effect places w b).0
full_0 places w b there e = ap (λ (p : OnBreaks). p.0) (sym (by_place places w b None there (sym e)))

pub full_1 : (places set : List (Option Breakpoint)) (w : World) (b : Breakpoint) → is_there w b ≡ true → None ≡ lowest_free places → set ≡ places → set ≡ (break_effect places w b).1
full_1 places set w b there e is = is ∙ ap (λ (p : OnBreaks). p.1) (sym (by_place places w b None there (sym e)))

pub ruleset adding = (added_0, added_1, full_0, full_1)
