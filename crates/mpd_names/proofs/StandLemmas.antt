-- Where a rank stands, by what it is doing, and at which line; and that a rank that isn't there has not ended.
use Rattle.std.proofs.Common.{◌≡◌, ℕ, ◌≤◌, Bool, true, false, length, Option, Some, None, slice_get, if◌then◌else◌, refl, sym, ap, ◌∙◌}
use Rattle.std.specs.Option.{option_and_then}
use Rattle.std.proofs.lemmas.Option.{slice_get_past}
use Rattle.mpd_model.specs.declared.call.Activity.{Activity}
use Rattle.mpd_model.specs.declared.call.Activity.TheVariants.{Running, Blocked, Trapped}
use Rattle.mpd_model.specs.script.Program.{Program}
use Rattle.mpd_model.specs.steps.World.{World, RankWorld, last_call}
use Rattle.mpd_model.specs.steps.Next.{can_wake}
use Rattle.mpd_model.specs.steps.Outcomes.{has_ended, ended_by as doing_ended}
use Rattle.mpd_names.specs.declared.place.PlacedCall.{PlacedCall}
use Rattle.mpd_names.specs.declared.place.Stands.{Stands}
use Rattle.mpd_names.specs.Placed.{rank_line, placed_call_of}
use Rattle.mpd_names.specs.Stand.{ended_by, rank_ended, line_by, line_at, stand, running, blocked, stands_by, stands_at, stands_of, line_of}

pub not_ended : (w : World) (p : ℕ) → length w.ranks ≤ p → false ≡ rank_ended w p
not_ended w p h = sym (ap ended_by (slice_get_past w.ranks p h))

pub ruleset absent = (not_ended)

-- ---- the line of one that stands so

running_line : (b : Bool) (line : ℕ) → line_of (running b line) ≡ (if b then None else Some line)
running_line true line = refl
running_line false line = refl

blocked_line : (b : Bool) (call : PlacedCall) → line_of (blocked b call) ≡ Some call.line
blocked_line true call = refl
blocked_line false call = refl

module _ (s : Program) (w : World) (p : ℕ) where
  line_doing : (r : RankWorld) (a : Activity) → r.activity ≡ a → line_of (stands_by s w p r a) ≡ (if has_ended r then None else Some (line_by s.lines w.board p r a))
  line_doing r Running is = running_line (has_ended r) (rank_line s.lines (Some r))
  line_doing r Blocked is =
      blocked_line (can_wake w p) (placed_call_of s w.board (last_call w.board p)) ∙ sym (ap (λ a. if doing_ended a r.rest then None else Some (line_by s.lines w.board p r Blocked)) is)
  line_doing r (Trapped t) is = sym (ap (λ a. if doing_ended a r.rest then None else Some (line_by s.lines w.board p r (Trapped t))) is)

  line_there : (o : Option RankWorld) → option_and_then line_of (stands_at s w p o) ≡ (if ended_by o then None else line_at s.lines w.board p o)
  line_there None = refl
  line_there (Some r) = line_doing r r.activity refl

  pub nowhere : (o : Option Stands) → o ≡ stands_of s w p → o ≡ None → None ≡ stand s w p
  nowhere o e none = ap (option_and_then line_of) (sym none ∙ e) ∙ line_there (slice_get w.ranks p)

  pub somewhere : (o : Option Stands) (x : Stands) (line : Option ℕ) → o ≡ stands_of s w p → o ≡ Some x → line ≡ line_of x → line ≡ stand s w p
  somewhere o x line e some is = is ∙ ap (option_and_then line_of) (sym some ∙ e) ∙ line_there (slice_get w.ranks p)

pub ruleset lined = (nowhere, somewhere)
