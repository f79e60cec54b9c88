-- What a line of a view is answered, put together from what its parts ensure.
use Rattle.std.proofs.Common.{◌≡◌, ℕ, ◌<◌, ◌⊎◌, List, [], ◌++◌, length, refl, ap, sym, ◌∙◌, inl, inr}
use Rattle.mpd_model.specs.declared.limits.TheConstants.{LINE_MAX}
use Rattle.mpd_model.specs.runs.Trail.{IsReached, world_of}
use Rattle.mpd_trail.specs.DebuggerViews.{DebuggerView, standing_of}
use Rattle.mpd_session.specs.Held.{Held}
use Rattle.mpd_console.specs.Says.{Console, ConsoleSays, Adds}
use Rattle.mpd_view.specs.declared.sight.Sight.{Sight}
use Rattle.mpd_view.specs.Sights.{sight_of, IsSeen}
use Rattle.mpd_view.specs.Says.{View, ViewSays, memory_line}

-- ---- what is shown

pub seen_of : (s : Held) (d : DebuggerView) (x : Sight) → IsReached (standing_of d) → d.trail ≡ s.trail → x ≡ sight_of d.trail d.world → IsSeen s x
seen_of s d x r e is = (d.world, ap world_of (sym e) ∙ r.world, is ∙ ap (λ t. sight_of t d.world) e)

pub ruleset seeing = (seen_of)

-- ---- what is typed

pub typed : (d e : Console) (z before after : List ℕ) → (text : List ℕ) × (after ≡ before ++ text) × ConsoleSays d z text e → ConsoleSays d z after e
typed d e z before after (text, h, told) = told

pub typed_long : (d e : Console) (before after : List ℕ) → (text : List ℕ) × (after ≡ before ++ text) × ((line : List ℕ) → LINE_MAX < length line → ConsoleSays d line text e)
    → (line : List ℕ) → LINE_MAX < length line → ConsoleSays d line after e
typed_long d e before after (text, h, told) line long = told line long

pub ruleset typing = (typed, typed_long)

-- ---- lines

pub answered : (d e : View) (z told before after : List ℕ) → e ≡ record d { console = e.console } → ConsoleSays d.console z told e.console → Adds before after
    → (text : List ℕ) × (after ≡ before ++ text) × ViewSays d z text e
answered d e z told before after same says (text, h) = (text, h, (same, inl says))

pub refused : (d e : View) (z before after : List ℕ) → e ≡ record d { console = e.console } → e.console ≡ d.console → after ≡ before ++ memory_line → (text : List ℕ) × (after ≡ before ++ text) × ViewSays d z text e
refused d e z before after same held h = (memory_line, h, (same, inr (held, refl)))

pub answered_long : (d e : View) (told before after : List ℕ) → e ≡ record d { console = e.console } → ((line : List ℕ) → LINE_MAX < length line → ConsoleSays d.console line told e.console) → Adds before after
    → (text : List ℕ) × (after ≡ before ++ text) × ((line : List ℕ) → LINE_MAX < length line → ViewSays d line text e)
answered_long d e told before after same says (text, h) = (text, h, λ line long. (same, inl (says line long)))

pub refused_long : (d e : View) (before after : List ℕ) → e ≡ record d { console = e.console } → e.console ≡ d.console → after ≡ before ++ memory_line
    → (text : List ℕ) × (after ≡ before ++ text) × ((line : List ℕ) → LINE_MAX < length line → ViewSays d line text e)
refused_long d e before after same held h = (memory_line, h, λ line long. (same, inr (held, refl)))

pub ruleset answering = (answered, refused, answered_long, refused_long)
