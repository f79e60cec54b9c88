-- What was gathered is written in the end.
use Rattle.std.proofs.Common.{◌≡◌, ℕ, ◌+◌, ◌<◌, Bool, true, false, List, [], ◌++◌, length, Result, Ok, Err, refl, ap, sym, ◌∙◌, append-nil, arith}
use Rattle.mpd_model.specs.devices.Seen.{SinkSeen}
use Rattle.mpd_model.specs.declared.device.DeviceFault.{DeviceFault}
use Rattle.mpd_lines.specs.Gathering.{Gathered, Written, Spoken}
use Rattle.mpd_lines.proofs.SentLaws.{appends_append}
use Rattle.mpd_lines.specs.Telling.{waiting_below}
use Rattle.mpd_lines.proofs.TellingLaws.{says_along, breaks_none, breaks_behind, breaks_along}

-- nothing waits
pub none_waits : (gathers : Bool) (out : List ℕ) → out ≡ [] → length out < waiting_below gathers
none_waits true out none = let same = ap length none in omega (arith, same)
none_waits false out none = let same = ap length none in omega (arith, same)

-- what was gathered, and then written
pub spoken_all : {D : Type 0} (A : D → List ℕ → List ℕ → D → Type 0) (below : ℕ) (d e : D) (ls : List (List ℕ)) (v0 v1 v2 : SinkSeen) (o0 o1 : List ℕ) (r : Result (Unit {0}) DeviceFault)
    → o0 ≡ [] → Gathered A below d ls v0 o0 v1 o1 e (Ok _) → Written o1 v1 v2 r → Spoken A below d ls v0 v2 e r
spoken_all A below d e ls v0 v1 v2 o0 o1 (Ok u) none g h =
    let is : g.0.1 ++ o1 ≡ g.0.0 = g.0.2 ∙ ap (λ x. x ++ g.0.0) none in
    ((g.0.1 ++ o1, appends_append v0.contents v1.contents v2.contents g.0.1 o1 g.0.3 h.0, says_along A d e ls g.0.0 (g.0.1 ++ o1) (sym is) g.0.4), h.1 ∙ g.1)
spoken_all A below d e ls v0 v1 v2 o0 o1 (Err f) none g h = (
  breaks_along A below d e (ls ++ []) ls v0.contents v2.contents o0 [] (append-nil ls) none
      (breaks_behind A below d e e ls [] v0.contents v1.contents v2.contents o0 o1 g.0 (breaks_none A below e v1.contents v2.contents o1 g.2 h.0)),
  h.1 ∙ ap (λ n. n + 1) g.1,
)

-- a write failed while they were gathered
pub spoken_part : {D : Type 0} (A : D → List ℕ → List ℕ → D → Type 0) (below : ℕ) (d e : D) (ls : List (List ℕ)) (v w : SinkSeen) (o0 o1 : List ℕ) (f : DeviceFault)
    → o0 ≡ [] → Gathered A below d ls v o0 w o1 e (Err f) → Spoken A below d ls v w e (Err f)
spoken_part A below d e ls v w o0 o1 f none g = (breaks_along A below d e ls ls v.contents w.contents o0 [] refl none g.0, g.1)

pub ruleset speaking = (none_waits, spoken_all, spoken_part)
