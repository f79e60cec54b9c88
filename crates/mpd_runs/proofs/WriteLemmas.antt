-- What is told of a run from a script's start, and what is written of it. What comes next in a state is told by a function.
use Rattle.std.proofs.Common.{◌≡◌, ℕ, List, Some, None, Result, Ok, Err, ap, sym, ◌∙◌}
use Rattle.mpd_model.specs.declared.call.Mode.{Mode}
use Rattle.mpd_model.specs.declared.step.Step.{Step}
use Rattle.mpd_model.specs.declared.decision.Decision.{Decision}
use Rattle.mpd_model.specs.script.Program.{Program}
use Rattle.mpd_model.specs.steps.World.{World, start}
use Rattle.mpd_model.specs.runs.Trail.{Standing, first_standing}
use Rattle.mpd_model.specs.devices.Seen.{SinkSeen}
use Rattle.mpd_policy.specs.Walk.{Run, run_by}
use Rattle.mpd_lines.specs.declared.engine.EngineFault.TheVariants.{ReadFailed, WriteFailed, TooManyTurns, Memory}
use Rattle.mpd_runs.specs.declared.fault.WordsFault.{WordsFault}
use Rattle.mpd_runs.specs.declared.fault.WordsFault.TheVariants as words
use Rattle.mpd_runs.specs.declared.fault.WriteFault.{WriteFault}
use Rattle.mpd_runs.specs.declared.fault.WriteFault.TheVariants.{BadChoices, Engine}
use Rattle.mpd_runs.specs.Place.{bad_place}
use Rattle.mpd_runs.specs.Led.{Led}
use Rattle.mpd_runs.specs.Written.{words_text, Put, WroteWords}

-- ---- from the start

begun : (s : Program) (mode : Mode) (d : Standing) → d ≡ first_standing s mode → d.world ≡ start s mode
begun s mode d is = ap (λ (x : Standing). x.world) is

module _ (decide : World → Decision) where
  abbrev IsTold : Program → Mode → ℕ → List ℕ → List ℕ → Type 0
  IsTold s mode fuel cs text = (r : Run) × (run_by decide fuel cs (start s mode) ≡ Some r) × (text ≡ words_text r.steps)

  pub told_there : (s : Program) (mode : Mode) (d : Standing) (fuel : ℕ) (cs text : List ℕ) (steps : List Step) → d ≡ first_standing s mode → Led decide fuel cs d.world (Ok steps) → text ≡ words_text steps → (r : Run) × (run_by decide fuel cs (start s mode) ≡ Some r) × (text ≡ words_text r.steps)
  told_there s mode d fuel cs text steps is led t = (led.0, ap (run_by decide fuel cs) (sym (begun s mode d is)) ∙ led.1, t ∙ ap words_text led.2)

  pub told_nowhere : (s : Program) (mode : Mode) (d : Standing) (fuel place : ℕ) (cs : List ℕ) (e : WordsFault) → d ≡ first_standing s mode → Led decide fuel cs d.world (Err e) → e ≡ words.BadChoices place
      → (run_by decide fuel cs (start s mode) ≡ None) × (bad_place decide fuel 0 cs (start s mode) ≡ Some place)
  told_nowhere s mode d fuel place cs (words.BadChoices at) is led e =
      let same : at ≡ place = cc in
      (ap (run_by decide fuel cs) (sym (begun s mode d is)) ∙ led.0, ap (bad_place decide fuel 0 cs) (sym (begun s mode d is)) ∙ led.1 ∙ ap Some same)
  told_nowhere s mode d fuel place cs words.Memory is led e = absurd (let x : ⊥ = cc in x)

  -- ---- to a sink

  pub put_words : (s : Program) (mode : Mode) (fuel : ℕ) (cs text : List ℕ) (old new : SinkSeen) (r : Result (Unit {0}) WriteFault) → IsTold s mode fuel cs text → Put text old new r → WroteWords decide s mode fuel cs old new r
  put_words s mode fuel cs text old new (Ok u) t h = (t.0, t.1, rw t.2 at h)
  put_words s mode fuel cs text old new (Err (BadChoices place)) t h = absurd h
  put_words s mode fuel cs text old new (Err (Engine WriteFailed)) t h = (t.0, t.1, rw t.2 at h)
  put_words s mode fuel cs text old new (Err (Engine Memory)) t h = absurd h
  put_words s mode fuel cs text old new (Err (Engine ReadFailed)) t h = h
  put_words s mode fuel cs text old new (Err (Engine TooManyTurns)) t h = h

pub ruleset telling = (told_there, told_nowhere)

pub ruleset writing = (put_words)
