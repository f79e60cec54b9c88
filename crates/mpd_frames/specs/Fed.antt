-- What was made of some bytes: which frames were answered, and what is left.
use Rattle.std.specs.Prelude.{◌≡◌, ℕ, ◌+◌, Bool, true, false, List, ◌++◌, Result, Ok, Err}
use Rattle.mpd_model.specs.devices.Seen.{SinkSeen}
use Rattle.mpd_lines.specs.declared.engine.EngineFault.TheVariants.{ReadFailed, WriteFailed, TooManyTurns, Memory}
use Rattle.mpd_frames.specs.Frames.{IsFaulty, IsUnkept}
use Rattle.mpd_frames.specs.Answered.{Told, BrokenOff}
use Rattle.mpd_frames.specs.Reading.{Held, held_bytes, Holds}
use Rattle.mpd_frames.specs.declared.fault.StreamFault.{StreamFault}
use Rattle.mpd_frames.specs.declared.fault.StreamFault.TheVariants.{Engine, Frame, CutOff, BodyMemory}
use Rattle.mpd_frames.specs.declared.engine.Turn.{Turn}
use Rattle.mpd_frames.specs.declared.engine.Turn.TheVariants.{More, Over, End}

-- What was made of a piece that came after the bytes p; q is held then.
abbrev pub Fed : {D : Type 0} → (D → List ℕ → List ℕ → D → Type 0) → (D → Bool) → D → List ℕ → List ℕ → SinkSeen → SinkSeen → D → Held → Result Turn StreamFault → Type 0
Fed answers over d p z v w e q (Ok More) = Told answers d (p ++ z) (held_bytes q) v.contents w.contents e × (w.failures ≡ v.failures) × (over e ≡ false) × Holds q
Fed answers over d p z v w e q (Ok Over) = (rest : List ℕ) × Told answers d (p ++ z) rest v.contents w.contents e × (w.failures ≡ v.failures) × (over e ≡ true)
Fed answers over d p z v w e q (Ok End) = ⊥
Fed answers over d p z v w e q (Err (Frame fault)) = (rest : List ℕ) × Told answers d (p ++ z) rest v.contents w.contents e × (w.failures ≡ v.failures) × IsFaulty rest fault
Fed answers over d p z v w e q (Err BodyMemory) = (rest : List ℕ) × Told answers d (p ++ z) rest v.contents w.contents e × (w.failures ≡ v.failures) × IsUnkept rest
Fed answers over d p z v w e q (Err (Engine WriteFailed)) = (rest : List ℕ) × BrokenOff answers d (p ++ z) rest v.contents w.contents e × (w.failures ≡ v.failures + 1)
Fed answers over d p z v w e q (Err (Engine ReadFailed)) = ⊥
Fed answers over d p z v w e q (Err (Engine TooManyTurns)) = ⊥
Fed answers over d p z v w e q (Err (Engine Memory)) = ⊥
Fed answers over d p z v w e q (Err CutOff) = ⊥
