-- What an engine of frames has read and written, by what it answers.
use Rattle.std.specs.Prelude.{◌≡◌, ℕ, ◌+◌, ◌*◌, ◌<◌, ◌≤◌, Bool, true, false, List, [], length, Result, Ok, Err}
use Rattle.std.specs.Io.KnownBytes.{Consumes, IsAtEnd}
use Rattle.mpd_model.specs.devices.Seen.{SourceSeen, SinkSeen}
use Rattle.mpd_lines.specs.declared.engine.EngineFault.TheVariants.{ReadFailed, WriteFailed, TooManyTurns, Memory}
use Rattle.mpd_frames.specs.Frames.{IsPartial, IsFaulty, IsUnkept}
use Rattle.mpd_frames.specs.Answered.{Told, BrokenOff}
use Rattle.mpd_frames.specs.declared.fault.StreamFault.{StreamFault}
use Rattle.mpd_frames.specs.declared.fault.StreamFault.TheVariants.{Engine, Frame, CutOff, BodyMemory}
use Rattle.mpd_frames.specs.declared.engine.Ending.{Ending}
use Rattle.mpd_frames.specs.declared.engine.Ending.TheVariants.{InputEnded, DeskOver}

-- these bytes were read, by reads of 4,096 bytes at most, of which so many gave none
pub record Took (turns ends : ℕ) (s t : SourceSeen) (read : List ℕ) : Type 0 where
  pub consumed : Consumes s.remaining t.remaining read
  pub most : length read ≤ 4096 * turns
  pub ends_more : t.ends ≡ s.ends + ends

-- The desk d is asked the bodies of the frames, and is e then.
-- At the end of the input all was frames, and all were answered; or the desk has taken its last message: what was read after that is lost.
-- Whatever else ends it, all whole frames before were answered. Where a write failed, the answers before that one were written.
-- Where memory for the buffers is refused, nothing was read or written, and the desk is as before.
abbrev pub Served : {D : Type 0} → (D → List ℕ → List ℕ → D → Type 0) → (D → Bool) → D → ℕ → SourceSeen → SourceSeen → SinkSeen → SinkSeen → D → Result Ending StreamFault → Type 0
Served answers over d turns s t v w e (Ok InputEnded) =
    (read : List ℕ) × Took turns 1 s t read × IsAtEnd t.remaining × Told answers d read [] v.contents w.contents e × (over e ≡ false)
Served answers over d turns s t v w e (Ok DeskOver) =
    (read : List ℕ) × (rest : List ℕ) × Took turns 0 s t read × Told answers d read rest v.contents w.contents e × (over e ≡ true)
Served answers over d turns s t v w e (Err CutOff) =
    (read : List ℕ) × (rest : List ℕ) × Took turns 1 s t read × IsAtEnd t.remaining × Told answers d read rest v.contents w.contents e × IsPartial rest × (0 < length rest)
Served answers over d turns s t v w e (Err (Frame fault)) =
    (read : List ℕ) × (rest : List ℕ) × Took turns 0 s t read × Told answers d read rest v.contents w.contents e × IsFaulty rest fault
Served answers over d turns s t v w e (Err BodyMemory) =
    (read : List ℕ) × (rest : List ℕ) × Took turns 0 s t read × Told answers d read rest v.contents w.contents e × IsUnkept rest
Served answers over d turns s t v w e (Err (Engine ReadFailed)) =
    (read : List ℕ) × (rest : List ℕ) × Took turns 0 s t read × Told answers d read rest v.contents w.contents e × IsPartial rest
Served answers over d turns s t v w e (Err (Engine WriteFailed)) =
    (read : List ℕ) × (rest : List ℕ) × Took turns 0 s t read × BrokenOff answers d read rest v.contents w.contents e
Served answers over d turns s t v w e (Err (Engine TooManyTurns)) =
    (read : List ℕ) × (rest : List ℕ) × Took turns 0 s t read × Told answers d read rest v.contents w.contents e × IsPartial rest × (turns ≤ length read) × (t.calls ≡ s.calls + turns)
Served answers over d turns s t v w e (Err (Engine Memory)) = (t ≡ s) × (w ≡ v) × (e ≡ d)
