-- What a desk was asked, and what was written of its answers.
use Rattle.std.specs.Prelude.{◌≡◌, ℕ, Bool, false, List, [], Option}
use Rattle.std.specs.List.{flat_map}
use Rattle.mpd_lines.specs.Telling.{Tells, BreaksOff}
use Rattle.mpd_frames.specs.Frame.{frame_text}
use Rattle.mpd_frames.specs.Frames.{Frames}

-- the desk d, which still takes messages, answers this one with this text, which is of whole frames, and is e then
abbrev pub Answers : {D : Type 0} → (D → List ℕ → List (List ℕ) → D → Type 0) → (D → Bool) → D → List ℕ → List ℕ → D → Type 0
Answers says over d body text e = (told : List (List ℕ)) × (over d ≡ false) × (text ≡ flat_map frame_text told) × says d body told e

-- the input begins with frames; each of their bodies was answered, and the answers were written, and nothing else; the rest follows
pub record Told {D : Type 0} (answers : D → List ℕ → List ℕ → D → Type 0) (d : D) (input rest : List ℕ) (old new : Option (List ℕ)) (e : D) : Type 0 where
  pub bodies : List (List ℕ)
  pub frames : Frames input bodies rest
  pub told : Tells answers d bodies old new e

-- a write failed: the answers to all of these bodies that were asked but the last were written, and of that one a part
pub record BrokenOff {D : Type 0} (answers : D → List ℕ → List ℕ → D → Type 0) (d : D) (input rest : List ℕ) (old new : Option (List ℕ)) (e : D) : Type 0 where
  pub bodies : List (List ℕ)
  pub frames : Frames input bodies rest
  pub broken : BreaksOff answers 1 d bodies old [] new e
