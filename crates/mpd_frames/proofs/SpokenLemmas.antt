-- An answer that is written.
use Rattle.std.proofs.Common.{◌≡◌, ℕ, Bool, false, List, [], ◌∷◌, ◌++◌, Result, Ok, Err, refl, arith}
use Rattle.std.specs.List.{flat_map}
use Rattle.mpd_model.specs.devices.Seen.{SinkSeen}
use Rattle.mpd_model.specs.declared.device.DeviceFault.{DeviceFault}
use Rattle.mpd_lines.specs.Gathering.{Written, Spoken}
use Rattle.mpd_lines.proofs.TellingLaws.{says_one, breaks_one}
use Rattle.mpd_frames.specs.Frame.{frame_text}
use Rattle.mpd_frames.specs.Answered.{Answers}

-- one message was answered, and its answer written
spoken_by : {D : Type 0} (A : D → List ℕ → List ℕ → D → Type 0) (d e : D) (body text : List ℕ) (v w : SinkSeen) (r : Result (Unit {0}) DeviceFault)
    → A d body text e → Written text v w r → Spoken A 1 d (body ∷ []) v w e r
spoken_by A d e body text v w (Ok u) a h = ((text, h.0, says_one A d e body text a), h.1)
spoken_by A d e body text v w (Err f) a h = (breaks_one A 1 d e body [] text text v.contents w.contents (omega arith) refl a h.0, h.1)

pub spoken_one : {D : Type 0} (says : D → List ℕ → List (List ℕ) → D → Type 0) (over : D → Bool) (d e : D) (body before out : List ℕ) (v w : SinkSeen) (r : Result (Unit {0}) DeviceFault)
    → before ≡ [] → over d ≡ false → ((told : List (List ℕ)) × (out ≡ before ++ flat_map frame_text told) × says d body told e) → Written out v w r
    → Spoken (Answers says over) 1 d (body ∷ []) v w e r
spoken_one says over d e body before out v w r none waiting said h =
    spoken_by (Answers says over) d e body out v w r (said.0, waiting, (rw none at said.1), said.2) h

pub ruleset speaking = (spoken_one)
