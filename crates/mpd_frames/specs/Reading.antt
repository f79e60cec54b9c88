-- What the reader of frames holds of one that isn't whole.
use Rattle.std.specs.Prelude.{◌≡◌, ◌<◌, ℕ, List, [], ◌∷◌, ◌++◌, length, Option, Some, None, Result, Ok, Err}
use Rattle.mpd_frames.specs.Header.{IsHeader, length_of}
use Rattle.mpd_frames.specs.Frames.{IsBegun, IsFrame, IsFaulty, IsUnkept}
use Rattle.mpd_frames.specs.declared.fault.StreamFault.{StreamFault}
use Rattle.mpd_frames.specs.declared.fault.StreamFault.TheVariants.{Engine, Frame, CutOff, BodyMemory}
use Rattle.mpd_frames.specs.declared.reader.Added.{Added}
use Rattle.mpd_frames.specs.declared.reader.Added.TheVariants.{Within, Whole}

pub record Held : Type 0 where
  pub header : List ℕ
  -- how many bytes the body has, as soon as the header has ended
  pub wanted : Option ℕ
  pub body : List ℕ

-- the bytes that were read of it
abbrev pub held_bytes : Held → List ℕ
held_bytes h = h.header ++ h.body

abbrev pub nothing_held : Held
nothing_held = record { header = []; wanted = None; body = [] }

abbrev pub HoldsBy : Option ℕ → List ℕ → List ℕ → Type 0
HoldsBy None header body = (body ≡ []) × IsBegun header
HoldsBy (Some n) header body = IsHeader header × (length_of header ≡ Ok n) × (length body < n)

-- it isn't whole
abbrev pub Holds : Held → Type 0
Holds h = HoldsBy h.wanted h.header h.body

-- what one byte more has made of what was held
abbrev pub Adds : Held → ℕ → Held → Result Added StreamFault → Type 0
Adds p b q (Ok Within) = (held_bytes q ≡ held_bytes p ++ b ∷ []) × Holds q
Adds p b q (Ok Whole) = (held_bytes q ≡ held_bytes p ++ b ∷ []) × IsFrame q.header q.body
Adds p b q (Err (Frame fault)) = IsFaulty (held_bytes p ++ b ∷ []) fault
Adds p b q (Err BodyMemory) = IsUnkept (held_bytes p ++ b ∷ [])
Adds p b q (Err CutOff) = ⊥
Adds p b q (Err (Engine fault)) = ⊥

-- what was made of a header that has just ended
abbrev pub Ends : Held → Held → Result Added StreamFault → Type 0
Ends p q (Ok Within) = (held_bytes q ≡ held_bytes p) × Holds q
Ends p q (Ok Whole) = (held_bytes q ≡ held_bytes p) × IsFrame q.header q.body
Ends p q (Err (Frame fault)) = IsFaulty (held_bytes p) fault
Ends p q (Err BodyMemory) = ⊥
Ends p q (Err CutOff) = ⊥
Ends p q (Err (Engine fault)) = ⊥
