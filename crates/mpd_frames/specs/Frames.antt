-- Which frames some bytes are, and what is left of them.
use Rattle.std.specs.Prelude.{◌≡◌, ◌<◌, ◌≤◌, ◌⊎◌, ℕ, List, [], ◌∷◌, ◌++◌, length, Ok, Err}
use Rattle.mpd_frames.specs.Header.{IsHeader, IsOpen, length_of}
use Rattle.mpd_frames.specs.declared.limits.TheConstants.{HEADER_MAX, BODY_ROOM}
use Rattle.mpd_frames.specs.declared.fault.FrameFault.{FrameFault}
use Rattle.mpd_frames.specs.declared.fault.FrameFault.TheVariants.{HeaderTooLong}

-- a header, and a body of as many bytes as that says
pub record IsFrame (header body : List ℕ) : Type 0 where
  pub is_header : IsHeader header
  pub length_is : length_of header ≡ Ok (length body)

-- the input begins with frames that have these bodies, one right after another, and then the rest follows
abbrev pub Frames : List ℕ → List (List ℕ) → List ℕ → Type 0
Frames input [] rest = input ≡ rest
Frames input (body ∷ bodies) rest = (header : List ℕ) × (after : List ℕ) × (input ≡ header ++ (body ++ after)) × IsFrame header body × Frames after bodies rest

-- a header that has not ended yet, and still may
pub record IsBegun (rest : List ℕ) : Type 0 where
  pub short : length rest < HEADER_MAX
  pub open_yet : IsOpen rest

-- a header, and fewer bytes than the body has
pub record IsWanting (header body : List ℕ) : Type 0 where
  pub is_header : IsHeader header
  pub size : ℕ
  pub length_is : length_of header ≡ Ok size
  pub fewer : length body < size

-- less than a frame, and it may become one; no byte is the least
abbrev pub IsPartial : List ℕ → Type 0
IsPartial rest = IsBegun rest ⊎ ((header : List ℕ) × (body : List ℕ) × (rest ≡ header ++ body) × IsWanting header body)

-- no frame begins so: as many bytes as a header may have, and no empty line among them; or a header that gives no right length
abbrev pub IsFaulty : List ℕ → FrameFault → Type 0
IsFaulty rest fault =
    ((front : List ℕ) × (more : List ℕ) × (rest ≡ front ++ more) × (fault ≡ HeaderTooLong) × (length front ≡ HEADER_MAX) × IsOpen front)
    ⊎ ((header : List ℕ) × (more : List ℕ) × (rest ≡ header ++ more) × IsHeader header × (length_of header ≡ Err fault))

-- a body that had filled the room that is kept for one, and was refused more
abbrev pub IsUnkept : List ℕ → Type 0
IsUnkept rest = (header : List ℕ) × (body : List ℕ) × (more : List ℕ) × (rest ≡ header ++ (body ++ more)) × IsWanting header body × (BODY_ROOM ≤ length body)

-- there is no further frame in it
abbrev pub IsStopped : List ℕ → Type 0
IsStopped rest = IsPartial rest ⊎ ((fault : FrameFault) × IsFaulty rest fault)
