-- Where the header of a frame ends, and which length it gives the body.
use Rattle.std.specs.Prelude.{◌≡◌, ◌<◌, ◌≤◌, ℕ, Bool, true, false, ◌&&◌, ◌||◌, ◌==◌, nat_le, bytes_eq, if◌then◌else◌, List, [], ◌∷◌, ◌++◌, length, map, take, drop, Option, Some, None, Result, Ok, Err, codes}
use Rattle.std.specs.List.{ends_with, flat_map}
use Rattle.std.specs.Char.{to_ascii_lowercase}
use Rattle.mpd_model.specs.texts.Words.{words, number_of}
use Rattle.mpd_frames.specs.declared.limits.TheConstants.{HEADER_MAX, BODY_MAX}
use Rattle.mpd_frames.specs.declared.fault.FrameFault.{FrameFault}
use Rattle.mpd_frames.specs.declared.fault.FrameFault.TheVariants.{NoLength, TwoLengths, BadLength, BodyTooLong}

-- ---- where a header ends

-- a carriage return and a line feed, which end a line
abbrev pub BREAK : List ℕ
BREAK = 13 ∷ 10 ∷ []

-- the last of these lines is empty: each line is ended by a break, and an empty one is a break alone
abbrev pub is_ended : List ℕ → Bool
is_ended h = bytes_eq h BREAK || ends_with ◌==◌ h (BREAK ++ BREAK)

-- no line among these bytes is an empty one
abbrev pub IsOpen : List ℕ → Type 0
IsOpen h = (k : ℕ) → is_ended (take k h) ≡ false

-- lines up to the first that is empty
pub record IsHeader (h : List ℕ) : Type 0 where
  pub short : length h ≤ HEADER_MAX
  pub ended : is_ended h ≡ true
  pub first : (k : ℕ) → k < length h → is_ended (take k h) ≡ false

-- ---- the lines of a header

-- a byte before the first of some lines
abbrev pub grown : ℕ → List (List ℕ) → List (List ℕ)
grown b [] = []
grown b (l ∷ ls) = (b ∷ l) ∷ ls

abbrev pub is_break : ℕ → ℕ → Bool
is_break b c = (b == 13) && (c == 10)

-- what stands before the first break, between two, and after the last
abbrev pub lines : List ℕ → List (List ℕ)
lines [] = [] ∷ []
lines (b ∷ []) = (b ∷ []) ∷ []
lines (b ∷ c ∷ z) = if is_break b c then [] ∷ lines z else grown b (lines (c ∷ z))

-- ---- the length of the body

-- how a line begins that gives it, in letters of either case
abbrev pub NAME : List ℕ
NAME = codes "content-length:"

abbrev pub is_length : List ℕ → Bool
is_length l = bytes_eq (map to_ascii_lowercase (take 15 l)) NAME

abbrev pub within : Option ℕ → Result ℕ FrameFault
within None = Err BadLength
within (Some n) = if nat_le n BODY_MAX then Ok n else Err BodyTooLong

-- a number of 1 to 7 digits, with blanks around it
abbrev pub length_in : List (List ℕ) → Result ℕ FrameFault
length_in [] = Err BadLength
length_in (w ∷ []) = if nat_le (length w) 7 then within (number_of w) else Err BadLength
length_in (w ∷ v ∷ ws) = Err BadLength

-- what a line gives, if it gives a length
abbrev pub lengths_of_line : List ℕ → List (Result ℕ FrameFault)
lengths_of_line l = if is_length l then length_in (words (drop 15 l)) ∷ [] else []

-- there is one length, and it is right
abbrev pub only_length : List (Result ℕ FrameFault) → Result ℕ FrameFault
only_length [] = Err NoLength
only_length (Err f ∷ ls) = Err f
only_length (Ok n ∷ []) = Ok n
only_length (Ok n ∷ l ∷ ls) = Err TwoLengths

abbrev pub length_of : List ℕ → Result ℕ FrameFault
length_of h = only_length (flat_map lengths_of_line (lines h))
