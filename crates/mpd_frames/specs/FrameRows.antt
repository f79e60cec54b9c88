-- Worked rows of headers and frames. What is wanted was worked out by hand.
use Rattle.std.specs.Prelude.{◌≡◌, ℕ, Bool, true, false, List, [], ◌∷◌, ◌++◌, map, Result, Ok, Err, codes, refl}
use Rattle.std.specs.List.{flat_map}
use Rattle.mpd_frames.specs.Header.{BREAK, is_ended, lines, length_of}
use Rattle.mpd_frames.specs.declared.fault.FrameFault.{FrameFault}
use Rattle.mpd_frames.specs.declared.fault.FrameFault.TheVariants.{NoLength, TwoLengths, BadLength, BodyTooLong}

-- these lines, and an empty one
abbrev header : List (List ℕ) → List ℕ
header ls = flat_map (λ l. l ++ BREAK) ls ++ BREAK

-- an empty line alone; one after a line; a line; a line feed alone is no break; a byte more
pub row_ended : map {B = Bool} is_ended (BREAK ∷ (codes "a" ++ BREAK ++ BREAK) ∷ (codes "a" ++ BREAK) ∷ (codes "a" ++ 10 ∷ 10 ∷ []) ∷ (BREAK ++ codes "a") ∷ [] ∷ [])
    ≡ true ∷ true ∷ false ∷ false ∷ false ∷ false ∷ []
row_ended = refl

pub row_lines : map {B = List (List ℕ)} lines ([] ∷ (codes "a" ++ BREAK ++ codes "b") ∷ (13 ∷ 13 ∷ 10 ∷ []) ∷ (10 ∷ 13 ∷ []) ∷ [])
    ≡ ([] ∷ []) ∷ (codes "a" ∷ codes "b" ∷ []) ∷ ((13 ∷ []) ∷ [] ∷ []) ∷ ((10 ∷ 13 ∷ []) ∷ []) ∷ []
row_lines = refl

pub row_lengths : map {B = Result ℕ FrameFault} (λ ls. length_of (header ls))
    ((codes "Content-Length: 5" ∷ []) ∷ (codes "X: y" ∷ codes "CONTENT-length:  0000012 " ∷ []) ∷ [] ∷ (codes "Content-Length : 5" ∷ []) ∷ (codes "Content-Length: 5" ∷ codes "Content-Length: 5" ∷ [])
    ∷ (codes "Content-Length: 00000005" ∷ []) ∷ (codes "Content-Length: 5 5" ∷ []) ∷ (codes "Content-Length:" ∷ []) ∷ (codes "Content-Length: 1048576" ∷ []) ∷ (codes "Content-Length: 1048577" ∷ []) ∷ [])
    ≡ Ok 5 ∷ Ok 12 ∷ Err NoLength ∷ Err NoLength ∷ Err TwoLengths ∷ Err BadLength ∷ Err BadLength ∷ Err BadLength ∷ Ok 1048576 ∷ Err BodyTooLong ∷ []
row_lengths = refl
