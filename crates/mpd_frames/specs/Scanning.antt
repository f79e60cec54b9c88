-- How a header is gone through: where its first line ends, and which length was given so far.
use Rattle.std.specs.Prelude.{ℕ, suc, ◌+◌, Bool, slice_index_or, if◌then◌else◌, List, [], ◌∷◌, Option, Some, None, Result, Ok, Err}
use Rattle.mpd_frames.specs.Header.{is_break, lengths_of_line}
use Rattle.mpd_frames.specs.declared.fault.FrameFault.{FrameFault}
use Rattle.mpd_frames.specs.declared.fault.FrameFault.TheVariants.{NoLength, TwoLengths}

-- a break begins at a place
abbrev pub breaks_at : List ℕ → ℕ → Bool
breaks_at z i = is_break (slice_index_or z i 0) (slice_index_or z (i + 1) 0)

-- how many bytes stand before the first break, or all
abbrev pub break_len : List ℕ → ℕ
break_len [] = 0
break_len (b ∷ []) = 1
break_len (b ∷ c ∷ z) = if is_break b c then 0 else suc (break_len (c ∷ z))

-- what was given so far, if anything, and what a line more gives
abbrev pub step_by : Option ℕ → List (Result ℕ FrameFault) → Result (Option ℕ) FrameFault
step_by found [] = Ok found
step_by None (Ok n ∷ ls) = Ok (Some n)
step_by None (Err f ∷ ls) = Err f
step_by (Some m) (l ∷ ls) = Err TwoLengths

abbrev pub step : Option ℕ → List ℕ → Result (Option ℕ) FrameFault
step found line = step_by found (lengths_of_line line)

-- the length that was given, if no line is left
abbrev pub taken_none : Option ℕ → Result ℕ FrameFault
taken_none None = Err NoLength
taken_none (Some n) = Ok n

-- what was given so far, and what these lines give
abbrev pub taken : Option ℕ → List (List ℕ) → Result ℕ FrameFault
taken found [] = taken_none found
taken found (l ∷ ls) = elim (step found l) [ Ok f ↦ taken f ls | Err fault ↦ Err fault ]
