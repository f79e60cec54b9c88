-- The modes as words.
use Rattle.std.specs.Prelude.{ℕ, List, [], ◌∷◌, ◌++◌, codes, Bool, ◌&&◌, length, nat_le, Option, Some, None, option_and_then, if◌then◌else◌, bytes_eq, take, drop}
use Rattle.std.specs.Fmt.{decimal}
use Rattle.mpd_model.specs.declared.call.Mode.{Mode}
use Rattle.mpd_model.specs.declared.call.Mode.TheVariants.{Rendezvous, Buffered, Slots}
use Rattle.mpd_model.specs.declared.limits.TheConstants.{SLOTS_MAX}
use Rattle.mpd_model.specs.texts.Words.{is_number, digits_value}

-- the word of a mode without a number
abbrev pub rendezvous_word : List ℕ
rendezvous_word = codes "rendezvous"

abbrev pub buffered_word : List ℕ
buffered_word = codes "buffered"

-- what stands before the number of slots
abbrev pub slots_word : List ℕ
slots_word = codes "slots:"

-- the word of a mode
abbrev pub mode_word : Mode → List ℕ
mode_word Rendezvous = rendezvous_word
mode_word Buffered = buffered_word
mode_word (Slots count) = slots_word ++ decimal count

-- a number of slots: 1 to 5 digits, at most `SLOTS_MAX`
abbrev pub is_slot_count : List ℕ → Bool
is_slot_count digits = nat_le (length digits) 5 && (is_number digits && nat_le (digits_value 0 digits) SLOTS_MAX)

abbrev pub slots_of : List ℕ → Option Mode
slots_of digits = if is_slot_count digits then Some (Slots (digits_value 0 digits)) else None

abbrev pub limited_of : List ℕ → Option Mode
limited_of text = if bytes_eq (take 6 text) slots_word then slots_of (drop 6 text) else None

-- the mode whose word this is, if it is one's
abbrev pub mode_of : List ℕ → Option Mode
mode_of text =
    if bytes_eq text rendezvous_word then Some Rendezvous
    else (if bytes_eq text buffered_word then Some Buffered else limited_of text)
