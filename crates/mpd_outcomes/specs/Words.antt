-- What a key tells of calls, word by word. Where a list of words ends is told by its own words, so that lists can stand after one
-- another.
use Rattle.std.specs.Prelude.{ℕ, ◌-◌, ◌^◌, nat_lt, ℤ, pos, negsuc, Bool, true, false, if◌then◌else◌, List, [], ◌∷◌, ◌++◌, length, Option, Some, None, is_some}
use Rattle.mpd_model.specs.declared.step.CallId.{CallId}
use Rattle.mpd_model.specs.declared.call.CallKind.{CallKind}
use Rattle.mpd_model.specs.declared.call.CallKind.TheVariants.{Send, Recv, Wait, Waitany, Barrier}
use Rattle.mpd_model.specs.declared.call.StatusCells.{StatusCells}
use Rattle.mpd_model.specs.declared.call.Message.{Message}
use Rattle.mpd_model.specs.declared.call.Trap.{Trap}
use Rattle.mpd_model.specs.declared.call.Trap.TheVariants.{Overflow, ZeroDivisor, BadRank, BadTag, BadIndex, Assertion}
use Rattle.mpd_model.specs.declared.call.Activity.{Activity}
use Rattle.mpd_model.specs.declared.call.Activity.TheVariants.{Running, Blocked, Trapped}
use Rattle.mpd_model.specs.steps.World.{Board, kind_at, partner, buffer}
use Rattle.mpd_outcomes.specs.Future.{still_asked}

-- a number of any size as one word: below 2^63 it is itself, and from there on it is counted down from -1
unfoldable pub number_word : ℕ → ℤ
number_word n = if nat_lt n (2 ^ 63) then pos n else negsuc (n - 2 ^ 63)

abbrev pub flag_word : Bool → ℤ
flag_word false = pos 0
flag_word true = pos 1

-- a number that may be missing, as two words
abbrev pub number_or_zero : Option ℕ → ℤ
number_or_zero None = pos 0
number_or_zero (Some n) = number_word n

-- a list after its length
abbrev pub sized : List ℤ → List ℤ
sized xs = number_word (length xs) ∷ xs

-- ---- calls

-- the two cells of a status, 0 where there are none
abbrev pub source_word : Option StatusCells → ℤ
source_word None = pos 0
source_word (Some c) = number_word c.source

abbrev pub tag_word : Option StatusCells → ℤ
tag_word None = pos 0
tag_word (Some c) = number_word c.tag

abbrev pub kind_words : CallKind → List ℤ
kind_words (Send s) = pos 1 ∷ number_word s.to ∷ number_word s.tag ∷ s.value ∷ flag_word s.synchronous ∷ flag_word s.blocks ∷ flag_word s.buffered ∷ []
kind_words (Recv r) =
    pos 2 ∷ flag_word (is_some r.from) ∷ number_or_zero r.from ∷ flag_word (is_some r.tag) ∷ number_or_zero r.tag ∷ number_word r.cell
    ∷ flag_word (is_some r.status) ∷ source_word r.status ∷ tag_word r.status ∷ flag_word r.blocks ∷ []
kind_words (Wait t) = pos 3 ∷ number_word t.handle ∷ flag_word (is_some t.target) ∷ number_or_zero t.target ∷ []
kind_words (Waitany a) = pos 4 ∷ number_word a.first ∷ number_word a.count ∷ number_word a.cell ∷ flag_word a.active ∷ []
kind_words Barrier = pos 5 ∷ []

-- what a call asks for, if anything
abbrev pub asked_words : Option CallKind → List ℤ
asked_words None = pos 0 ∷ []
asked_words (Some kind) = kind_words kind

-- what a receive writes that got a message: the cells, and what goes there
abbrev pub received_words : ℕ → Option StatusCells → Message → List ℤ
received_words cell None m = pos 1 ∷ number_word cell ∷ m.value ∷ []
received_words cell (Some c) m = pos 2 ∷ number_word cell ∷ m.value ∷ number_word c.source ∷ number_word m.source ∷ number_word c.tag ∷ number_word m.tag ∷ []

abbrev pub writes_words : Option CallKind → Option Message → List ℤ
writes_words (Some (Recv r)) (Some m) = received_words r.cell r.status m
writes_words kind message = pos 0 ∷ []

-- what a rank may still learn of a call, which is paired or not
abbrev pub learnt_words : Bool → Option CallKind → Option Message → List ℤ
learnt_words paired kind message = asked_words (still_asked paired kind) ++ flag_word paired ∷ writes_words kind message

abbrev pub seen_words : Board → CallId → List ℤ
seen_words b c = learnt_words (is_some (partner b.sets c)) (kind_at b c) (buffer b c)

-- ---- ranks

abbrev pub trap_word : Trap → ℤ
trap_word Overflow = pos 2
trap_word ZeroDivisor = pos 3
trap_word BadRank = pos 4
trap_word BadTag = pos 5
trap_word BadIndex = pos 6
trap_word Assertion = pos 7

abbrev pub activity_word : Activity → ℤ
activity_word Running = pos 0
activity_word Blocked = pos 1
activity_word (Trapped t) = trap_word t
