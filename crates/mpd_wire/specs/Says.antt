-- What a line is answered, and where that leaves the desk.
use Rattle.std.specs.Prelude.{◌≡◌, ℕ, suc, ◌+◌, ◌==◌, ◌<◌, ◌⊎◌, if◌then◌else◌, List, [], ◌∷◌, ◌++◌, length, codes, Result, Ok, Err}
use Rattle.serde_json.specs.Data.{object}
use Rattle.serde_json.specs.Written.{compact_text}
use Rattle.mpd_model.specs.declared.limits.TheConstants.{LINE_MAX}
use Rattle.mpd_model.specs.texts.Texts.{line}
use Rattle.mpd_session.specs.declared.request.Request.{Request}
use Rattle.mpd_wire.specs.declared.fault.WireFault.{WireFault}
use Rattle.mpd_wire.specs.declared.fault.WireFault.TheVariants as fault
use Rattle.mpd_session.specs.declared.reply.Reply.{Reply}
use Rattle.mpd_wire.specs.Replies.{members, refused, IsReplyLine}

-- the two lines that stand in the place of a reply: where memory is refused before the desk has taken the request, and after that
abbrev pub memory_line : List ℕ
memory_line = codes "{\"error\":\"memory\",\"ok\":false}\n"

abbrev pub unprinted_line : List ℕ
unprinted_line = codes "{\"error\":\"unprinted\",\"ok\":false}\n"

-- what answers where no session is asked: an object of the form of a refusal, with a name of its own
abbrev pub error_line : List ℕ → List ℕ
error_line name = line (compact_text (object (members (refused name))))

-- what answers a line that is no request
unfoldable pub fault_line : WireFault → List ℕ
fault_line fault.LineTooLong = error_line (codes "line-too-long")
fault_line fault.NotJson = error_line (codes "not-json")
fault_line fault.BadField = error_line (codes "bad-field")
fault_line fault.UnknownCommand = error_line (codes "unknown-command")
fault_line fault.Memory = memory_line

-- the line of a reply, or the one that stands in its place
abbrev pub Told : Reply → List ℕ → Type 0
Told r text = IsReplyLine r text ⊎ (text ≡ unprinted_line)

-- what answers a request that the desk has not taken: its history is full, or memory was refused
abbrev pub full_line : List ℕ
full_line = error_line (codes "history-full")

abbrev pub NotTaken : {D : Type 0} → (D → Type 0) → D → List ℕ → Type 0
NotTaken full d text = (full d × (text ≡ full_line)) ⊎ (text ≡ memory_line)

-- A request was asked. The desk has taken it, and replies; or it has not, and is as before.
abbrev pub Asked : {D : Type 0} → (D → Request → Reply → D → Type 0) → (D → Type 0) → D → Request → List ℕ → D → Type 0
Asked asks full d q text e = ((r : Reply) × asks d q r e × Told r text) ⊎ ((e ≡ d) × NotTaken full d text)

-- A line is a request, or isn't for this reason; or memory was refused, and the desk is as before.
abbrev pub Took : {D : Type 0} → (D → Request → Reply → D → Type 0) → (D → Type 0) → D → Result Request WireFault → List ℕ → D → Type 0
Took asks full d (Ok q) text e = Asked asks full d q text e ⊎ ((e ≡ d) × (text ≡ memory_line))
Took asks full d (Err f) text e = (e ≡ d) × ((text ≡ fault_line f) ⊎ (text ≡ memory_line))

-- Which request a line is, `is` says. An empty line is passed over; one that is too long is never answered as memory.
abbrev pub Says : {D : Type 0} → (List ℕ → Result Request WireFault) → (D → Request → Reply → D → Type 0) → (D → Type 0) → D → List ℕ → List ℕ → D → Type 0
Says is asks full d [] text e = (text ≡ []) × (e ≡ d)
Says is asks full d (b ∷ l) text e = Took asks full d (is (b ∷ l)) text e × (LINE_MAX < length (b ∷ l) → text ≡ fault_line fault.LineTooLong)

-- ---- the same, of what is added to a text

abbrev pub AddsTold : Reply → List ℕ → List ℕ → Type 0
AddsTold r before after = (text : List ℕ) × (after ≡ before ++ text) × Told r text

abbrev pub AddsAsked : {D : Type 0} → (D → Request → Reply → D → Type 0) → (D → Type 0) → D → Request → List ℕ → List ℕ → D → Type 0
AddsAsked asks full d q before after e = (text : List ℕ) × (after ≡ before ++ text) × Asked asks full d q text e

abbrev pub AddsTook : {D : Type 0} → (D → Request → Reply → D → Type 0) → (D → Type 0) → D → Result Request WireFault → List ℕ → List ℕ → D → Type 0
AddsTook asks full d r before after e = (text : List ℕ) × (after ≡ before ++ text) × Took asks full d r text e

-- ---- how many lines are answered

-- all that aren't empty
abbrev pub answered : List (List ℕ) → ℕ
answered [] = 0
answered ([] ∷ ls) = answered ls
answered ((b ∷ l) ∷ ls) = suc (answered ls)

-- what counts them, one line at a time, as far as 64 bits go
abbrev pub one_more : ℕ → ℕ
one_more n = if n == 18446744073709551615 then n else n + 1

abbrev pub counted : ℕ → List ℕ → ℕ
counted n [] = n
counted n (b ∷ l) = one_more n
