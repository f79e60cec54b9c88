-- The numbers of what a client is refused; want of memory has none.
use Rattle.std.specs.Prelude.{ℕ}
use Rattle.mpd_session.specs.declared.reply.Refusal.{Refusal}
use Rattle.mpd_session.specs.declared.reply.Refusal.TheVariants as refusal
use Rattle.mpd_session.specs.declared.desk.DeskFault.{DeskFault}
use Rattle.mpd_session.specs.declared.desk.DeskFault.TheVariants as desk

abbrev pub refusal_number : Refusal → ℕ
refusal_number refusal.NotEnabled = 21
refusal_number refusal.Full = 22
refusal_number refusal.AtStart = 24
refusal_number refusal.NoRedo = 25
refusal_number refusal.NotBefore = 26
refusal_number (refusal.Stale now) = 51
refusal_number (refusal.NeedsChoice count) = 52
refusal_number refusal.NoSuchBreak = 53
refusal_number refusal.BreaksFull = 54
refusal_number refusal.BadNumber = 55

-- why a desk has not taken a request
abbrev pub desk_fault_number : DeskFault → ℕ
desk_fault_number desk.HistoryFull = 56
desk_fault_number desk.Memory = 0
