-- What a book says to the seats of its clients, in the end.
use Rattle.std.specs.Prelude.{◌≡◌, ◌≢◌, ◌<◌, ℕ, List, length, Result, Ok, Err}
use Rattle.mpd_model.specs.script.Program.{Program}
use Rattle.mpd_model.specs.declared.call.Mode.{Mode}
use Rattle.mpd_session.specs.Held.{opened}
use Rattle.mpd_session.specs.History.{Kept, Leads, Noted}
use Rattle.mpd_session.specs.Audit.{Agrees, HasReceipt, receipts_in}
use Rattle.mpd_session.specs.Receipts.{seated}
use Rattle.mpd_session.specs.declared.settle.SettleFault.{SettleFault}
use Rattle.mpd_session.specs.declared.settle.SettleFault.TheVariants.{CountsDiffer, ReceiptDiffers}

-- the number of why it does not settle
abbrev pub settle_fault_number : SettleFault → ℕ
settle_fault_number (CountsDiffer book) = 57
settle_fault_number (ReceiptDiffers book) = 58

-- the book, which comes back whatever it says
abbrev pub book_in : Result Kept SettleFault → Kept
book_in (Ok book) = book
book_in (Err (CountsDiffer book)) = book
book_in (Err (ReceiptDiffers book)) = book

-- the session of a book is the replay of its history, on this script
abbrev pub IsBookOf : Program → Mode → Kept → Type 0
IsBookOf p mode book = Leads (opened p mode) book.history book.session

-- each entry has one receipt, of its client, with its request and reply; or there are more receipts, or fewer, than entries; or as
-- many, which don't agree with them
abbrev pub Settles : List Noted → Result Kept SettleFault → Type 0
Settles seats (Ok book) = (receipts_in seated seats ≡ length book.history) × Agrees seated book.history seats × ((n : ℕ) → n < length book.history → HasReceipt seated seats n)
Settles seats (Err (CountsDiffer book)) = receipts_in seated seats ≢ length book.history
Settles seats (Err (ReceiptDiffers book)) = (receipts_in seated seats ≡ length book.history) × (Agrees seated book.history seats → ⊥)
