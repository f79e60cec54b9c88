-- Seats, one more.
use Rattle.std.proofs.Common.{⊎_elim, ◌≡◌, ◌≢◌, ◌<◌, ◌+◌, ◌↔◌, ℕ, List, [], ◌∷◌, ◌++◌, length, arith, subst, Result, Ok, Err}
use Rattle.std.specs.Result.{IsOk, IsErrOf}
use Rattle.std.proofs.lemmas.Bool.{cases_eq}
use Rattle.std.proofs.lemmas.List.FromFn.{map-range_with_len_more}
use Rattle.std.proofs.lemmas.List.Sums.{sum_by-append}
use Rattle.mpd_model.specs.script.Program.{Program}
use Rattle.mpd_model.specs.declared.call.Mode.{Mode}
use Rattle.mpd_session.specs.declared.history.Entry.{Entry}
use Rattle.mpd_session.specs.Held.{Held, opened}
use Rattle.mpd_session.specs.History.{Kept, Noted, Leads, IsReplay}
use Rattle.mpd_session.specs.Audit.{Agrees, HasReceipt, receipts_in}
use Rattle.mpd_session.specs.declared.audit.AuditFault.{AuditFault}
use Rattle.mpd_session.specs.declared.audit.AuditFault.TheVariants as audit
use Rattle.mpd_session.specs.Receipts.{empty_seat, empty_seats, seated}
use Rattle.mpd_session.specs.Settled.{Settles}
use Rattle.mpd_session.specs.declared.settle.SettleFault.TheVariants.{ReceiptDiffers}

pub one_seat_more : (n : ℕ) → empty_seats (n + 1) ≡ empty_seats n ++ empty_seat n ∷ []
one_seat_more n = map-range_with_len_more empty_seat 0 n n (omega arith)

pub receipts_more : (xs : List Noted) (x : Noted) → receipts_in seated (xs ++ x ∷ []) ≡ receipts_in seated xs + length x.receipts
receipts_more xs x = omega (arith, sum_by-append (λ (s : Noted). length s.receipts) xs (x ∷ []))

-- the session of a book is the replay of its history on the script that it has
pub on_script : (p : Program) (mode : Mode) (history : List Entry) (s : Held) → IsReplay history s → s.trail.program ≡ p → s.trail.mode ≡ mode → Leads (opened p mode) history s
on_script p mode history s h program is_mode =
    subst (λ (q : Program). Leads (opened q mode) history s) program (subst (λ (m : Mode). Leads (opened s.trail.program m) history s) is_mode h)

-- ---- what a book says to seats, by what its audit says to the same in a list of their own

abbrev Agreed : List Noted → List Entry → Type 0
Agreed seats history = (receipts_in seated seats ≡ length history) × Agrees seated history seats

abbrev Each : List Noted → List Entry → Type 0
Each seats history = (n : ℕ) → n < length history → HasReceipt seated seats n

pub settles : (seats items : List Noted) (book : Kept) → items ≡ seats → Agreed items book.history → Each items book.history → Settles seats (Ok book)
settles seats items book same agreed each =
    let a : Agreed seats book.history = subst (λ xs. Agreed xs book.history) same agreed in (a.0, a.1, subst (λ xs. Each xs book.history) same each)

count_is : (m n : ℕ) → (m ≢ n → ⊥) → m ≡ n
count_is m n never = ⊎_elim (λ same. same) (λ differs. absurd (never differs)) (cases_eq m n)

pub differs : (seats items : List Noted) (book : Kept) (r : Result (Unit {0}) AuditFault) (f : AuditFault) → r ≡ Err f → f ≡ audit.ReceiptDiffers → items ≡ seats
    → (IsOk r ↔ Agreed items book.history) → (IsErrOf r audit.CountsDiffer ↔ (receipts_in seated items ≢ length book.history)) → Settles seats (Err (ReceiptDiffers book))
differs seats items book r f is_fault is same ok counts =
    let count : receipts_in seated items ≡ length book.history = count_is (receipts_in seated items) (length book.history) (λ apart. let e : r ≡ Err audit.CountsDiffer = counts.1 apart in cc) in
    subst (λ xs. (receipts_in seated xs ≡ length book.history) × (Agrees seated book.history xs → ⊥)) same (count, λ agrees. let e : IsOk r = ok.1 (count, agrees) in cc)
