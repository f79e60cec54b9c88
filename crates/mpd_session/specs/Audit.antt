-- What a history says to the receipts that its clients kept.
use Rattle.std.specs.Prelude.{◌≡◌, ◌≢◌, ◌<◌, ℕ, List, Some, length, slice_get}
use Rattle.std.specs.List.{All, AllPairs, Any, sum_by}
use Rattle.mpd_session.specs.declared.history.Entry.{Entry}
use Rattle.mpd_session.specs.declared.history.Receipt.{Receipt}
use Rattle.mpd_session.specs.History.{Noted}

-- a client's receipt is of an entry: its number is that entry's, and client, request and reply are the same
abbrev pub IsOf : List Entry → ℕ → Receipt → Type 0
IsOf history client r = slice_get history r.entry ≡ Some (record { client = client; request = r.request; reply = r.reply })

-- each receipt's entry number is above those of all before it
abbrev pub IsRising : List Receipt → Type 0
IsRising receipts = AllPairs (λ r s. r.entry < s.entry) receipts

-- no entry has receipts in both
abbrev pub IsApart : List Receipt → List Receipt → Type 0
IsApart receipts others = All (λ r. All (λ s. r.entry ≢ s.entry) others) receipts

-- the receipts that a client keeps are of entries of its own, and rising
abbrev pub IsKept : List Entry → Noted → Type 0
IsKept history kept = All (IsOf history kept.client) kept.receipts × IsRising kept.receipts

-- ---- of several clients, each of which keeps what `log` says

-- what each keeps is of its entries, and no two have a receipt of one entry
abbrev pub Agrees : {X : Type 0} → (X → Noted) → List Entry → List X → Type 0
Agrees log history xs = All (λ x. IsKept history (log x)) xs × AllPairs (λ x y. IsApart (log x).receipts (log y).receipts) xs

-- how many receipts they have together
abbrev pub receipts_in : {X : Type 0} → (X → Noted) → List X → ℕ
receipts_in log xs = sum_by (λ x. length (log x).receipts) xs

-- an entry, by its number, has a receipt
abbrev pub HasReceipt : {X : Type 0} → (X → Noted) → List X → ℕ → Type 0
HasReceipt log xs n = Any (λ x. Any (λ r. r.entry ≡ n) (log x).receipts) xs
