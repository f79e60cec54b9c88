-- What a seat holds, and what an answered call adds to it.
use Rattle.std.specs.Prelude.{◌≡◌, ℕ, List, [], ◌∷◌, ◌++◌, length, map}
use Rattle.std.specs.List.{range_with_len}
use Rattle.mpd_model.specs.script.Program.{Program}
use Rattle.mpd_model.specs.declared.call.Mode.{Mode}
use Rattle.mpd_session.specs.declared.request.Request.{Request}
use Rattle.mpd_session.specs.declared.reply.Reply.{Reply}
use Rattle.mpd_session.specs.declared.history.Entry.{Entry}
use Rattle.mpd_session.specs.Held.{Held, opened}
use Rattle.mpd_session.specs.Respond.{respond}
use Rattle.mpd_session.specs.History.{Leads, Noted}

-- contracts see a seat as what it keeps
abbrev pub seated : Noted → Noted
seated seat = seat

abbrev pub empty_seat : ℕ → Noted
empty_seat client = record { client = client; receipts = [] }

-- the seats of so many clients, in their order, without receipts
abbrev pub empty_seats : ℕ → List Noted
empty_seats clients = map empty_seat (range_with_len 0 clients)

-- the reply is the one that a session on this script gives to the request, after some history of so many entries, each of which
-- has the reply that the session gives there
abbrev pub IsGiven : Program → Mode → ℕ → Request → Reply → Type 0
IsGiven p mode n q r = (history : List Entry) × (s : Held) × Leads (opened p mode) history s × (length history ≡ n) × (r ≡ (respond s q).0)

-- a seat has one receipt more: with its number, this request and this reply
abbrev pub Adds : Program → Mode → Noted → Request → Reply → Noted → Type 0
Adds p mode old q r new =
    (n : ℕ) × IsGiven p mode n q r × (new.client ≡ old.client)
    × (new.receipts ≡ old.receipts ++ record { entry = n; request = q; reply = r } ∷ [])
