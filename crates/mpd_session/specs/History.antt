-- Histories of a session: who asked what, what was replied, and where that leads.
use Rattle.std.specs.Prelude.{◌≡◌, ℕ, List, [], ◌∷◌, refl}
use Rattle.std.specs.Coded.{Coded, code_by, coded×, coded_ℕ, coded_list}
use Rattle.mpd_session.specs.declared.history.Entry.{Entry}
use Rattle.mpd_session.specs.declared.history.Receipt.{Receipt}
use Rattle.mpd_session.specs.declared.history.Log.{Log}
use Rattle.mpd_session.specs.contracts.history.Entry as entry_row
use Rattle.mpd_session.specs.contracts.history.Receipt as receipt_row
use Rattle.mpd_session.specs.Held.{Held, held_code, opened}
use Rattle.mpd_session.specs.Respond.{respond}

-- the session after a history, in which each reply is the one that the session gives there
abbrev pub Leads : Held → List Entry → Held → Type 0
Leads s [] t = s ≡ t
Leads s (e ∷ es) t = (e.reply ≡ (respond s e.request).0) × Leads (respond s e.request).1 es t

-- a session is the replay of a history, from the opening one on its script
abbrev pub IsReplay : List Entry → Held → Type 0
IsReplay history s = Leads (opened s.trail.program s.trail.mode) history s

-- what a book holds
pub record Kept : Type 0 where
  pub session : Held
  pub history : List Entry

abbrev pub kept_code : Coded Kept
kept_code = code_by (Held × List Entry) (coded× held_code (coded_list entry_row.the_row.coded)) (λ b. (b.session, b.history)) (λ q. record { session = q.0; history = q.1 }) (λ _. refl)

-- what a client keeps: who it is, and its receipts
pub record Noted : Type 0 where
  pub client : ℕ
  pub receipts : List Receipt

abbrev pub noted : Log → Noted
noted l = record { client = l.client; receipts = l.receipts.items }

abbrev pub noted_code : Coded Noted
noted_code = code_by (ℕ × List Receipt) (coded× coded_ℕ (coded_list receipt_row.the_row.coded)) (λ n. (n.client, n.receipts)) (λ q. record { client = q.0; receipts = q.1 }) (λ _. refl)
