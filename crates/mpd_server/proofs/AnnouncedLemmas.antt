-- Lines that a server writes of itself, one after another.
use Rattle.std.proofs.Common.{◌≡◌, ℕ, ◌+◌, ◌^◌, ◌<◌, ◌≤◌, List, [], ◌∷◌, ◌++◌, length, length-append, arith, Result, Ok, Err, refl, ap, sym, subst, ◌∙◌, append_assoc}
use Rattle.mpd_model.specs.texts.Texts.{line}
use Rattle.mpd_model.specs.devices.Seen.{SinkSeen}
use Rattle.mpd_model.specs.declared.device.DeviceFault.{DeviceFault}
use Rattle.mpd_lines.specs.Gathering.{Written}
use Rattle.mpd_lines.proofs.SentLaws.{appends_append}
use Rattle.mpd_session.specs.declared.history.TheConstants.{HISTORY_MAX}
use Rattle.mpd_server.specs.declared.fault.HostFault.{HostFault}
use Rattle.mpd_server.specs.declared.fault.HostFault.TheVariants.{Memory, NoPort, WriteFailed, NotAccepted, Settle}
use Rattle.mpd_server.specs.Announced.{listening_line, served_line, Wrote, WrotePart, Listens, Listened, Announced, IsOutcome, Ended, Concluded}

-- ---- a text after another

wrote_more : (xs ys : List ℕ) (s t u : SinkSeen) → Wrote xs s t → Wrote ys t u → Wrote (xs ++ ys) s u
wrote_more xs ys s t u a b = (appends_append s.contents t.contents u.contents xs ys a.0 b.0, b.1 ∙ a.1)

wrote_part_more : (xs ys : List ℕ) (s t u : SinkSeen) → Wrote xs s t → WrotePart ys t u → WrotePart (xs ++ ys) s u
wrote_part_more xs ys s t u a b = (
  (xs ++ b.0.0, b.0.1, append_assoc xs b.0.0 b.0.1 ∙ ap (λ zs. xs ++ zs) b.0.2, b.0.3, appends_append s.contents t.contents u.contents xs b.0.0 a.0 b.0.4),
  b.1 ∙ ap (λ n. n + 1) a.1,
)

wrote_part_first : (xs ys : List ℕ) (s t : SinkSeen) → WrotePart xs s t → WrotePart (xs ++ ys) s t
wrote_part_first xs ys s t a = (
  (a.0.0, a.0.1 ++ ys, sym (append_assoc a.0.0 a.0.1 ys) ∙ ap (λ zs. zs ++ ys) a.0.2, (let some = a.0.3 in let sum = length-append a.0.1 ys in omega (arith, some, sum)), a.0.4),
  a.1,
)

written_more : (xs ys : List ℕ) (s t u : SinkSeen) (r : Result (Unit {0}) DeviceFault) → Written xs s t (Ok _) → Written ys t u r → Written (xs ++ ys) s u r
written_more xs ys s t u (Ok _) a b = wrote_more xs ys s t u a b
written_more xs ys s t u (Err _) a b = wrote_part_more xs ys s t u a b

-- digits, and the end of their line
pub ended_more : (digits number : List ℕ) (s t u : SinkSeen) (r : Result (Unit {0}) DeviceFault) → digits ≡ number → Written digits s t (Ok _) → Written (10 ∷ []) t u r → Written (line number) s u r
ended_more digits number s t u r is a b =
    let P : List ℕ → Type 0 = λ text. Written (line text) s u r in subst P is (written_more digits (10 ∷ []) s t u r a b)

pub ended_first : (digits number : List ℕ) (s t : SinkSeen) → digits ≡ number → WrotePart digits s t → WrotePart (line number) s t
ended_first digits number s t is a =
    let P : List ℕ → Type 0 = λ text. WrotePart (line text) s t in subst P is (wrote_part_first digits (10 ∷ []) s t a)

-- a word, and the line of a number
pub said_more : (bytes word digits : List ℕ) (s t u : SinkSeen) (r : Result (Unit {0}) DeviceFault) → bytes ≡ word → Written bytes s t (Ok _) → Written (line digits) t u r → Written (line (word ++ digits)) s u r
said_more bytes word digits s t u r is a b =
    let P : List ℕ → Type 0 = λ text. Written text s u r in
    subst (λ xs. P (line (xs ++ digits))) is (subst P (sym (append_assoc bytes digits (10 ∷ []))) (written_more bytes (line digits) s t u r a b))

pub said_first : (bytes word digits : List ℕ) (s t : SinkSeen) → bytes ≡ word → WrotePart bytes s t → WrotePart (line (word ++ digits)) s t
said_first bytes word digits s t is a =
    let P : List ℕ → Type 0 = λ text. WrotePart text s t in
    subst (λ xs. P (line (xs ++ digits))) is (subst P (sym (append_assoc bytes digits (10 ∷ []))) (wrote_part_first bytes (line digits) s t a))

pub ruleset saying = (ended_more, said_more)

-- ---- both lines

pub announced_first : (s t : SinkSeen) (f : HostFault) → Listened s t (Err f) → Announced s t (Err f)
announced_first s t WriteFailed h = (h.0, 0, h.1, (omega arith), wrote_part_first (listening_line h.0) (served_line 0) s t h.2)
announced_first s t (NotAccepted error) h = absurd h
announced_first s t (Settle fault) h = absurd h
announced_first s t Memory h = absurd h
announced_first s t (NoPort error) h = h

announced_end : (s t u : SinkSeen) (entries : ℕ) (r : Result ℕ HostFault) → Listens s t → entries ≤ HISTORY_MAX → Ended entries t u r → Announced s u r
announced_end s t u entries (Ok told) h few e =
    let P : ℕ → Type 0 = λ n. (n ≤ HISTORY_MAX) × Wrote (listening_line h.0 ++ served_line n) s u in
    let both : P told = subst P (sym e.0) (few, wrote_more (listening_line h.0) (served_line entries) s t u h.2 e.1) in (h.0, h.1, both.0, both.1)
announced_end s t u entries (Err WriteFailed) h few e = (h.0, entries, h.1, few, wrote_part_more (listening_line h.0) (served_line entries) s t u h.2 e)
announced_end s t u entries (Err (NotAccepted error)) h few e = absurd e
announced_end s t u entries (Err (Settle fault)) h few e = absurd e
announced_end s t u entries (Err Memory) h few e = absurd e
announced_end s t u entries (Err (NoPort error)) h few e = absurd e

announced_fault : (s t : SinkSeen) (f : HostFault) → Listens s t → IsOutcome (Err f) → Announced s t (Err f)
announced_fault s t WriteFailed h is = absurd is
announced_fault s t (NotAccepted error) h is = h
announced_fault s t (Settle fault) h is = h
announced_fault s t Memory h is = absurd is
announced_fault s t (NoPort error) h is = absurd is

pub announced_both : (s t u : SinkSeen) (outcome r : Result ℕ HostFault) → Listened s t (Ok _) → IsOutcome outcome → Concluded outcome t u r → Announced s u r
announced_both s t u (Ok entries) r h is c = announced_end s t u entries r h is c
announced_both s t u (Err f) r h is c =
    let P : Result ℕ HostFault → Type 0 = λ x. Announced s u x in
    let Q : SinkSeen → Type 0 = λ v. Listens s v in subst P (sym c.0) (announced_fault s u f (subst Q (sym c.1) h) is)

pub ruleset announcing = (announced_first, announced_both)
