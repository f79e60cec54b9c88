-- A text that was read from a file: what a refusal of it says.
use Rattle.std.proofs.Common.{◌≡◌, ◌≢◌, ℕ, ◌+◌, ◌<◌, true, false, if◌then◌else◌, inl, inr, List, [], ◌++◌, length, Result, Ok, Err, refl, ap, sym, subst, ◌∙◌, append-nil, arith, length-append}
use Rattle.mpd_model.specs.devices.Seen.{SourceSeen}
use Rattle.mpd_model.specs.declared.limits.TheConstants.{SCRIPT_MAX}
use Rattle.mpd_model.specs.grammar.Grammar.{reading}
use Rattle.mpd_model.specs.script.Program.{Program}
use Rattle.mpd_model.specs.declared.read_fault.ReadFault.{ReadFault}
use Rattle.mpd_model.specs.declared.read_fault.FaultCode.TheVariants as code
use Rattle.mpd_lines.specs.declared.engine.EngineFault.TheVariants as engine
use Rattle.mpd_lines.specs.UpTo.{IsWhole, IsRead, IsUnread}
use Rattle.mpd_lines.specs.declared.engine.EngineFault.{EngineFault}
use Rattle.mpd_trace.specs.FileText.{IsRefusedText, IsScriptOf, IsNoCode}
use Rattle.mpd_trace.specs.Plain.{line_at}
use Rattle.mpd_trace.specs.PlainFaults.{is_memory, refused_as}
use Rattle.mpd_trace.specs.declared.plain_trace.PlainFault.{PlainFault}
use Rattle.mpd_trace.specs.declared.plain_trace.PlainFault.TheVariants.{Script, Engine}
use Rattle.mpd_trace.proofs.PlainLaws.{not_memory, reading_long, line_front, too_long, error_of}

-- what is refused is so whatever follows
refused_on : (s t : SourceSeen) (text : List ℕ) (f : ReadFault) → IsWhole SCRIPT_MAX s t text → reading text ≡ Err f → IsRefusedText s t text f (line_at text f.place)
refused_on s t text f (inl (end, ends, short)) r z (inl same) = absurd (omega (arith, ends, same))
refused_on s t text f (inl (end, ends, short)) r z (inr none) =
    let same : text ++ z ≡ text = ap (λ x. text ++ x) none ∙ append-nil text in
    (ap reading same ∙ r, ap (λ x. line_at x f.place) (sym same))
refused_on s t text f (inr (ends, full)) r z o =
    let which : f ≡ too_long = ap (λ x. error_of x too_long) (sym r ∙ reading_long text (omega (arith, full))) in
    let long : 65536 < length (text ++ z) = omega (arith, full, length-append text z) in (
      reading_long (text ++ z) long ∙ ap (λ (x : ReadFault). let e : Result Program ReadFault = Err x in e) (sym which),
      ap (λ (x : ReadFault). line_at text x.place) which
          ∙ sym (ap (λ (x : ReadFault). line_at (text ++ z) x.place) which ∙ line_front text z (omega (arith, full))),
    )

pub refused_text : (s t : SourceSeen) (text shown : List ℕ) (f : ReadFault) (r : PlainFault) → IsRead SCRIPT_MAX s t text → shown ≡ text
    → (f.code ≢ code.Memory → reading shown ≡ Err f) → r ≡ refused_as f (line_at shown f.place) → IsNoCode s t text r
refused_text s t text shown f r h same err is =
    let P : PlainFault → Type 0 = λ x. IsNoCode s t text x in
    let Q : List ℕ → Type 0 = λ x. IsRefusedText s t text f (line_at x f.place) in
    subst P (sym is) (elim (is_memory f.code) as (λ m. is_memory f.code ≡ m → IsNoCode s t text (if m then Engine engine.Memory else Script f (line_at shown f.place))) [
      | true ↦ λ e. h.failures
      | false ↦ λ e. (h, not_memory f e, subst Q (sym same) (refused_on s t text f h.whole (ap reading (sym same) ∙ err (not_memory f e))))
    ] refl)

-- a text that could not be read
pub unread_text : (s t : SourceSeen) (text : List ℕ) (f : EngineFault) → IsUnread SCRIPT_MAX s t f → IsNoCode s t text (Engine f)
unread_text s t text engine.ReadFailed h = h
unread_text s t text engine.WriteFailed h = absurd h
unread_text s t text engine.TooManyTurns h = absurd h
unread_text s t text engine.Memory h = ap (λ (x : SourceSeen). x.failures) h

-- a text that is a script was read to its end
whole_ends : (s t : SourceSeen) (text : List ℕ) (p : Program) → IsWhole SCRIPT_MAX s t text → reading text ≡ Ok p → t.ends ≡ s.ends + 1
whole_ends s t text p (inl (end, ends, short)) r = ends
whole_ends s t text p (inr (ends, full)) r =
    absurd (let e : (let r : Result Program ReadFault = Ok p in r) ≡ Err too_long = sym r ∙ reading_long text (omega (arith, full)) in cc)

pub script_of : (s t : SourceSeen) (text shown : List ℕ) (p q : Program) → IsRead SCRIPT_MAX s t text → shown ≡ text → reading shown ≡ Ok p → q ≡ p → IsScriptOf s t text q
script_of s t text shown p q h same ok is =
    let r : reading text ≡ Ok q = ap reading (sym same) ∙ ok ∙ ap (λ (x : Program). let e : Result Program ReadFault = Ok x in e) (sym is) in
    (h, whole_ends s t text q h.whole r, r)

pub ruleset refusing_texts = (refused_text)
