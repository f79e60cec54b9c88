-- One byte more of a frame.
use Rattle.std.proofs.Common.{◌≡◌, ℕ, ◌<◌, ◌≤◌, true, false, ◌⊎◌, inl, inr, List, [], ◌∷◌, ◌++◌, length, take, Option, Some, None, Result, Ok, Err, refl, ap, sym, subst, ◌∙◌, arith, append_assoc, append-nil, length-append}
use Rattle.std.proofs.lemmas.List.{take-append-le, take_all}
use Rattle.std.proofs.lemmas.Bool.{cases_lt}
use Rattle.mpd_frames.specs.Header.{is_ended, IsOpen, IsHeader, length_of}
use Rattle.mpd_frames.specs.Frames.{IsBegun, IsFaulty, IsUnkept}
use Rattle.mpd_frames.specs.Reading.{Held, held_bytes, Holds, HoldsBy, Adds, Ends}
use Rattle.mpd_frames.specs.declared.fault.FrameFault.{FrameFault}
use Rattle.mpd_frames.specs.declared.fault.FrameFault.TheVariants.{HeaderTooLong}
use Rattle.mpd_frames.specs.declared.fault.StreamFault.{StreamFault}
use Rattle.mpd_frames.specs.declared.fault.StreamFault.TheVariants.{Engine, Frame, CutOff, BodyMemory}
use Rattle.mpd_frames.specs.declared.reader.Added.{Added}
use Rattle.mpd_frames.specs.declared.reader.Added.TheVariants.{Within, Whole}

-- ---- what is held

holds_to : (o w : Option ℕ) (header body : List ℕ) → o ≡ w → HoldsBy o header body → HoldsBy w header body
holds_to o w header body is h = subst (λ x. HoldsBy x header body) is h

none_bytes : (header body : List ℕ) → body ≡ [] → header ++ body ≡ header
none_bytes header body none = ap (λ x. header ++ x) none ∙ append-nil header

-- ---- the header

-- a byte more of bytes that have no empty line
open_more : (h : List ℕ) (b : ℕ) → IsOpen h → is_ended (h ++ b ∷ []) ≡ false → IsOpen (h ++ b ∷ [])
open_more h b o e k = open_by (cases_lt (length h) k)
  where
    open_by : (length h < k) ⊎ (k ≤ length h) → is_ended (take k (h ++ b ∷ [])) ≡ false
    open_by (inl lt) = ap is_ended (take_all k (h ++ b ∷ []) (omega (arith, lt, length-append h (b ∷ [])))) ∙ e
    open_by (inr le) = ap is_ended (take-append-le k h (b ∷ []) le) ∙ o k

-- the byte that ends a header
ends_here : (h : List ℕ) (b : ℕ) → IsBegun h → is_ended (h ++ b ∷ []) ≡ true → IsHeader (h ++ b ∷ [])
ends_here h b begun e = record {
  short = (let lt = begun.short in omega (arith, lt, length-append h (b ∷ [])));
  ended = e;
  first = λ k lt. ap is_ended (take-append-le k h (b ∷ []) (omega (arith, lt, length-append h (b ∷ [])))) ∙ begun.open_yet k;
}

-- what is held of a header, and its next byte
pub header_held : (p : Held) → p.wanted ≡ None → Holds p → (p.body ≡ []) × IsBegun p.header
header_held p is h = holds_to p.wanted None p.header p.body is h

pub header_ends : (p : Held) (b : ℕ) (h : List ℕ) → p.wanted ≡ None → Holds p → h ≡ p.header ++ b ∷ [] → is_ended h ≡ true → IsHeader h
header_ends p b h is held e there = subst IsHeader (sym e) (ends_here p.header b (header_held p is held).1 (ap is_ended (sym e) ∙ there))

pub header_bytes : (p q : Held) (b : ℕ) → p.body ≡ [] → q.body ≡ [] → q.header ≡ p.header ++ b ∷ [] → held_bytes q ≡ held_bytes p ++ b ∷ []
header_bytes p q b none nothing e = none_bytes q.header q.body nothing ∙ e ∙ ap (λ x. x ++ b ∷ []) (sym (none_bytes p.header p.body none))

pub adds_open : (p q : Held) (b : ℕ) → p.wanted ≡ None → Holds p → q.header ≡ p.header ++ b ∷ [] → q.wanted ≡ p.wanted → q.body ≡ p.body → is_ended q.header ≡ false → length q.header < 4096
    → Adds p b q (Ok Within)
adds_open p q b is held e same body open_yet short =
    let h = header_held p is held in
    let nothing : q.body ≡ [] = body ∙ h.0 in (
      header_bytes p q b h.0 nothing e,
      holds_to None q.wanted q.header q.body (sym (same ∙ is))
          (nothing, record { short = short; open_yet = subst IsOpen (sym e) (open_more p.header b h.1.open_yet (ap is_ended (sym e) ∙ open_yet)) }),
    )

pub too_long : (p : Held) (h : List ℕ) (b : ℕ) → p.wanted ≡ None → Holds p → h ≡ p.header ++ b ∷ [] → is_ended h ≡ false → 4096 ≤ length h → IsFaulty (held_bytes p ++ b ∷ []) HeaderTooLong
too_long p h b is held e open_yet long =
    let k = header_held p is held in
    let lt = k.1.short in inl (
      h,
      [],
      ap (λ x. x ++ b ∷ []) (none_bytes p.header p.body k.0) ∙ sym e ∙ sym (append-nil h),
      refl,
      omega (arith, long, lt, ap length e, length-append p.header (b ∷ [])),
      subst IsOpen (sym e) (open_more p.header b k.1.open_yet (ap is_ended (sym e) ∙ open_yet)),
    )

-- the header has ended with this byte
pub adds_ended : (p m q : Held) (b : ℕ) (r : Result Added StreamFault) → held_bytes m ≡ held_bytes p ++ b ∷ [] → Ends m q r → Adds p b q r
adds_ended p m q b (Ok Within) is e = (e.0 ∙ is, e.1)
adds_ended p m q b (Ok Whole) is e = (e.0 ∙ is, e.1)
adds_ended p m q b (Err (Frame fault)) is e = subst (λ x. IsFaulty x fault) is e
adds_ended p m q b (Err BodyMemory) is e = absurd e
adds_ended p m q b (Err CutOff) is e = absurd e
adds_ended p m q b (Err (Engine fault)) is e = absurd e

-- ---- the end of the header

pub ends_faulty : (p q : Held) (fault : FrameFault) → IsHeader p.header → p.body ≡ [] → Err fault ≡ length_of p.header → Ends p q (Err (Frame fault))
ends_faulty p q fault is none e = inr (p.header, [], ap (λ x. p.header ++ x) none, is, sym e)

pub ends_whole : (p q : Held) (n : ℕ) → IsHeader p.header → p.body ≡ [] → q.header ≡ p.header → q.body ≡ p.body → Ok n ≡ length_of p.header → n ≡ 0 → Ends p q (Ok Whole)
ends_whole p q n is none header body e nothing = (
  ap (λ x. x ++ q.body) header ∙ ap (λ x. p.header ++ x) body,
  record {
    is_header = subst IsHeader (sym header) is;
    length_is = ap length_of header ∙ sym e ∙ ap Ok (nothing ∙ sym (ap length (body ∙ none)));
  },
)

pub ends_within : (p q : Held) (n : ℕ) → IsHeader p.header → p.body ≡ [] → q.header ≡ p.header → q.wanted ≡ Some n → q.body ≡ p.body → Ok n ≡ length_of p.header → (n ≡ 0 → ⊥) → Ends p q (Ok Within)
ends_within p q n is none header wanted body e some = (
  ap (λ x. x ++ q.body) header ∙ ap (λ x. p.header ++ x) body,
  holds_to (Some n) q.wanted q.header q.body (sym wanted)
      (subst IsHeader (sym header) is, ap length_of header ∙ sym e, (let nothing = ap length (body ∙ none) in omega (arith, nothing, some))),
)

pub ruleset ending = (ends_faulty, ends_whole, ends_within)

-- ---- the body

body_held : (p : Held) (n : ℕ) → p.wanted ≡ Some n → Holds p → IsHeader p.header × (length_of p.header ≡ Ok n) × (length p.body < n)
body_held p n is h = holds_to p.wanted (Some n) p.header p.body is h

body_bytes : (p q : Held) (b : ℕ) → q.header ≡ p.header → q.body ≡ p.body ++ b ∷ [] → held_bytes q ≡ held_bytes p ++ b ∷ []
body_bytes p q b header body = ap (λ x. x ++ q.body) header ∙ ap (λ x. p.header ++ x) body ∙ sym (append_assoc p.header p.body (b ∷ []))

pub adds_some : (p q : Held) (b n : ℕ) → p.wanted ≡ Some n → Holds p → q.header ≡ p.header → q.wanted ≡ p.wanted → q.body ≡ p.body ++ b ∷ [] → length q.body < n → Adds p b q (Ok Within)
adds_some p q b n is held header wanted body fewer =
    let h = body_held p n is held in
    (body_bytes p q b header body, holds_to (Some n) q.wanted q.header q.body (sym (wanted ∙ is)) (subst IsHeader (sym header) h.0, ap length_of header ∙ h.1, fewer))

pub adds_last : (p q : Held) (b n : ℕ) → p.wanted ≡ Some n → Holds p → q.header ≡ p.header → q.body ≡ p.body ++ b ∷ [] → n ≤ length q.body → Adds p b q (Ok Whole)
adds_last p q b n is held header body enough =
    let h = body_held p n is held in
    let lt = h.2 in
    let all : n ≡ length q.body = omega (arith, enough, lt, ap length body, length-append p.body (b ∷ [])) in
    (body_bytes p q b header body, record { is_header = subst IsHeader (sym header) h.0; length_is = ap length_of header ∙ h.1 ∙ ap Ok all })

pub unkept : (p : Held) (b n : ℕ) → p.wanted ≡ Some n → Holds p → 65536 ≤ length p.body → IsUnkept (held_bytes p ++ b ∷ [])
unkept p b n is held full =
    let h = body_held p n is held in
    (p.header, p.body, b ∷ [], append_assoc p.header p.body (b ∷ []), record { is_header = h.0; size = n; length_is = h.1; fewer = h.2 }, full)

pub ruleset adding = (adds_some, adds_last)
