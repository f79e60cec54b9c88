-- What each read adds to what was read of a source, and what the last one makes of it.
use Rattle.std.proofs.Common.{◌≡◌, ℕ, zero, suc, ◌+◌, ◌<◌, ◌≤◌, inl, inr, List, [], ◌++◌, length, Ok, refl, ap, sym, subst, ◌∙◌, append-nil, arith, length-append}
use Rattle.std.proofs.KnownBytes.{Consumes-nil, Consumes-trans, Consumes-kept}
use Rattle.std.specs.Io.KnownBytes.{Consumes, IsAtEnd, Keeps}
use Rattle.mpd_model.specs.devices.Seen.{SourceSeen}
use Rattle.mpd_model.specs.devices.Ends.{ends_of}
use Rattle.mpd_model.specs.declared.device.DeviceFault.{DeviceFault}
use Rattle.mpd_lines.specs.UpTo.{IsRead, IsCutOff, Gathered}

pub ends_some : (n before after : ℕ) → after ≡ before + ends_of {E = DeviceFault} (Ok n) → (n ≡ 0 → ⊥) → after ≡ before
ends_some zero before after e h = absurd (h refl)
ends_some (suc n) before after e h = omega (arith, e)

pub ends_one : (n before after : ℕ) → after ≡ before + ends_of {E = DeviceFault} (Ok n) → n ≡ 0 → after ≡ before + 1
ends_one zero before after e h = e
ends_one (suc n) before after e h = absurd (omega (arith, h))

pub gathered_none : (max : ℕ) (s : SourceSeen) (text : List ℕ) → text ≡ [] → Gathered max s s 0 text
gathered_none max s text is =
    let P : List ℕ → Type 0 = λ x. Gathered max s s 0 x in
    subst P (sym is) (record {
      consumed = Consumes-nil s.remaining;
      count = omega arith;
      short = omega arith;
      calls = omega arith;
      failures = refl;
      ends = refl;
    })

-- one read more that gave a byte
pub gathered_more : (max : ℕ) (s0 s1 s2 : SourceSeen) (turn n : ℕ) (text piece all : List ℕ) → Gathered max s0 s1 turn text → Consumes s1.remaining s2.remaining piece → all ≡ text ++ piece → 0 < length piece
    → length all ≤ max → s2.calls ≡ s1.calls + 1 → s2.failures ≡ s1.failures → s2.ends ≡ s1.ends + ends_of {E = DeviceFault} (Ok n) → (n ≡ 0 → ⊥) → Gathered max s0 s2 (turn + 1) all
gathered_more max s0 s1 s2 turn n text piece all h consumes is some short calls failures ends not =
    let P : List ℕ → Type 0 = λ x. Consumes s0.remaining s2.remaining x in
    record {
      consumed = subst P (sym is) (Consumes-trans s0.remaining s1.remaining s2.remaining text piece h.consumed consumes);
      count = (let le = h.count in omega (arith, le, some, ap length is ∙ length-append text piece));
      short = short;
      calls = (let a = h.calls in omega (arith, a, calls));
      failures = failures ∙ h.failures;
      ends = ends_some n s1.ends s2.ends ends not ∙ h.ends;
    }

-- a read that gave nothing
pub read_end : (max : ℕ) (s0 s1 s2 : SourceSeen) (turn n : ℕ) (text piece : List ℕ) → Gathered max s0 s1 turn text → Consumes s1.remaining s2.remaining piece → piece ≡ [] → IsAtEnd s2.remaining
    → s2.calls ≡ s1.calls + 1 → s2.failures ≡ s1.failures → s2.ends ≡ s1.ends + ends_of {E = DeviceFault} (Ok n) → n ≡ 0 → IsRead max s0 s2 text
read_end max s0 s1 s2 turn n text piece h consumes none end calls failures ends nothing =
    let P : List ℕ → Type 0 = λ x. Consumes s0.remaining s2.remaining x in
    record {
      consumed = subst P (ap (λ x. text ++ x) none ∙ append-nil text) (Consumes-trans s0.remaining s1.remaining s2.remaining text piece h.consumed consumes);
      whole = inl (end, (let a = ends_one n s1.ends s2.ends ends nothing in let e = h.ends in omega (arith, a, e)), h.short);
      calls = (let a = h.calls in let le = h.count in omega (arith, a, le, calls));
      failures = failures ∙ h.failures;
    }

-- a read that brought the byte which is too many
pub read_long : (max : ℕ) (s0 s1 s2 : SourceSeen) (turn n : ℕ) (text piece all : List ℕ) → Gathered max s0 s1 turn text → Consumes s1.remaining s2.remaining piece → all ≡ text ++ piece
    → max < length all → length all ≤ max + 1 → s2.calls ≡ s1.calls + 1 → s2.failures ≡ s1.failures → s2.ends ≡ s1.ends + ends_of {E = DeviceFault} (Ok n) → (n ≡ 0 → ⊥) → IsRead max s0 s2 all
read_long max s0 s1 s2 turn n text piece all h consumes is long most calls failures ends not =
    let P : List ℕ → Type 0 = λ x. Consumes s0.remaining s2.remaining x in
    record {
      consumed = subst P (sym is) (Consumes-trans s0.remaining s1.remaining s2.remaining text piece h.consumed consumes);
      whole = inr (ends_some n s1.ends s2.ends ends not ∙ h.ends, omega (arith, long, most));
      calls = (let a = h.calls in let le = h.count in let short = h.short in omega (arith, a, le, calls, short, long));
      failures = failures ∙ h.failures;
    }

-- a read that failed
pub cut_off : (max : ℕ) (s0 s1 s2 : SourceSeen) (turn : ℕ) (text : List ℕ) → Gathered max s0 s1 turn text → Keeps s1.remaining s2.remaining
    → s2.calls ≡ s1.calls + 1 → s2.failures ≡ s1.failures + 1 → s2.ends ≡ s1.ends → (x : List ℕ) × IsCutOff max s0 s2 x
cut_off max s0 s1 s2 turn text h keeps calls failures ends = (
  text,
  record {
    consumed = Consumes-kept s0.remaining s1.remaining s2.remaining text h.consumed keeps;
    short = h.short;
    calls = (let a = h.calls in let le = h.count in omega (arith, a, le, calls));
    failures = (let e = h.failures in omega (arith, e, failures));
    ends = ends ∙ h.ends;
  },
)

pub ruleset gathering = (gathered_none, gathered_more, read_end, read_long, cut_off)
