-- What was read of an input up to the line that divides it.
use Rattle.std.proofs.Common.{◌≡◌, ℕ, false, ◌+◌, ◌<◌, ◌≤◌, List, [], ◌++◌, length, drop, Option, Some, None, Result, Ok, Err, IfOk, IfErr, refl, ap, sym, subst, ◌∙◌, append_assoc, arith, length-append}
use Rattle.std.specs.Io.KnownBytes.{Consumes, IsAtEnd, Keeps}
use Rattle.mpd_model.specs.devices.Seen.{SourceSeen}
use Rattle.mpd_model.specs.devices.Ends.{ends_of}
use Rattle.mpd_model.specs.declared.device.DeviceFault.{DeviceFault}
use Rattle.mpd_model.specs.texts.Lines.{divided}
use Rattle.mpd_lines.specs.declared.engine.EngineFault.{EngineFault}
use Rattle.mpd_lines.specs.declared.engine.EngineFault.TheVariants.{Memory}
use Rattle.mpd_lines.proofs.UpToLaws.{ends_some, ends_one}
use Rattle.mpd_trace.specs.Divided.{Begun, begun, splits, IsOpen, IsHeld}
use Rattle.mpd_trace.specs.Collected.{IsJustRead, HeadOf, Collected, Follows}
use Rattle.mpd_trace.specs.declared.plain_trace.HeadEnd.{HeadEnd}
use Rattle.mpd_trace.specs.declared.plain_trace.HeadEnd.TheVariants.{InputEnds, LineDivides, TooLong}
use Rattle.mpd_trace.specs.declared.plain_trace.Head.{Head}
use Rattle.mpd_trace.proofs.OpenLaws.{open_so}

consumes_none : (s : Option (List ℕ)) → Consumes s s []
consumes_none None = tt
consumes_none (Some xs) = refl

pub consumes_append : (old mid new : Option (List ℕ)) (xs ys : List ℕ) → Consumes old mid xs → Consumes mid new ys → Consumes old new (xs ++ ys)
consumes_append None mid new xs ys a b = tt
consumes_append (Some us) None new xs ys a b = absurd a
consumes_append (Some us) (Some vs) None xs ys a b = absurd b
consumes_append (Some us) (Some vs) (Some ws) xs ys a b = a ∙ ap (λ t. xs ++ t) b ∙ sym (append_assoc xs ys ws)

consumes_keeps : (old mid new : Option (List ℕ)) (xs : List ℕ) → Consumes old mid xs → Keeps mid new → Consumes old new xs
consumes_keeps None mid new xs a k = tt
consumes_keeps (Some us) None new xs a k = absurd a
consumes_keeps (Some us) (Some vs) None xs a k = absurd k
consumes_keeps (Some us) (Some vs) (Some ws) xs a k = a ∙ ap (λ t. xs ++ t) (sym k)

consumes_same : (old new : Option (List ℕ)) (xs ys : List ℕ) → xs ≡ ys → Consumes old new ys → Consumes old new xs
consumes_same old new xs ys is c = let P : List ℕ → Type 0 = λ x. Consumes old new x in subst P (sym is) c

abbrev Halves : Type 0
Halves = List ℕ × List ℕ

is_open : (s t : SourceSeen) (turn : ℕ) (b : Begun) (f : Follows s t turn b) → IsOpen f.read
is_open s t turn b f = open_so f.read b f.divides f.short f.held

just : (s t : SourceSeen) (turn : ℕ) (b : Begun) (f : Follows s t turn b) (piece : List ℕ) → length piece ≤ 4096 → IsJustRead (f.read ++ piece)
just s t turn b f piece few = (f.read, piece, refl, few, is_open s t turn b f)

pub follows_none : (s : SourceSeen) (b : Begun) → b ≡ begun [] [] false → Follows s s 0 b
follows_none s b is =
    let P : Begun → Type 0 = λ x. Follows s s 0 x in
    subst P (sym is) (record {
      read = [];
      consumed = consumes_none s.remaining;
      count = omega arith;
      divides = λ z. refl;
      short = omega arith;
      held = record { line = refl; none = λ e. refl };
      calls = omega arith;
      failures = refl;
      ends = refl;
    })

-- one read more, behind which it is still open where the script ends
pub follows_more : (s0 s1 s2 : SourceSeen) (turn n : ℕ) (b c : Begun) (piece front : List ℕ) → Follows s0 s1 turn b → Consumes s1.remaining s2.remaining front → piece ≡ front → 0 < length piece
    → ((z : List ℕ) → splits c z ≡ splits b (piece ++ z)) → length c.known ≤ 65536 → IsHeld c
    → s2.calls ≡ s1.calls + 1 → s2.failures ≡ s1.failures → s2.ends ≡ s1.ends + ends_of {E = DeviceFault} (Ok n) → (n ≡ 0 → ⊥) → Follows s0 s2 (turn + 1) c
follows_more s0 s1 s2 turn n b c piece front f consumes is some on short held calls failures ends not = record {
  read = f.read ++ piece;
  consumed = consumes_append s0.remaining s1.remaining s2.remaining f.read piece f.consumed (consumes_same s1.remaining s2.remaining piece front is consumes);
  count = (let le = f.count in omega (arith, le, some, length-append f.read piece));
  divides = λ z. on z ∙ f.divides (piece ++ z) ∙ ap divided (sym (append_assoc f.read piece z));
  short = short;
  held = held;
  calls = (let a = f.calls in omega (arith, a, calls));
  failures = failures ∙ f.failures;
  ends = ends_some n s1.ends s2.ends ends not ∙ f.ends;
}

-- a read that gave nothing
pub collected_end : (s0 s1 s2 : SourceSeen) (turn n : ℕ) (b : Begun) (front script behind : List ℕ) → Follows s0 s1 turn b → Consumes s1.remaining s2.remaining front → [] ≡ front
    → IsAtEnd s2.remaining → s2.calls ≡ s1.calls + 1 → s2.ends ≡ s1.ends + ends_of {E = DeviceFault} (Ok n) → n ≡ 0 → turn < 1000000
    → splits b [] ≡ (let p : Halves = (script, []) in p) → behind ≡ []
    → (read : List ℕ) × Consumes s0.remaining s2.remaining read × IsJustRead read × HeadOf InputEnds read (turn + 1) s0 s2 script behind × (s2.calls ≡ s0.calls + (turn + 1)) × (turn + 1 ≤ 1000000)
collected_end s0 s1 s2 turn n b front script behind f consumes is end calls ends none lt whole nothing = (
  f.read ++ [],
  consumes_append s0.remaining s1.remaining s2.remaining f.read [] f.consumed (consumes_same s1.remaining s2.remaining [] front is consumes),
  just s0 s1 turn b f [] (omega arith),
  (end, (let a = ends_one n s1.ends s2.ends ends none in let e = f.ends in omega (arith, a, e)), sym (f.divides []) ∙ whole, nothing),
  (let a = f.calls in omega (arith, a, calls)),
  omega (arith, lt),
)

-- the line that divides has come
pub collected_behind : (r : Result Head EngineFault) (s0 s1 s2 : SourceSeen) (turn n used : ℕ) (b : Begun) (piece front rest known : List ℕ) → Follows s0 s1 turn b
    → Consumes s1.remaining s2.remaining front → piece ≡ front → 0 < length piece → length piece ≤ 4096
    → s2.calls ≡ s1.calls + 1 → s2.ends ≡ s1.ends + ends_of {E = DeviceFault} (Ok n) → (n ≡ 0 → ⊥) → turn < 1000000
    → ((z : List ℕ) → splits b (piece ++ z) ≡ (let p : Halves = (known, drop used piece ++ z) in p)) → rest ≡ drop used piece
    → IfOk r (λ head. (head.script.items ≡ known) × (head.behind.items ≡ rest) × (head.end ≡ LineDivides) × (head.reads ≡ turn + 1)) → IfErr r (λ fault. fault ≡ Memory)
    → Collected s0 s2 r
collected_behind (Ok head) s0 s1 s2 turn n used b piece front rest known f consumes is some few calls ends not lt on back h e =
    let P : HeadEnd → Type 0 = λ x. HeadOf x (f.read ++ piece) head.reads s0 s2 head.script.items head.behind.items in
    let k : HeadOf LineDivides (f.read ++ piece) head.reads s0 s2 head.script.items head.behind.items = (
      ends_some n s1.ends s2.ends ends not ∙ f.ends,
      (λ z. ap divided (append_assoc f.read piece z) ∙ sym (f.divides (piece ++ z)) ∙ on z
          ∙ ap (λ x. let p : Halves = (x, drop used piece ++ z) in p) (sym h.0) ∙ ap (λ x. let p : Halves = (head.script.items, x ++ z) in p) (sym (h.1 ∙ back))),
      (let le = f.count in let m = h.3 in omega (arith, le, m, some, length-append f.read piece)),
    ) in (
      f.read ++ piece,
      consumes_append s0.remaining s1.remaining s2.remaining f.read piece f.consumed (consumes_same s1.remaining s2.remaining piece front is consumes),
      just s0 s1 turn b f piece few,
      subst P (sym h.2) k,
      (let a = f.calls in let m = h.3 in omega (arith, a, m, calls)),
      (let m = h.3 in omega (arith, m, lt)),
    )
collected_behind (Err fault) s0 s1 s2 turn n used b piece front rest known f consumes is some few calls ends not lt on back h e =
    let P : EngineFault → Type 0 = λ x. Collected s0 s2 (Err x) in subst P (sym e) tt

-- the script is too long
pub collected_long : (s0 s1 s2 : SourceSeen) (turn n : ℕ) (b : Begun) (piece front known script behind : List ℕ) → Follows s0 s1 turn b
    → Consumes s1.remaining s2.remaining front → piece ≡ front → length piece ≤ 4096
    → s2.calls ≡ s1.calls + 1 → s2.ends ≡ s1.ends + ends_of {E = DeviceFault} (Ok n) → (n ≡ 0 → ⊥) → turn < 1000000
    → ((z : List ℕ) → (more : List ℕ) × ((splits b (piece ++ z)).0 ≡ known ++ more)) → 65536 < length known → script ≡ known
    → (read : List ℕ) × Consumes s0.remaining s2.remaining read × IsJustRead read × HeadOf TooLong read (turn + 1) s0 s2 script behind × (s2.calls ≡ s0.calls + (turn + 1)) × (turn + 1 ≤ 1000000)
collected_long s0 s1 s2 turn n b piece front known script behind f consumes is few calls ends not lt on long same = (
  f.read ++ piece,
  consumes_append s0.remaining s1.remaining s2.remaining f.read piece f.consumed (consumes_same s1.remaining s2.remaining piece front is consumes),
  just s0 s1 turn b f piece few,
  (
    ends_some n s1.ends s2.ends ends not ∙ f.ends,
    (λ z. let h = on z in (h.0, ap (λ x. (divided x).0) (append_assoc f.read piece z) ∙ ap (λ (p : Halves). p.0) (sym (f.divides (piece ++ z))) ∙ h.1 ∙ ap (λ x. x ++ h.0) (sym same))),
    (let P : List ℕ → Type 0 = λ x. 65536 < length x in subst P (sym same) long),
  ),
  (let a = f.calls in omega (arith, a, calls)),
  omega (arith, lt),
)

-- a read failed
pub collected_failed : (s0 s1 s2 : SourceSeen) (turn : ℕ) (b : Begun) → Follows s0 s1 turn b → Keeps s1.remaining s2.remaining → s2.ends ≡ s1.ends
    → (read : List ℕ) × Consumes s0.remaining s2.remaining read × IsOpen read × (s2.ends ≡ s0.ends)
collected_failed s0 s1 s2 turn b f keeps ends =
    (f.read, consumes_keeps s0.remaining s1.remaining s2.remaining f.read f.consumed keeps, is_open s0 s1 turn b f, ends ∙ f.ends)

-- no more reads may be made
pub collected_turns : (s t : SourceSeen) (turn : ℕ) (b : Begun) → Follows s t turn b → turn ≡ 1000000
    → (read : List ℕ) × Consumes s.remaining t.remaining read × IsOpen read × (1000000 ≤ length read) × (t.calls ≡ s.calls + 1000000) × (t.ends ≡ s.ends)
collected_turns s t turn b f is =
    (f.read, f.consumed, is_open s t turn b f, (let le = f.count in omega (arith, le, is)), (let a = f.calls in omega (arith, a, is)), f.ends)

pub ruleset collecting = (follows_none, follows_more, collected_end, collected_behind, collected_long, collected_failed, collected_turns)
