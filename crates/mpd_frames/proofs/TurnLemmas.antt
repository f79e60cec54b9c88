-- Turns, one after another.
use Rattle.std.proofs.Common.{◌≡◌, ℕ, zero, suc, ◌+◌, ◌<◌, ◌≤◌, Bool, false, inl, inr, List, [], ◌++◌, length, Option, Some, None, Result, Ok, Err, refl, ap, sym, subst, ◌∙◌, arith, length-append, append-nil}
use Rattle.std.proofs.KnownBytes.{Consumes-nil, Consumes-trans, Consumes-kept}
use Rattle.std.specs.Io.KnownBytes.{Consumes}
use Rattle.mpd_model.specs.devices.Seen.{SourceSeen, SinkSeen}
use Rattle.mpd_lines.specs.declared.engine.EngineFault.TheVariants.{ReadFailed, WriteFailed, TooManyTurns, Memory}
use Rattle.mpd_model.specs.devices.Ends.{ends_of}
use Rattle.mpd_model.specs.declared.device.DeviceFault.{DeviceFault}
use Rattle.mpd_frames.specs.FaultWords.{failed_reads, failed_writes}
use Rattle.mpd_frames.specs.Frames.{IsPartial, IsBegun}
use Rattle.mpd_frames.specs.Reading.{Held, held_bytes, nothing_held, Holds, HoldsBy}
use Rattle.mpd_frames.specs.Answered.{Told}
use Rattle.mpd_frames.specs.Fed.{Fed}
use Rattle.mpd_frames.specs.Served.{Took, Served}
use Rattle.mpd_frames.specs.Turned.{Gave, Turned, CountedOnce, SoFar}
use Rattle.mpd_frames.specs.declared.fault.StreamFault.{StreamFault}
use Rattle.mpd_frames.specs.declared.fault.StreamFault.TheVariants.{Engine, Frame, CutOff, BodyMemory}
use Rattle.mpd_frames.specs.declared.engine.Turn.{Turn}
use Rattle.mpd_frames.specs.declared.engine.Turn.TheVariants.{More, Over, End}
use Rattle.mpd_frames.specs.declared.engine.Ending.TheVariants.{InputEnded, DeskOver}
use Rattle.mpd_frames.proofs.FedLemmas.{fed_on, fed_none, holds_none}

-- ---- one turn

gave_some : (n before after : ℕ) → after ≡ before + ends_of {E = DeviceFault} (Ok n) → (n ≡ 0 → ⊥) → after ≡ before
gave_some zero before after e h = absurd (h refl)
gave_some (suc n) before after e h = omega (arith, e)

-- a read that gave some bytes
pub gave_by : (s t : SourceSeen) (n : ℕ) (piece front : List ℕ) → Consumes s.remaining t.remaining front → piece ≡ front → 0 < length piece → length piece ≤ 4096
    → t.ends ≡ s.ends + ends_of {E = DeviceFault} (Ok n) → (n ≡ 0 → ⊥) → Gave s t piece
gave_by s t n piece front c is some few ends not = record {
  consumed = subst (λ x. Consumes s.remaining t.remaining x) (sym is) c;
  some = some;
  most = few;
  ends_same = gave_some n s.ends t.ends ends not;
}

-- how many calls failed, where a piece was taken
pub fed_counts : {D : Type 0} (A : D → List ℕ → List ℕ → D → Type 0) (over : D → Bool) (d e : D) (p z : List ℕ) (q : Held) (v w : SinkSeen) (r : Result Turn StreamFault)
    → Fed A over d p z v w e q r → (failed_reads r ≡ 0) × (w.failures ≡ v.failures + failed_writes r)
fed_counts A over d e p z q v w (Ok More) f = (refl, (let k = f.1 in omega (arith, k)))
fed_counts A over d e p z q v w (Ok Over) f = (refl, (let k = f.2 in omega (arith, k)))
fed_counts A over d e p z q v w (Ok End) f = absurd f
fed_counts A over d e p z q v w (Err (Frame fault)) f = (refl, (let k = f.2 in omega (arith, k)))
fed_counts A over d e p z q v w (Err BodyMemory) f = (refl, (let k = f.2 in omega (arith, k)))
fed_counts A over d e p z q v w (Err (Engine WriteFailed)) f = (refl, f.2)
fed_counts A over d e p z q v w (Err (Engine ReadFailed)) f = absurd f
fed_counts A over d e p z q v w (Err (Engine TooManyTurns)) f = absurd f
fed_counts A over d e p z q v w (Err (Engine Memory)) f = absurd f
fed_counts A over d e p z q v w (Err CutOff) f = absurd f

pub turned_by : {D : Type 0} (A : D → List ℕ → List ℕ → D → Type 0) (over : D → Bool) (d e : D) (p q : Held) (piece : List ℕ) (s t : SourceSeen) (v w : SinkSeen) (r : Result Turn StreamFault)
    → Gave s t piece → Fed A over d (held_bytes p) piece v w e q r → Turned A over d p s t v w e q r
turned_by A over d e p q piece s t v w (Ok More) g f = (piece, g, f)
turned_by A over d e p q piece s t v w (Ok Over) g f = (piece, g, f)
turned_by A over d e p q piece s t v w (Ok End) g f = absurd f
turned_by A over d e p q piece s t v w (Err (Frame fault)) g f = (piece, g, f)
turned_by A over d e p q piece s t v w (Err BodyMemory) g f = (piece, g, f)
turned_by A over d e p q piece s t v w (Err (Engine WriteFailed)) g f = (piece, g, f)
turned_by A over d e p q piece s t v w (Err (Engine ReadFailed)) g f = absurd f
turned_by A over d e p q piece s t v w (Err (Engine TooManyTurns)) g f = absurd f
turned_by A over d e p q piece s t v w (Err (Engine Memory)) g f = absurd f
turned_by A over d e p q piece s t v w (Err CutOff) g f = absurd f

pub counted_by : {D : Type 0} (A : D → List ℕ → List ℕ → D → Type 0) (over : D → Bool) (d e : D) (p z : List ℕ) (q : Held) (s t : SourceSeen) (v w : SinkSeen) (r : Result Turn StreamFault)
    → t.calls ≡ s.calls + 1 → t.failures ≡ s.failures → Fed A over d p z v w e q r → CountedOnce s t v w r
counted_by A over d e p z q s t v w r calls failures f =
    let k = fed_counts A over d e p z q v w r f in
    record { calls = calls; reads_failed = (let a = k.0 in omega (arith, a, failures)); writes_failed = k.1 }

-- ---- many turns

pub so_far_none : {D : Type 0} (A : D → List ℕ → List ℕ → D → Type 0) (over : D → Bool) (d : D) (s : SourceSeen) (w : SinkSeen) (q : Held) → over d ≡ false → q ≡ nothing_held → SoFar A over d 0 s s w w d q
so_far_none A over d s w q waiting none = subst (λ h. SoFar A over d 0 s s w w d h) (sym none) (record {
  read = [];
  consumed = Consumes-nil s.remaining;
  count = omega arith;
  most = omega arith;
  fed = fed_none A over d nothing_held w waiting holds_none;
  calls = omega arith;
  failures = refl;
  ends_same = refl;
})

pub so_far_more : {D : Type 0} (A : D → List ℕ → List ℕ → D → Type 0) (over : D → Bool) (d m e : D) (p q : Held) (n : ℕ) (s0 s1 s2 : SourceSeen) (v0 v1 v2 : SinkSeen)
    → SoFar A over d n s0 s1 v0 v1 m p → Turned A over m p s1 s2 v1 v2 e q (Ok More) → CountedOnce s1 s2 v1 v2 (Ok More) → SoFar A over d (n + 1) s0 s2 v0 v2 e q
so_far_more A over d m e p q n s0 s1 s2 v0 v1 v2 f t c = record {
  read = f.read ++ t.0;
  consumed = Consumes-trans s0.remaining s1.remaining s2.remaining f.read t.0 f.consumed t.1.consumed;
  count = (let le = f.count in let some = t.1.some in omega (arith, le, some, length-append f.read t.0));
  most = (let le = f.most in let few = t.1.most in omega (arith, le, few, length-append f.read t.0));
  fed = fed_on A over d m e [] f.read t.0 p q v0 v1 v2 (Ok More) f.fed t.2;
  calls = (let a = f.calls in let b = c.calls in omega (arith, a, b));
  failures = (let a = f.failures in let b = c.reads_failed in omega (arith, a, b));
  ends_same = t.1.ends_same ∙ f.ends_same;
}

-- what is held isn't a whole frame
partial_by : (w : Option ℕ) (header body : List ℕ) → HoldsBy w header body → IsPartial (header ++ body)
partial_by None header body h = inl (subst (λ x. IsBegun x) (sym (ap (λ x. header ++ x) h.0 ∙ append-nil header)) h.1)
partial_by (Some n) header body h = inr (header, body, refl, record { is_header = h.0; size = n; length_is = h.1; fewer = h.2 })

partial : (q : Held) → Holds q → IsPartial (held_bytes q)
partial q h = partial_by q.wanted q.header q.body h

took_none : {D : Type 0} (A : D → List ℕ → List ℕ → D → Type 0) (over : D → Bool) (d e : D) (q : Held) (n turns : ℕ) (s t : SourceSeen) (v w : SinkSeen) → n ≤ turns → (f : SoFar A over d n s t v w e q) → Took turns 0 s t f.read
took_none A over d e q n turns s t v w le f = record {
  consumed = f.consumed;
  most = (let few = f.most in omega (arith, few, le));
  ends_more = (let k = f.ends_same in omega (arith, k));
}

-- the input has ended after these turns
took_end : {D : Type 0} (A : D → List ℕ → List ℕ → D → Type 0) (over : D → Bool) (d m : D) (p : Held) (n turns : ℕ) (s0 s1 s2 : SourceSeen) (v w : SinkSeen)
    → n < turns → (f : SoFar A over d n s0 s1 v w m p) → Consumes s1.remaining s2.remaining [] → s2.ends ≡ s1.ends + 1 → Took turns 1 s0 s2 f.read
took_end A over d m p n turns s0 s1 s2 v w lt f c ends = record {
  consumed = subst (λ x. Consumes s0.remaining s2.remaining x) (append-nil f.read) (Consumes-trans s0.remaining s1.remaining s2.remaining f.read [] f.consumed c);
  most = (let few = f.most in omega (arith, few, lt));
  ends_more = (let k = f.ends_same in omega (arith, k, ends));
}

took_more : {D : Type 0} (A : D → List ℕ → List ℕ → D → Type 0) (over : D → Bool) (d m : D) (p : Held) (n turns : ℕ) (s0 s1 s2 : SourceSeen) (v w : SinkSeen) (piece : List ℕ)
    → n < turns → (f : SoFar A over d n s0 s1 v w m p) → Gave s1 s2 piece → Took turns 0 s0 s2 (f.read ++ piece)
took_more A over d m p n turns s0 s1 s2 v w piece lt f g = record {
  consumed = Consumes-trans s0.remaining s1.remaining s2.remaining f.read piece f.consumed g.consumed;
  most = (let few = f.most in let more = g.most in omega (arith, few, more, lt, length-append f.read piece));
  ends_more = (let k = f.ends_same in let l = g.ends_same in omega (arith, k, l));
}

told_to : {D : Type 0} (A : D → List ℕ → List ℕ → D → Type 0) (d : D) (input rest left : List ℕ) (old : Option (List ℕ)) (w0 w1 : SinkSeen) (e0 e1 : D)
    → rest ≡ left → w1 ≡ w0 → e1 ≡ e0 → Told A d input rest old w0.contents e0 → Told A d input left old w1.contents e1
told_to A d input rest left old w0 w1 e0 e1 is w e t =
    subst (λ x. Told A d input x old w1.contents e1) is (subst (λ (x : SinkSeen). Told A d input rest old x.contents e1) (sym w) (subst (λ x. Told A d input rest old w0.contents x) (sym e) t))

pub served_end : {D : Type 0} (A : D → List ℕ → List ℕ → D → Type 0) (over : D → Bool) (d m e : D) (p q : Held) (n turns : ℕ) (s0 s1 s2 : SourceSeen) (v0 v1 v2 : SinkSeen)
    → n < turns → SoFar A over d n s0 s1 v0 v1 m p → Turned A over m p s1 s2 v1 v2 e q (Ok End) → held_bytes q ≡ [] → Served A over d turns s0 s2 v0 v2 e (Ok InputEnded)
served_end A over d m e p q n turns s0 s1 s2 v0 v1 v2 lt f t none = (
  f.read,
  took_end A over d m p n turns s0 s1 s2 v0 v1 lt f t.0 t.2,
  t.1,
  told_to A d f.read (held_bytes p) [] v0.contents v1 v2 m e (ap held_bytes (sym t.5) ∙ none) t.3 t.4 f.fed.0,
  ap over t.4 ∙ f.fed.2,
)

pub served_cut : {D : Type 0} (A : D → List ℕ → List ℕ → D → Type 0) (over : D → Bool) (d m e : D) (p q : Held) (n turns : ℕ) (s0 s1 s2 : SourceSeen) (v0 v1 v2 : SinkSeen)
    → n < turns → SoFar A over d n s0 s1 v0 v1 m p → Turned A over m p s1 s2 v1 v2 e q (Ok End) → 0 < length (held_bytes q) → Served A over d turns s0 s2 v0 v2 e (Err CutOff)
served_cut A over d m e p q n turns s0 s1 s2 v0 v1 v2 lt f t some = (
  f.read,
  held_bytes p,
  took_end A over d m p n turns s0 s1 s2 v0 v1 lt f t.0 t.2,
  t.1,
  told_to A d f.read (held_bytes p) (held_bytes p) v0.contents v1 v2 m e refl t.3 t.4 f.fed.0,
  partial p f.fed.3,
  (let k = ap (λ h. length (held_bytes h)) t.5 in omega (arith, k, some)),
)

pub served_over : {D : Type 0} (A : D → List ℕ → List ℕ → D → Type 0) (over : D → Bool) (d m e : D) (p q : Held) (n turns : ℕ) (s0 s1 s2 : SourceSeen) (v0 v1 v2 : SinkSeen)
    → n < turns → SoFar A over d n s0 s1 v0 v1 m p → Turned A over m p s1 s2 v1 v2 e q (Ok Over) → Served A over d turns s0 s2 v0 v2 e (Ok DeskOver)
served_over A over d m e p q n turns s0 s1 s2 v0 v1 v2 lt f t =
    let g = fed_on A over d m e [] f.read t.0 p q v0 v1 v2 (Ok Over) f.fed t.2 in
    (f.read ++ t.0, g.0, took_more A over d m p n turns s0 s1 s2 v0 v1 t.0 lt f t.1, g.1, g.3)

pub served_fault : {D : Type 0} (A : D → List ℕ → List ℕ → D → Type 0) (over : D → Bool) (d m e : D) (p q : Held) (n turns : ℕ) (s0 s1 s2 : SourceSeen) (v0 v1 v2 : SinkSeen) (fault : StreamFault)
    → n < turns → SoFar A over d n s0 s1 v0 v1 m p → Turned A over m p s1 s2 v1 v2 e q (Err fault) → Served A over d turns s0 s2 v0 v2 e (Err fault)
served_fault A over d m e p q n turns s0 s1 s2 v0 v1 v2 (Frame fault) lt f t =
    let g = fed_on A over d m e [] f.read t.0 p q v0 v1 v2 (Err (Frame fault)) f.fed t.2 in
    (f.read ++ t.0, g.0, took_more A over d m p n turns s0 s1 s2 v0 v1 t.0 lt f t.1, g.1, g.3)
served_fault A over d m e p q n turns s0 s1 s2 v0 v1 v2 BodyMemory lt f t =
    let g = fed_on A over d m e [] f.read t.0 p q v0 v1 v2 (Err BodyMemory) f.fed t.2 in
    (f.read ++ t.0, g.0, took_more A over d m p n turns s0 s1 s2 v0 v1 t.0 lt f t.1, g.1, g.3)
served_fault A over d m e p q n turns s0 s1 s2 v0 v1 v2 (Engine WriteFailed) lt f t =
    let g = fed_on A over d m e [] f.read t.0 p q v0 v1 v2 (Err (Engine WriteFailed)) f.fed t.2 in
    (f.read ++ t.0, g.0, took_more A over d m p n turns s0 s1 s2 v0 v1 t.0 lt f t.1, g.1)
served_fault A over d m e p q n turns s0 s1 s2 v0 v1 v2 (Engine ReadFailed) lt f t = (
  f.read,
  held_bytes p,
  record {
    consumed = Consumes-kept s0.remaining s1.remaining s2.remaining f.read f.consumed t.0;
    most = (let few = f.most in omega (arith, few, lt));
    ends_more = (let k = f.ends_same in let l = t.1 in omega (arith, k, l));
  },
  told_to A d f.read (held_bytes p) (held_bytes p) v0.contents v1 v2 m e refl t.2 t.3 f.fed.0,
  partial p f.fed.3,
)
served_fault A over d m e p q n turns s0 s1 s2 v0 v1 v2 (Engine TooManyTurns) lt f t = absurd t.2
served_fault A over d m e p q n turns s0 s1 s2 v0 v1 v2 (Engine Memory) lt f t = absurd t.2
served_fault A over d m e p q n turns s0 s1 s2 v0 v1 v2 CutOff lt f t = absurd t.2

pub served_turns : {D : Type 0} (A : D → List ℕ → List ℕ → D → Type 0) (over : D → Bool) (d e : D) (q : Held) (n turns : ℕ) (s t : SourceSeen) (v w : SinkSeen)
    → SoFar A over d n s t v w e q → turns ≡ n → Served A over d turns s t v w e (Err (Engine TooManyTurns))
served_turns A over d e q n turns s t v w f is = (
  f.read,
  held_bytes q,
  took_none A over d e q n turns s t v w (omega (arith, is)) f,
  f.fed.0,
  partial q f.fed.3,
  (let le = f.count in omega (arith, le, is)),
  (let a = f.calls in omega (arith, a, is)),
)
