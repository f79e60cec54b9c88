-- Turns, one after another.
use Rattle.std.proofs.Common.{◌≡◌, ℕ, zero, suc, ◌+◌, ◌<◌, ◌≤◌, List, [], ◌++◌, length, Option, Some, None, Result, Ok, Err, refl, ap, sym, subst, ◌∙◌, append_assoc, append-nil, length-append, arith, inl, inr}
use Rattle.std.specs.Io.KnownBytes.{Consumes, IsAtEnd, Keeps}
use Rattle.mpd_model.specs.texts.Lines.{lines_of, ended_lines}
use Rattle.mpd_model.specs.devices.Seen.{SourceSeen, SinkSeen}
use Rattle.mpd_model.specs.devices.Ends.{ends_of}
use Rattle.mpd_model.specs.declared.device.DeviceFault.{DeviceFault}
use Rattle.mpd_lines.specs.Forward.{ended_from, part_from, last_line}
use Rattle.mpd_lines.specs.Telling.{Tells}
use Rattle.mpd_lines.specs.Gathering.{Spoken}
use Rattle.mpd_lines.specs.FaultWords.{failed_reads, failed_writes}
use Rattle.mpd_lines.specs.Served.{Served, Counted}
use Rattle.mpd_lines.specs.Turned.{Turned, CountedOnce, SoFar}
use Rattle.mpd_lines.specs.declared.engine.EngineFault.{EngineFault}
use Rattle.mpd_lines.specs.declared.engine.EngineFault.TheVariants.{ReadFailed, WriteFailed, TooManyTurns, Memory}
use Rattle.mpd_lines.specs.declared.engine.Turn.{Turn}
use Rattle.mpd_lines.specs.declared.engine.Turn.TheVariants.{More, End}
use Rattle.mpd_lines.proofs.TellingLaws.{tells_append, tells_along, breaks_told, breaks_along}
use Rattle.mpd_lines.proofs.ForwardLaws.{ended_append, part_append, all_lines, whole_lines}

consumes_none : (s : Option (List ℕ)) → Consumes s s []
consumes_none None = tt
consumes_none (Some xs) = refl

consumes_append : (old mid new : Option (List ℕ)) (xs ys : List ℕ) → Consumes old mid xs → Consumes mid new ys → Consumes old new (xs ++ ys)
consumes_append None mid new xs ys a b = tt
consumes_append (Some us) None new xs ys a b = absurd a
consumes_append (Some us) (Some vs) None xs ys a b = absurd b
consumes_append (Some us) (Some vs) (Some ws) xs ys a b = a ∙ ap (λ t. xs ++ t) b ∙ sym (append_assoc xs ys ws)

consumes_keeps : (old mid new : Option (List ℕ)) (xs : List ℕ) → Consumes old mid xs → Keeps mid new → Consumes old new xs
consumes_keeps None mid new xs a k = tt
consumes_keeps (Some us) None new xs a k = absurd a
consumes_keeps (Some us) (Some vs) None xs a k = absurd k
consumes_keeps (Some us) (Some vs) (Some ws) xs a k = a ∙ ap (λ t. xs ++ t) (sym k)

consumes_end : (old mid new : Option (List ℕ)) (xs : List ℕ) → Consumes old mid xs → Consumes mid new [] → Consumes old new xs
consumes_end old mid new xs a b = let P : List ℕ → Type 0 = λ x. Consumes old new x in subst P (append-nil xs) (consumes_append old mid new xs [] a b)

consumes_same : (old new : Option (List ℕ)) (xs ys : List ℕ) → xs ≡ ys → Consumes old new ys → Consumes old new xs
consumes_same old new xs ys is c = let P : List ℕ → Type 0 = λ x. Consumes old new x in subst P (sym is) c

-- ---- one turn

ends_some : (n before after : ℕ) → after ≡ before + ends_of {E = DeviceFault} (Ok n) → (n ≡ 0 → ⊥) → after ≡ before
ends_some zero before after e h = absurd (h refl)
ends_some (suc n) before after e h = omega (arith, e)

ends_one : (n before after : ℕ) → after ≡ before + ends_of {E = DeviceFault} (Ok n) → n ≡ 0 → after ≡ before + 1
ends_one zero before after e h = e
ends_one (suc n) before after e h = absurd (omega (arith, h))

pub turned_lost : {D : Type 0} (A : D → List ℕ → List ℕ → D → Type 0) (below : ℕ) (d e : D) (p q piece front : List ℕ) (f : DeviceFault) (s t : SourceSeen) (v w : SinkSeen)
    → Consumes s.remaining t.remaining front → piece ≡ front → length piece ≤ 4096 → Spoken A below d (ended_from p piece) v w e (Err f) → Turned A below d p s t v w e q (Err WriteFailed)
turned_lost A below d e p q piece front f s t v w c is few told = inl (piece, consumes_same s.remaining t.remaining piece front is c, told.0, few)

-- ---- many turns

-- the lines among what was read, and those that end within one piece more
ended_more : (before read q piece : List ℕ) → q ≡ part_from [] (before ++ read) → ended_from [] (before ++ read) ++ ended_from q piece ≡ ended_from [] (before ++ (read ++ piece))
ended_more before read q piece is =
    ap (λ x. ended_from [] (before ++ read) ++ ended_from x piece) is ∙ sym (ended_append [] (before ++ read) piece) ∙ ap (λ x. ended_from [] x) (append_assoc before read piece)

part_more : (before read q r piece : List ℕ) → q ≡ part_from [] (before ++ read) → r ≡ part_from q piece → r ≡ part_from [] (before ++ (read ++ piece))
part_more before read q r piece is on =
    on ∙ ap (λ x. part_from x piece) is ∙ sym (part_append [] (before ++ read) piece) ∙ ap (λ x. part_from [] x) (append_assoc before read piece)

-- the lines of an input that has ended
ended_last : (before read q : List ℕ) → q ≡ part_from [] (before ++ read) → ended_from [] (before ++ read) ++ last_line q ≡ lines_of (before ++ read)
ended_last before read q is = ap (λ x. ended_from [] (before ++ read) ++ last_line x) is ∙ all_lines (before ++ read)

pub so_far_more : {D : Type 0} (A : D → List ℕ → List ℕ → D → Type 0) (below : ℕ) (d m e : D) (before p q : List ℕ) (n : ℕ) (s0 s1 s2 : SourceSeen) (v0 v1 v2 : SinkSeen)
    → SoFar A d before n s0 s1 v0 v1 m p → Turned A below m p s1 s2 v1 v2 e q (Ok More) → CountedOnce s1 s2 v1 v2 (Ok More) → SoFar A d before (n + 1) s0 s2 v0 v2 e q
so_far_more A below d m e before p q n s0 s1 s2 v0 v1 v2 f t c = record {
  read = f.read ++ t.0;
  consumed = consumes_append s0.remaining s1.remaining s2.remaining f.read t.0 f.consumed t.1;
  count = (let le = f.count in let some = t.2 in omega (arith, le, some, length-append f.read t.0));
  most = (let le = f.most in let few = t.6 in omega (arith, le, few, length-append f.read t.0));
  part = part_more before f.read p q t.0 f.part t.4;
  told = tells_along A d e (ended_from [] (before ++ f.read) ++ ended_from p t.0) (ended_from [] (before ++ (f.read ++ t.0))) v0.contents v2.contents
      (ended_more before f.read p t.0 f.part)
      (tells_append A d m e (ended_from [] (before ++ f.read)) (ended_from p t.0) v0.contents v1.contents v2.contents f.told t.5);
  calls = (let a = f.calls in let b = c.calls in omega (arith, a, b));
  failures = (let a = f.failures in let b = c.reads_failed in omega (arith, a, b));
  ends = t.3 ∙ f.ends;
  writes = (let a = f.writes in let b = c.writes_failed in omega (arith, a, b));
}

pub served_end : {D : Type 0} (A : D → List ℕ → List ℕ → D → Type 0) (below : ℕ) (d m e : D) (before p q : List ℕ) (n turns : ℕ) (s0 s1 s2 : SourceSeen) (v0 v1 v2 : SinkSeen)
    → n < turns → SoFar A d before n s0 s1 v0 v1 m p → Turned A below m p s1 s2 v1 v2 e q (Ok End) → Served A below d before turns s0 s2 v0 v2 e (Ok _)
served_end A below d m e before p q n turns s0 s1 s2 v0 v1 v2 lt f t = (
  f.read,
  consumes_end s0.remaining s1.remaining s2.remaining f.read f.consumed t.0,
  t.1,
  (let a = t.2 in let b = f.ends in omega (arith, a, b)),
  tells_along A d e (ended_from [] (before ++ f.read) ++ last_line p) (lines_of (before ++ f.read)) v0.contents v2.contents (ended_last before f.read p f.part)
      (tells_append A d m e (ended_from [] (before ++ f.read)) (last_line p) v0.contents v1.contents v2.contents f.told t.3),
  (let le = f.most in omega (arith, le, lt)),
)

pub served_fault : {D : Type 0} (A : D → List ℕ → List ℕ → D → Type 0) (below : ℕ) (d m e : D) (before p q : List ℕ) (n turns : ℕ) (s0 s1 s2 : SourceSeen) (v0 v1 v2 : SinkSeen) (fault : EngineFault)
    → n < turns → SoFar A d before n s0 s1 v0 v1 m p → Turned A below m p s1 s2 v1 v2 e q (Err fault) → Served A below d before turns s0 s2 v0 v2 e (Err fault)
served_fault {D} A below d m e before p q n turns s0 s1 s2 v0 v1 v2 ReadFailed lt f t =
    let P : D → Type 0 = λ x. Tells A d (ended_lines (before ++ f.read)) v0.contents v2.contents x in
    let Q : SinkSeen → Type 0 = λ x. Tells A d (ended_lines (before ++ f.read)) v0.contents x.contents m in (
      f.read,
      consumes_keeps s0.remaining s1.remaining s2.remaining f.read f.consumed t.0,
      t.1 ∙ f.ends,
      subst P (sym t.3) (subst Q (sym t.2) (tells_along A d m (ended_from [] (before ++ f.read)) (ended_lines (before ++ f.read)) v0.contents v1.contents (whole_lines (before ++ f.read)) f.told)),
      (let le = f.most in omega (arith, le, lt)),
    )
served_fault A below d m e before p q n turns s0 s1 s2 v0 v1 v2 WriteFailed lt f (inl t) = (
  f.read ++ t.0,
  consumes_append s0.remaining s1.remaining s2.remaining f.read t.0 f.consumed t.1,
  inl (breaks_along A below d e (ended_from [] (before ++ f.read) ++ ended_from p t.0) (ended_lines (before ++ (f.read ++ t.0))) v0.contents v2.contents [] []
      (ended_more before f.read p t.0 f.part ∙ whole_lines (before ++ (f.read ++ t.0))) refl
      (breaks_told A below d m e (ended_from [] (before ++ f.read)) (ended_from p t.0) v0.contents v1.contents v2.contents f.told t.2)),
  (let le = f.most in let few = t.3 in omega (arith, le, few, lt, length-append f.read t.0)),
)
served_fault A below d m e before p q n turns s0 s1 s2 v0 v1 v2 WriteFailed lt f (inr t) = (
  f.read,
  consumes_end s0.remaining s1.remaining s2.remaining f.read f.consumed t.0,
  inr (
    t.1,
    breaks_along A below d e (ended_from [] (before ++ f.read) ++ last_line p) (lines_of (before ++ f.read)) v0.contents v2.contents [] [] (ended_last before f.read p f.part) refl
        (breaks_told A below d m e (ended_from [] (before ++ f.read)) (last_line p) v0.contents v1.contents v2.contents f.told t.2),
  ),
  (let le = f.most in omega (arith, le, lt)),
)
served_fault A below d m e before p q n turns s0 s1 s2 v0 v1 v2 TooManyTurns lt f t = absurd t
served_fault A below d m e before p q n turns s0 s1 s2 v0 v1 v2 Memory lt f t = absurd t

-- a write failed before the first read
pub served_before : {D : Type 0} (A : D → List ℕ → List ℕ → D → Type 0) (below : ℕ) (d e : D) (before p : List ℕ) (turns : ℕ) (s : SourceSeen) (v w : SinkSeen) (f : DeviceFault)
    → p ≡ [] → Spoken A below d (ended_from p before) v w e (Err f) → Served A below d before turns s s v w e (Err WriteFailed)
served_before A below d e before p turns s v w f none told = (
  [],
  consumes_none s.remaining,
  inl (breaks_along A below d e (ended_from p before) (ended_lines (before ++ [])) v.contents w.contents [] []
      (ap (λ x. ended_from x before) none ∙ ap (λ x. ended_from [] x) (sym (append-nil before)) ∙ whole_lines (before ++ [])) refl told.0),
  omega arith,
)

pub served_turns : {D : Type 0} (A : D → List ℕ → List ℕ → D → Type 0) (below : ℕ) (d e : D) (before q : List ℕ) (n turns : ℕ) (s t : SourceSeen) (v w : SinkSeen)
    → SoFar A d before n s t v w e q → turns ≡ n → Served A below d before turns s t v w e (Err TooManyTurns)
served_turns A below d e before q n turns s t v w f is = (
  f.read,
  f.consumed,
  (let le = f.count in omega (arith, le, is)),
  (let a = f.calls in omega (arith, a, is)),
  f.ends,
  tells_along A d e (ended_from [] (before ++ f.read)) (ended_lines (before ++ f.read)) v.contents w.contents (whole_lines (before ++ f.read)) f.told,
  (let le = f.most in omega (arith, le, is)),
)
