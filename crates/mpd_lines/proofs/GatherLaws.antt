-- Answers that are gathered, line after line.
use Rattle.std.proofs.Common.{◌≡◌, ℕ, ◌+◌, ◌<◌, List, [], ◌∷◌, ◌++◌, length, get_or, drop, drop-cons, add-one, Option, Result, Ok, Err, refl, ap, sym, subst, ◌∙◌, append_assoc, append-nil}
use Rattle.mpd_model.specs.devices.Seen.{SinkSeen}
use Rattle.mpd_model.specs.declared.device.DeviceFault.{DeviceFault}
use Rattle.mpd_lines.specs.Forward.{ended_from, part_from}
use Rattle.mpd_lines.specs.Gathering.{Gathers, Gathered, Relieved, Written, Fed}
use Rattle.mpd_lines.proofs.SentLaws.{appends_none, appends_append}
use Rattle.mpd_lines.proofs.TellingLaws.{says_append, says_one, breaks_one, breaks_behind, breaks_before, breaks_along}
use Rattle.mpd_lines.proofs.ForwardLaws.{ended_append, part_append}

pub relieve_none : (bytes : List ℕ) (w : SinkSeen) → Relieved bytes w w bytes (Ok _)
relieve_none bytes w = ([], refl, appends_none w.contents, refl)

pub relieve_all : (bytes after : List ℕ) (v w : SinkSeen) (r : Result (Unit {0}) DeviceFault) → after ≡ [] → Written bytes v w r → Relieved bytes v w after r
relieve_all bytes after v w (Ok u) none h = (bytes, ap (λ x. bytes ++ x) none ∙ append-nil bytes, h.0, h.1)
relieve_all bytes after v w (Err f) none h = h

pub ruleset relieving = (relieve_none, relieve_all)

pub gathers_none : {D : Type 0} (A : D → List ℕ → List ℕ → D → Type 0) (d : D) (w : Option (List ℕ)) (out : List ℕ) → Gathers A d [] w out w out d
gathers_none A d w out = ([], [], sym (append-nil out), appends_none w, (refl, refl))

pub gathers_append : {D : Type 0} (A : D → List ℕ → List ℕ → D → Type 0) (d m e : D) (ls ks : List (List ℕ)) (w0 w1 w2 : Option (List ℕ)) (o0 o1 o2 : List ℕ)
    → Gathers A d ls w0 o0 w1 o1 m → Gathers A m ks w1 o1 w2 o2 e → Gathers A d (ls ++ ks) w0 o0 w2 o2 e
gathers_append A d m e ls ks w0 w1 w2 o0 o1 o2 a b = (
  a.0 ++ b.0,
  a.1 ++ b.1,
  append_assoc a.1 b.1 o2 ∙ ap (λ x. a.1 ++ x) b.2 ∙ sym (append_assoc a.1 o1 b.0) ∙ ap (λ x. x ++ b.0) a.2 ∙ append_assoc o0 a.0 b.0,
  appends_append w0 w1 w2 a.1 b.1 a.3 b.3,
  says_append A d m e ls ks a.0 b.0 a.4 b.4,
)

-- one line was answered, and what waits was written where it was much
pub gathered_one : {D : Type 0} (A : D → List ℕ → List ℕ → D → Type 0) (below : ℕ) (d e : D) (l before out after : List ℕ) (v w : SinkSeen) (r : Result (Unit {0}) DeviceFault)
    → length before < below → ((text : List ℕ) × (out ≡ before ++ text) × A d l text e) → Relieved out v w after r → length after < below → Gathered A below d (l ∷ []) v before w after e r
gathered_one A below d e l before out after v w (Ok u) some said h few = ((said.0, h.0, h.1 ∙ said.1, h.2, says_one A d e l said.0 said.2), h.3, few)
gathered_one A below d e l before out after v w (Err f) some said h few = (breaks_one A below d e l before said.0 out v.contents w.contents some said.1 said.2 h.0, h.1)

pub gathered_long : {D : Type 0} (A : D → List ℕ → List ℕ → D → Type 0) (below : ℕ) (d e : D) (before out after : List ℕ) (v w : SinkSeen) (r : Result (Unit {0}) DeviceFault)
    → length before < below → ((text : List ℕ) × (out ≡ before ++ text) × ((line : List ℕ) → 4096 < length line → A d line text e)) → Relieved out v w after r → length after < below
    → (line : List ℕ) → 4096 < length line → Gathered A below d (line ∷ []) v before w after e r
gathered_long A below d e before out after v w r some said h few line lt = gathered_one A below d e line before out after v w r some (said.0, said.1, said.2 line lt) h few

-- no line was to be answered
pub gathered_none : {D : Type 0} (A : D → List ℕ → List ℕ → D → Type 0) (below : ℕ) (d : D) (w : SinkSeen) (out : List ℕ) → length out < below → Gathered A below d [] w out w out d (Ok _)
gathered_none A below d w out few = (gathers_none A d w.contents out, refl, few)

pub ruleset gathering = (gathered_one, gathered_long, gathered_none)

-- one byte more was fed
pub fed_more : {D : Type 0} (A : D → List ℕ → List ℕ → D → Type 0) (below : ℕ) (d m e : D) (p z q r rest left : List ℕ) (b : ℕ) (v0 v1 v2 : SinkSeen) (o0 o1 o2 : List ℕ)
    → Fed A below d p z v0 o0 v1 o1 m q rest → rest ≡ b ∷ left → r ≡ part_from q (b ∷ []) → Gathered A below m (ended_from q (b ∷ [])) v1 o1 v2 o2 e (Ok _)
    → Fed A below d p z v0 o0 v2 o2 e r left
fed_more A below d m e p z q r rest left b v0 v1 v2 o0 o1 o2 f is part g = record {
  lines = f.lines ++ ended_from q (b ∷ []);
  ended = append_assoc f.lines (ended_from q (b ∷ [])) (ended_from r left)
      ∙ ap (λ x. f.lines ++ x) (ap (λ x. ended_from q (b ∷ []) ++ ended_from x left) part ∙ sym (ended_append q (b ∷ []) left) ∙ ap (λ x. ended_from q x) (sym is))
      ∙ f.ended;
  part = ap (λ x. part_from x left) part ∙ sym (part_append q (b ∷ []) left) ∙ ap (λ x. part_from q x) (sym is) ∙ f.part;
  gathered = gathers_append A d m e f.lines (ended_from q (b ∷ [])) v0.contents v1.contents v2.contents o0 o1 o2 f.gathered g.0;
  failures = g.1 ∙ f.failures;
  few = g.2;
}

-- a write failed at this byte
pub fed_breaks : {D : Type 0} (A : D → List ℕ → List ℕ → D → Type 0) (below : ℕ) (d m e : D) (p z q rest left : List ℕ) (b : ℕ) (v0 v1 v2 : SinkSeen) (o0 o1 o2 : List ℕ) (fault : DeviceFault)
    → Fed A below d p z v0 o0 v1 o1 m q rest → rest ≡ b ∷ left → Gathered A below m (ended_from q (b ∷ [])) v1 o1 v2 o2 e (Err fault)
    → Gathered A below d (ended_from p z) v0 o0 v2 o2 e (Err fault)
fed_breaks A below d m e p z q rest left b v0 v1 v2 o0 o1 o2 fault f is g =
    let more = ended_from (part_from q (b ∷ [])) left in
    let next : ended_from q (b ∷ []) ++ more ≡ ended_from q rest = sym (ended_append q (b ∷ []) left) ∙ ap (λ x. ended_from q x) (sym is) in
    let all : f.lines ++ (ended_from q (b ∷ []) ++ more) ≡ ended_from p z = ap (λ x. f.lines ++ x) next ∙ f.ended in (
      breaks_along A below d e (f.lines ++ (ended_from q (b ∷ []) ++ more)) (ended_from p z) v0.contents v2.contents o0 o0 all refl
          (breaks_behind A below d m e f.lines (ended_from q (b ∷ []) ++ more) v0.contents v1.contents v2.contents o0 o1 f.gathered
          (breaks_before A below m e (ended_from q (b ∷ [])) more v1.contents v2.contents o1 g.0)),
      g.1 ∙ ap (λ n. n + 1) f.failures,
    )

pub drop_next : (xs : List ℕ) (i : ℕ) → i < length xs → drop i xs ≡ get_or xs i 0 ∷ drop (i + 1) xs
drop_next xs i lt = drop-cons xs i 0 lt ∙ ap (λ n. get_or xs i 0 ∷ drop n xs) (sym (add-one i))
