-- What a desk says, line after line.
use Rattle.std.proofs.Common.{◌≡◌, ℕ, ◌<◌, List, [], ◌∷◌, ◌++◌, length, length-append, arith, Option, refl, ap, sym, subst, ◌∙◌, append_assoc, append-nil}
use Rattle.mpd_lines.specs.Telling.{SaysInTurn, Tells, BreaksOff, AppendsPart}
use Rattle.mpd_lines.specs.Gathering.{Gathers}
use Rattle.mpd_lines.proofs.SentLaws.{appends_none, appends_append}

pub says_append : {D : Type 0} (A : D → List ℕ → List ℕ → D → Type 0) (d m e : D) (ls ks : List (List ℕ)) (t u : List ℕ)
    → SaysInTurn A d ls t m → SaysInTurn A m ks u e → SaysInTurn A d (ls ++ ks) (t ++ u) e
says_append {D} A d m e [] ks t u a b =
    let P : D → Type 0 = λ x. SaysInTurn A x ks (t ++ u) e in
    let Q : List ℕ → Type 0 = λ x. SaysInTurn A m ks (x ++ u) e in
    subst P a.1 (subst Q (sym a.0) b)
says_append A d m e (l ∷ ls) ks t u a b =
    (a.0, a.1, a.2 ++ u, ap (λ x. x ++ u) a.3 ∙ append_assoc a.1 a.2 u, a.4, says_append A a.0 m e ls ks a.2 u a.5 b)

pub says_one : {D : Type 0} (A : D → List ℕ → List ℕ → D → Type 0) (d e : D) (l t : List ℕ) → A d l t e → SaysInTurn A d (l ∷ []) t e
says_one A d e l t a = (e, t, [], sym (append-nil t), a, (refl, refl))

pub says_along : {D : Type 0} (A : D → List ℕ → List ℕ → D → Type 0) (d e : D) (ls : List (List ℕ)) (t u : List ℕ) → t ≡ u → SaysInTurn A d ls t e → SaysInTurn A d ls u e
says_along {D} A d e ls t u is a = let P : List ℕ → Type 0 = λ x. SaysInTurn A d ls x e in subst P is a

pub tells_append : {D : Type 0} (A : D → List ℕ → List ℕ → D → Type 0) (d m e : D) (ls ks : List (List ℕ)) (w0 w1 w2 : Option (List ℕ))
    → Tells A d ls w0 w1 m → Tells A m ks w1 w2 e → Tells A d (ls ++ ks) w0 w2 e
tells_append A d m e ls ks w0 w1 w2 a b = (a.0 ++ b.0, appends_append w0 w1 w2 a.0 b.0 a.1 b.1, says_append A d m e ls ks a.0 b.0 a.2 b.2)

pub tells_along : {D : Type 0} (A : D → List ℕ → List ℕ → D → Type 0) (d e : D) (ls ks : List (List ℕ)) (w0 w1 : Option (List ℕ))
    → ls ≡ ks → Tells A d ls w0 w1 e → Tells A d ks w0 w1 e
tells_along {D} A d e ls ks w0 w1 is t = let P : List (List ℕ) → Type 0 = λ x. Tells A d x w0 w1 e in subst P is t

-- ---- where a write failed

-- nothing was asked, and a part of what waited was written
pub breaks_none : {D : Type 0} (A : D → List ℕ → List ℕ → D → Type 0) (below : ℕ) (d : D) (w0 w1 : Option (List ℕ)) (out : List ℕ)
    → length out < below → AppendsPart w0 w1 out → BreaksOff A below d [] w0 out w1 d
breaks_none A below d w0 w1 out few h = record {
  earlier = [];
  last = [];
  others = [];
  asked = refl;
  one = omega arith;
  between = d;
  said = [];
  answer = [];
  told = (refl, refl);
  answered = (refl, refl);
  written = h.0;
  unwritten = h.1;
  whole = h.2 ∙ sym (append-nil out);
  some = h.3;
  appends = h.4;
  late = (let same = ap length (append-nil out) in omega (arith, few, same));
}

-- one line was asked, and a part of what waited with its answer was written
pub breaks_one : {D : Type 0} (A : D → List ℕ → List ℕ → D → Type 0) (below : ℕ) (d e : D) (l before text out : List ℕ) (w0 w1 : Option (List ℕ))
    → length before < below → out ≡ before ++ text → A d l text e → AppendsPart w0 w1 out → BreaksOff A below d (l ∷ []) w0 before w1 e
breaks_one A below d e l before text out w0 w1 few is said h = record {
  earlier = [];
  last = l ∷ [];
  others = [];
  asked = refl;
  one = omega arith;
  between = d;
  said = [];
  answer = text;
  told = (refl, refl);
  answered = says_one A d e l text said;
  written = h.0;
  unwritten = h.1;
  whole = h.2 ∙ is;
  some = h.3;
  appends = h.4;
  late = (let same = ap length (append-nil before) in omega (arith, few, same));
}

-- what was gathered before, and then a write failed
pub breaks_behind : {D : Type 0} (A : D → List ℕ → List ℕ → D → Type 0) (below : ℕ) (d m e : D) (ls ks : List (List ℕ)) (w0 w1 w2 : Option (List ℕ)) (o0 o1 : List ℕ)
    → Gathers A d ls w0 o0 w1 o1 m → BreaksOff A below m ks w1 o1 w2 e → BreaksOff A below d (ls ++ ks) w0 o0 w2 e
breaks_behind A below d m e ls ks w0 w1 w2 o0 o1 a b = record {
  earlier = ls ++ b.earlier;
  last = b.last;
  others = b.others;
  asked = append_assoc ls b.earlier (b.last ++ b.others) ∙ ap (λ x. ls ++ x) b.asked;
  one = b.one;
  between = b.between;
  said = a.0 ++ b.said;
  answer = b.answer;
  told = says_append A d m b.between ls b.earlier a.0 b.said a.4 b.told;
  answered = b.answered;
  written = a.1 ++ b.written;
  unwritten = b.unwritten;
  whole = append_assoc a.1 b.written b.unwritten ∙ ap (λ x. a.1 ++ x) b.whole ∙ sym (append_assoc a.1 o1 (b.said ++ b.answer)) ∙ ap (λ x. x ++ (b.said ++ b.answer)) a.2
      ∙ append_assoc o0 a.0 (b.said ++ b.answer) ∙ ap (λ x. o0 ++ x) (sym (append_assoc a.0 b.said b.answer));
  some = b.some;
  appends = appends_append w0 w1 w2 a.1 b.written a.3 b.appends;
  late = (let late = b.late in let same = ap length a.2 in
      omega (arith, late, same, length-append a.1 o1, length-append o0 a.0, length-append o1 b.said, length-append o0 (a.0 ++ b.said), length-append a.0 b.said, length-append a.1 b.written));
}

-- lines that were not asked any more
pub breaks_before : {D : Type 0} (A : D → List ℕ → List ℕ → D → Type 0) (below : ℕ) (d e : D) (ls ks : List (List ℕ)) (w0 w1 : Option (List ℕ)) (out : List ℕ)
    → BreaksOff A below d ls w0 out w1 e → BreaksOff A below d (ls ++ ks) w0 out w1 e
breaks_before A below d e ls ks w0 w1 out b = record {
  earlier = b.earlier;
  last = b.last;
  others = b.others ++ ks;
  asked = ap (λ x. b.earlier ++ x) (sym (append_assoc b.last b.others ks)) ∙ sym (append_assoc b.earlier (b.last ++ b.others) ks) ∙ ap (λ x. x ++ ks) b.asked;
  one = b.one;
  between = b.between;
  said = b.said;
  answer = b.answer;
  told = b.told;
  answered = b.answered;
  written = b.written;
  unwritten = b.unwritten;
  whole = b.whole;
  some = b.some;
  appends = b.appends;
  late = b.late;
}

pub breaks_along : {D : Type 0} (A : D → List ℕ → List ℕ → D → Type 0) (below : ℕ) (d e : D) (ls ks : List (List ℕ)) (w0 w1 : Option (List ℕ)) (o0 o1 : List ℕ)
    → ls ≡ ks → o0 ≡ o1 → BreaksOff A below d ls w0 o0 w1 e → BreaksOff A below d ks w0 o1 w1 e
breaks_along A below d e ls ks w0 w1 o0 o1 is out b =
    subst (λ x. BreaksOff A below d ks w0 x w1 e) out (subst (λ (x : List (List ℕ)). BreaksOff A below d x w0 o0 w1 e) is b)

-- what was told, and then a write failed
pub breaks_told : {D : Type 0} (A : D → List ℕ → List ℕ → D → Type 0) (below : ℕ) (d m e : D) (ls ks : List (List ℕ)) (w0 w1 w2 : Option (List ℕ))
    → Tells A d ls w0 w1 m → BreaksOff A below m ks w1 [] w2 e → BreaksOff A below d (ls ++ ks) w0 [] w2 e
breaks_told A below d m e ls ks w0 w1 w2 t b = breaks_behind A below d m e ls ks w0 w1 w2 [] [] (t.0, t.0, append-nil t.0, t.1, t.2) b
