-- As long as the line that divides has not come, it may come.
use Rattle.std.proofs.Common.{◌≡◌, ℕ, ◌≤◌, Bool, true, false, ◌==◌, not, if◌then◌else◌, List, [], ◌∷◌, ◌++◌, length, refl, ap, sym, subst, ◌∙◌, append_assoc, append-nil}
use Rattle.std.proofs.lemmas.Bool.{eqb-true}
use Rattle.mpd_model.specs.texts.Lines.{joined, divided, divided_lines, is_divider, is_none}
use Rattle.mpd_laws.proofs.cutting.LineCuts.{raw_feed, and_first, and_second}
use Rattle.mpd_trace.specs.Divided.{Begun, begun, is_prefix, may_divide, splits, has_divider, IsOpen, IsHeld}
use Rattle.mpd_trace.proofs.DividedLaws.{may_divide_part}

abbrev Halves : Type 0
Halves = List ℕ × List ℕ

-- one line leaves nothing behind it
one_line : (l : List ℕ) → (divided_lines (l ∷ [])).1 ≡ []
one_line l =
    elim (is_divider l) as (λ v. (let r : Halves = if v then ([], joined []) else (l ++ (divided_lines []).0, (divided_lines []).1) in r).1 ≡ [])
    [ true ↦ refl | false ↦ refl ]

nothing_behind : (known line : List ℕ) (settled : Bool) → may_divide line ≡ true → (splits (begun known line settled) (10 ∷ [])).1 ≡ []
nothing_behind known line true e = refl
nothing_behind known line false e = ap (λ x. (divided_lines x).1) (raw_feed line [] 10 refl (may_divide_part line e)) ∙ one_line (line ++ 10 ∷ [])

prefix_rest : (l t : List ℕ) → is_prefix l t ≡ true → (w : List ℕ) × (l ++ w ≡ t)
prefix_rest [] t e = (t, refl)
prefix_rest (b ∷ l) [] e = absurd (let h : false ≡ true = e in cc)
prefix_rest (b ∷ l) (c ∷ t) e =
    let r = prefix_rest l t (and_second (b == c) (is_prefix l t) e) in
    (r.0, ap (λ x. x ∷ (l ++ r.0)) (eqb-true b c (and_first (b == c) (is_prefix l t) e)) ∙ ap (λ x. c ∷ x) r.1)

abbrev Fits : List ℕ → Begun → Type 0
Fits known b = (z : List ℕ) × ((splits b z).0 ≡ known)

fits_so : (known line : List ℕ) (settled : Bool) → may_divide line ≡ true → Fits known (begun known line settled)
fits_so known line true e = ([], append-nil known)
fits_so known line false e =
    let r = prefix_rest line (45 ∷ 45 ∷ 45 ∷ 13 ∷ []) e in
    let whole : line ++ (r.0 ++ 10 ∷ []) ≡ 45 ∷ 45 ∷ 45 ∷ 13 ∷ 10 ∷ [] = sym (append_assoc line r.0 (10 ∷ [])) ∙ ap (λ x. x ++ 10 ∷ []) r.1 in
    (r.0 ++ 10 ∷ [], ap (λ x. known ++ (divided x).0) whole ∙ append-nil known)

pub open_so : (read : List ℕ) (b : Begun) → ((z : List ℕ) → splits b z ≡ divided (read ++ z)) → length b.known ≤ 65536 → IsHeld b → IsOpen read
open_so read b divides short held =
    let f = fits_so b.known b.line b.settled held.line in
    let P : List ℕ → Type 0 = λ x. length x ≤ 65536 in record {
      divider = ap (λ x. not (is_none x)) (ap (λ (h : Halves). h.1) (sym (divides (10 ∷ []))) ∙ nothing_behind b.known b.line b.settled held.line);
      short = (f.0, subst P (sym f.1 ∙ ap (λ (h : Halves). h.0) (divides f.0)) short);
    }

-- bytes behind the line that divides
none_last : (xs : List ℕ) (b : ℕ) → is_none (xs ++ b ∷ []) ≡ false
none_last [] b = refl
none_last (x ∷ xs) b = refl

pub divider_came : (read script behind more : List ℕ) → ((z : List ℕ) → divided (read ++ z) ≡ (let p : Halves = (script, behind ++ z) in p)) → has_divider (read ++ more) ≡ true
divider_came read script behind more on =
    ap (λ x. not (is_none (divided x).1)) (append_assoc read more (10 ∷ [])) ∙ ap (λ (h : Halves). not (is_none h.1)) (on (more ++ 10 ∷ []))
    ∙ ap (λ x. not (is_none x)) (sym (append_assoc behind more (10 ∷ []))) ∙ ap not (none_last (behind ++ more) 10)
