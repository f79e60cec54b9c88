-- Two texts that are the same up to the byte behind a token have the same tokens up to that one.
use Rattle.std.proofs.Common.{◌≡◌, ℕ, zero, suc, ◌+◌, ◌-◌, ◌<◌, ◌≤◌, ◌==◌, Bool, true, false, cond, List, [], ◌∷◌, ◌++◌, length, take, inl, inr, refl, ap, sym, subst, ◌∙◌, arith, min, length-append, length-take}
use Rattle.std.proofs.lemmas.Bool.{cases_order}
use Rattle.std.proofs.lemmas.List.{take-append-le}
use Rattle.std.specs.Char.{is_ascii_digit}
use Rattle.std.specs.List.{prefix_len}
use Rattle.std.specs.Prelude.{slice_index}
use Rattle.mpd_model.specs.declared.token.Class.TheVariants as class
use Rattle.mpd_model.specs.declared.token.Token.{Token}
use Rattle.mpd_model.specs.grammar.Tokens.{Spot, spot, tokens, tokens_after, front, sign, word, number, run_len, is_in, is_in_comment, begins_name, is_blank, feeds}
use Rattle.mpd_model.specs.grammar.ReaderLaws.{TurnsAreEnough}
use Rattle.mpd_meaning.specs.FaultLaws.{TextUpToItDecidesAFault}
use Rattle.mpd_meaning.proofs.listed.Members.{In, in_contains}
use Rattle.mpd_meaning.proofs.local.SameFault.{AllFrom, lower, each_case, same_fault}
use Rattle.mpd_meaning.proofs.local.TokenLines.{IsShort, sign_short}

-- ---- a run of bytes that ends within what is the same

prefix_same : (t : ℕ → Bool) (w x y : List ℕ) → prefix_len t (w ++ x) < length w → prefix_len t (w ++ y) ≡ prefix_len t (w ++ x)
prefix_same t [] x y h = absurd (omega (arith, h))
prefix_same t (b ∷ w) x y h = by_test (t b) (prefix_len t (w ++ x)) (prefix_len t (w ++ y)) (length w) (prefix_same t w x y) h
  where
    by_test : (c : Bool) (n m l : ℕ) → (n < l → m ≡ n) → cond c (1 + n) 0 < suc l → cond c (1 + m) 0 ≡ cond c (1 + n) 0
    by_test true n m l same less = ap (λ k. 1 + k) (same (omega (arith, less)))
    by_test false n m l same less = refl

take_same : (n : ℕ) (w x y : List ℕ) → n ≤ length w → take n (w ++ y) ≡ take n (w ++ x)
take_same n w x y h = take-append-le n w y h ∙ sym (take-append-le n w x h)

-- ---- a token that ends before the last byte that is the same

abbrev pick : Bool → Bool → ℕ → List ℕ → Token × ℕ
pick d n b z = cond d (number (take (run_len class.Digit z) z), run_len class.Digit z) (cond n (word (take (run_len class.Name z) z), run_len class.Name z) (sign b (slice_index z 1)))

abbrev cut : (List ℕ → Token) → (ℕ → Bool) → List ℕ → Token × ℕ
cut f t z = (f (take (prefix_len t z) z), prefix_len t z)

run_same : (f : List ℕ → Token) (t : ℕ → Bool) (w x y : List ℕ) → prefix_len t (w ++ x) < length w → cut f t (w ++ y) ≡ cut f t (w ++ x)
run_same f t w x y h =
    let e = prefix_same t w x y h in
    let k : take (prefix_len t (w ++ y)) (w ++ y) ≡ take (prefix_len t (w ++ x)) (w ++ x) = ap (λ n. take n (w ++ y)) e ∙ take_same (prefix_len t (w ++ x)) w x y (omega (arith, h)) in
    λ i. (f (k i), e i)

sign_same : (b : ℕ) (a x y : List ℕ) → (sign b (slice_index (b ∷ a ++ x) 1)).1 ≤ length a → sign b (slice_index (b ∷ a ++ y) 1) ≡ sign b (slice_index (b ∷ a ++ x) 1)
sign_same b (c ∷ a) x y h = refl
sign_same b [] x y h = absurd (too_short (sign b (slice_index (b ∷ x) 1)) (slice_index (b ∷ x) 1) (sign_short b (slice_index (b ∷ x) 1)) h)
  where
    too_short : (p : Token × ℕ) (n : ℕ) → IsShort n p → p.1 ≤ 0 → ⊥
    too_short p n (inl e) le = omega (arith, e, le)
    too_short p n (inr e) le = let k = e.0 in omega (arith, k, le)

pick_same : (d n : Bool) (b : ℕ) (a x y : List ℕ) → (pick d n b (b ∷ a ++ x)).1 ≤ length a → pick d n b (b ∷ a ++ y) ≡ pick d n b (b ∷ a ++ x)
pick_same true n b a x y h = run_same number (is_in class.Digit) (b ∷ a) x y (omega (arith, h))
pick_same false true b a x y h = run_same word (is_in class.Name) (b ∷ a) x y (omega (arith, h))
pick_same false false b a x y h = sign_same b a x y h

front_same : (b : ℕ) (a x y : List ℕ) → (front (b ∷ a ++ x)).1 ≤ length a → front (b ∷ a ++ y) ≡ front (b ∷ a ++ x)
unfolding front
front_same b a x y h = pick_same (is_ascii_digit b) (begins_name b) b a x y h

spot_same : (b : ℕ) (a x y : List ℕ) (place line : ℕ) → (front (b ∷ a ++ x)).1 ≤ length a → spot (b ∷ a ++ y) place line ≡ spot (b ∷ a ++ x) place line
spot_same b a x y place line h =
    let e = front_same b a x y h in
    let k : take (front (b ∷ a ++ y)).1 (b ∷ a ++ y) ≡ take (front (b ∷ a ++ x)).1 (b ∷ a ++ x) =
    ap (λ p. take p.1 (b ∷ a ++ y)) e ∙ take_same (front (b ∷ a ++ x)).1 (b ∷ a) x y (omega (arith, h)) in
    λ i. record { token = (e i).0; text = k i; place = place; line = line }

-- ---- tokens behind bytes that are skipped

from_skip : (skip place line : ℕ) (z : List ℕ) → AllFrom (place + skip) (tokens_after skip place line z)
unfolding tokens_after
from_skip skip place line [] = tt
from_skip (suc skip) place line (b ∷ z) =
    subst (λ n. AllFrom n (tokens_after skip (place + 1) line z)) (let e : place + 1 + skip ≡ place + suc skip = omega arith in e) (from_skip skip (place + 1) line z)
from_skip zero place line (b ∷ z) =
    each_case (is_blank b) (b == 35) (AllFrom (place + 0)) _ _ _
    (lower (place + 0) (place + 1 + 0) _ (omega arith) (from_skip 0 (place + 1) (line + feeds b) z))
    (lower (place + 0) (place + 1 + run_len class.Comment z) _ (omega arith) (from_skip (run_len class.Comment z) (place + 1) line z))
    (omega arith, lower (place + 0) (place + 1 + ((front (b ∷ z)).1 - 1)) _ (omega arith) (from_skip ((front (b ∷ z)).1 - 1) (place + 1) line z))

from_member : (p : ℕ) (before : List Spot) (last : Spot) (behind : List Spot) → AllFrom p (before ++ last ∷ behind) → p ≤ last.place
from_member p [] last behind h = h.0
from_member p (s ∷ ss) last behind h = from_member p ss last behind h.1

-- ---- the same tokens

-- tokens that begin so, whatever follows
record Begins (before : List Spot) (last : Spot) (ss : List Spot) : Type 0 where
  pub others : List Spot
  pub is : ss ≡ before ++ last ∷ others

abbrev Ends : Spot → ℕ
Ends s = s.place + length s.text

-- what is there of one text, is there of the other
abbrev Carries : List Spot → List Spot → ℕ → Type 0
Carries ss rs until = (before behind : List Spot) (last : Spot) → ss ≡ before ++ last ∷ behind → Ends last < until → Begins before last rs

-- the first of them is the same, and the others carry
more_carry : (s : Spot) (ss rs : List Spot) (until : ℕ) → Carries ss rs until → Carries (s ∷ ss) (s ∷ rs) until
more_carry s ss rs until h [] behind last e less = let is : s ≡ last = cc in record { others = rs; is = ap (λ r. r ∷ rs) is }
more_carry s ss rs until h (t ∷ before) behind last e less =
    let first : s ≡ t = cc in
    let rest : ss ≡ before ++ last ∷ behind = cc in
    let g = h before behind last rest less in
    record { others = g.others; is = λ i. first i ∷ g.is i }

-- none of them is so early
late_carry : (ss rs : List Spot) (until p : ℕ) → AllFrom p ss → until ≤ p → Carries ss rs until
late_carry ss rs until p from le before behind last e less =
    let at = from_member p before last behind (subst (AllFrom p) e from) in
    absurd (omega (arith, at, le, less))

-- the token at the front of what is left
spot_carries : (b : ℕ) (a x y : List ℕ) (place line until : ℕ) (ss rs : List Spot) → until ≡ place + suc (length a) → AllFrom (place + 1 + ((front (b ∷ a ++ x)).1 - 1)) ss
    → ((front (b ∷ a ++ x)).1 ≤ length a → Carries ss rs until) → Carries (spot (b ∷ a ++ x) place line ∷ ss) (spot (b ∷ a ++ y) place line ∷ rs) until
spot_carries b a x y place line until ss rs until_is from h =
    elim (cases_order (front (b ∷ a ++ x)).1 (suc (length a))) [
      | inl same ↦ long (omega (arith, same))
      | inr other ↦ elim other [
        | inl lt ↦
            let le : (front (b ∷ a ++ x)).1 ≤ length a = omega (arith, lt) in
            subst (λ s. Carries (spot (b ∷ a ++ x) place line ∷ ss) (s ∷ rs) until) (sym (spot_same b a x y place line le)) (more_carry (spot (b ∷ a ++ x) place line) ss rs until (h le))
        | inr gt ↦ long (omega (arith, gt))
      ]
    ]
  where
    -- a token that doesn't end there: neither it nor what is behind it
    long : suc (length a) ≤ (front (b ∷ a ++ x)).1 → Carries (spot (b ∷ a ++ x) place line ∷ ss) (spot (b ∷ a ++ y) place line ∷ rs) until
    long le [] behind last e less =
        let is : spot (b ∷ a ++ x) place line ≡ last = cc in
        let size : length (take (front (b ∷ a ++ x)).1 (b ∷ a ++ x)) ≡ min (front (b ∷ a ++ x)).1 (suc (length (a ++ x))) = length-take (front (b ∷ a ++ x)).1 (b ∷ a ++ x) in
        let ends : Ends (spot (b ∷ a ++ x) place line) < until = subst (λ s. Ends s < until) (sym is) less in
        absurd (grind (arith, le, size, ends, until_is, length-append a x))
    long le (t ∷ before) behind last e less =
        let rest : ss ≡ before ++ last ∷ behind = cc in
        let at = from_member (place + 1 + ((front (b ∷ a ++ x)).1 - 1)) before last behind (subst (AllFrom (place + 1 + ((front (b ∷ a ++ x)).1 - 1))) rest from) in
        absurd (omega (arith, at, le, less, until_is))

either_carries : (c d : Bool) (until : ℕ) (a1 a2 a3 b1 b2 b3 : List Spot) → Carries a1 b1 until → Carries a2 b2 until → Carries a3 b3 until → Carries (cond c a1 (cond d a2 a3)) (cond c b1 (cond d b2 b3)) until
either_carries true d until a1 a2 a3 b1 b2 b3 x y z = x
either_carries false true until a1 a2 a3 b1 b2 b3 x y z = y
either_carries false false until a1 a2 a3 b1 b2 b3 x y z = z

further : (ss rs : List Spot) (m n : ℕ) → m ≡ n → Carries ss rs m → Carries ss rs n
further ss rs m n e h = subst (Carries ss rs) e h

-- a comment that ends there ends at the same byte; behind one that doesn't, there is no token that does
behind_comment : (a x y : List ℕ) (place line : ℕ)
    → ((skip : ℕ) → Carries (tokens_after skip (place + 1) line (a ++ x)) (tokens_after skip (place + 1) line (a ++ y)) (place + 1 + length a))
    → Carries (tokens_after (run_len class.Comment (a ++ x)) (place + 1) line (a ++ x)) (tokens_after (run_len class.Comment (a ++ y)) (place + 1) line (a ++ y)) (place + suc (length a))
behind_comment a x y place line h =
    elim (cases_order (run_len class.Comment (a ++ x)) (length a)) [
      | inl same ↦ long (omega (arith, same))
      | inr other ↦ elim other [
        | inl lt ↦
            subst (λ n. Carries (tokens_after (run_len class.Comment (a ++ x)) (place + 1) line (a ++ x)) (tokens_after n (place + 1) line (a ++ y)) (place + suc (length a)))
            (sym (prefix_same is_in_comment a x y lt))
            (further _ _ (place + 1 + length a) (place + suc (length a)) (omega arith) (h (run_len class.Comment (a ++ x))))
        | inr gt ↦ long (omega (arith, gt))
      ]
    ]
  where
    long : length a ≤ run_len class.Comment (a ++ x)
        → Carries (tokens_after (run_len class.Comment (a ++ x)) (place + 1) line (a ++ x)) (tokens_after (run_len class.Comment (a ++ y)) (place + 1) line (a ++ y)) (place + suc (length a))
    long le =
        late_carry (tokens_after (run_len class.Comment (a ++ x)) (place + 1) line (a ++ x)) (tokens_after (run_len class.Comment (a ++ y)) (place + 1) line (a ++ y)) (place + suc (length a))
        (place + 1 + run_len class.Comment (a ++ x)) (from_skip (run_len class.Comment (a ++ x)) (place + 1) line (a ++ x)) (omega (arith, le))

carries : (a x y : List ℕ) (skip place line : ℕ) → Carries (tokens_after skip place line (a ++ x)) (tokens_after skip place line (a ++ y)) (place + length a)
unfolding tokens_after
carries [] x y skip place line = late_carry (tokens_after skip place line x) (tokens_after skip place line y) (place + 0) (place + skip) (from_skip skip place line x) (omega arith)
carries (b ∷ a) x y (suc skip) place line = further _ _ (place + 1 + length a) (place + suc (length a)) (omega arith) (carries a x y skip (place + 1) line)
carries (b ∷ a) x y zero place line =
    either_carries (is_blank b) (b == 35) (place + suc (length a)) _ _ _ _ _ _
    (further _ _ (place + 1 + length a) (place + suc (length a)) (omega arith) (carries a x y 0 (place + 1) (line + feeds b)))
    (behind_comment a x y place line (λ skip. carries a x y skip (place + 1) line))
    (spot_carries b a x y place line (place + suc (length a)) _ _ refl (from_skip ((front (b ∷ a ++ x)).1 - 1) (place + 1) line (a ++ x))
    (λ le. subst (λ n. Carries (tokens_after ((front (b ∷ a ++ x)).1 - 1) (place + 1) line (a ++ x)) (tokens_after (n - 1) (place + 1) line (a ++ y)) (place + suc (length a)))
    (ap (λ p. p.1) (sym (front_same b a x y le)))
    (further _ _ (place + 1 + length a) (place + suc (length a)) (omega arith) (carries a x y ((front (b ∷ a ++ x)).1 - 1) (place + 1) line))))

pub same_tokens : (a x y : List ℕ) (before behind : List Spot) (last : Spot) → tokens (a ++ x) ≡ before ++ last ∷ behind → last.place + length last.text < length a
    → (others : List Spot) × (tokens (a ++ y) ≡ before ++ last ∷ others)
same_tokens a x y before behind last e less = let g = carries a x y 0 0 1 before behind last e (omega (arith, less)) in (g.others, g.is)

-- ---- the same fault

-- a member of a list stands between others
record Parts (ss : List Spot) (last : Spot) : Type 0 where
  before : List Spot
  behind : List Spot
  is : ss ≡ before ++ last ∷ behind

parts_of : (ss : List Spot) (last : Spot) → In ss last → Parts ss last
parts_of [] last h = absurd h
parts_of (s ∷ ss) last (inl e) = record { before = []; behind = ss; is = ap (λ t. t ∷ ss) e }
parts_of (s ∷ ss) last (inr h) = let r = parts_of ss last h in record { before = s ∷ r.before; behind = r.behind; is = ap (λ rs. s ∷ rs) r.is }

pub same_text_fault : TurnsAreEnough → TextUpToItDecidesAFault
same_text_fault enough same rest other last f t u c less h le few =
    let r = parts_of (tokens (same ++ rest)) last (in_contains (tokens (same ++ rest)) last c) in
    let g = same_tokens same rest other r.before r.behind last r.is less in
    same_fault enough (same ++ rest) (same ++ other) r.before r.behind g.0 last f t u r.is g.1 h le few
