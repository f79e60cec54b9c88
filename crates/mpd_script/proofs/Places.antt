-- The tokens behind the first one, behind blanks and behind comments.
use Rattle.std.proofs.Common.{◌≡◌, ℕ, zero, suc, ◌+◌, ◌-◌, ◌<◌, ◌≤◌, true, false, ◌==◌, List, [], ◌∷◌, length, drop, take, get_or, slice_index, refl, ap, sym, ◌∙◌, arith, length-drop, Bool, cond}
use Rattle.std.proofs.lemmas.List.{at_drop_more, drop-drop}
use Rattle.std.proofs.lemmas.Bool.{or_parts}
use Rattle.mpd_model.specs.declared.token.Class.TheVariants as class
use Rattle.mpd_model.specs.declared.token.Token.{Token}
use Rattle.mpd_model.specs.grammar.Input.{token_of, text_of, place_of, first_line, behind}
use Rattle.mpd_script.specs.Cursor.{first}
use Rattle.mpd_model.specs.grammar.Tokens.{Spot, tokens_after, tokens_at, front, spot, is_blank, is_gap, run_len, feeds}

pub tokens_after-drop : (n p l : ℕ) (z : List ℕ) → tokens_after n p l z ≡ tokens_at (p + n) l (drop n z)
unfolding tokens_after
tokens_after-drop zero p l z = let e : p + 0 ≡ p = omega arith in rw e refl
tokens_after-drop (suc n) p l [] = refl
tokens_after-drop (suc n) p l (b ∷ z) = let e : p + suc n ≡ p + 1 + n = omega arith in rw e (tokens_after-drop n (p + 1) l z)

pub tokens_end : (p l : ℕ) → tokens_at p l [] ≡ []
unfolding tokens_after
tokens_end p l = refl

drop-cons : (n b : ℕ) (z : List ℕ) → 1 ≤ n → drop (n - 1) z ≡ drop n (b ∷ z)
drop-cons zero b z h = absurd (omega arith)
drop-cons (suc n) b z h = let e : suc n - 1 ≡ n = omega arith in ap (λ k. drop k z) e

blank_first : (p l b : ℕ) (z : List ℕ) → is_blank b ≡ true → tokens_at p l (b ∷ z) ≡ tokens_at (p + 1) (l + feeds b) z
unfolding tokens_after
blank_first p l b z is = rw is refl

comment_first : (p l b : ℕ) (z : List ℕ) → b ≡ 35 → tokens_at p l (b ∷ z) ≡ tokens_at (p + 1 + run_len class.Comment z) l (drop (run_len class.Comment z) z)
unfolding tokens_after
comment_first p l b z is = rw is (tokens_after-drop (run_len class.Comment z) (p + 1) l z)

token_first : (p l b : ℕ) (z : List ℕ) → is_gap b ≡ false → 1 ≤ (front (b ∷ z)).1
    → tokens_at p l (b ∷ z) ≡ spot (b ∷ z) p l ∷ tokens_at (p + (front (b ∷ z)).1) l (drop (front (b ∷ z)).1 (b ∷ z))
unfolding tokens_after
token_first p l b z is some =
    let n = (front (b ∷ z)).1 in
    let no = or_parts (is_blank b) (b == 35) is in
    let e : p + 1 + (n - 1) ≡ p + n = omega arith in
    rw (no.0, no.1) (ap (λ s. spot (b ∷ z) p l ∷ s) (tokens_after-drop (n - 1) (p + 1) l z ∙ rw (e, drop-cons n b z some) refl))

-- one byte on, at a blank
pub tokens_blank : (p l : ℕ) (z : List ℕ) (at fed : ℕ) → at < length z → is_blank (get_or z at 0) ≡ true
    → tokens_at (p + at) (l + fed) (drop at z) ≡ tokens_at (p + (at + 1)) (l + (fed + feeds (get_or z at 0))) (drop (at + 1) z)
tokens_blank p l z at fed h is =
    let e : p + at + 1 ≡ p + (at + 1) = omega arith in
    let f : l + fed + feeds (get_or z at 0) ≡ l + (fed + feeds (get_or z at 0)) = omega arith in
    at_drop_more (tokens_at (p + at) (l + fed)) z at 0 h ∙ blank_first (p + at) (l + fed) (get_or z at 0) (drop (at + 1) z) is ∙ rw (e, f) refl

-- one byte on, at a line feed and at another blank
pub tokens_feed : (p l : ℕ) (z : List ℕ) (at fed : ℕ) → at < length z → get_or z at 0 ≡ 10
    → tokens_at (p + at) (l + fed) (drop at z) ≡ tokens_at (p + (at + 1)) (l + (fed + 1)) (drop (at + 1) z)
tokens_feed p l z at fed h is =
    let b : is_blank (get_or z at 0) ≡ true = rw is refl in
    let f : feeds (get_or z at 0) ≡ 1 = rw is refl in
    tokens_blank p l z at fed h b ∙ rw f refl

pub tokens_space : (p l : ℕ) (z : List ℕ) (at fed : ℕ) → at < length z → is_blank (get_or z at 0) ≡ true → (get_or z at 0 == 10) ≡ false
    → tokens_at (p + at) (l + fed) (drop at z) ≡ tokens_at (p + (at + 1)) (l + fed) (drop (at + 1) z)
tokens_space p l z at fed h b is =
    let f : fed + feeds (get_or z at 0) ≡ fed = rw is (omega arith) in
    tokens_blank p l z at fed h b ∙ rw f refl

-- behind a comment
pub tokens_comment : (p l : ℕ) (z : List ℕ) (at n : ℕ) → at < length z → get_or z at 0 ≡ 35 → n ≡ run_len class.Comment (drop (at + 1) z)
    → tokens_at (p + at) l (drop at z) ≡ tokens_at (p + (at + (1 + n))) l (drop (at + (1 + n)) z)
tokens_comment p l z at n h is len =
    let e : at + 1 + n ≡ at + (1 + n) = omega arith in
    let e' : p + at + 1 + n ≡ p + (at + (1 + n)) = omega arith in
    at_drop_more (tokens_at (p + at) l) z at 0 h ∙ comment_first (p + at) l (get_or z at 0) (drop (at + 1) z) is
    ∙ rw (← len, drop-drop, e, e') refl

-- ---- what a cursor keeps ready

pub token_is : (p l : ℕ) (z : List ℕ) (t : Token) (n : ℕ) → (t, n) ≡ first z → (0 < length z → is_gap (slice_index z 0) ≡ false) → (0 < length z → 0 < n) → token_of (tokens_at p l z) ≡ t
token_is p l [] t n is stops moves = rw tokens_end (sym (ap (λ x. x.0) is))
token_is p l (b ∷ z) t n is stops moves =
    let some : 1 ≤ (front (b ∷ z)).1 = rw (← ap (λ (x : Token × ℕ). x.1) is) (moves (omega arith)) in
    rw (token_first p l b z (stops (omega arith)) some) (sym (ap (λ x. x.0) is))

pub text_is : (p l : ℕ) (z : List ℕ) (t : Token) (n : ℕ) → (t, n) ≡ first z → (0 < length z → is_gap (slice_index z 0) ≡ false) → (0 < length z → 0 < n) → text_of (tokens_at p l z) ≡ take n z
text_is p l [] t n is stops moves = rw (tokens_end, ap (λ (x : Token × ℕ). x.1) is) refl
text_is p l (b ∷ z) t n is stops moves =
    let some : 1 ≤ (front (b ∷ z)).1 = rw (← ap (λ (x : Token × ℕ). x.1) is) (moves (omega arith)) in
    rw (token_first p l b z (stops (omega arith)) some, ap (λ (x : Token × ℕ). x.1) is) refl

pub place_is : (p l : ℕ) (z : List ℕ) (t : Token) (n : ℕ) → (t, n) ≡ first z → (0 < length z → is_gap (slice_index z 0) ≡ false) → (0 < length z → 0 < n) → place_of (p + length z) (tokens_at p l z) ≡ p
place_is p l [] t n is stops moves = rw tokens_end (omega arith)
place_is p l (b ∷ z) t n is stops moves =
    let some : 1 ≤ (front (b ∷ z)).1 = rw (← ap (λ (x : Token × ℕ). x.1) is) (moves (omega arith)) in
    rw (token_first p l b z (stops (omega arith)) some) refl

few_of : (a b : Bool) (xs ys zs : List Spot) (n : ℕ) → length xs ≤ n → length ys ≤ n → length zs ≤ suc n → length (cond a xs (cond b ys zs)) ≤ suc n
few_of true b xs ys zs n x y z = omega arith
few_of false true xs ys zs n x y z = omega arith
few_of false false xs ys zs n x y z = z

-- no more tokens than bytes
pub tokens_few : (n p l : ℕ) (z : List ℕ) → length (tokens_after n p l z) ≤ length z
unfolding tokens_after
tokens_few n p l [] = omega arith
tokens_few (suc n) p l (b ∷ z) = omega (arith, tokens_few n (p + 1) l z)
tokens_few zero p l (b ∷ z) =
    few_of (is_blank b) (b == 35) _ _ (spot (b ∷ z) p l ∷ tokens_after ((front (b ∷ z)).1 - 1) (p + 1) l z) (length z)
    (tokens_few 0 (p + 1) (l + feeds b) z) (tokens_few (run_len class.Comment z) (p + 1) l z)
    (omega (arith, tokens_few ((front (b ∷ z)).1 - 1) (p + 1) l z))

none_left : (n : ℕ) → drop {A = ℕ} n [] ≡ []
none_left zero = refl
none_left (suc n) = refl

-- the line where there is a token
pub line_is : (p l : ℕ) (z : List ℕ) (t : Token) (n : ℕ) → (t, n) ≡ first z → (0 < length z → is_gap (slice_index z 0) ≡ false) → (0 < length z → 0 < n) → 0 < length z → first_line (tokens_at p l z) ≡ l
line_is p l [] t n is stops moves some = absurd (omega arith)
line_is p l (b ∷ z) t n is stops moves more =
    let some : 1 ≤ (front (b ∷ z)).1 = rw (← ap (λ (x : Token × ℕ). x.1) is) (moves (omega arith)) in
    rw (token_first p l b z (stops (omega arith)) some) refl

pub line_none : (p l : ℕ) (z : List ℕ) → length z ≡ 0 → first_line (tokens_at p l z) ≡ 0
line_none p l [] e = rw tokens_end refl
line_none p l (b ∷ z) e = absurd (omega arith)

pub behind_is : (p l : ℕ) (z : List ℕ) (t : Token) (n gap fed : ℕ) → (t, n) ≡ first z → (0 < length z → is_gap (slice_index z 0) ≡ false) → (0 < length z → 0 < n)
    → ((q k : ℕ) → tokens_at q k (drop n z) ≡ tokens_at (q + gap) (k + fed) (drop gap (drop n z))) → tokens_at (p + (n + gap)) (l + fed) (drop gap (drop n z)) ≡ behind (tokens_at p l z)
behind_is p l [] t n gap fed is stops moves same = rw (none_left n, none_left gap, tokens_end, tokens_end) refl
behind_is p l (b ∷ z) t n gap fed is stops moves same =
    let len : n ≡ (front (b ∷ z)).1 = ap (λ (x : Token × ℕ). x.1) is in
    let some : 1 ≤ (front (b ∷ z)).1 = rw (← len) (moves (omega arith)) in
    let e : p + n + gap ≡ p + (n + gap) = omega arith in
    sym (rw (token_first p l b z (stops (omega arith)) some, ← len) (same (p + n) l ∙ rw e refl))

pub advanced_is : (p l : ℕ) (z after ahead : List ℕ) (t : Token) (n gap fed : ℕ) → (t, n) ≡ first z → (0 < length z → is_gap (slice_index z 0) ≡ false) → (0 < length z → 0 < n)
    → n ≤ length z → after ≡ drop n z → ahead ≡ drop gap after → gap ≤ length after → ((q k : ℕ) → tokens_at q k after ≡ tokens_at (q + gap) (k + fed) (drop gap after))
    → (tokens_at (p + (n + gap)) (l + fed) ahead ≡ behind (tokens_at p l z)) × (p + (n + gap) + length ahead ≡ p + length z)
advanced_is p l z after ahead t n gap fed is stops moves within a b gap_within same = (
  rw (b, a) (behind_is p l z t n gap fed is stops moves (rw a at same)),
  omega (arith, length-drop n z, length-drop gap after, ap length a, ap length b),
)
