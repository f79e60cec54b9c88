-- Pieces of words, cut off one by one, and numbers of few digits.
use Rattle.std.proofs.Common.{◌≡◌, ◌≢◌, ◌<◌, ◌≤◌, ◌^◌, ℕ, suc, Bool, true, false, not, ◌==◌, List, [], ◌∷◌, ◌++◌, length, take, drop, if◌then◌else◌, refl, ap, sym, ◌∙◌, arith}
use Rattle.std.proofs.Math.Nat.{pow-le-pow_right}
use Rattle.std.proofs.lemmas.Bool.Decides.{nat_tests}
use Rattle.std.specs.Prelude.{filter}
use Rattle.std.specs.List.{flat_map}
use Rattle.mpd_model.specs.texts.Words.{stop_len, with_byte, pieces, has_some, words}
use Rattle.mpd_vocabulary.specs.Conditions.{is_sign, is_other, put_piece, cut, pieces_of, piece_len}

-- ---- the first piece

of_kind : (sign found : Bool) → not found ≡ false → found ≡ true
of_kind sign true e = refl
of_kind sign false e = cc

same_kind : (sign : Bool) (c : ℕ) → is_other sign c ≡ false → is_sign c ≡ sign
same_kind true c e = of_kind true (is_sign c) e
same_kind false c e = e

cut_first_at : (v : Bool) (b c : ℕ) (y : List ℕ) → is_other (is_sign b) c ≡ v → cut (c ∷ y) ≡ take (piece_len (c ∷ y)) (c ∷ y) ∷ cut (drop (piece_len (c ∷ y)) (c ∷ y))
    → put_piece v b (cut (c ∷ y)) ≡ take (suc (if v then 0 else suc (stop_len (is_other (is_sign b)) y))) (b ∷ c ∷ y) ∷ cut (drop (suc (if v then 0 else suc (stop_len (is_other (is_sign b)) y))) (b ∷ c ∷ y))
cut_first_at true b c y e h = refl
cut_first_at false b c y e h =
    ap (with_byte b) h ∙ ap (λ (sign : Bool). (b ∷ take (suc (stop_len (is_other sign) y)) (c ∷ y)) ∷ cut (drop (suc (stop_len (is_other sign) y)) (c ∷ y))) (same_kind (is_sign b) c e)

cut_first : (b : ℕ) (z : List ℕ) → cut (b ∷ z) ≡ take (piece_len (b ∷ z)) (b ∷ z) ∷ cut (drop (piece_len (b ∷ z)) (b ∷ z))
cut_first b [] = refl
cut_first b (c ∷ y) = cut_first_at (is_other (is_sign b) c) b c y refl (cut_first c y)

first_of : (z : List ℕ) → length z ≢ 0 → cut z ≡ take (piece_len z) z ∷ cut (drop (piece_len z) z)
first_of [] some = absurd (some refl)
first_of (b ∷ z) some = cut_first b z

-- ---- no word is empty

filtered_some : (ps more : List (List ℕ)) (a : List ℕ) → filter (has_some {A = ℕ}) ps ≡ a ∷ more → length a ≢ 0
filtered_some [] more a e = absurd (let h : ⊥ = cc in h)
filtered_some ([] ∷ ps) more a e = filtered_some ps more a e
filtered_some ((b ∷ p) ∷ ps) more a e = λ none. let same : b ∷ p ≡ a = cc in let size : suc (length p) ≡ length a = ap length same in omega (arith, size, none)

-- ---- what is left

pub is_none : (z : List ℕ) (found : Bool) → found ≡ (length z == 0) → found ≡ true → length z ≡ 0
is_none [] found is e = refl
is_none (b ∷ z) found is e = let none : (length (b ∷ z) == 0) ≡ true = sym is ∙ e in grind (arith, nat_tests)

pub no_piece : (left : List ℕ) (ws : List (List ℕ)) → length left ≡ 0 → ws ≡ [] → pieces_of left ws ≡ []
no_piece [] ws e none = ap (flat_map cut) none
no_piece (b ∷ left) ws e none = absurd (omega arith)

pub next_here : (left piece more : List ℕ) (ws : List (List ℕ)) (n : ℕ) → length left ≢ 0 → n ≡ piece_len left → piece ≡ take n left → more ≡ drop n left → pieces_of left ws ≡ piece ∷ pieces_of more ws
next_here left piece more ws n some e p m = rw (p, m, e) (ap (λ (ps : List (List ℕ)). ps ++ flat_map cut ws) (first_of left some))

pub next_there : (left z word piece more : List ℕ) (ws : List (List ℕ)) (n : ℕ) → length left ≡ 0 → words z ≡ word ∷ ws → n ≡ piece_len word → piece ≡ take n word → more ≡ drop n word
    → pieces_of left (words z) ≡ piece ∷ pieces_of more ws
next_there [] z word piece more ws n none is e p m =
    ap (flat_map cut) is ∙ next_here word piece more ws n (filtered_some (pieces z) ws word is) e p m
next_there (b ∷ left) z word piece more ws n none is e p m = absurd (omega arith)

pub ruleset cutting = (no_piece, next_here, next_there)

-- ---- numbers

-- so few digits that one more fits 64 bits
pub few_digits : (i v : ℕ) → i ≤ 18 → v < 10 ^ i → v < 1000000000000000000
few_digits i v few small = let some : 0 < 10 = omega arith in let most : 10 ^ i ≤ 1000000000000000000 = pow-le-pow_right some few in omega (arith, small, most)
