-- What may stand in a text is ASCII.
use Rattle.std.proofs.Common.{◌≡◌, ℕ, zero, suc, ◌+◌, ◌<◌, true, List, [], ◌∷◌, length, refl, arith, inl, inr, IsAscii, drop, Result, Ok, Err}
use Rattle.std.proofs.lemmas.Bool.{cases_Bool}
use Rattle.std.proofs.lemmas.Bool.Decides.{nat_tests}
use Rattle.std.specs.List.{prefix_len}
use Rattle.std.specs.Result.{MatchResult, IsOk}
use Rattle.mpd_model.specs.grammar.Grammar.{is_text}

text_byte : (b : ℕ) → is_text b ≡ true → b < 128
text_byte b h = grind (arith, nat_tests)

more : (b : ℕ) (z : List ℕ) → prefix_len is_text (b ∷ z) ≡ suc (length z) → (is_text b ≡ true) × (prefix_len is_text z ≡ length z)
more b z h =
    elim (cases_Bool (is_text b)) [
      | inl is ↦ let e = rw is at h in (is, omega arith)
      | inr other ↦ let e = rw other at h in absurd (omega arith)
    ]

pub text_IsAscii : (z : List ℕ) → prefix_len is_text z ≡ length z → IsAscii z
text_IsAscii [] h i = omega arith
text_IsAscii (b ∷ z) h zero = text_byte b (more b z h).0
text_IsAscii (b ∷ z) h (suc i) = text_IsAscii z (more b z h).1 i

drop_whole : (z : List ℕ) → drop (length z) z ≡ []
drop_whole [] = refl
drop_whole (b ∷ z) = drop_whole z

-- a count of such bytes that ends with the text has counted them all
pub counted_IsAscii : (z : List ℕ) (n : ℕ) → n + prefix_len is_text (drop n z) ≡ prefix_len is_text z → n ≡ length z → IsAscii z
counted_IsAscii z n e h =
    let f = rw (h, drop_whole) at e in
    text_IsAscii z (omega arith)

-- what fails only where a fact is false succeeds where it is true
pub ok_where : {A E : Type 0} (P : A → Type 0) (Q : E → Type 0) (U : Type 0) (r : Result A E) → MatchResult r P (λ e. (U → ⊥) × Q e) → U → IsOk r
ok_where P Q U (Ok a) m u = search
ok_where P Q U (Err e) m u = absurd (m.0 u)
