-- The mark of a line: the bytes of a place, and numbers of lines.
use Rattle.std.proofs.Common.{◌≡◌, ℕ, zero, suc, ◌-◌, ◌<◌, true, List, take, sym, ap, length, get_or, Result, Ok, Err, IsOk, MatchResult, subst, ◌∙◌, arith}
use Rattle.std.specs.Prelude.{IsUtf8}
use Rattle.std.specs.List.{prefix_len}
use Rattle.std.specs.Char.{is_ascii_graphic}
use Rattle.std.proofs.lemmas.Str.{IsUtf8-from_ascii}
use Rattle.std.proofs.lemmas.Str.Ascii.{IsAscii-from_all}
use Rattle.std.proofs.lemmas.List.{get_or-take}
use Rattle.std.proofs.lemmas.List.Elements.{All-from_get_or}
use Rattle.std.proofs.lemmas.List.Folds.{length-prefix_len}
use Rattle.std.proofs.lemmas.List.Sums.{prefix_len_passes}
use Rattle.mpd_names.specs.Marks.{mark_at, mark_of}

-- ---- a place is text

graphic_small : (b : ℕ) → is_ascii_graphic b ≡ true → b < 128
graphic_small b h = grind arith

front_passes : (z : List ℕ) (i : ℕ) → i < length (take (prefix_len is_ascii_graphic z) z) → get_or (take (prefix_len is_ascii_graphic z) z) i 0 < 128
front_passes z i h =
    let within : i < prefix_len is_ascii_graphic z = omega (arith, h, length-prefix_len is_ascii_graphic z) in
    subst (λ b. b < 128) (sym (get_or-take (prefix_len is_ascii_graphic z) z i 0 within)) (graphic_small (get_or z i 0) (prefix_len_passes is_ascii_graphic z i 0 within))

is_text : (z : List ℕ) → IsUtf8 (take (prefix_len is_ascii_graphic z) z)
is_text z =
    let front : List ℕ = take (prefix_len is_ascii_graphic z) z in
    IsUtf8-from_ascii front (IsAscii-from_all front (All-from_get_or (λ b. b < 128) front 0 (front_passes z)))

is_read : {A E : Type 0} (P : A → Type 0) (Q : E → Type 0) (U : Type 0) (r : Result A E) → MatchResult r P (λ e. (U → ⊥) × Q e) → U → IsOk r
is_read P Q U (Ok a) m u = search
is_read P Q U (Err e) m u = absurd (m.0 u)

pub text_of_place : {A E : Type 0} (P : A → Type 0) (Q : E → Type 0) (z front : List ℕ) (n : ℕ) (r : Result A E) → n ≡ prefix_len is_ascii_graphic z → front ≡ take n z → MatchResult r P (λ e. (IsUtf8 front → ⊥) × Q e) → IsOk r
text_of_place P Q z front n r count is m = is_read P Q (IsUtf8 front) r m (subst IsUtf8 (sym (is ∙ ap (λ k. take k z) count)) (is_text z))

-- ---- numbers

pub numbered : (n : ℕ) (script : List ℕ) → 0 < n → mark_of script n ≡ mark_at script (n - 1)
numbered zero script h = absurd (omega (arith, h))
numbered (suc i) script h = let k : suc i - 1 ≡ i = omega arith in ap (mark_at script) (sym k)

pub ruleset numbering = (numbered, numbered)
