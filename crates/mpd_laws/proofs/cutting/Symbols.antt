-- A sign or a reserved word between parts is cut into itself.
use Rattle.std.proofs.Common.{◌≡◌, ℕ, true, List, ◌∷◌, ◌++◌, refl, subst}
use Rattle.std.specs.Prelude.{slice_index}
use Rattle.std.specs.List.{list_all}
use Rattle.mpd_model.specs.declared.token.Symbol.{Symbol}
use Rattle.mpd_model.specs.declared.token.Symbol.TheVariants as m
use Rattle.mpd_model.specs.declared.token.Token.TheVariants.{Is}
use Rattle.mpd_model.specs.grammar.Canonical.{symbol_text}
use Rattle.mpd_model.specs.grammar.Grammar.{is_text}
use Rattle.mpd_model.specs.grammar.Tokens.{is_in_name, begins_name, tokens_after, tokens_at, front, sign, word}
use Rattle.mpd_laws.proofs.cutting.Cuts.{Ends, Spelled, narrowed, turned, IsOne, one, IsWord, one_of_word, place_behind, line_behind}
use Rattle.mpd_laws.proofs.cutting.Runs.{word_spelled}

-- what may follow a part: a space, or the end of the statement
pub data Parted : List ℕ → Type 0 where
  spaced : (z : List ℕ) → Parted (32 ∷ z)
  closed : (z : List ℕ) → Parted (59 ∷ z)

pub parted_ends : (z : List ℕ) → Parted z → Ends z
parted_ends _ (spaced z) = refl
parted_ends _ (closed z) = refl

reserved_spelled : (k : Symbol) → begins_name (slice_index (symbol_text k) 0) ≡ true → list_all is_in_name (symbol_text k) ≡ true → word (symbol_text k) ≡ Is k → Spelled Parted (IsOne (Is k)) (symbol_text k)
reserved_spelled k begins in_name is =
    narrowed (symbol_text k) parted_ends (turned (symbol_text k) one_of_word (subst (λ t. Spelled Ends (IsWord t (symbol_text k)) (symbol_text k)) is (word_spelled (symbol_text k) begins in_name)))

-- the text is cut for itself before a byte
abbrev IsCutBefore : ℕ → List ℕ → Type 0
IsCutBefore b a = (p l : ℕ) (z : List ℕ) → tokens_at p l (a ++ b ∷ z) ≡ tokens_at p l a ++ tokens_at (place_behind a p) (line_behind a l) (b ∷ z)

cut_before : (a : List ℕ) → IsCutBefore 32 a → IsCutBefore 59 a → (p l : ℕ) (z : List ℕ) → Parted z → tokens_at p l (a ++ z) ≡ tokens_at p l a ++ tokens_at (place_behind a p) (line_behind a l) z
cut_before a f g p l _ (spaced z) = f p l z
cut_before a f g p l _ (closed z) = g p l z

sign_spelled : (k : Symbol) → IsCutBefore 32 (symbol_text k) → IsCutBefore 59 (symbol_text k) → ((p l : ℕ) → IsOne (Is k) (tokens_at p l (symbol_text k))) → list_all is_text (symbol_text k) ≡ true
    → Spelled Parted (IsOne (Is k)) (symbol_text k)
sign_spelled k f g h t =
    let a : List ℕ = symbol_text k in
    record {
      cut = λ p l z x. record { spots = tokens_at p l a; to_place = place_behind a p; to_line = line_behind a l; is = cut_before a f g p l z x; holds = h p l };
      plain = t;
    }

-- the signs, and then all words
pub symbol_spelled : (k : Symbol) → Spelled Parted (IsOne (Is k)) (symbol_text k)
unfolding tokens_after front sign word
symbol_spelled m.Semicolon = sign_spelled m.Semicolon (λ p l z. refl) (λ p l z. refl) (λ p l. one _ refl) refl
symbol_spelled m.BraceOpen = sign_spelled m.BraceOpen (λ p l z. refl) (λ p l z. refl) (λ p l. one _ refl) refl
symbol_spelled m.BraceClose = sign_spelled m.BraceClose (λ p l z. refl) (λ p l z. refl) (λ p l. one _ refl) refl
symbol_spelled m.RoundOpen = sign_spelled m.RoundOpen (λ p l z. refl) (λ p l z. refl) (λ p l. one _ refl) refl
symbol_spelled m.RoundClose = sign_spelled m.RoundClose (λ p l z. refl) (λ p l z. refl) (λ p l. one _ refl) refl
symbol_spelled m.SquareOpen = sign_spelled m.SquareOpen (λ p l z. refl) (λ p l z. refl) (λ p l. one _ refl) refl
symbol_spelled m.SquareClose = sign_spelled m.SquareClose (λ p l z. refl) (λ p l z. refl) (λ p l. one _ refl) refl
symbol_spelled m.Assign = sign_spelled m.Assign (λ p l z. refl) (λ p l z. refl) (λ p l. one _ refl) refl
symbol_spelled m.Equal = sign_spelled m.Equal (λ p l z. refl) (λ p l z. refl) (λ p l. one _ refl) refl
symbol_spelled m.NotEqual = sign_spelled m.NotEqual (λ p l z. refl) (λ p l z. refl) (λ p l. one _ refl) refl
symbol_spelled m.Less = sign_spelled m.Less (λ p l z. refl) (λ p l z. refl) (λ p l. one _ refl) refl
symbol_spelled m.AtMost = sign_spelled m.AtMost (λ p l z. refl) (λ p l z. refl) (λ p l. one _ refl) refl
symbol_spelled m.Greater = sign_spelled m.Greater (λ p l z. refl) (λ p l z. refl) (λ p l. one _ refl) refl
symbol_spelled m.AtLeast = sign_spelled m.AtLeast (λ p l z. refl) (λ p l z. refl) (λ p l. one _ refl) refl
symbol_spelled m.Plus = sign_spelled m.Plus (λ p l z. refl) (λ p l z. refl) (λ p l. one _ refl) refl
symbol_spelled m.Minus = sign_spelled m.Minus (λ p l z. refl) (λ p l z. refl) (λ p l. one _ refl) refl
symbol_spelled m.Times = sign_spelled m.Times (λ p l z. refl) (λ p l z. refl) (λ p l. one _ refl) refl
symbol_spelled m.Divide = sign_spelled m.Divide (λ p l z. refl) (λ p l z. refl) (λ p l. one _ refl) refl
symbol_spelled m.Remainder = sign_spelled m.Remainder (λ p l z. refl) (λ p l z. refl) (λ p l. one _ refl) refl
symbol_spelled m.Not = sign_spelled m.Not (λ p l z. refl) (λ p l z. refl) (λ p l. one _ refl) refl
symbol_spelled m.And = sign_spelled m.And (λ p l z. refl) (λ p l z. refl) (λ p l. one _ refl) refl
symbol_spelled m.Or = sign_spelled m.Or (λ p l z. refl) (λ p l z. refl) (λ p l. one _ refl) refl
symbol_spelled k = reserved_spelled k refl refl refl
