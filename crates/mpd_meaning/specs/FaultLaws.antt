-- Which tokens decide the fault of a text.
use Rattle.std.specs.Prelude.{◌≡◌, ◌⊎◌, ℕ, ◌+◌, ◌<◌, ◌≤◌, true, List, ◌∷◌, ◌++◌, length, Result, Ok, Err}
use Rattle.std.specs.List.{All, Contains}
use Rattle.mpd_model.specs.declared.read_fault.FaultCode.{FaultCode}
use Rattle.mpd_model.specs.declared.read_fault.FaultCode.TheVariants.{TooLong, TooDeep, TooMany, BadRanks, NotInVersion}
use Rattle.mpd_model.specs.declared.read_fault.ReadFault.{ReadFault}
use Rattle.mpd_model.specs.grammar.Grammar.{max_text, is_text, reading}
use Rattle.mpd_model.specs.script.Program.{Program}
use Rattle.mpd_model.specs.grammar.Tokens.{Spot, tokens}
use Rattle.mpd_model.specs.grammar.Written.{WrittenScript}
use Rattle.mpd_meaning.specs.ReadingLaws.{IsWrittenWithin}

-- A text may be no longer, and have no other bytes.
pub record IsText (text : List ℕ) : Type 0 where
  pub short : length text ≤ max_text
  pub bytes : All (λ b. is_text b ≡ true) text

-- Of two texts whose tokens are the same up to one, the other has the same fault where the first has it at that token or before it. Only
-- a fault of too many cells or statements takes a token more: whether a name has a size is known by the token after it.
abbrev pub TokensUpToItDecideAFault : Type 0
TokensUpToItDecideAFault =
    (text other : List ℕ) (before behind others : List Spot) (last : Spot) (f : ReadFault) → IsText text → IsText other
    → tokens text ≡ before ++ last ∷ behind → tokens other ≡ before ++ last ∷ others
    → reading text ≡ Err f → f.place ≤ last.place → (f.code ≡ TooMany → f.place < last.place) → reading other ≡ Err f

-- The same of bytes: two texts are the same up to the byte after a token, at which or before which the fault is.
abbrev pub TextUpToItDecidesAFault : Type 0
TextUpToItDecidesAFault =
    (same rest other : List ℕ) (last : Spot) (f : ReadFault) → IsText (same ++ rest) → IsText (same ++ other)
    → Contains (tokens (same ++ rest)) last → last.place + length last.text < length same
    → reading (same ++ rest) ≡ Err f → f.place ≤ last.place → (f.code ≡ TooMany → f.place < last.place) → reading (same ++ other) ≡ Err f

-- So no text that writes a script within the limits begins with these tokens.
abbrev pub NoScriptBeginsWithAFault : Type 0
NoScriptBeginsWithAFault =
    (text other : List ℕ) (before behind others : List Spot) (last : Spot) (f : ReadFault) (p : Program) → IsText text
    → tokens text ≡ before ++ last ∷ behind → tokens other ≡ before ++ last ∷ others
    → reading text ≡ Err f → f.place ≤ last.place → (f.code ≡ TooMany → f.place < last.place) → IsWrittenWithin other p → ⊥

-- The faults of what is in the grammar, but too large or of another version.
abbrev pub IsLimit : FaultCode → Type 0
IsLimit TooLong = Unit {0}
IsLimit TooDeep = Unit {0}
IsLimit TooMany = Unit {0}
IsLimit BadRanks = Unit {0}
IsLimit NotInVersion = Unit {0}
IsLimit _ = ⊥

abbrev pub IsRefusedByALimit : {A : Type 0} → Result A ReadFault → Type 0
IsRefusedByALimit (Ok a) = ⊥
IsRefusedByALimit (Err f) = IsLimit f.code

-- What a text writes, however large, is read as that, or a limit refuses it. So where a token is refused as one that the grammar doesn't allow there, as no
-- token, or for its name, the end of the text among these tokens, the text writes no script at all.
abbrev pub OnlyALimitRefusesWhatIsWritten : Type 0
OnlyALimitRefusesWhatIsWritten =
    (text : List ℕ) (p : Program) → All (λ b. is_text b ≡ true) text → WrittenScript (tokens text) p → (reading text ≡ Ok p) ⊎ IsRefusedByALimit (reading text)

-- Nor does any list of tokens that begins with those of the text up to that one, whatever is after it.
abbrev pub NothingWrittenBeginsWithAFault : Type 0
NothingWrittenBeginsWithAFault =
    (text : List ℕ) (before behind others : List Spot) (last : Spot) (f : ReadFault) (p : Program) → IsText text
    → tokens text ≡ before ++ last ∷ behind → reading text ≡ Err f → f.place ≤ last.place → (IsLimit f.code → ⊥) → WrittenScript (before ++ last ∷ others) p → ⊥
