-- Which tokens the grammar allows after the front of a text, and what is told of them.
use Rattle.std.specs.Prelude.{ℕ, ◌+◌, Bool, true, false, not, ◌&&◌, ◌||◌, ◌==◌, if◌then◌else◌, List, [], ◌∷◌, ◌++◌, length, map, take, drop, codes, Result, Ok, Err}
use Rattle.std.specs.List.{flat_map}
use Rattle.mpd_model.specs.grammar.Grammar.{reading}
use Rattle.mpd_model.specs.grammar.Tokens.{front as token_at}
use Rattle.mpd_model.specs.texts.Texts.{line}
use Rattle.mpd_model.specs.script.Program.{Program}
use Rattle.mpd_model.specs.declared.read_fault.FaultCode.{FaultCode}
use Rattle.mpd_model.specs.declared.read_fault.FaultCode.TheVariants as code
use Rattle.mpd_model.specs.declared.read_fault.ReadFault.{ReadFault}
use Rattle.mpd_trace.specs.declared.allowed_tokens.TheConstants.{KINDS, COMPARISONS, OTHERS}
use Rattle.mpd_trace.specs.Excerpts.{part_shown}

abbrev pub is_expected : FaultCode → Bool
is_expected code.TooLong = false
is_expected code.NotText = false
is_expected code.BadToken = false
is_expected code.Expected = true
is_expected code.UnknownName = false
is_expected code.Twice = false
is_expected code.TooDeep = false
is_expected code.TooMany = false
is_expected code.BadRanks = false
is_expected code.NotInVersion = false
is_expected code.Memory = false

-- whether what is read has its fault at the place, since the grammar doesn't allow the token there
abbrev pub is_refused_at : ℕ → Result Program ReadFault → Bool
is_refused_at place (Ok p) = false
is_refused_at place (Err f) = is_expected f.code && f.place == place

-- whether the text that ends with the token, after the front and a line feed, isn't refused at that token
abbrev pub allows : List ℕ → List ℕ → Bool
allows front token = not (is_refused_at (length front + 1) (reading (front ++ 10 ∷ token)))

abbrev pub allows_one : List ℕ → List (List ℕ) → Bool
allows_one front [] = false
allows_one front (t ∷ ts) = allows front t || allows_one front ts

-- ---- what is told

-- those of some kinds that are allowed after the front, each by how it is told; a kind has that and a token, which stands for all of it
abbrev pub told_if : List ℕ → List ℕ × List ℕ → List (List ℕ)
told_if front k = if allows front k.1 then k.0 ∷ [] else []

abbrev pub kinds_told : List ℕ → List (List ℕ × List ℕ) → List (List ℕ)
kinds_told front kinds = flat_map (told_if front) kinds

-- operators, by whether those that compare are allowed, and others
abbrev pub operators_told : Bool → Bool → List (List ℕ)
operators_told true others = codes "an operator" ∷ []
operators_told false true = codes "an operator that is no comparison" ∷ []
operators_told false false = []

abbrev pub all_told : List ℕ → List (List ℕ)
all_told front = kinds_told front (map (λ k. (k.0.now, k.1.now)) KINDS) ++ operators_told (allows_one front (map (λ t. t.now) COMPARISONS)) (allows_one front (map (λ t. t.now) OTHERS))

-- one to three of them
abbrev pub choice_text : List (List ℕ) → List ℕ
choice_text [] = []
choice_text (a ∷ []) = codes "; only " ++ a ++ codes " can stand here"
choice_text (a ∷ b ∷ []) = codes "; only " ++ a ++ codes " or " ++ b ++ codes " can stand here"
choice_text (a ∷ b ∷ c ∷ []) = codes "; only " ++ a ++ codes ", " ++ b ++ codes " or " ++ c ++ codes " can stand here"
choice_text (a ∷ b ∷ c ∷ d ∷ more) = []

-- the token at the front of what is left of a text, or that it ends
abbrev pub found_text : List ℕ → List ℕ
found_text [] = codes "the end of the text"
found_text (b ∷ z) = 39 ∷ part_shown (take (token_at (b ∷ z)).1 (b ∷ z)) 0 ++ 39 ∷ []

-- `  found 'print'; only ';' or an operator can stand here`
abbrev pub allowed_line : List ℕ → ℕ → List ℕ
allowed_line text place = line (codes "  found " ++ found_text (drop place text) ++ choice_text (all_told (take place text)))
