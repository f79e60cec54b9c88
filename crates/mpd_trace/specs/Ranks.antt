-- A script, and its text, for another number of ranks.
use Rattle.std.specs.Prelude.{◌≡◌, ◌≤◌, IfSome, ℕ, suc, ◌+◌, Bool, true, false, not, ◌&&◌, if◌then◌else◌, ◌==◌, List, [], ◌∷◌, ◌++◌, take, drop, Option, Some, None, Ok}
use Rattle.std.specs.Char.{is_ascii_digit}
use Rattle.std.specs.Fmt.{decimal}
use Rattle.std.specs.List.{prefix_len}
use Rattle.mpd_model.specs.devices.Seen.{SourceSeen}
use Rattle.mpd_model.specs.declared.limits.TheConstants.{RANKS_MAX}
use Rattle.mpd_model.specs.grammar.Grammar.{reading}
use Rattle.mpd_model.specs.script.Program.{Program}
use Rattle.mpd_trace.specs.FileText.{IsScriptOf}

-- as many ranks as a script can have, where a number is given
abbrev pub AreRanks : Option ℕ → Type 0
AreRanks ranks = IfSome ranks (λ n. (1 ≤ n) × (n ≤ RANKS_MAX))

-- the same script for this number of ranks
abbrev pub program_with : ℕ → Program → Program
program_with ranks p = record p { ranks = ranks }

-- and where none is asked for it stays
abbrev pub program_for : Option ℕ → Program → Program
program_for None p = p
program_for (Some ranks) p = program_with ranks p

-- ---- the text

-- whether what follows a byte is in a comment, by whether the byte is
abbrev pub is_comment_after : Bool → ℕ → Bool
is_comment_after true b = not (b == 10)
is_comment_after false b = b == 35

-- how many bytes stand before the first digit that is in no comment, from a place in a comment or in none on
abbrev pub before_digit : Bool → List ℕ → ℕ
before_digit in_comment [] = 0
before_digit in_comment (b ∷ z) = if not in_comment && is_ascii_digit b then 0 else suc (before_digit (is_comment_after in_comment b) z)

-- how many digits stand at the front
abbrev pub digits_at : List ℕ → ℕ
digits_at = prefix_len is_ascii_digit

-- what follows the first number of a text
abbrev pub after_number : List ℕ → List ℕ
after_number text = let z = drop (before_digit false text) text in drop (digits_at z) z

-- where the second number of a text begins: in a script it is the number of ranks, and the first is the version
abbrev pub number_at : List ℕ → ℕ
number_at text = let first = before_digit false text in first + digits_at (drop first text) + before_digit false (after_number text)

-- the text with this number in the place of its second one
abbrev pub text_with : ℕ → List ℕ → List ℕ
text_with ranks text = let z = drop (number_at text) text in take (number_at text) text ++ decimal ranks ++ drop (digits_at z) z

abbrev pub text_for : Option ℕ → List ℕ → List ℕ
text_for None text = text
text_for (Some ranks) text = text_with ranks text

-- ---- what is read

-- the text that was read is that of a script, which is taken for so many ranks, as its text is
abbrev pub IsScriptFor : Option ℕ → SourceSeen → SourceSeen → List ℕ → Program → Type 0
IsScriptFor ranks s t text program = (own : List ℕ) × (script : Program) × IsScriptOf s t own script × (text ≡ text_for ranks own) × (program ≡ program_for ranks script)

-- the text spells a script, which is taken for so many ranks
abbrev pub IsSpelledFor : ℕ → List ℕ → Program → Type 0
IsSpelledFor ranks text program = (script : Program) × (reading text ≡ Ok script) × (program ≡ program_with ranks script)
