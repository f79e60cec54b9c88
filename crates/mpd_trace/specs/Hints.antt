-- What is told of a fault that has a usual cause (docs/FORMATS.md, "Standard error").
use Rattle.std.specs.Prelude.{ℕ, suc, ◌-◌, Bool, true, false, not, ◌&&◌, ◌||◌, ◌==◌, nat_lt, if◌then◌else◌, List, [], ◌∷◌, ◌++◌, length, map, take, drop, codes, slice_get, Option, Some, None}
use Rattle.std.specs.Fmt.{decimal}
use Rattle.std.specs.Str.{bytes_eq}
use Rattle.mpd_model.specs.declared.read_fault.FaultCode.{FaultCode}
use Rattle.mpd_model.specs.declared.read_fault.FaultCode.TheVariants as code
use Rattle.mpd_model.specs.declared.token.Class.TheVariants as class
use Rattle.mpd_model.specs.declared.token.Symbol.{Symbol}
use Rattle.mpd_model.specs.grammar.Tokens.{reserved, run_len}
use Rattle.mpd_model.specs.texts.Texts.{line}
use Rattle.mpd_trace.specs.declared.hints.TheConstants.{FOREIGN}
use Rattle.mpd_trace.specs.Allowed.{allows, is_expected}
use Rattle.mpd_trace.specs.Excerpts.{part_shown}

-- ---- words

-- the letters, digits and underscores at a place
abbrev pub word_at : List ℕ → ℕ → List ℕ
word_at text place = take (run_len class.Name (drop place text)) (drop place text)

-- what a table has for a word
abbrev pub instead_in : List (List ℕ × List ℕ) → List ℕ → Option (List ℕ)
instead_in [] word = None
instead_in (entry ∷ table) word = if bytes_eq entry.0 word then Some entry.1 else instead_in table word

-- words of other languages, each with what is written here
abbrev pub foreign : List (List ℕ × List ℕ)
foreign = map (λ k. (k.0.now, k.1.now)) FOREIGN

-- whether a table has a word
abbrev pub reserved_in : List (List ℕ × Symbol) → List ℕ → Bool
reserved_in [] word = false
reserved_in (entry ∷ table) word = bytes_eq entry.0 word || reserved_in table word

abbrev pub is_reserved : List ℕ → Bool
is_reserved word = reserved_in reserved word

-- ---- blocks

-- the lines of the blocks that are open after a byte on a line, the innermost last
abbrev pub opened : ℕ → ℕ → List ℕ → List ℕ
opened byte number lines = if byte == 123 then lines ++ number ∷ [] else (if byte == 125 then take (length lines - 1) lines else lines)

-- the lines of the blocks that are open at the end of a text, of which a line has this number; a comment ends with its line
abbrev pub still_open : Bool → ℕ → List ℕ → List ℕ → List ℕ
still_open comment number lines [] = lines
still_open comment number lines (byte ∷ text) =
    if byte == 10 then still_open false (suc number) lines text
    else (if comment || byte == 35 then still_open true number lines text else still_open false number (opened byte number lines) text)

-- the line of the innermost of some blocks
abbrev pub innermost : List ℕ → Option ℕ
innermost lines = slice_get lines (length lines - 1)

-- ---- what is told

-- whether a name can stand after the front of a text, and neither a number nor a statement
abbrev pub names_alone : List ℕ → Bool
names_alone front = allows front (codes "a") && (not (allows front (codes "1")) && not (allows front (codes "while")))

abbrev pub foreign_line : List ℕ → Option (List ℕ) → List ℕ
foreign_line word None = []
foreign_line word (Some told) = line (codes "  '" ++ part_shown word 0 ++ codes "' is no word here: " ++ told)

abbrev pub reserved_line : List ℕ → Bool → List ℕ
reserved_line word false = []
reserved_line word true = line (codes "  '" ++ part_shown word 0 ++ codes "' is a word of the language, so no name")

abbrev pub open_line : Option ℕ → List ℕ
open_line None = []
open_line (Some number) = codes "  the block that line " ++ decimal number ++ codes " opens isn't closed\n"

-- of an `else` where a statement can stand: what it follows, and which block is open, if one is
unfoldable pub lone_else : List ℕ
lone_else = line (codes "  'else' follows the '}' of an if")

abbrev pub else_line : Option ℕ → List ℕ
else_line None = lone_else
else_line (Some number) = codes "  'else' follows a '}': the block that line " ++ decimal number ++ codes " opens isn't closed\n"

-- of a declaration there
unfoldable pub late_line : List ℕ
late_line = line (codes "  declarations stand before the first statement")

abbrev pub is_either : List ℕ → List ℕ → List ℕ → Bool
is_either one other word = bytes_eq word one || bytes_eq word other

abbrev pub statement_line : List ℕ → List ℕ → List ℕ
statement_line front word =
    if bytes_eq word (codes "else") then else_line (innermost (still_open false 1 [] front))
    else (if is_either (codes "var") (codes "req") word then late_line else [])

-- of a word that begins no statement, where one can stand
abbrev pub misplaced_line : List ℕ → List ℕ → List ℕ
misplaced_line front word = if allows front (codes "while") then statement_line front word else []

-- of a token that the grammar doesn't allow: that a block is open where the text ends, that a word of the language stands in a name's place,
-- or that a word stands in a statement's place that begins none
abbrev pub expected_line : List ℕ → ℕ → List ℕ
expected_line text place =
    if nat_lt place (length text) then
    reserved_line (word_at text place) (is_reserved (word_at text place) && names_alone (take place text)) ++ misplaced_line (take place text) (word_at text place)
    else open_line (innermost (still_open false 1 [] text))

-- of a comma after the name that a declaration has
unfoldable pub list_line : List ℕ
list_line = line (codes "  a declaration has one name: write 'var x; var y;'")

-- whether the front of a text ends with such a name: its size could follow, and after a semicolon another declaration
abbrev pub declares_name : List ℕ → Bool
declares_name front = allows front (codes "[") && allows (front ++ 59 ∷ []) (codes "var")

abbrev pub bad_line : List ℕ → ℕ → List ℕ
bad_line text place = if bytes_eq (take 1 (drop place text)) (codes ",") && declares_name (take place text) then list_line else []

unfoldable pub ranks_line : List ℕ
ranks_line = line (codes "  a script has 1 to 16 ranks")

unfoldable pub waitany_line : List ℕ
waitany_line = line (codes "  'waitany' is a word of version 2: begin with 'mpd 2;'")

unfoldable pub versions_line : List ℕ
versions_line = line (codes "  there are the versions 1 and 2")

abbrev pub version_line : List ℕ → List ℕ
version_line word = if bytes_eq word (codes "waitany") then waitany_line else versions_line

abbrev pub hint_line : List ℕ → FaultCode → ℕ → List ℕ
hint_line text code.TooLong place = []
hint_line text code.NotText place = []
hint_line text code.BadToken place = bad_line text place
hint_line text code.Expected place = expected_line text place
hint_line text code.UnknownName place = foreign_line (word_at text place) (instead_in foreign (word_at text place))
hint_line text code.Twice place = []
hint_line text code.TooDeep place = []
hint_line text code.TooMany place = []
hint_line text code.BadRanks place = ranks_line
hint_line text code.NotInVersion place = version_line (word_at text place)
hint_line text code.Memory place = []
