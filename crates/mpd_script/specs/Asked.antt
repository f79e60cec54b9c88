-- An expression by itself, as whoever debugs a script asks for it, and the number of a rank after it, if one is given.
use Rattle.std.specs.Prelude.{ℕ, nat_lt, if◌then◌else◌, List, length, Option, None, Result, Ok, Err}
use Rattle.std.specs.List.{prefix_len}
use Rattle.mpd_model.specs.declared.read_fault.FaultCode.TheVariants.{TooLong, NotText}
use Rattle.mpd_model.specs.declared.read_fault.ReadFault.{ReadFault}
use Rattle.mpd_model.specs.declared.token.Token.{Token}
use Rattle.mpd_model.specs.declared.token.Token.TheVariants.{Number, End}
use Rattle.mpd_model.specs.script.Declaration.{Declared}
use Rattle.mpd_model.specs.script.Term.{Term}
use Rattle.mpd_model.specs.grammar.Faults.{fault}
use Rattle.mpd_model.specs.grammar.Grammar.{expression, natural, max_text, is_text}
use Rattle.mpd_model.specs.grammar.Input.{Input, Parser, Outcome, start_of, ◌>>=◌, ◌>>◌, pure, peek, advance, refuse}

-- a text where these are declared before it
abbrev pub start_with : List Declared → List ℕ → Input
start_with ds text = record (start_of text) { decls = ds }

-- the number that comes next, if one does
abbrev pub rank_by : Token → Parser (Option ℕ)
rank_by (Number z) = advance >> pure (natural z)
rank_by t = pure None

unfoldable pub rank_behind : Parser (Option ℕ)
rank_behind = peek >>= rank_by

-- nothing is left
abbrev pub end_by : Token → Parser (Unit {0})
end_by End = pure tt
end_by t = refuse

unfoldable pub end : Parser (Unit {0})
end = peek >>= end_by

-- an expression of the grammar, a number or none, and no more
unfoldable pub asked : Parser (Term × Option ℕ)
asked = do
  e ← expression
  p ← rank_behind
  end
  pure (e, p)

abbrev pub asked_of : Outcome (Term × Option ℕ) → Result (Term × Option ℕ) ReadFault
asked_of (Ok p) = Ok p.0
asked_of (Err f) = Err f

-- The expression that a text spells and the number of a rank after it, or the text's leftmost fault.
unfoldable pub asking : List Declared → List ℕ → Result (Term × Option ℕ) ReadFault
asking ds text =
    if nat_lt max_text (length text) then Err (fault TooLong max_text)
    else (if nat_lt (prefix_len is_text text) (length text) then Err (fault NotText (prefix_len is_text text))
    else asked_of (asked (start_with ds text)))
