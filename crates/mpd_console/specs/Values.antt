-- What an expression that stands after `print` comes to (docs/CONSOLE.md, "Looks").
use Rattle.std.specs.Prelude.{ℕ, ◌+◌, Bool, true, false, not, ◌&&◌, ◌==◌, nat_lt, if◌then◌else◌, List, [], ◌∷◌, ◌++◌, length, map, take, slice_get, Option, Some, None, Result, Ok, Err}
use Rattle.std.specs.List.{flat_map}
use Rattle.mpd_model.specs.declared.read_fault.FaultCode.{FaultCode}
use Rattle.mpd_model.specs.declared.read_fault.FaultCode.TheVariants as code
use Rattle.mpd_model.specs.declared.read_fault.ReadFault.{ReadFault}
use Rattle.mpd_model.specs.script.Declaration.{Declared}
use Rattle.mpd_model.specs.script.Program.{Program}
use Rattle.mpd_model.specs.script.Term.{Term, value_of}
use Rattle.mpd_model.specs.steps.Next.{env_of}
use Rattle.mpd_model.specs.steps.World.{World, RankWorld, rank_numbers}
use Rattle.mpd_names.specs.declared.name.Named.{Named}
use Rattle.mpd_names.specs.declared.name.NameFault.{NameFault}
use Rattle.mpd_names.specs.Names.{named}
use Rattle.mpd_script.specs.Asked.{asking}
use Rattle.mpd_trace.specs.Allowed.{is_expected}
use Rattle.mpd_trace.specs.Hints.{word_at}
use Rattle.mpd_console.specs.declared.values.Expected.{Expected}
use Rattle.mpd_console.specs.declared.values.NoValue.{NoValue}
use Rattle.mpd_console.specs.declared.values.NoValue.TheVariants as no
use Rattle.mpd_console.specs.declared.values.RankValue.{RankValue}
use Rattle.mpd_console.specs.declared.values.Valued.{Valued}
use Rattle.mpd_console.specs.declared.values.Valued.TheVariants as valued
use Rattle.mpd_console.specs.declared.values.TheConstants.{EXPECTED}

-- ---- values

abbrev pub value_in : Program → Term → ℕ → Option RankWorld → List RankValue
value_in s e p None = []
value_in s e p (Some r) = record { rank = p; value = value_of e (env_of p s.ranks r) } ∷ []

-- the value that an expression has for a rank
abbrev pub value_at : Program → World → Term → ℕ → List RankValue
value_at s w e p = value_in s e p (slice_get w.ranks p)

-- of all ranks, or of one
abbrev pub valued_by : Program → World → Term → Option ℕ → Valued
valued_by s w e None = valued.Values e (flat_map (value_at s w e) (rank_numbers w.board))
valued_by s w e (Some p) = if nat_lt p (length w.ranks) then valued.Values e (value_at s w e p) else valued.NoRank

-- ---- what is no expression

abbrev pub is_refused_at : ℕ → Result (Term × Option ℕ) ReadFault → Bool
is_refused_at place (Ok a) = false
is_refused_at place (Err f) = is_expected f.code && f.place == place

-- whether the text that ends with the token, after the front and a space, isn't refused at that token
abbrev pub allows : List Declared → List ℕ → List ℕ → Bool
allows ds front token = not (is_refused_at (length front + 1) (asking ds (front ++ 32 ∷ token)))

-- what stands first in a table of those that may stand after the front; an entry has a token that stands for it
abbrev pub first_allowed : List Declared → List ℕ → List (Expected × List ℕ) → Option Expected
first_allowed ds front [] = None
first_allowed ds front (k ∷ ks) = if allows ds front k.1 then Some k.0 else first_allowed ds front ks

abbrev pub expected : List (Expected × List ℕ)
expected = map (λ k. (k.0, k.1.now)) EXPECTED

-- a name is that of a request, or of nothing
abbrev pub no_variable : Result Named NameFault → NoValue
no_variable (Ok n) = no.IsRequest
no_variable (Err f) = no.NoName

-- why a text is no expression, by its leftmost fault
abbrev pub why_none : List Declared → List ℕ → FaultCode → ℕ → NoValue
why_none ds text code.Expected place = no.Lacks (first_allowed ds (take place text) expected)
why_none ds text code.UnknownName place = no_variable (named ds (word_at text place))
why_none ds text code.TooDeep place = no.TooDeep
why_none ds text other place = no.NoToken

-- ---- either

abbrev pub asked_by : Program → World → List ℕ → Result (Term × Option ℕ) ReadFault → Valued
asked_by s w text (Ok a) = valued_by s w a.0 a.1
asked_by s w text (Err f) = valued.Wrong (why_none s.decls text f.code f.place) f.place

-- what stands after `print` comes to
abbrev pub valued_of : Program → World → List ℕ → Valued
valued_of s w text = asked_by s w text (asking s.decls text)

abbrev pub is_read : Result (Term × Option ℕ) ReadFault → Bool
is_read (Ok a) = true
is_read (Err f) = false

-- whether it is an expression
abbrev pub is_asked : List Declared → List ℕ → Bool
is_asked ds text = is_read (asking ds text)

abbrev pub is_valued : Valued → Bool
is_valued (valued.Wrong why place) = false
is_valued other = true

-- what an empty line tells then: the expression, or what it told before
abbrev pub kept_if : Bool → List ℕ → List ℕ → List ℕ
kept_if is_asked text old = if is_asked then text else old
