-- What a rule of the grammar reads from, and the steps that every rule is made of.
use Rattle.std.specs.Prelude.{◌≡◌, ◌≢◌, ℕ, ◌+◌, ◌-◌, Bool, true, false, ◌&&◌, if◌then◌else◌, ◌==◌, nat_lt, nat_le, List, [], ◌∷◌, ◌++◌, length, Option, Some, None, Result, Ok, Err, refl}
use Rattle.std.specs.Global.{Vec}
use Rattle.std.specs.Coded.{Coded, code_by, coded×, coded_ℕ, coded_list}
use Rattle.std.specs.Str.{bytes_eq}
use denote.Enum.Bare.{sameb}
use Rattle.mpd_model.specs.declared.limits.TheConstants.{CELLS_MAX, HANDLES_MAX, NESTING_MAX, STATEMENTS_MAX}
use Rattle.mpd_model.specs.contracts.token.Symbol.{the_type}
use Rattle.mpd_model.specs.contracts.token.Token as token_row
use Rattle.mpd_model.specs.declared.slot.Slot.{Slot}
use Rattle.mpd_model.specs.declared.place.DeclKind.{DeclKind}
use Rattle.mpd_model.specs.declared.place.DeclKind.TheVariants.{Variable, Handle}
use Rattle.mpd_model.specs.declared.token.Symbol.{Symbol}
use Rattle.mpd_model.specs.declared.token.Token.{Token}
use Rattle.mpd_model.specs.declared.token.Token.TheVariants.{Is, Bad, End}
use Rattle.mpd_model.specs.declared.read_fault.FaultCode.{FaultCode}
use Rattle.mpd_model.specs.declared.read_fault.FaultCode.TheVariants.{BadToken, Expected, UnknownName, Twice, TooDeep, TooMany, Memory}
use Rattle.mpd_model.specs.declared.read_fault.ReadFault.{ReadFault}
use Rattle.mpd_model.specs.script.Declaration.{Declared, declared_code, variable_cells, handle_cells, variables_in, handles_in}
use Rattle.mpd_model.specs.grammar.Faults.{fault}
use Rattle.mpd_model.specs.grammar.Tokens.{Spot, tokens}

pub record Input : Type 0 where
  -- the tokens from the next one on, and the length of the whole text
  pub tokens : List Spot
  pub end : ℕ
  -- the version that the text is in: 1, until the number after `mpd` is read
  pub version : ℕ
  -- the declarations so far
  pub decls : List Declared
  -- the line of each statement that began so far
  pub lines : List ℕ
  -- how many brackets and operators the expression may still have
  pub budget : ℕ

abbrev pub spot_code : Coded Spot
spot_code = code_by (Token × (List ℕ × (ℕ × ℕ))) (coded× token_row.the_row.coded (coded× (coded_list coded_ℕ) (coded× coded_ℕ coded_ℕ)))
    (λ s. (s.token, (s.text, (s.place, s.line)))) (λ p. record { token = p.0; text = p.1.0; place = p.1.1.0; line = p.1.1.1 }) (λ _. refl)

abbrev pub input_code : Coded Input
input_code = code_by (List Spot × (ℕ × (ℕ × (List Declared × (List ℕ × ℕ)))))
    (coded× (coded_list spot_code) (coded× coded_ℕ (coded× coded_ℕ (coded× (coded_list declared_code) (coded× (coded_list coded_ℕ) coded_ℕ)))))
    (λ i. (i.tokens, (i.end, (i.version, (i.decls, (i.lines, i.budget))))))
    (λ p. record { tokens = p.0; end = p.1.0; version = p.1.1.0; decls = p.1.1.1.0; lines = p.1.1.1.1.0; budget = p.1.1.1.1.1 }) (λ _. refl)

abbrev pub start_of : List ℕ → Input
start_of text = record { tokens = tokens text; end = length text; version = 1; decls = []; lines = []; budget = 0 }

-- ---- the next token: its kind, its bytes, its place, its line

abbrev pub token_of : List Spot → Token
token_of [] = End
token_of (s ∷ ss) = s.token

abbrev pub text_of : List Spot → List ℕ
text_of [] = []
text_of (s ∷ ss) = s.text

-- the end of the text is a token at the text's length
abbrev pub place_of : ℕ → List Spot → ℕ
place_of end [] = end
place_of end (s ∷ ss) = s.place

abbrev pub first_line : List Spot → ℕ
first_line [] = 0
first_line (s ∷ ss) = s.line

abbrev pub behind : List Spot → List Spot
behind [] = []
behind (s ∷ ss) = ss

unfoldable pub token : Input → Token
token i = token_of i.tokens

unfoldable pub spelling : Input → List ℕ
spelling i = text_of i.tokens

unfoldable pub place : Input → ℕ
place i = place_of i.end i.tokens

unfoldable pub advanced : Input → Input
advanced i = record i { tokens = behind i.tokens }

-- ---- parsers: what was read and the input after it, or the leftmost fault

abbrev pub Outcome : Type 0 → Type 0
Outcome A = Result (A × Input) ReadFault

abbrev pub Parser : Type 0 → Type 0
Parser A = Input → Outcome A

abbrev pub and_then : {A B : Type 0} → Outcome A → (A → Parser B) → Outcome B
and_then (Ok p) f = f p.0 p.1
and_then (Err e) f = Err e

infixl 10 ◌>>=◌
abbrev pub ◌>>=◌ : {A B : Type 0} → Parser A → (A → Parser B) → Parser B
p >>= f = λ i. and_then (p i) f

infixl 10 ◌>>◌
abbrev pub ◌>>◌ : {A B : Type 0} → Parser A → Parser B → Parser B
p >> q = p >>= (λ _. q)

abbrev pub pure : {A : Type 0} → A → Parser A
pure a = λ i. Ok (a, i)

-- a fault at the next token
abbrev pub fail : {A : Type 0} → FaultCode → Parser A
fail c = λ i. Err (fault c (place i))

-- What is no token is a fault of its own, whatever is allowed there.
abbrev pub code_at : Token → FaultCode
code_at Bad = BadToken
code_at _ = Expected

unfoldable pub refusal : Input → ReadFault
refusal i = fault (code_at (token i)) (place i)

-- the grammar doesn't allow the next token
abbrev pub refuse : {A : Type 0} → Parser A
refuse = λ i. Err (refusal i)

abbrev pub peek : Parser Token
peek = λ i. Ok (token i, i)

abbrev pub advance : Parser (Unit {0})
advance = λ i. Ok (tt, advanced i)

-- `==` on signs and words
unfoldable pub same_symbol : Symbol → Symbol → Bool
same_symbol = sameb the_type

abbrev pub is_symbol : Symbol → Token → Bool
is_symbol wanted (Is k) = same_symbol k wanted
is_symbol wanted _ = false

unfoldable pub sees : Symbol → Input → Bool
sees wanted i = is_symbol wanted (token i)

unfoldable pub after : Symbol → Input → Input
after wanted i = if sees wanted i then advanced i else i

-- takes the symbol, if it comes next
abbrev pub eat : Symbol → Parser Bool
eat wanted = λ i. Ok (sees wanted i, after wanted i)

unfoldable pub expect : Symbol → Parser (Unit {0})
expect wanted = λ i. if sees wanted i then Ok (tt, advanced i) else refuse i

-- ---- what is counted

abbrev pub max_budget : ℕ
max_budget = NESTING_MAX

-- begins an expression that stands in no other
abbrev pub begin : Parser (Unit {0})
begin = λ i. Ok (tt, record i { budget = max_budget })

-- takes a bracket or an operator
unfoldable pub spend : Parser (Unit {0})
spend = λ i. if i.budget == 0 then fail TooDeep i else Ok (tt, record (advanced i) { budget = i.budget - 1 })

abbrev pub max_statements : ℕ
max_statements = STATEMENTS_MAX

-- a statement begins at the next token
unfoldable pub count : Parser (Unit {0})
count = λ i. if nat_lt (length i.lines) max_statements then Ok (tt, record i { lines = i.lines ++ first_line i.tokens ∷ [] }) else fail TooMany i

-- ---- names

abbrev pub first_of : DeclKind → ℕ → ℕ → ℕ
first_of Variable variables handles = variables
first_of Handle variables handles = handles

-- what a name stands for among declarations, where so many declarations, cells of variables and handles are before them
abbrev pub slot_from : ℕ → ℕ → ℕ → List Declared → List ℕ → Option Slot
slot_from number variables handles [] name = None
slot_from number variables handles (d ∷ ds) name =
    if bytes_eq d.name name then Some (record { kind = d.kind; declaration = number; first = first_of d.kind variables handles; size = d.size })
    else slot_from (number + 1) (variables + variable_cells d.kind d.size) (handles + handle_cells d.kind d.size) ds name

unfoldable pub slot_in : List Declared → List ℕ → Option Slot
slot_in = slot_from 0 0 0

abbrev pub same_kind : DeclKind → DeclKind → Bool
same_kind Variable Variable = true
same_kind Handle Handle = true
same_kind _ _ = false

abbrev pub sought : DeclKind → Option Slot → Parser Slot
sought kind (Some s) = if same_kind kind s.kind then pure s else fail UnknownName
sought kind None = fail UnknownName

-- what the name that comes next was declared as
unfoldable pub seek : DeclKind → Parser Slot
seek kind = λ i. sought kind (slot_in i.decls (spelling i)) i

abbrev pub is_known : Option Slot → Bool
is_known None = false
is_known (Some s) = true

-- the name that comes next is new
unfoldable pub fresh : Parser (Unit {0})
fresh = λ i. if is_known (slot_in i.decls (spelling i)) then fail Twice i else Ok (tt, i)

abbrev pub cells_fit : DeclKind → Option ℕ → List Declared → Bool
cells_fit kind size ds = nat_le (variables_in ds + variable_cells kind size) CELLS_MAX && nat_le (handles_in ds + handle_cells kind size) HANDLES_MAX

-- declares a name, or a fault at a place
unfoldable pub add : DeclKind → List ℕ → Option ℕ → ℕ → Parser (Unit {0})
add kind name size at = λ i.
    if cells_fit kind size i.decls then Ok (tt, record i { decls = i.decls ++ record { kind = kind; name = name; size = size } ∷ [] }) else Err (fault TooMany at)

-- ---- what a function that parses ensures: the parser's outcome, unless memory is refused

abbrev pub Fails : {A : Type 0} → Result A ReadFault → ReadFault → Type 0
Fails outcome f = (f.code ≢ Memory → outcome ≡ Err f) × (f.code ≡ Memory → f.place ≡ 0)

abbrev pub Reads : {A : Type 0} → Outcome A → Result A ReadFault → Input → Type 0
Reads outcome (Ok a) new = outcome ≡ Ok (a, new)
Reads outcome (Err f) new = Fails outcome f

-- the same of a list
abbrev pub ReadsAll : {A : Type 0} → Outcome (List A) → Result (Vec A) ReadFault → Input → Type 0
ReadsAll outcome (Ok v) new = outcome ≡ Ok (v.items, new)
ReadsAll outcome (Err f) new = Fails outcome f
