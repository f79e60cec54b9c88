-- The grammar, one parser for each of its words.
use Rattle.std.specs.Prelude.{◌≡◌, refl, ℕ, zero, suc, ◌+◌, ℤ, pos, negsuc, Bool, true, false, ◌&&◌, ◌||◌, if◌then◌else◌, ◌==◌, nat_lt, nat_le, List, [], ◌∷◌, ◌++◌, length, Option, Some, None, Result, Ok, Err}
use Rattle.std.specs.List.{prefix_len}
use Rattle.mpd_model.specs.declared.limits.TheConstants.{BLOCKS_MAX, NESTING_MAX, RANKS_MAX, SCRIPT_MAX, LANGUAGE_MAX}
use Rattle.mpd_model.specs.declared.expr.BinaryOp.{BinaryOp}
use Rattle.mpd_model.specs.declared.expr.BinaryOp.TheVariants as o
use Rattle.mpd_model.specs.declared.expr.UnaryOp.{UnaryOp}
use Rattle.mpd_model.specs.declared.expr.UnaryOp.TheVariants as u
use Rattle.mpd_model.specs.declared.place.Place.{Place}
use Rattle.mpd_model.specs.declared.place.DeclKind.{DeclKind}
use Rattle.mpd_model.specs.declared.place.DeclKind.TheVariants.{Variable, Handle}
use Rattle.mpd_model.specs.declared.read_fault.FaultCode.TheVariants.{TooLong, NotText, TooDeep, BadRanks, NotInVersion}
use Rattle.mpd_model.specs.declared.read_fault.ReadFault.{ReadFault}
use Rattle.mpd_model.specs.declared.slot.Slot.{Slot}
use Rattle.mpd_model.specs.declared.stmt.RecvStmt.{RecvStmt}
use Rattle.mpd_model.specs.declared.stmt.StatusStmt.{StatusStmt}
use Rattle.mpd_model.specs.declared.stmt.SendStmt.{SendStmt}
use Rattle.mpd_model.specs.declared.stmt.Simple.{Simple}
use Rattle.mpd_model.specs.declared.stmt.Simple.TheVariants as st
use Rattle.mpd_model.specs.declared.token.Symbol.{Symbol}
use Rattle.mpd_model.specs.declared.token.Symbol.TheVariants as m
use Rattle.mpd_model.specs.declared.token.Token.{Token}
use Rattle.mpd_model.specs.declared.token.Token.TheVariants.{Number, Name, Is, End}
use Rattle.mpd_model.specs.script.Declaration.{cells_of}
use Rattle.mpd_model.specs.grammar.Faults.{fault}
use Rattle.mpd_model.specs.grammar.Input.{Parser, Outcome, Input, start_of, same_symbol, ◌>>=◌, ◌>>◌, pure, fail, refuse, peek, advance, eat, expect, begin, spend, count, sees, seek, fresh, add, spelling, place}
use Rattle.mpd_model.specs.script.Program.{Program}
use Rattle.mpd_model.specs.script.Term.{Term, lit, own_rank, size, cell, element, op1, op2, Target}
use Rattle.mpd_model.specs.script.Parts.{parts_of, of_symbol, Hole, symbol_hole, term_hole, target_hole, name_hole, source_hole, status_hole, Contents, filled}
use Rattle.mpd_model.specs.script.Tree.{Tree, simple, branch, repeat, block_of}

-- ---- expressions

-- each operator, and how loosely it binds: 5 is `||`, 4 `&&`, 3 the comparisons, 2 the sums, 1 the products
abbrev pub operator : Token → Option (BinaryOp × ℕ)
operator (Is m.Or) = Some (o.Or, 5)
operator (Is m.And) = Some (o.And, 4)
operator (Is m.Equal) = Some (o.Equal, 3)
operator (Is m.NotEqual) = Some (o.NotEqual, 3)
operator (Is m.Less) = Some (o.Less, 3)
operator (Is m.AtMost) = Some (o.AtMost, 3)
operator (Is m.Greater) = Some (o.Greater, 3)
operator (Is m.AtLeast) = Some (o.AtLeast, 3)
operator (Is m.Plus) = Some (o.Add, 2)
operator (Is m.Minus) = Some (o.Subtract, 2)
operator (Is m.Times) = Some (o.Multiply, 1)
operator (Is m.Divide) = Some (o.Divide, 1)
operator (Is m.Remainder) = Some (o.Remainder, 1)
operator _ = None

-- the operators that stand before an operand
abbrev pub sign : Token → Option UnaryOp
sign (Is m.Minus) = Some u.Negate
sign (Is m.Not) = Some u.Not
sign _ = None

abbrev pub at_level : ℕ → Option (BinaryOp × ℕ) → Option BinaryOp
at_level k None = None
at_level k (Some p) = if p.1 == k then Some p.0 else None

abbrev pub operator_at : ℕ → Token → Option BinaryOp
operator_at k t = at_level k (operator t)

-- Comparisons don't chain; at any other level each operator takes one of the budget.
abbrev pub turns : ℕ → Input → ℕ
turns k i = if k == 3 then 1 else i.budget + 1

-- an operand, and then operators of the level with an operand to the right of each, grouped to the left
abbrev pub chain_by : (Term → Parser Term) → Parser Term → Term → Option BinaryOp → Parser Term
chain_by more operand left None = pure left
chain_by more operand left (Some op) = do
  spend
  right ← operand
  more (op2 op left right)

unfoldable pub chain : Parser Term → ℕ → ℕ → Term → Parser Term
chain operand k zero left = pure left
chain operand k (suc n) left = peek >>= λ t. chain_by (chain operand k n) operand left (operator_at k t)

abbrev pub place_of_slot : Slot → Place
place_of_slot s = record { declaration = s.declaration; first = s.first; cells = cells_of s.size }

-- the bracket of a place in an expression
unfoldable pub bracket : Parser (Unit {0})
bracket = λ i. if sees m.SquareOpen i then spend i else refuse i

-- the parser of what stands inside, by its level
module _ (inner : ℕ → Parser Term) where
  -- a place: an array has its index after it
  abbrev pub index_inside : Place → Option ℕ → Parser Term
  index_inside p None = pure (cell p)
  index_inside p (Some n) = do
    bracket
    e ← inner 5
    expect m.SquareClose
    pure (element p e)

  unfoldable pub place_inside : Parser Term
  place_inside = do
    s ← seek Variable
    advance
    index_inside (place_of_slot s) s.size

  unfoldable pub rounds : Parser Term
  rounds = do
    spend
    e ← inner 5
    expect m.RoundClose
    pure e

  unfoldable pub unary : UnaryOp → Parser Term
  unary op = do
    spend
    e ← inner 0
    pure (op1 op e)

  abbrev pub atom_by : Token → Parser Term
  atom_by (Number n) = advance >> pure (lit n)
  atom_by (Is m.Rank) = advance >> pure own_rank
  atom_by (Is m.Size) = advance >> pure size
  atom_by Name = place_inside
  atom_by (Is m.RoundOpen) = rounds
  atom_by (Is m.Minus) = unary u.Negate
  atom_by (Is m.Not) = unary u.Not
  atom_by _ = refuse

  unfoldable pub atom : Parser Term
  atom = peek >>= atom_by

  -- the operands and operators of the levels up to this one
  unfoldable pub level : ℕ → Parser Term
  level zero = atom
  level (suc k) = do
    left ← level k
    (λ i. chain (level k) (suc k) (turns (suc k) i) left i)

-- with expressions inside one another no deeper than the number, from a level on
unfoldable pub expr : ℕ → ℕ → Parser Term
expr zero k = fail TooDeep
expr (suc n) k = level (expr n) k

-- an expression that stands in no other; each of those inside it takes one of its budget
abbrev pub expression : Parser Term
expression = begin >> expr (suc NESTING_MAX) 5

-- ---- statements

-- a statement begins with the token that comes next
abbrev pub begin_statement : Parser (Unit {0})
begin_statement = count >> advance

abbrev pub closes : Bool → Token → Bool
closes true (Is m.BraceClose) = true
closes false End = true
closes _ _ = false

-- a place that stands in no expression: its bracket takes no budget, and its index is an expression of its own
abbrev pub index_outside : Place → Option ℕ → Parser Target
index_outside p None = pure (record { place = p; index = None })
index_outside p (Some n) = do
  expect m.SquareOpen
  e ← expression
  expect m.SquareClose
  pure (record { place = p; index = Some e })

-- the variable or the handle that comes next, and what it stands for
unfoldable pub target : DeclKind → Parser Target
target kind = do
  s ← seek kind
  advance
  index_outside (place_of_slot s) s.size

abbrev pub statement_place_by : DeclKind → Token → Parser Target
statement_place_by kind Name = target kind
statement_place_by kind _ = refuse

-- a place that a statement names after its word
unfoldable pub statement_place : DeclKind → Parser Target
statement_place kind = peek >>= statement_place_by kind

abbrev pub statement_name_by : DeclKind → Token → Parser Place
statement_name_by kind Name = seek kind >>= λ s. advance >> pure (place_of_slot s)
statement_name_by kind _ = refuse

-- the name of a declaration, which stands for all of it
unfoldable pub statement_name : DeclKind → Parser Place
statement_name kind = peek >>= statement_name_by kind

abbrev pub source_by : Bool → Parser (Option Term)
source_by true = pure None
source_by false = expression >>= λ e. pure (Some e)

unfoldable pub source : Parser (Option Term)
source = eat m.Any >>= source_by

abbrev pub status_by : Bool → Parser (Option StatusStmt)
status_by true = statement_place Variable >>= λ a. statement_place Variable >>= λ b. pure (Some (record { source = a; tag = b }))
status_by false = pure None

unfoldable pub status : Parser (Option StatusStmt)
status = eat m.Status >>= status_by

-- what fills the holes of a statement, and the `;` after them
abbrev pub fill : {A : Type 0} → (hs : List Hole) → (Contents hs → A) → Parser A
fill [] made = expect m.Semicolon >> pure (made tt)
fill (symbol_hole k ∷ hs) made = expect k >> fill hs made
fill (term_hole ∷ hs) made = expression >>= λ e. fill hs (λ c. made (e, c))
fill (target_hole kind ∷ hs) made = statement_place kind >>= λ t. fill hs (λ c. made (t, c))
fill (name_hole kind ∷ hs) made = statement_name kind >>= λ p. fill hs (λ c. made (p, c))
fill (source_hole ∷ hs) made = source >>= λ o. fill hs (λ c. made (o, c))
fill (status_hole ∷ hs) made = status >>= λ o. fill hs (λ c. made (o, c))

-- ---- the forms of statements that hold no other and begin with a word

-- What comes before such holes ends there: no operator goes on with an expression.
abbrev pub EndsTerm : List Hole → Type 0
EndsTerm [] = Unit {0}
EndsTerm (symbol_hole k ∷ hs) = operator (Is k) ≡ None
EndsTerm (status_hole ∷ hs) = EndsTerm hs
EndsTerm _ = ⊥

-- Where the hole of a status is left empty, no `status` comes next.
abbrev pub EndsStatus : List Hole → Type 0
EndsStatus [] = Unit {0}
EndsStatus (symbol_hole k ∷ hs) = same_symbol k m.Status ≡ false
EndsStatus _ = ⊥

-- it is clear where each hole ends
abbrev pub AreClear : List Hole → Type 0
AreClear [] = Unit {0}
AreClear (symbol_hole k ∷ hs) = AreClear hs
AreClear (term_hole ∷ hs) = EndsTerm hs × AreClear hs
AreClear (target_hole kind ∷ hs) = AreClear hs
AreClear (name_hole kind ∷ hs) = AreClear hs
AreClear (source_hole ∷ hs) = EndsTerm hs × AreClear hs
AreClear (status_hole ∷ hs) = EndsStatus hs × AreClear hs

-- the statements of one word: the holes after it, and what is made of what fills them
pub record Form : Type 0 where
  pub word : Symbol
  pub holes : List Hole
  pub made : Contents holes → Simple
  pub parts : (c : Contents holes) → parts_of (made c) ≡ of_symbol word ∷ filled holes c
  pub clear : AreClear holes

abbrev pub print_form : Form
print_form = record { word = m.Print; holes = term_hole ∷ []; made = λ c. st.Print c.0; parts = λ c. refl; clear = (tt, tt) }

abbrev pub assert_form : Form
assert_form = record { word = m.Assert; holes = term_hole ∷ []; made = λ c. st.Assert c.0; parts = λ c. refl; clear = (tt, tt) }

abbrev pub send_holes : List Hole
send_holes = term_hole ∷ symbol_hole m.To ∷ term_hole ∷ symbol_hole m.Tag ∷ term_hole ∷ []

abbrev pub send_in : Contents send_holes → SendStmt
send_in c = record { value = c.0; to = c.1.0; tag = c.1.1.0 }

abbrev pub recv_holes : List Hole
recv_holes = target_hole Variable ∷ symbol_hole m.From ∷ source_hole ∷ symbol_hole m.Tag ∷ source_hole ∷ status_hole ∷ []

abbrev pub recv_in : Contents recv_holes → RecvStmt
recv_in c = record { into = c.0; from = c.1.0; tag = c.1.1.0; status = c.1.1.1.0 }

abbrev pub send_form : Form
send_form = record { word = m.Send; holes = send_holes; made = λ c. st.Send (send_in c); parts = λ c. refl; clear = (refl, (refl, (tt, tt))) }

abbrev pub ssend_form : Form
ssend_form = record { word = m.Ssend; holes = send_holes; made = λ c. st.Ssend (send_in c); parts = λ c. refl; clear = (refl, (refl, (tt, tt))) }

abbrev pub recv_form : Form
recv_form = record { word = m.Recv; holes = recv_holes; made = λ c. st.Recv (recv_in c); parts = λ c. refl; clear = (refl, (tt, (tt, tt))) }

abbrev pub isend_form : Form
isend_form = record {
  word = m.Isend;
  holes = target_hole Handle ∷ send_holes;
  made = λ c. st.Isend (record { request = c.0; send = send_in c.1 });
  parts = λ c. refl;
  clear = (refl, (refl, (tt, tt)));
}

abbrev pub issend_form : Form
issend_form = record {
  word = m.Issend;
  holes = target_hole Handle ∷ send_holes;
  made = λ c. st.Issend (record { request = c.0; send = send_in c.1 });
  parts = λ c. refl;
  clear = (refl, (refl, (tt, tt)));
}

abbrev pub irecv_form : Form
irecv_form = record {
  word = m.Irecv;
  holes = target_hole Handle ∷ recv_holes;
  made = λ c. st.Irecv (record { request = c.0; recv = recv_in c.1 });
  parts = λ c. refl;
  clear = (refl, (tt, (tt, tt)));
}

abbrev pub wait_form : Form
wait_form = record { word = m.Wait; holes = target_hole Handle ∷ []; made = λ c. st.Wait c.0; parts = λ c. refl; clear = tt }

abbrev pub waitany_form : Form
waitany_form = record {
  word = m.Waitany;
  holes = name_hole Handle ∷ symbol_hole m.To ∷ target_hole Variable ∷ [];
  made = λ c. st.Waitany (record { requests = c.0; into = c.1.0 });
  parts = λ c. refl;
  clear = tt;
}

abbrev pub barrier_form : Form
barrier_form = record { word = m.Barrier; holes = []; made = λ c. st.Barrier; parts = λ c. refl; clear = tt }

-- the form of a word
abbrev pub form_of : Symbol → Option Form
form_of m.Print = Some print_form
form_of m.Assert = Some assert_form
form_of m.Send = Some send_form
form_of m.Ssend = Some ssend_form
form_of m.Recv = Some recv_form
form_of m.Isend = Some isend_form
form_of m.Issend = Some issend_form
form_of m.Irecv = Some irecv_form
form_of m.Wait = Some wait_form
form_of m.Waitany = Some waitany_form
form_of m.Barrier = Some barrier_form
form_of _ = None

-- what stands after the word
abbrev pub behind_word : Form → Parser Tree
behind_word f = fill f.holes (λ c. simple (f.made c))

abbrev pub by_form : Option Form → Parser Tree
by_form None = refuse
by_form (Some f) = begin_statement >> behind_word f

-- An assignment has no word: it begins with the name of its place, which is sought before the statement is counted.
unfoldable pub assignment : Slot → Parser Tree
assignment s = index_outside (place_of_slot s) s.size >>= λ t. fill (symbol_hole m.Assign ∷ term_hole ∷ []) (λ c. simple (st.Assign (record { into = t; value = c.0 })))

-- each statement that holds no other is an assignment or has its form
pub record HasForm (s : Simple) : Type 0 where
  pub form : Form
  pub found : form_of form.word ≡ Some form
  pub contents : Contents form.holes
  pub is : form.made contents ≡ s

abbrev pub IsFormed : Simple → Type 0
IsFormed (st.Assign s) = Unit {0}
IsFormed s = HasForm s

pub all_formed : (s : Simple) → IsFormed s
all_formed (st.Print e) = record { form = print_form; found = refl; contents = (e, tt); is = refl }
all_formed (st.Assign s) = tt
all_formed (st.Assert e) = record { form = assert_form; found = refl; contents = (e, tt); is = refl }
all_formed (st.Send s) = record { form = send_form; found = refl; contents = (s.value, (s.to, (s.tag, tt))); is = refl }
all_formed (st.Ssend s) = record { form = ssend_form; found = refl; contents = (s.value, (s.to, (s.tag, tt))); is = refl }
all_formed (st.Recv s) = record { form = recv_form; found = refl; contents = (s.into, (s.from, (s.tag, (s.status, tt)))); is = refl }
all_formed (st.Isend s) = record { form = isend_form; found = refl; contents = (s.request, (s.send.value, (s.send.to, (s.send.tag, tt)))); is = refl }
all_formed (st.Issend s) = record { form = issend_form; found = refl; contents = (s.request, (s.send.value, (s.send.to, (s.send.tag, tt)))); is = refl }
all_formed (st.Irecv s) = record { form = irecv_form; found = refl; contents = (s.request, (s.recv.into, (s.recv.from, (s.recv.tag, (s.recv.status, tt))))); is = refl }
all_formed (st.Wait t) = record { form = wait_form; found = refl; contents = (t, tt); is = refl }
all_formed (st.Waitany s) = record { form = waitany_form; found = refl; contents = (s.requests, (s.into, tt)); is = refl }
all_formed st.Barrier = record { form = barrier_form; found = refl; contents = tt; is = refl }

-- ---- any statement

-- a statement that came with a version: in a text of an older one it isn't read, though it is counted
abbrev pub since : ℕ → Parser Tree → Parser Tree
since version statement = λ i. if nat_le version i.version then statement i else (count >> fail NotInVersion) i

-- the parser of a block
module _ (block : Parser (List Tree)) where
  unfoldable pub otherwise : Parser (List Tree)
  otherwise = do
    found ← eat m.Else
    if found then block else pure []

  unfoldable pub if_statement : Parser Tree
  if_statement = do
    test ← expression
    first ← block
    second ← otherwise
    pure (branch test (block_of first) (block_of second))

  unfoldable pub while_statement : Parser Tree
  while_statement = do
    test ← expression
    inside ← block
    pure (repeat test (block_of inside))

  abbrev pub stmt_by : Token → Parser Tree
  stmt_by Name = seek Variable >>= λ s. begin_statement >> assignment s
  stmt_by (Is m.If) = begin_statement >> if_statement
  stmt_by (Is m.While) = begin_statement >> while_statement
  stmt_by (Is m.Waitany) = since 2 (by_form (form_of m.Waitany))
  stmt_by (Is k) = by_form (form_of k)
  stmt_by _ = refuse

  unfoldable pub stmt : Parser Tree
  stmt = peek >>= stmt_by

  -- statements up to the token that closes them; each takes a turn, and more of these than there are tokens change nothing
  unfoldable pub stmts : Bool → ℕ → List Tree → Parser (List Tree)
  stmts inside zero found = refuse
  stmts inside (suc n) found = peek >>= λ t. if closes inside t then pure found else (do s ← stmt; stmts inside n (found ++ s ∷ []))

  unfoldable pub body : Bool → Parser (List Tree)
  body inside = λ i. stmts inside (length i.tokens + 1) [] i

-- a block, where so many may still be opened
unfoldable pub block : ℕ → Parser (List Tree)
block zero = λ i. if sees m.BraceOpen i then fail TooDeep i else refuse i
block (suc n) = do
  expect m.BraceOpen
  found ← body (block n) true
  expect m.BraceClose
  pure found

abbrev pub max_blocks : ℕ
max_blocks = BLOCKS_MAX

-- ---- the whole text

abbrev pub version_in : ℤ → Option ℕ
version_in (pos n) = if nat_le 1 n && nat_le n LANGUAGE_MAX then Some n else None
version_in (negsuc n) = None

-- what follows is in this version
abbrev pub written_in : ℕ → Parser (Unit {0})
written_in n = λ i. Ok (tt, record i { version = n })

abbrev pub version_of : Option ℕ → Parser (Unit {0})
version_of (Some n) = written_in n >> advance
version_of None = fail NotInVersion

abbrev pub version_by : Token → Parser (Unit {0})
version_by (Number n) = version_of (version_in n)
version_by _ = refuse

unfoldable pub version : Parser (Unit {0})
version = peek >>= version_by

abbrev pub rank_count : ℤ → Option ℕ
rank_count (pos n) = if nat_le 1 n && nat_le n RANKS_MAX then Some n else None
rank_count (negsuc n) = None

abbrev pub ranks_of : Option ℕ → Parser ℕ
ranks_of (Some n) = advance >> pure n
ranks_of None = fail BadRanks

abbrev pub ranks_by : Token → Parser ℕ
ranks_by (Number n) = ranks_of (rank_count n)
ranks_by _ = refuse

unfoldable pub ranks : Parser ℕ
ranks = peek >>= ranks_by

abbrev pub natural : ℤ → Option ℕ
natural (pos n) = Some n
natural (negsuc n) = None

abbrev pub array_size_at : DeclKind → List ℕ → Option ℕ → Parser (Unit {0})
array_size_at kind name None = refuse
array_size_at kind name (Some n) = λ i. (do
  add kind name (Some n) (place i)
  advance
  expect m.SquareClose
  expect m.Semicolon) i

abbrev pub array_size_by : DeclKind → List ℕ → Token → Parser (Unit {0})
array_size_by kind name (Number n) = array_size_at kind name (natural n)
array_size_by kind name _ = refuse

-- a size, and what is after it
unfoldable pub array_size : DeclKind → List ℕ → Parser (Unit {0})
array_size kind name = peek >>= array_size_by kind name

-- A name without a size is counted once it is clear that no size follows, at the place of the name.
unfoldable pub single : DeclKind → List ℕ → ℕ → Parser (Unit {0})
single kind name at = do
  add kind name None at
  expect m.Semicolon

unfoldable pub declarator : DeclKind → Parser (Unit {0})
declarator kind = λ i. (do
  fresh
  advance
  is_array ← eat m.SquareOpen
  if is_array then array_size kind (spelling i) else single kind (spelling i) (place i)) i

abbrev pub decl_by : DeclKind → Token → Parser (Unit {0})
decl_by kind Name = declarator kind
decl_by kind _ = refuse

unfoldable pub decl : DeclKind → Parser (Unit {0})
decl kind = peek >>= decl_by kind

-- what a token declares, if it begins a declaration
abbrev pub declares : Token → Option DeclKind
declares (Is m.Var) = Some Variable
declares (Is m.Req) = Some Handle
declares _ = None

abbrev pub decls_by : Parser (Unit {0}) → Option DeclKind → Parser (Unit {0})
decls_by more None = pure tt
decls_by more (Some kind) = advance >> decl kind >> more

-- declarations, at most so many and one less
unfoldable pub decls_from : ℕ → Parser (Unit {0})
decls_from zero = refuse
decls_from (suc n) = peek >>= λ t. decls_by (decls_from n) (declares t)

unfoldable pub decls : Parser (Unit {0})
decls = λ i. decls_from (length i.tokens + 1) i

unfoldable pub header : Parser ℕ
header = do
  expect m.Mpd
  version
  expect m.Semicolon
  expect m.Ranks
  n ← ranks
  expect m.Semicolon
  decls
  pure n

abbrev pub with_body : ℕ → List Tree → Parser Program
with_body n body = λ i. Ok (record { version = i.version; ranks = n; decls = i.decls; body = body; lines = i.lines }, i)

unfoldable pub script : Parser Program
script = do
  n ← header
  found ← body (block max_blocks) false
  with_body n found

-- ---- reading

abbrev pub max_text : ℕ
max_text = SCRIPT_MAX

abbrev pub is_text : ℕ → Bool
is_text b = b == 9 || b == 10 || b == 13 || (nat_le 32 b && nat_le b 126)

abbrev pub read_of : Outcome Program → Result Program ReadFault
read_of (Ok p) = Ok p.0
read_of (Err f) = Err f

-- the script that a text spells, or its leftmost fault
unfoldable pub reading : List ℕ → Result Program ReadFault
reading text =
    if nat_lt max_text (length text) then Err (fault TooLong max_text)
    else (if nat_lt (prefix_len is_text text) (length text) then Err (fault NotText (prefix_len is_text text))
    else read_of (script (start_of text)))
