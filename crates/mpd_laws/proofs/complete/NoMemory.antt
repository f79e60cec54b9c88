-- No fault of a text is want of memory.
use Rattle.std.proofs.Common.{◌≡◌, ◌≢◌, ℕ, zero, suc, ◌+◌, ◌==◌, nat_lt, nat_le, Bool, true, false, cond, List, [], ◌∷◌, ◌++◌, length, Option, Some, None, Result, Ok, Err}
use Rattle.std.specs.List.{prefix_len}
use Rattle.mpd_model.specs.declared.limits.TheConstants.{NESTING_MAX, STATEMENTS_MAX}
use Rattle.mpd_model.specs.declared.expr.BinaryOp.{BinaryOp}
use Rattle.mpd_model.specs.declared.expr.UnaryOp.{UnaryOp}
use Rattle.mpd_model.specs.declared.expr.UnaryOp.TheVariants as u
use Rattle.mpd_model.specs.declared.place.DeclKind.{DeclKind}
use Rattle.mpd_model.specs.declared.place.DeclKind.TheVariants.{Variable}
use Rattle.mpd_model.specs.declared.place.Place.{Place}
use Rattle.mpd_model.specs.declared.read_fault.FaultCode.TheVariants.{UnknownName, NotInVersion, Memory}
use Rattle.mpd_model.specs.declared.read_fault.ReadFault.{ReadFault}
use Rattle.mpd_model.specs.declared.slot.Slot.{Slot}
use Rattle.mpd_model.specs.declared.token.Symbol.{Symbol}
use Rattle.mpd_model.specs.declared.token.Symbol.TheVariants as m
use Rattle.mpd_model.specs.declared.token.Token.{Token}
use Rattle.mpd_model.specs.declared.token.Token.TheVariants.{Number, Name, Is, Bad}
use Rattle.mpd_model.specs.grammar.Grammar.{atom_by, atom, bracket, index_inside, place_inside, place_of_slot, rounds, unary, chain, chain_by, level, expr, turns, operator_at, expression, begin_statement, closes, index_outside, target, statement_place_by, statement_place, statement_name_by, statement_name, source_by, source, status_by, status, fill, Form, form_of, by_form, since, assignment, otherwise, if_statement, while_statement, stmt_by, stmt, stmts, body, block, max_blocks, version_in, version_of, version_by, version, rank_count, ranks_of, ranks_by, ranks, natural, array_size_at, array_size_by, array_size, single, declarator, decl_by, decl, declares, decls_by, decls_from, decls, header, max_text, is_text, read_of, reading}
use Rattle.mpd_model.specs.grammar.Grammar as grammar
use Rattle.mpd_model.specs.grammar.Input.{Input, Outcome, Parser, and_then, start_of, token, place, spelling, advanced, code_at, refusal, refuse, fail, pure, expect, spend, count, seek, sought, same_kind, slot_in, fresh, is_known, add, cells_fit, sees, after, max_budget, ◌>>=◌}
use Rattle.mpd_model.specs.script.Program.{Program}
use Rattle.mpd_model.specs.script.Term.{Term, op2}
use Rattle.mpd_model.specs.declared.stmt.Simple.TheVariants as st
use Rattle.mpd_model.specs.script.Parts.{Hole, symbol_hole, term_hole, target_hole, name_hole, source_hole, status_hole, Contents}
use Rattle.mpd_model.specs.script.Tree.{Tree, simple}

abbrev IsSure : {A : Type 0} → Result A ReadFault → Type 0
IsSure (Ok p) = Unit {0}
IsSure (Err f) = f.code ≢ Memory

abbrev AllSure : {A : Type 0} → Parser A → Type 0
AllSure p = (i : Input) → IsSure (p i)

bind_sure : {A B : Type 0} (o : Outcome A) (f : A → Parser B) → IsSure o → ((a : A) → AllSure (f a)) → IsSure (and_then o f)
bind_sure (Ok x) f a b = b x.0 x.1
bind_sure (Err e) f a b = a

cond_sure : {A : Type 0} (b : Bool) (x y : Result A ReadFault) → IsSure x → IsSure y → IsSure (cond b x y)
cond_sure true x y a c = a
cond_sure false x y a c = c

-- one of two parsers
either_sure : {A : Type 0} (b : Bool) (p q : Parser A) (i : Input) → IsSure (p i) → IsSure (q i) → IsSure (cond b p q i)
either_sure true p q i a c = a
either_sure false p q i a c = c

code_sure : (t : Token) → code_at t ≢ Memory
code_sure Bad e = absurd (cc)
code_sure _ e = absurd (cc)

refusal_sure : (i : Input) → (refusal i).code ≢ Memory
unfolding refusal
refusal_sure i = code_sure (token i)

expect_sure : (k : Symbol) → AllSure (expect k)
unfolding expect
expect_sure k i = cond_sure (sees k i) _ _ tt (refusal_sure i)

spend_sure : AllSure spend
unfolding spend
spend_sure i = cond_sure (i.budget == 0) _ _ (λ e. absurd (cc)) tt

count_sure : AllSure count
unfolding count
count_sure i = cond_sure (nat_lt (length i.lines) STATEMENTS_MAX) _ _ tt (λ e. absurd (cc))

sought_sure : (k : DeclKind) (o : Option Slot) → AllSure (sought k o)
sought_sure k None i = λ e. absurd (cc)
sought_sure k (Some s) i = either_sure (same_kind k s.kind) (pure s) (fail UnknownName) i tt (λ e. absurd (cc))

seek_sure : (k : DeclKind) → AllSure (seek k)
unfolding seek
seek_sure k i = sought_sure k (slot_in i.decls (spelling i)) i

-- ---- expressions

abbrev AllSureAt : (ℕ → Parser Term) → Type 0
AllSureAt p = (k : ℕ) → AllSure (p k)

bracket_sure : AllSure bracket
unfolding bracket
bracket_sure i = cond_sure (sees m.SquareOpen i) (spend i) (refuse i) (spend_sure i) (refusal_sure i)

index_inside_sure : (p : ℕ → Parser Term) → AllSureAt p → (at : Place) (cells : Option ℕ) → AllSure (index_inside p at cells)
index_inside_sure p s at None i = tt
index_inside_sure p s at (Some cells) i =
    bind_sure (bracket i) _ (bracket_sure i) (λ u x. bind_sure (p 5 x) _ (s 5 x) (λ e y. bind_sure (expect m.SquareClose y) _ (expect_sure m.SquareClose y) (λ v z. tt)))

name_sure : (p : ℕ → Parser Term) → AllSureAt p → AllSure (place_inside p)
unfolding place_inside
name_sure p s i = bind_sure (seek Variable i) _ (seek_sure Variable i) (λ v j. index_inside_sure p s (place_of_slot v) v.size (advanced j))

unary_sure : (p : ℕ → Parser Term) → AllSureAt p → (op : UnaryOp) → AllSure (unary p op)
unfolding unary
unary_sure p s op i = bind_sure (spend i) _ (spend_sure i) (λ u x. bind_sure (p 0 x) _ (s 0 x) (λ e y. tt))

rounds_sure : (p : ℕ → Parser Term) → AllSureAt p → AllSure (rounds p)
unfolding rounds
rounds_sure p s i =
    bind_sure (spend i) _ (spend_sure i) (λ u x. bind_sure (p 5 x) _ (s 5 x) (λ e y. bind_sure (expect m.RoundClose y) _ (expect_sure m.RoundClose y) (λ v z. tt)))

atom_case : (p : ℕ → Parser Term) → AllSureAt p → (t : Token) → AllSure (atom_by p t)
atom_case p s (Number n) i = tt
atom_case p s (Is m.Rank) i = tt
atom_case p s (Is m.Size) i = tt
atom_case p s Name i = name_sure p s i
atom_case p s (Is m.Minus) i = unary_sure p s u.Negate i
atom_case p s (Is m.Not) i = unary_sure p s u.Not i
atom_case p s (Is m.RoundOpen) i = rounds_sure p s i
atom_case p s _ i = refusal_sure i

atom_sure : (p : ℕ → Parser Term) → AllSureAt p → AllSure (atom p)
unfolding atom
atom_sure p s i = atom_case p s (token i) i

chain_by_sure : (more : Term → Parser Term) (p : Parser Term) → ((l : Term) → AllSure (more l)) → AllSure p → (left : Term) (o : Option BinaryOp) → AllSure (chain_by more p left o)
chain_by_sure more p a s left None i = tt
chain_by_sure more p a s left (Some op) i = bind_sure (spend i) _ (spend_sure i) (λ u x. bind_sure (p x) _ (s x) (λ r y. a (op2 op left r) y))

chain_sure : (p : Parser Term) → AllSure p → (k n : ℕ) (left : Term) → AllSure (chain p k n left)
unfolding chain
chain_sure p s k zero left i = tt
chain_sure p s k (suc n) left i = chain_by_sure (chain p k n) p (λ l. chain_sure p s k n l) s left (operator_at k (token i)) i

level_sure : (p : ℕ → Parser Term) → AllSureAt p → (k : ℕ) → AllSure (level p k)
unfolding level
level_sure p s zero i = atom_sure p s i
level_sure p s (suc k) i = bind_sure (level p k i) _ (level_sure p s k i) (λ left x. chain_sure (level p k) (level_sure p s k) (suc k) (turns (suc k) x) left x)

expr_sure : (n k : ℕ) → AllSure (expr n k)
unfolding expr
expr_sure zero k i = λ e. absurd (cc)
expr_sure (suc n) k i = level_sure (expr n) (expr_sure n) k i

expression_sure : AllSure expression
expression_sure i = expr_sure (suc NESTING_MAX) 5 (record i { budget = max_budget })

-- ---- statements

index_outside_sure : (at : Place) (cells : Option ℕ) → AllSure (index_outside at cells)
index_outside_sure at None i = tt
index_outside_sure at (Some cells) i =
    bind_sure (expect m.SquareOpen i) _ (expect_sure m.SquareOpen i) (λ a x. bind_sure (expression x) _ (expression_sure x) (λ e y.
    bind_sure (expect m.SquareClose y) _ (expect_sure m.SquareClose y) (λ b z. tt)))

target_sure : (k : DeclKind) → AllSure (target k)
unfolding target
target_sure k i = bind_sure (seek k i) _ (seek_sure k i) (λ v j. index_outside_sure (place_of_slot v) v.size (advanced j))

statement_place_case : (k : DeclKind) (t : Token) → AllSure (statement_place_by k t)
statement_place_case k Name i = target_sure k i
statement_place_case k _ i = refusal_sure i

statement_place_sure : (k : DeclKind) → AllSure (statement_place k)
unfolding statement_place
statement_place_sure k i = statement_place_case k (token i) i

statement_name_case : (k : DeclKind) (t : Token) → AllSure (statement_name_by k t)
statement_name_case k Name i = bind_sure (seek k i) _ (seek_sure k i) (λ v x. tt)
statement_name_case k _ i = refusal_sure i

statement_name_sure : (k : DeclKind) → AllSure (statement_name k)
unfolding statement_name
statement_name_sure k i = statement_name_case k (token i) i

source_case : (found : Bool) → AllSure (source_by found)
source_case true i = tt
source_case false i = bind_sure (expression i) _ (expression_sure i) (λ e x. tt)

source_sure : AllSure source
unfolding source
source_sure i = source_case (sees m.Any i) (after m.Any i)

status_case : (found : Bool) → AllSure (status_by found)
status_case true i = bind_sure (statement_place Variable i) _ (statement_place_sure Variable i) (λ p x. bind_sure (statement_place Variable x) _ (statement_place_sure Variable x) (λ q y. tt))
status_case false i = tt

status_sure : AllSure status
unfolding status
status_sure i = status_case (sees m.Status i) (after m.Status i)

fill_sure : {A : Type 0} (hs : List Hole) (made : Contents hs → A) → AllSure (fill hs made)
fill_sure [] made i = bind_sure (expect m.Semicolon i) _ (expect_sure m.Semicolon i) (λ u x. tt)
fill_sure (symbol_hole k ∷ hs) made i = bind_sure (expect k i) _ (expect_sure k i) (λ u x. fill_sure hs made x)
fill_sure (term_hole ∷ hs) made i = bind_sure (expression i) _ (expression_sure i) (λ e x. fill_sure hs (λ c. made (e, c)) x)
fill_sure (target_hole k ∷ hs) made i = bind_sure (statement_place k i) _ (statement_place_sure k i) (λ t x. fill_sure hs (λ c. made (t, c)) x)
fill_sure (name_hole k ∷ hs) made i = bind_sure (statement_name k i) _ (statement_name_sure k i) (λ p x. fill_sure hs (λ c. made (p, c)) x)
fill_sure (source_hole ∷ hs) made i = bind_sure (source i) _ (source_sure i) (λ o x. fill_sure hs (λ c. made (o, c)) x)
fill_sure (status_hole ∷ hs) made i = bind_sure (status i) _ (status_sure i) (λ o x. fill_sure hs (λ c. made (o, c)) x)

begin_statement_sure : AllSure begin_statement
begin_statement_sure i = bind_sure (count i) _ (count_sure i) (λ u x. tt)

form_sure : (o : Option Form) → AllSure (by_form o)
form_sure None i = refusal_sure i
form_sure (Some f) i = bind_sure (begin_statement i) _ (begin_statement_sure i) (λ u x. fill_sure f.holes (λ c. simple (f.made c)) x)

since_sure : (version : ℕ) (p : Parser Tree) → AllSure p → AllSure (since version p)
since_sure version p s i = cond_sure (nat_le version i.version) _ _ (s i) (bind_sure (count i) (λ u. fail NotInVersion) (count_sure i) (λ u x e. absurd (cc)))

assignment_sure : (slot : Slot) → AllSure (assignment slot)
unfolding assignment
assignment_sure slot i =
    bind_sure (index_outside (place_of_slot slot) slot.size i) _ (index_outside_sure (place_of_slot slot) slot.size i)
    (λ t x. fill_sure (symbol_hole m.Assign ∷ term_hole ∷ []) (λ c. simple (st.Assign (record { into = t; value = c.0 }))) x)

otherwise_sure : (p : Parser (List Tree)) → AllSure p → AllSure (otherwise p)
unfolding otherwise
otherwise_sure p s i = either_sure (sees m.Else i) p (pure []) (after m.Else i) (s (after m.Else i)) tt

if_statement_sure : (p : Parser (List Tree)) → AllSure p → AllSure (if_statement p)
unfolding if_statement
if_statement_sure p s i =
    bind_sure (expression i) _ (expression_sure i) (λ a x. bind_sure (p x) _ (s x) (λ b y. bind_sure (otherwise p y) _ (otherwise_sure p s y) (λ c z. tt)))

while_statement_sure : (p : Parser (List Tree)) → AllSure p → AllSure (while_statement p)
unfolding while_statement
while_statement_sure p s i = bind_sure (expression i) _ (expression_sure i) (λ a x. bind_sure (p x) _ (s x) (λ b y. tt))

stmt_case : (p : Parser (List Tree)) → AllSure p → (t : Token) → AllSure (stmt_by p t)
stmt_case p s Name i = bind_sure (seek Variable i) _ (seek_sure Variable i) (λ v x. bind_sure (begin_statement x) _ (begin_statement_sure x) (λ u y. assignment_sure v y))
stmt_case p s (Is m.While) i = bind_sure (begin_statement i) _ (begin_statement_sure i) (λ u x. while_statement_sure p s x)
stmt_case p s (Is m.If) i = bind_sure (begin_statement i) _ (begin_statement_sure i) (λ u x. if_statement_sure p s x)
stmt_case p s (Is m.Waitany) i = since_sure 2 (by_form (form_of m.Waitany)) (form_sure (form_of m.Waitany)) i
stmt_case p s (Is k) i = form_sure (form_of k) i
stmt_case p s _ i = refusal_sure i

stmt_sure : (p : Parser (List Tree)) → AllSure p → AllSure (stmt p)
unfolding stmt
stmt_sure p s i = stmt_case p s (token i) i

stmts_sure : (p : Parser (List Tree)) → AllSure p → (inside : Bool) (n : ℕ) (found : List Tree) → AllSure (stmts p inside n found)
unfolding stmts
stmts_sure p s inside zero found i = refusal_sure i
stmts_sure p s inside (suc n) found i =
    either_sure (closes inside (token i)) (pure found) (stmt p >>= λ t. stmts p inside n (found ++ t ∷ [])) i tt
    (bind_sure (stmt p i) _ (stmt_sure p s i) (λ t x. stmts_sure p s inside n (found ++ t ∷ []) x))

body_sure : (p : Parser (List Tree)) → AllSure p → (inside : Bool) → AllSure (body p inside)
unfolding body
body_sure p s inside i = stmts_sure p s inside (length i.tokens + 1) [] i

block_sure : (n : ℕ) → AllSure (block n)
unfolding block
block_sure zero i = cond_sure (sees m.BraceOpen i) _ _ (λ e. absurd (cc)) (refusal_sure i)
block_sure (suc n) i =
    bind_sure (expect m.BraceOpen i) _ (expect_sure m.BraceOpen i) (λ a x. bind_sure (body (block n) true x) _ (body_sure (block n) (block_sure n) true x) (λ b y.
    bind_sure (expect m.BraceClose y) _ (expect_sure m.BraceClose y) (λ c z. tt)))

-- ---- the whole text

version_of_sure : (o : Option ℕ) → AllSure (version_of o)
version_of_sure (Some n) i = tt
version_of_sure None i = λ e. absurd (cc)

version_case : (t : Token) → AllSure (version_by t)
version_case (Number n) i = version_of_sure (version_in n) i
version_case _ i = refusal_sure i

version_sure : AllSure version
unfolding version
version_sure i = version_case (token i) i

ranks_of_sure : (o : Option ℕ) → AllSure (ranks_of o)
ranks_of_sure (Some n) i = tt
ranks_of_sure None i = λ e. absurd (cc)

ranks_case : (t : Token) → AllSure (ranks_by t)
ranks_case (Number n) i = ranks_of_sure (rank_count n) i
ranks_case _ i = refusal_sure i

ranks_sure : AllSure ranks
unfolding ranks
ranks_sure i = ranks_case (token i) i

fresh_sure : AllSure fresh
unfolding fresh
fresh_sure i = cond_sure (is_known (slot_in i.decls (spelling i))) _ _ (λ e. absurd (cc)) tt

add_sure : (k : DeclKind) (name : List ℕ) (size : Option ℕ) (at : ℕ) → AllSure (add k name size at)
unfolding add
add_sure k name size at i = cond_sure (cells_fit k size i.decls) _ _ tt (λ e. absurd (cc))

array_size_at_sure : (k : DeclKind) (name : List ℕ) (o : Option ℕ) → AllSure (array_size_at k name o)
array_size_at_sure k name None i = refusal_sure i
array_size_at_sure k name (Some n) i =
    bind_sure (add k name (Some n) (place i) i) _ (add_sure k name (Some n) (place i) i) (λ a x.
    bind_sure (expect m.SquareClose (advanced x)) _ (expect_sure m.SquareClose (advanced x)) (λ b y. expect_sure m.Semicolon y))

size_case : (k : DeclKind) (name : List ℕ) (t : Token) → AllSure (array_size_by k name t)
size_case k name (Number z) i = array_size_at_sure k name (natural z) i
size_case k name _ i = refusal_sure i

array_size_sure : (k : DeclKind) (name : List ℕ) → AllSure (array_size k name)
unfolding array_size
array_size_sure k name i = size_case k name (token i) i

single_sure : (k : DeclKind) (name : List ℕ) (at : ℕ) → AllSure (single k name at)
unfolding single
single_sure k name at i = bind_sure (add k name None at i) _ (add_sure k name None at i) (λ a x. expect_sure m.Semicolon x)

declarator_sure : (k : DeclKind) → AllSure (declarator k)
unfolding declarator
declarator_sure k i =
    bind_sure (fresh i) _ (fresh_sure i) (λ a x.
    either_sure (sees m.SquareOpen (advanced x)) (array_size k (spelling i)) (single k (spelling i) (place i)) (after m.SquareOpen (advanced x))
    (array_size_sure k (spelling i) (after m.SquareOpen (advanced x))) (single_sure k (spelling i) (place i) (after m.SquareOpen (advanced x))))

decl_case : (k : DeclKind) (t : Token) → AllSure (decl_by k t)
decl_case k Name i = declarator_sure k i
decl_case k _ i = refusal_sure i

decl_sure : (k : DeclKind) → AllSure (decl k)
unfolding decl
decl_sure k i = decl_case k (token i) i

decls_case : (p : Parser (Unit {0})) → AllSure p → (o : Option DeclKind) → AllSure (decls_by p o)
decls_case p s None i = tt
decls_case p s (Some k) i = bind_sure (decl k (advanced i)) _ (decl_sure k (advanced i)) (λ a x. s x)

decls_from_sure : (n : ℕ) → AllSure (decls_from n)
unfolding decls_from
decls_from_sure zero i = refusal_sure i
decls_from_sure (suc n) i = decls_case (decls_from n) (decls_from_sure n) (declares (token i)) i

decls_sure : AllSure decls
unfolding decls
decls_sure i = decls_from_sure (length i.tokens + 1) i

header_sure : AllSure header
unfolding header
header_sure i =
    bind_sure (expect m.Mpd i) _ (expect_sure m.Mpd i) (λ a x1. bind_sure (version x1) _ (version_sure x1) (λ b x2.
    bind_sure (expect m.Semicolon x2) _ (expect_sure m.Semicolon x2) (λ c x3. bind_sure (expect m.Ranks x3) _ (expect_sure m.Ranks x3) (λ d x4.
    bind_sure (ranks x4) _ (ranks_sure x4) (λ e x5. bind_sure (expect m.Semicolon x5) _ (expect_sure m.Semicolon x5) (λ f x6.
    bind_sure (decls x6) _ (decls_sure x6) (λ g x7. tt)))))))

script_sure : AllSure grammar.script
unfolding grammar.script
script_sure i =
    bind_sure (header i) _ (header_sure i) (λ n x. bind_sure (body (block max_blocks) false x) _ (body_sure (block max_blocks) (block_sure max_blocks) false x) (λ ts y. tt))

read_of_sure : (o : Outcome Program) → IsSure o → IsSure (read_of o)
read_of_sure (Ok p) h = tt
read_of_sure (Err f) h = h

reading_sure : (text : List ℕ) → IsSure (reading text)
unfolding reading
reading_sure text =
    cond_sure (nat_lt max_text (length text)) _ _ (λ e. absurd (cc))
    (cond_sure (nat_lt (prefix_len is_text text) (length text)) _ _ (λ e. absurd (cc)) (read_of_sure (grammar.script (start_of text)) (script_sure (start_of text))))

sure_of : (r : Result Program ReadFault) (f : ReadFault) → IsSure r → r ≡ Err f → f.code ≢ Memory
sure_of (Ok p) f h e = absurd (cc)
sure_of (Err g) f h e = let s : g ≡ f = cc in rw (← s) h

pub never_memory : (text : List ℕ) (f : ReadFault) → reading text ≡ Err f → f.code ≢ Memory
never_memory text f e = sure_of (reading text) f (reading_sure text) e
