-- The programs whose canonical text is read again: what the grammar and the limits allow.
use Rattle.std.specs.Prelude.{◌≡◌, ℕ, suc, ◌+◌, ◌<◌, ◌≤◌, ◌^◌, ℤ, pos, negsuc, Bool, true, false, nat_lt, List, [], ◌∷◌, ◌++◌, length, slice_index, Option, Some, None, is_some, Ok}
use Rattle.std.specs.List.{list_all}
use Rattle.mpd_model.specs.declared.place.DeclKind.{DeclKind}
use Rattle.mpd_model.specs.declared.place.DeclKind.TheVariants.{Variable}
use Rattle.mpd_model.specs.declared.place.Place.{Place}
use Rattle.mpd_model.specs.declared.slot.Slot.{Slot}
use Rattle.mpd_model.specs.declared.token.Token.TheVariants.{Name}
use Rattle.mpd_model.specs.grammar.Canonical.{name_text, below, canonical}
use Rattle.mpd_model.specs.script.Declaration.{Declared}
use Rattle.mpd_model.specs.grammar.Costs.{cost, blocks_in}
use Rattle.mpd_model.specs.grammar.Grammar.{place_of_slot, max_blocks, max_text, reading}
use Rattle.mpd_model.specs.grammar.Input.{slot_in, max_budget}
use Rattle.mpd_model.specs.script.Program.{Program, IsLegal}
use Rattle.mpd_model.specs.script.Term.{Term, lit, own_rank, size, cell, element, op1, op2, Target}
use Rattle.mpd_model.specs.grammar.Tokens.{begins_name, is_in_name, word, Spot}
use Rattle.mpd_model.specs.script.Parts.{Part, of_symbol, of_term, of_target, of_name, parts_of}
use Rattle.mpd_model.specs.script.Tree.{Tree, Block, simple, branch, repeat, no_more, then_more, block_of}
use Rattle.mpd_model.specs.grammar.Written.{left_level, WrittenTerm}

-- ---- names

-- the bytes are a name: no reserved word, and not too long
pub record IsName (w : List ℕ) : Type 0 where
  pub begins : begins_name (slice_index w 0) ≡ true
  pub goes_on : list_all is_in_name w ≡ true
  pub free : word w ≡ Name

-- each declaration has a name
abbrev pub AreNamed : List Declared → Type 0
AreNamed [] = Unit {0}
AreNamed (d ∷ ds) = IsName d.name × AreNamed ds

-- no declaration has the name of one before it
abbrev pub AreNew : List Declared → List Declared → Type 0
AreNew before [] = Unit {0}
AreNew before (d ∷ ds) = (slot_in before d.name ≡ None) × AreNew (before ++ d ∷ []) ds

-- the place is what the name of its declaration stands for: something of this kind that was declared with or without a size
pub record HasName (ds : List Declared) (wanted : DeclKind) (is_array : Bool) (p : Place) : Type 0 where
  pub named : IsName (name_text ds p)
  pub slot : Slot
  pub declared : slot_in ds (name_text ds p) ≡ Some slot
  pub kind : slot.kind ≡ wanted
  pub size : is_some slot.size ≡ is_array
  pub place : place_of_slot slot ≡ p

-- ---- expressions

-- a number that can be written
abbrev pub IsWritable : ℤ → Type 0
IsWritable (pos n) = n < 2 ^ 63
IsWritable (negsuc n) = ⊥

abbrev pub IsPrintableTerm : List Declared → Term → Type 0
IsPrintableTerm ds (lit z) = IsWritable z
IsPrintableTerm ds own_rank = Unit {0}
IsPrintableTerm ds size = Unit {0}
IsPrintableTerm ds (cell p) = HasName ds Variable false p
IsPrintableTerm ds (element p a) = HasName ds Variable true p × IsPrintableTerm ds a
IsPrintableTerm ds (op1 op a) = IsPrintableTerm ds a
IsPrintableTerm ds (op2 op a b) = IsPrintableTerm ds a × IsPrintableTerm ds b

abbrev pub bracket_cost : Bool → ℕ
bracket_cost true = 1
bracket_cost false = 0

-- the brackets and operators of an expression where the grammar reads one of the level
abbrev pub term_cost : ℕ → Term → ℕ
term_cost k (lit z) = 0
term_cost k own_rank = 0
term_cost k size = 0
term_cost k (cell p) = 0
term_cost k (element p a) = suc (term_cost 5 a)
term_cost k (op1 op a) = suc (term_cost 0 a)
term_cost k (op2 op a b) = bracket_cost (nat_lt k (suc (below op))) + (term_cost (left_level (below op)) a + suc (term_cost (below op) b))

-- an expression that stands in no other
pub record IsPrintableWhole (ds : List Declared) (t : Term) : Type 0 where
  pub term : IsPrintableTerm ds t
  pub cost : term_cost 5 t ≤ max_budget

-- ---- statements

-- an index stands exactly where the place was declared with a size
abbrev pub IsPrintableAt : List Declared → DeclKind → Place → Option Term → Type 0
IsPrintableAt ds kind p None = HasName ds kind false p
IsPrintableAt ds kind p (Some e) = HasName ds kind true p × IsPrintableWhole ds e

abbrev pub IsPrintableTarget : List Declared → DeclKind → Target → Type 0
IsPrintableTarget ds kind t = IsPrintableAt ds kind t.place t.index

abbrev pub IsPrintablePart : List Declared → Part → Type 0
IsPrintablePart ds (of_symbol k) = Unit {0}
IsPrintablePart ds (of_term e) = IsPrintableWhole ds e
IsPrintablePart ds (of_target kind t) = IsPrintableTarget ds kind t
IsPrintablePart ds (of_name kind p) = (is_array : Bool) × HasName ds kind is_array p

abbrev pub ArePrintable : List Declared → List Part → Type 0
ArePrintable ds [] = Unit {0}
ArePrintable ds (p ∷ ps) = IsPrintablePart ds p × ArePrintable ds ps

abbrev mutual
  pub IsPrintableTree : List Declared → Tree → Type 0
  IsPrintableTree ds (simple s) = ArePrintable ds (parts_of s)
  IsPrintableTree ds (branch c a b) = IsPrintableWhole ds c × (IsPrintableBlock ds a × IsPrintableBlock ds b)
  IsPrintableTree ds (repeat c a) = IsPrintableWhole ds c × IsPrintableBlock ds a

  pub IsPrintableBlock : List Declared → Block → Type 0
  IsPrintableBlock ds no_more = Unit {0}
  IsPrintableBlock ds (then_more t b) = IsPrintableTree ds t × IsPrintableBlock ds b

-- ---- a whole script

pub record IsPrintable (p : Program) : Type 0 where
  pub legal : IsLegal p
  pub named : AreNamed p.decls
  pub distinct : AreNew [] p.decls
  pub body : IsPrintableBlock p.decls (block_of p.body)
  pub blocks : blocks_in (block_of p.body) ≤ max_blocks

-- The canonical text of such a program is read as that program, with the lines of this text.
abbrev pub CanonicalIsReadAgain : Type 0
CanonicalIsReadAgain = (p : Program) → IsPrintable p → length (canonical p) ≤ max_text → (ls : List ℕ) × (reading (canonical p) ≡ Ok (record p { lines = ls }))

-- What is read is printable, but for the limits that every script keeps: the reader shows these by counting, and of the version by a law.
abbrev pub ReadScriptsArePrintable : Type 0
ReadScriptsArePrintable = (text : List ℕ) (p : Program) → reading text ≡ Ok p → IsLegal p → IsPrintable p

-- Parentheses stand only where the grammar needs them: no way to write an expression has fewer brackets and operators than its canonical text.
abbrev pub FewestBrackets : Type 0
FewestBrackets = (ds : List Declared) (k : ℕ) (ss : List Spot) (t : Term) → WrittenTerm ds k ss t → term_cost k t ≤ cost ss
