-- The grammar as relations: which tokens write what, whatever limits there are and in whatever order they are read.
use Rattle.std.specs.Prelude.{◌≡◌, ℕ, suc, pos, ℤ, Bool, true, false, List, [], ◌∷◌, ◌++◌, Option, Some, None, is_some, if◌then◌else◌, ◌==◌, Ok}
use Rattle.mpd_model.specs.declared.expr.BinaryOp.{BinaryOp}
use Rattle.mpd_model.specs.declared.expr.UnaryOp.{UnaryOp}
use Rattle.mpd_model.specs.declared.place.DeclKind.{DeclKind}
use Rattle.mpd_model.specs.declared.place.DeclKind.TheVariants.{Variable}
use Rattle.mpd_model.specs.declared.place.Place.{Place}
use Rattle.mpd_model.specs.declared.slot.Slot.{Slot}
use Rattle.mpd_model.specs.declared.stmt.Simple.{Simple}
use Rattle.mpd_model.specs.declared.token.Symbol.{Symbol}
use Rattle.mpd_model.specs.declared.token.Symbol.TheVariants as m
use Rattle.mpd_model.specs.declared.token.Token.TheVariants.{Number, Name, Is}
use Rattle.mpd_model.specs.script.Declaration.{Declared}
use Rattle.mpd_model.specs.grammar.Grammar.{operator_at, sign, place_of_slot, declares}
use Rattle.mpd_model.specs.grammar.Input.{Input, Parser, slot_in, first_line}
use Rattle.mpd_model.specs.script.Program.{Program}
use Rattle.mpd_model.specs.script.Term.{Term, lit, own_rank, size, cell, element, op1, op2, Target}
use Rattle.mpd_model.specs.grammar.Tokens.{Spot}
use Rattle.mpd_model.specs.script.Parts.{Part, of_symbol, of_term, of_target, of_name, parts_of}
use Rattle.mpd_model.specs.script.Tree.{Tree, simple, branch, repeat, no_more, block_of}

-- ---- expressions, by how loosely they bind

-- the token is the name of something of this kind that was declared with or without a size, and has that place
pub record Names (ds : List Declared) (wanted : DeclKind) (s : Spot) (is_array : Bool) (p : Place) : Type 0 where
  pub token : s.token ≡ Name
  pub slot : Slot
  pub declared : slot_in ds s.text ≡ Some slot
  pub kind : slot.kind ≡ wanted
  pub size : is_some slot.size ≡ is_array
  pub place : place_of_slot slot ≡ p

-- Operators group to the left: what stands to the left of one may be of its own level, but for comparisons, which don't chain.
abbrev pub left_level : ℕ → ℕ
left_level k = if k == 2 then 2 else suc k

pub data WrittenTerm (ds : List Declared) : ℕ → List Spot → Term → Type 0 where
  number : (s : Spot) (n : ℤ) → s.token ≡ Number n → WrittenTerm ds 0 (s ∷ []) (lit n)
  rank : (s : Spot) → s.token ≡ Is m.Rank → WrittenTerm ds 0 (s ∷ []) own_rank
  ranks : (s : Spot) → s.token ≡ Is m.Size → WrittenTerm ds 0 (s ∷ []) size
  name : (s : Spot) (p : Place) → Names ds Variable s false p → WrittenTerm ds 0 (s ∷ []) (cell p)
  entry : (s a b : Spot) (ss : List Spot) (p : Place) (t : Term) → Names ds Variable s true p → a.token ≡ Is m.SquareOpen → b.token ≡ Is m.SquareClose
      → WrittenTerm ds 5 ss t → WrittenTerm ds 0 (s ∷ a ∷ ss ++ b ∷ []) (element p t)
  round : (a b : Spot) (ss : List Spot) (t : Term) → a.token ≡ Is m.RoundOpen → b.token ≡ Is m.RoundClose
      → WrittenTerm ds 5 ss t → WrittenTerm ds 0 (a ∷ ss ++ b ∷ []) t
  signs : (s : Spot) (ss : List Spot) (op : UnaryOp) (t : Term) → sign s.token ≡ Some op → WrittenTerm ds 0 ss t → WrittenTerm ds 0 (s ∷ ss) (op1 op t)
  higher : (k : ℕ) (ss : List Spot) (t : Term) → WrittenTerm ds k ss t → WrittenTerm ds (suc k) ss t
  joins : (k : ℕ) (l r : List Spot) (o : Spot) (op : BinaryOp) (a b : Term) → operator_at (suc k) o.token ≡ Some op
      → WrittenTerm ds (left_level k) l a → WrittenTerm ds k r b → WrittenTerm ds (suc k) (l ++ o ∷ r) (op2 op a b)

-- the tokens between two states of the input write the term, and nothing else has changed
pub record TermBetween (k : ℕ) (t : Term) (i j : Input) : Type 0 where
  pub used : List Spot
  pub is : i.tokens ≡ used ++ j.tokens
  pub written : WrittenTerm i.decls k used t
  pub version : j.version ≡ i.version
  pub decls : j.decls ≡ i.decls
  pub lines : j.lines ≡ i.lines

-- a parser that reads only what is written at a level
abbrev pub IsSound : ℕ → Parser Term → Type 0
IsSound k p = (i j : Input) (t : Term) → p i ≡ Ok (t, j) → TermBetween k t i j

-- ---- statements, with the line of each: that of its first token, in text order

-- a place of a kind that a statement names: after the name of an array stands its index, an expression of its own
pub data WrittenTarget (ds : List Declared) (kind : DeclKind) : List Spot → Target → Type 0 where
  whole : (s : Spot) (p : Place) → Names ds kind s false p → WrittenTarget ds kind (s ∷ []) (record { place = p; index = None })
  part : (s a b : Spot) (ss : List Spot) (p : Place) (t : Term) → Names ds kind s true p → a.token ≡ Is m.SquareOpen → WrittenTerm ds 5 ss t → b.token ≡ Is m.SquareClose
      → WrittenTarget ds kind (s ∷ a ∷ ss ++ b ∷ []) (record { place = p; index = Some t })

-- a part of a statement that holds no other
pub data WrittenPart (ds : List Declared) : List Spot → Part → Type 0 where
  by_symbol : (s : Spot) (k : Symbol) → s.token ≡ Is k → WrittenPart ds (s ∷ []) (of_symbol k)
  by_term : (ss : List Spot) (t : Term) → WrittenTerm ds 5 ss t → WrittenPart ds ss (of_term t)
  by_target : (ss : List Spot) (kind : DeclKind) (t : Target) → WrittenTarget ds kind ss t → WrittenPart ds ss (of_target kind t)
  by_name : (s : Spot) (kind : DeclKind) (is_array : Bool) (p : Place) → Names ds kind s is_array p → WrittenPart ds (s ∷ []) (of_name kind p)

pub data WrittenParts (ds : List Declared) : List Spot → List Part → Type 0 where
  no_part : WrittenParts ds [] []
  then_part : (ss rs : List Spot) (p : Part) (ps : List Part) → WrittenPart ds ss p → WrittenParts ds rs ps → WrittenParts ds (ss ++ rs) (p ∷ ps)

mutual
  pub data WrittenTree (ds : List Declared) : List Spot → Tree → List ℕ → Type 0 where
    simply : (ss : List Spot) (end : Spot) (s : Simple)
        → WrittenParts ds ss (parts_of s) → end.token ≡ Is m.Semicolon
        → WrittenTree ds (ss ++ end ∷ []) (simple s) (first_line ss ∷ [])
    repeats : (k : Spot) (e a : List Spot) (t : Term) (x : List Tree) (ls : List ℕ)
        → k.token ≡ Is m.While → WrittenTerm ds 5 e t → WrittenBlock ds a x ls
        → WrittenTree ds (k ∷ e ++ a) (repeat t (block_of x)) (k.line ∷ ls)
    chooses : (k : Spot) (e a : List Spot) (t : Term) (x : List Tree) (ls : List ℕ)
        → k.token ≡ Is m.If → WrittenTerm ds 5 e t → WrittenBlock ds a x ls
        → WrittenTree ds (k ∷ e ++ a) (branch t (block_of x) no_more) (k.line ∷ ls)
    chooses_else : (k w : Spot) (e a b : List Spot) (t : Term) (x y : List Tree) (ls ms : List ℕ)
        → k.token ≡ Is m.If → WrittenTerm ds 5 e t → WrittenBlock ds a x ls → w.token ≡ Is m.Else → WrittenBlock ds b y ms
        → WrittenTree ds (k ∷ e ++ a ++ w ∷ b) (branch t (block_of x) (block_of y)) (k.line ∷ ls ++ ms)

  pub data WrittenBlock (ds : List Declared) : List Spot → List Tree → List ℕ → Type 0 where
    braces : (a b : Spot) (ss : List Spot) (ts : List Tree) (ls : List ℕ)
        → a.token ≡ Is m.BraceOpen → WrittenBody ds ss ts ls → b.token ≡ Is m.BraceClose
        → WrittenBlock ds (a ∷ ss ++ b ∷ []) ts ls

  pub data WrittenBody (ds : List Declared) : List Spot → List Tree → List ℕ → Type 0 where
    ended : WrittenBody ds [] [] []
    follows : (ss rs : List Spot) (t : Tree) (ts : List Tree) (ls ms : List ℕ)
        → WrittenTree ds ss t ls → WrittenBody ds rs ts ms
        → WrittenBody ds (ss ++ rs) (t ∷ ts) (ls ++ ms)

-- the tokens between two states of the input write something, whose statements are on the lines that were noted
pub record LinesBetween (Writes : List Declared → List Spot → List ℕ → Type 0) (i j : Input) : Type 0 where
  pub used : List Spot
  pub begun : List ℕ
  pub is : i.tokens ≡ used ++ j.tokens
  pub written : Writes i.decls used begun
  pub version : j.version ≡ i.version
  pub decls : j.decls ≡ i.decls
  pub lines : j.lines ≡ i.lines ++ begun

abbrev pub TreeBetween : Tree → Input → Input → Type 0
TreeBetween t = LinesBetween (λ ds ss ls. WrittenTree ds ss t ls)

abbrev pub BlockBetween : List Tree → Input → Input → Type 0
BlockBetween ts = LinesBetween (λ ds ss ls. WrittenBlock ds ss ts ls)

abbrev pub BodyBetween : List Tree → Input → Input → Type 0
BodyBetween ts = LinesBetween (λ ds ss ls. WrittenBody ds ss ts ls)

-- ---- a whole script

abbrev pub declared_as : DeclKind → List ℕ → Option ℕ → Declared
declared_as kind bytes cells = record { kind = kind; name = bytes; size = cells }

-- the tokens bring declarations after those that stand before them, each with a new name
pub data WrittenDecls : List Declared → List Spot → List Declared → Type 0 where
  none : (ds : List Declared) → WrittenDecls ds [] ds
  declares_one : (ds es : List Declared) (kind : DeclKind) (v n end : Spot) (ss : List Spot)
      → declares v.token ≡ Some kind → n.token ≡ Name → slot_in ds n.text ≡ None → end.token ≡ Is m.Semicolon
      → WrittenDecls (ds ++ declared_as kind n.text None ∷ []) ss es
      → WrittenDecls ds (v ∷ n ∷ end ∷ ss) es
  declares_array : (ds es : List Declared) (kind : DeclKind) (v n a c b end : Spot) (cells : ℕ) (ss : List Spot)
      → declares v.token ≡ Some kind → n.token ≡ Name → slot_in ds n.text ≡ None
      → a.token ≡ Is m.SquareOpen → c.token ≡ Number (pos cells) → b.token ≡ Is m.SquareClose → end.token ≡ Is m.Semicolon
      → WrittenDecls (ds ++ declared_as kind n.text (Some cells) ∷ []) ss es
      → WrittenDecls ds (v ∷ n ∷ a ∷ c ∷ b ∷ end ∷ ss) es

pub data WrittenScript : List Spot → Program → Type 0 where
  script : (mpd version a ranks count b : Spot) (ss rs : List Spot) (p : Program)
      → mpd.token ≡ Is m.Mpd → version.token ≡ Number (pos p.version) → a.token ≡ Is m.Semicolon
      → ranks.token ≡ Is m.Ranks → count.token ≡ Number (pos p.ranks) → b.token ≡ Is m.Semicolon
      → WrittenDecls [] ss p.decls → WrittenBody p.decls rs p.body p.lines
      → WrittenScript (mpd ∷ version ∷ a ∷ ranks ∷ count ∷ b ∷ ss ++ rs) p
