-- What the limits say of what is written.
use Rattle.std.specs.Prelude.{◌≡◌, ℕ, suc, ◌+◌, ◌≤◌, max, List, [], ◌∷◌, Option, None, Some, Ok}
use Rattle.mpd_model.specs.declared.expr.BinaryOp.{BinaryOp}
use Rattle.mpd_model.specs.declared.place.DeclKind.{DeclKind}
use Rattle.mpd_model.specs.declared.token.Symbol.TheVariants as m
use Rattle.mpd_model.specs.declared.token.Token.{Token}
use Rattle.mpd_model.specs.declared.token.Token.TheVariants.{Is}
use Rattle.mpd_model.specs.script.Term.{Target}
use Rattle.mpd_model.specs.script.Declaration.{Declared}
use Rattle.mpd_model.specs.grammar.Grammar.{operator, operator_at}
use Rattle.mpd_model.specs.grammar.Input.{Input, Outcome, token_of}
use Rattle.mpd_model.specs.script.Program.{Program}
use Rattle.mpd_model.specs.grammar.Tokens.{Spot}
use Rattle.mpd_model.specs.script.Parts.{Part, parts_of}
use Rattle.mpd_model.specs.script.Tree.{Tree, Block, simple, branch, repeat, no_more, then_more}
use Rattle.mpd_model.specs.grammar.Written.{WrittenTarget, whole, part, WrittenPart, by_symbol, by_term, by_target, by_name, WrittenParts, no_part, then_part, WrittenTree, simply, repeats, chooses, chooses_else, WrittenBlock, braces, WrittenBody, ended, follows, WrittenScript, script}

-- ---- expressions

abbrev pub counted : Option (BinaryOp × ℕ) → ℕ
counted None = 0
counted (Some p) = 1

-- a bracket that opens and an operator each take one of the budget
abbrev pub price : Token → ℕ
price (Is m.RoundOpen) = 1
price (Is m.SquareOpen) = 1
price (Is m.Not) = 1
price t = counted (operator t)

abbrev pub cost : List Spot → ℕ
cost [] = 0
cost (s ∷ ss) = price s.token + cost ss

-- what follows doesn't go on with an operator of a level up to this one
abbrev pub Stops : ℕ → List Spot → Type 0
Stops k rest = (j : ℕ) → j ≤ k → operator_at j (token_of rest) ≡ None

-- the input with other tokens next and another budget
abbrev pub at : List Spot → ℕ → Input → Input
at ss b i = record i { tokens = ss; budget = b }

-- ---- statements

-- the input with other tokens next, other statements begun and another budget
abbrev pub on : List Spot → List ℕ → ℕ → Input → Input
on ss ls b i = record i { tokens = ss; lines = ls; budget = b }

-- what was read, with the tokens after it and the lines of all statements that began; some budget is left of the last expression
pub record Gives {A : Type 0} (o : Outcome A) (a : A) (rest : List Spot) (ls : List ℕ) (i : Input) : Type 0 where
  pub left : ℕ
  pub is : o ≡ Ok (a, on rest ls left i)

-- how many blocks a statement has open at once
abbrev mutual
  pub blocks : Tree → ℕ
  blocks (simple s) = 0
  blocks (branch c a b) = suc (max (blocks_in a) (blocks_in b))
  blocks (repeat c a) = suc (blocks_in a)

  pub blocks_in : Block → ℕ
  blocks_in no_more = 0
  blocks_in (then_more t b) = max (blocks t) (blocks_in b)

-- the cost of a target's index, which is an expression of its own
abbrev pub index_cost : (ds : List Declared) (kind : DeclKind) (ss : List Spot) (t : Target) → WrittenTarget ds kind ss t → ℕ
index_cost ds kind _ _ (whole s p h) = 0
index_cost ds kind _ _ (part s a b ss p t h h1 w h2) = cost ss

abbrev pub part_cost : (ds : List Declared) (ss : List Spot) (p : Part) → WrittenPart ds ss p → ℕ
part_cost ds _ _ (by_symbol s k h) = 0
part_cost ds _ _ (by_term ss t w) = cost ss
part_cost ds _ _ (by_target ss kind t w) = index_cost ds kind ss t w
part_cost ds _ _ (by_name s kind is_array p h) = 0

abbrev pub dearest_part : (ds : List Declared) (ss : List Spot) (ps : List Part) → WrittenParts ds ss ps → ℕ
dearest_part ds _ _ no_part = 0
dearest_part ds _ _ (then_part ss rs p ps v w) = max (part_cost ds ss p v) (dearest_part ds rs ps w)

-- the cost of the dearest expression among what is written
abbrev mutual
  pub dearest : (ds : List Declared) (ss : List Spot) (t : Tree) (ls : List ℕ) → WrittenTree ds ss t ls → ℕ
  dearest ds _ _ _ (simply ss end s w h) = dearest_part ds ss (parts_of s) w
  dearest ds _ _ _ (repeats k e a t x ls h1 w f) = max (cost e) (dearest_block ds a x ls f)
  dearest ds _ _ _ (chooses k e a t x ls h1 w f) = max (cost e) (dearest_block ds a x ls f)
  dearest ds _ _ _ (chooses_else k o e a b t x y ls ms h1 w f h2 g) = max (cost e) (max (dearest_block ds a x ls f) (dearest_block ds b y ms g))

  pub dearest_block : (ds : List Declared) (ss : List Spot) (ts : List Tree) (ls : List ℕ) → WrittenBlock ds ss ts ls → ℕ
  dearest_block ds _ _ _ (braces a b ss ts ls h1 w h2) = dearest_body ds ss ts ls w

  pub dearest_body : (ds : List Declared) (ss : List Spot) (ts : List Tree) (ls : List ℕ) → WrittenBody ds ss ts ls → ℕ
  dearest_body ds _ _ _ ended = 0
  dearest_body ds _ _ _ (follows ss rs t ts ls ms v w) = max (dearest ds ss t ls v) (dearest_body ds rs ts ms w)

abbrev pub dearest_script : (ss : List Spot) (p : Program) → WrittenScript ss p → ℕ
dearest_script _ _ (script mpd version a ranks count b ss rs p h1 h2 h3 h4 h5 h6 ds w) = dearest_body p.decls rs p.body p.lines w
