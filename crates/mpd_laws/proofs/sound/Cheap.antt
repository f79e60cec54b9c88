-- What is written within the budget of each expression: the relations of the grammar, each with its bound.
use Rattle.std.proofs.Common.{◌≡◌, ℕ, ◌≤◌, max, Bool, true, false, List, [], ◌∷◌, ◌++◌, None, Some, arith}
use Rattle.mpd_model.specs.declared.place.DeclKind.{DeclKind}
use Rattle.mpd_model.specs.declared.place.Place.{Place}
use Rattle.mpd_model.specs.declared.stmt.Simple.{Simple}
use Rattle.mpd_model.specs.declared.token.Symbol.{Symbol}
use Rattle.mpd_model.specs.declared.token.Symbol.TheVariants as m
use Rattle.mpd_model.specs.declared.token.Token.TheVariants.{Is}
use Rattle.mpd_model.specs.grammar.Costs.{cost, index_cost, part_cost, dearest_part, dearest, dearest_block, dearest_body}
use Rattle.mpd_model.specs.script.Declaration.{Declared}
use Rattle.mpd_model.specs.grammar.Input.{first_line, max_budget}
use Rattle.mpd_model.specs.script.Parts.{Part, of_symbol, of_term, of_target, of_name, parts_of}
use Rattle.mpd_model.specs.script.Term.{Term, Target}
use Rattle.mpd_model.specs.grammar.Tokens.{Spot}
use Rattle.mpd_model.specs.script.Tree.{Tree, simple, branch, repeat, no_more, block_of}
use Rattle.mpd_model.specs.grammar.Written as written
use Rattle.mpd_model.specs.grammar.Written.{Names, WrittenTerm, WrittenTarget, WrittenPart, WrittenParts, WrittenTree, WrittenBlock, WrittenBody}

pub max_small : (a b n : ℕ) → a ≤ n → b ≤ n → max a b ≤ n
max_small a b n h k = grind arith

-- ---- the relations, each within the budget

abbrev pub CheapTerm : List Declared → List Spot → Term → Type 0
CheapTerm ds ss t = WrittenTerm ds 5 ss t × (cost ss ≤ max_budget)

abbrev pub CheapTarget : List Declared → DeclKind → List Spot → Target → Type 0
CheapTarget ds kind ss t = (w : WrittenTarget ds kind ss t) × (index_cost ds kind ss t w ≤ max_budget)

abbrev pub CheapPart : List Declared → List Spot → Part → Type 0
CheapPart ds ss p = (w : WrittenPart ds ss p) × (part_cost ds ss p w ≤ max_budget)

abbrev pub CheapParts : List Declared → List Spot → List Part → Type 0
CheapParts ds ss ps = (w : WrittenParts ds ss ps) × (dearest_part ds ss ps w ≤ max_budget)

abbrev pub CheapTree : List Declared → List Spot → Tree → List ℕ → Type 0
CheapTree ds ss t ls = (w : WrittenTree ds ss t ls) × (dearest ds ss t ls w ≤ max_budget)

abbrev pub CheapBlock : List Declared → List Spot → List Tree → List ℕ → Type 0
CheapBlock ds ss ts ls = (w : WrittenBlock ds ss ts ls) × (dearest_block ds ss ts ls w ≤ max_budget)

abbrev pub CheapBody : List Declared → List Spot → List Tree → List ℕ → Type 0
CheapBody ds ss ts ls = (w : WrittenBody ds ss ts ls) × (dearest_body ds ss ts ls w ≤ max_budget)

-- ---- what they are made of

module _ {ds : List Declared} where
  pub whole : {kind : DeclKind} (s : Spot) (p : Place) → Names ds kind s false p → CheapTarget ds kind (s ∷ []) (record { place = p; index = None })
  whole s p n = (written.whole s p n, omega arith)

  pub part : {kind : DeclKind} (s a b : Spot) (ss : List Spot) (p : Place) (t : Term) → Names ds kind s true p → a.token ≡ Is m.SquareOpen → CheapTerm ds ss t → b.token ≡ Is m.SquareClose
      → CheapTarget ds kind (s ∷ a ∷ ss ++ b ∷ []) (record { place = p; index = Some t })
  part s a b ss p t n h w k = (written.part s a b ss p t n h w.0 k, w.1)

  pub by_symbol : (s : Spot) (k : Symbol) → s.token ≡ Is k → CheapPart ds (s ∷ []) (of_symbol k)
  by_symbol s k h = (written.by_symbol s k h, omega arith)

  pub by_term : (ss : List Spot) (t : Term) → CheapTerm ds ss t → CheapPart ds ss (of_term t)
  by_term ss t w = (written.by_term ss t w.0, w.1)

  pub by_target : (ss : List Spot) (kind : DeclKind) (t : Target) → CheapTarget ds kind ss t → CheapPart ds ss (of_target kind t)
  by_target ss kind t w = (written.by_target ss kind t w.0, w.1)

  pub by_name : (s : Spot) (kind : DeclKind) (is_array : Bool) (p : Place) → Names ds kind s is_array p → CheapPart ds (s ∷ []) (of_name kind p)
  by_name s kind is_array p n = (written.by_name s kind is_array p n, omega arith)

  pub no_part : CheapParts ds [] []
  no_part = (written.no_part, omega arith)

  pub then_part : (ss rs : List Spot) (p : Part) (ps : List Part) → CheapPart ds ss p → CheapParts ds rs ps → CheapParts ds (ss ++ rs) (p ∷ ps)
  then_part ss rs p ps v w = (written.then_part ss rs p ps v.0 w.0, max_small _ _ _ v.1 w.1)

  pub simply : (ss : List Spot) (end : Spot) (s : Simple) → CheapParts ds ss (parts_of s) → end.token ≡ Is m.Semicolon → CheapTree ds (ss ++ end ∷ []) (simple s) (first_line ss ∷ [])
  simply ss end s w h = (written.simply ss end s w.0 h, w.1)

  pub repeats : (k : Spot) (e a : List Spot) (t : Term) (x : List Tree) (ls : List ℕ) → k.token ≡ Is m.While → CheapTerm ds e t → CheapBlock ds a x ls
      → CheapTree ds (k ∷ e ++ a) (repeat t (block_of x)) (k.line ∷ ls)
  repeats k e a t x ls h w f = (written.repeats k e a t x ls h w.0 f.0, max_small _ _ _ w.1 f.1)

  pub chooses : (k : Spot) (e a : List Spot) (t : Term) (x : List Tree) (ls : List ℕ) → k.token ≡ Is m.If → CheapTerm ds e t → CheapBlock ds a x ls
      → CheapTree ds (k ∷ e ++ a) (branch t (block_of x) no_more) (k.line ∷ ls)
  chooses k e a t x ls h w f = (written.chooses k e a t x ls h w.0 f.0, max_small _ _ _ w.1 f.1)

  pub chooses_else : (k w : Spot) (e a b : List Spot) (t : Term) (x y : List Tree) (ls ms : List ℕ) → k.token ≡ Is m.If → CheapTerm ds e t → CheapBlock ds a x ls → w.token ≡ Is m.Else
      → CheapBlock ds b y ms → CheapTree ds (k ∷ e ++ a ++ w ∷ b) (branch t (block_of x) (block_of y)) (k.line ∷ ls ++ ms)
  chooses_else k w e a b t x y ls ms h v f i g = (written.chooses_else k w e a b t x y ls ms h v.0 f.0 i g.0, max_small _ _ _ v.1 (max_small _ _ _ f.1 g.1))

  pub braces : (a b : Spot) (ss : List Spot) (ts : List Tree) (ls : List ℕ) → a.token ≡ Is m.BraceOpen → CheapBody ds ss ts ls → b.token ≡ Is m.BraceClose
      → CheapBlock ds (a ∷ ss ++ b ∷ []) ts ls
  braces a b ss ts ls h w k = (written.braces a b ss ts ls h w.0 k, w.1)

  pub ended : CheapBody ds [] [] []
  ended = (written.ended, omega arith)

  pub follows : (ss rs : List Spot) (t : Tree) (ts : List Tree) (ls ms : List ℕ) → CheapTree ds ss t ls → CheapBody ds rs ts ms → CheapBody ds (ss ++ rs) (t ∷ ts) (ls ++ ms)
  follows ss rs t ts ls ms v w = (written.follows ss rs t ts ls ms v.0 w.0, max_small _ _ _ v.1 w.1)
