-- What is read as statements has cheap expressions, and no more open blocks than may be.
use Rattle.std.proofs.Common.{◌≡◌, ℕ, zero, suc, ◌+◌, ◌≤◌, max, Bool, true, false, cond, nat_lt, List, [], ◌∷◌, ◌++◌, length, Option, None, Some, Ok, sym, subst, arith}
use Rattle.std.specs.List.{prefix_len}
use Rattle.mpd_model.specs.declared.place.DeclKind.{DeclKind}
use Rattle.mpd_model.specs.declared.place.DeclKind.TheVariants.{Variable}
use Rattle.mpd_model.specs.declared.place.Place.{Place}
use Rattle.mpd_model.specs.declared.read_fault.FaultCode.TheVariants.{TooDeep}
use Rattle.mpd_model.specs.declared.slot.Slot.{Slot}
use Rattle.mpd_model.specs.declared.stmt.StatusStmt.{StatusStmt}
use Rattle.mpd_model.specs.declared.token.Symbol.TheVariants as m
use Rattle.mpd_model.specs.declared.token.Token.{Token}
use Rattle.mpd_model.specs.declared.token.Token.TheVariants.{Name, Is}
use Rattle.mpd_model.specs.grammar.Costs.{blocks, blocks_in}
use Rattle.mpd_model.specs.grammar.Grammar.{expression, begin_statement, closes, place_of_slot, index_outside, target, statement_place_by, statement_place, statement_name, source_by, source, status_by, status, fill, Form, form_of, by_form, assignment, otherwise, if_statement, while_statement, stmt_by, stmt, stmts, body, block, header, is_text, max_blocks, max_text, reading, script as whole_script}
use Rattle.mpd_model.specs.grammar.Input.{Input, Parser, token, expect, seek, sees, after, max_budget, pure, fail, refuse, start_of, ◌>>=◌}
use Rattle.mpd_model.specs.grammar.Printable.{term_cost}
use Rattle.mpd_model.specs.script.Program.{Program}
use Rattle.mpd_model.specs.script.Term.{Term, Target}
use Rattle.mpd_model.specs.declared.stmt.Simple.TheVariants as st
use Rattle.mpd_model.specs.script.Parts.{Part, of_symbol, of_term, of_target, of_name, parts_of, Hole, symbol_hole, term_hole, target_hole, name_hole, source_hole, status_hole, source_part, status_parts, Contents, filled}
use Rattle.mpd_model.specs.script.Tree.{Tree, Block, simple, branch, repeat, no_more, then_more, block_of}
use Rattle.mpd_laws.proofs.sound.Cheap.{max_small}
use Rattle.mpd_laws.proofs.printed.ReadCosts.{expression_cheap}
use Rattle.mpd_laws.proofs.sound.Sound.{bind_ok, ok_parts}
use Rattle.mpd_laws.proofs.sound.SoundParts.{status_of}
use Rattle.mpd_laws.proofs.sound.SoundScript.{read_ok, refused}
use Rattle.mpd_laws.proofs.sound.SoundStatements.{since_ok}

-- ---- each expression within the limit

abbrev pub IsCheap : Term → Type 0
IsCheap t = term_cost 5 t ≤ max_budget

abbrev pub IsCheapIndex : Option Term → Type 0
IsCheapIndex None = Unit {0}
IsCheapIndex (Some t) = IsCheap t

abbrev pub IsCheapPart : Part → Type 0
IsCheapPart (of_symbol k) = Unit {0}
IsCheapPart (of_term e) = IsCheap e
IsCheapPart (of_target kind t) = IsCheapIndex t.index
IsCheapPart (of_name kind p) = Unit {0}

abbrev pub AreCheap : List Part → Type 0
AreCheap [] = Unit {0}
AreCheap (p ∷ ps) = IsCheapPart p × AreCheap ps

abbrev mutual
  pub IsCheapTree : Tree → Type 0
  IsCheapTree (simple s) = AreCheap (parts_of s)
  IsCheapTree (branch c a b) = IsCheap c × (IsCheapBlock a × IsCheapBlock b)
  IsCheapTree (repeat c a) = IsCheap c × IsCheapBlock a

  pub IsCheapBlock : Block → Type 0
  IsCheapBlock no_more = Unit {0}
  IsCheapBlock (then_more t b) = IsCheapTree t × IsCheapBlock b

-- cheap, and with no more than so many blocks open at once
pub record Fine (d : ℕ) (t : Tree) : Type 0 where
  pub cheap : IsCheapTree t
  pub open_blocks : blocks t ≤ d

pub record FineBlock (d : ℕ) (b : Block) : Type 0 where
  pub cheap : IsCheapBlock b
  pub open_blocks : blocks_in b ≤ d

-- ---- statements that hold no other

index_outside_cheap : (at : Place) (cells : Option ℕ) (i : Input) (y : Target × Input) → index_outside at cells i ≡ Ok y → IsCheapIndex y.0.index
index_outside_cheap at None i y h = let o = ok_parts (record { place = at; index = None }, i) y h in subst (λ (t : Target). IsCheapIndex t.index) o.0 tt
index_outside_cheap at (Some cells) i y h =
    let a = bind_ok (expect m.SquareOpen i) _ y h in
    let b = bind_ok (expression a.0.1) _ y a.2 in
    let c = bind_ok (expect m.SquareClose b.0.1) _ y b.2 in
    let o = ok_parts (record { place = at; index = Some b.0.0 }, c.0.1) y c.2 in
    subst (λ (t : Target). IsCheapIndex t.index) o.0 (expression_cheap a.0.1 b.0 b.1)

target_cheap : (kind : DeclKind) (i : Input) (y : Target × Input) → target kind i ≡ Ok y → IsCheapIndex y.0.index
unfolding target
target_cheap kind i y h =
    let b = bind_ok (seek kind i) _ y h in
    index_outside_cheap (place_of_slot b.0.0) b.0.0.size _ y b.2

statement_place_case : (kind : DeclKind) (tk : Token) (i : Input) (y : Target × Input) → statement_place_by kind tk i ≡ Ok y → IsCheapIndex y.0.index
statement_place_case kind Name i y h = target_cheap kind i y h
statement_place_case kind _ i y h = absurd (cc)

statement_place_cheap : (kind : DeclKind) (i : Input) (y : Target × Input) → statement_place kind i ≡ Ok y → IsCheapIndex y.0.index
unfolding statement_place
statement_place_cheap kind i y h = statement_place_case kind (token i) i y h

source_case : (found : Bool) (i : Input) (y : Option Term × Input) → source_by found i ≡ Ok y → IsCheapPart (source_part y.0)
source_case true i y h = subst (λ o. IsCheapPart (source_part o)) (ok_parts (None, i) y h).0 tt
source_case false i y h =
    let b = bind_ok (expression i) _ y h in
    subst (λ o. IsCheapPart (source_part o)) (ok_parts (Some b.0.0, b.0.1) y b.2).0 (expression_cheap i b.0 b.1)

source_cheap : (i : Input) (y : Option Term × Input) → source i ≡ Ok y → IsCheapPart (source_part y.0)
unfolding source
source_cheap i y h = source_case (sees m.Any i) (after m.Any i) y h

status_case : (found : Bool) (i : Input) (y : Option StatusStmt × Input) → status_by found i ≡ Ok y → (ps : List Part) → AreCheap ps → AreCheap (status_parts y.0 ps)
status_case true i y h ps c =
    let b = bind_ok (statement_place Variable i) _ y h in
    let d = bind_ok (statement_place Variable b.0.1) _ y b.2 in
    subst (λ o. AreCheap (status_parts o ps)) (ok_parts (Some (status_of b.0.0 d.0.0), d.0.1) y d.2).0 (tt, (statement_place_cheap Variable i b.0 b.1, (statement_place_cheap Variable b.0.1 d.0 d.1, c)))
status_case false i y h ps c = subst (λ o. AreCheap (status_parts o ps)) (ok_parts (None, i) y h).0 c

status_cheap : (i : Input) (y : Option StatusStmt × Input) → status i ≡ Ok y → (ps : List Part) → AreCheap ps → AreCheap (status_parts y.0 ps)
unfolding status
status_cheap i y h = status_case (sees m.Status i) (after m.Status i) y h

-- what was read in the holes is cheap
record CheapIn {A : Type 0} (hs : List Hole) (made : Contents hs → A) (a : A) : Type 0 where
  contents : Contents hs
  is : made contents ≡ a
  cheap : AreCheap (filled hs contents)

fill_cheap : {A : Type 0} (hs : List Hole) (made : Contents hs → A) (i : Input) (y : A × Input) → fill hs made i ≡ Ok y → CheapIn hs made y.0
fill_cheap [] made i y h =
    let b = bind_ok (expect m.Semicolon i) _ y h in
    record { contents = tt; is = (ok_parts (made tt, b.0.1) y b.2).0; cheap = tt }
fill_cheap (symbol_hole k ∷ hs) made i y h =
    let b = bind_ok (expect k i) _ y h in
    let r = fill_cheap hs made b.0.1 y b.2 in
    record { contents = r.contents; is = r.is; cheap = (tt, r.cheap) }
fill_cheap (term_hole ∷ hs) made i y h =
    let b = bind_ok (expression i) _ y h in
    let r = fill_cheap hs (λ c. made (b.0.0, c)) b.0.1 y b.2 in
    record { contents = (b.0.0, r.contents); is = r.is; cheap = (expression_cheap i b.0 b.1, r.cheap) }
fill_cheap (target_hole kind ∷ hs) made i y h =
    let b = bind_ok (statement_place kind i) _ y h in
    let r = fill_cheap hs (λ c. made (b.0.0, c)) b.0.1 y b.2 in
    record { contents = (b.0.0, r.contents); is = r.is; cheap = (statement_place_cheap kind i b.0 b.1, r.cheap) }
fill_cheap (name_hole kind ∷ hs) made i y h =
    let b = bind_ok (statement_name kind i) _ y h in
    let r = fill_cheap hs (λ c. made (b.0.0, c)) b.0.1 y b.2 in
    record { contents = (b.0.0, r.contents); is = r.is; cheap = (tt, r.cheap) }
fill_cheap (source_hole ∷ hs) made i y h =
    let b = bind_ok (source i) _ y h in
    let r = fill_cheap hs (λ c. made (b.0.0, c)) b.0.1 y b.2 in
    record { contents = (b.0.0, r.contents); is = r.is; cheap = (source_cheap i b.0 b.1, r.cheap) }
fill_cheap (status_hole ∷ hs) made i y h =
    let b = bind_ok (status i) _ y h in
    let r = fill_cheap hs (λ c. made (b.0.0, c)) b.0.1 y b.2 in
    record { contents = (b.0.0, r.contents); is = r.is; cheap = status_cheap i b.0 b.1 (filled hs r.contents) r.cheap }

abbrev Reads : ℕ → Parser Tree → Type 0
Reads d p = (i : Input) (y : Tree × Input) → p i ≡ Ok y → Fine d y.0

form_fine : (d : ℕ) (o : Option Form) → Reads d (by_form o)
form_fine d None i y h = absurd (cc)
form_fine d (Some f) i y h =
    let b = bind_ok (begin_statement i) _ y h in
    let r = fill_cheap f.holes (λ c. simple (f.made c)) b.0.1 y b.2 in
    subst (Fine d) r.is (record { cheap = subst AreCheap (sym (f.parts r.contents)) (tt, r.cheap); open_blocks = omega arith })

assignment_fine : (d : ℕ) (s : Slot) → Reads d (assignment s)
unfolding assignment
assignment_fine d s i y h =
    let a = bind_ok (index_outside (place_of_slot s) s.size i) _ y h in
    let r = fill_cheap (symbol_hole m.Assign ∷ term_hole ∷ []) (λ c. simple (st.Assign (record { into = a.0.0; value = c.0 }))) a.0.1 y a.2 in
    subst (Fine d) r.is (record { cheap = (index_outside_cheap (place_of_slot s) s.size i a.0 a.1, r.cheap); open_blocks = omega arith })

-- ---- blocks

-- what is read as a block is fine, and is open itself
record FineInside (d : ℕ) (ts : List Tree) : Type 0 where
  cheap : IsCheapBlock (block_of ts)
  open_blocks : suc (blocks_in (block_of ts)) ≤ d

abbrev ReadsBlock : ℕ → Parser (List Tree) → Type 0
ReadsBlock d p = (i : Input) (y : List Tree × Input) → p i ≡ Ok y → FineInside d y.0

otherwise_case : (d : ℕ) (p : Parser (List Tree)) → ReadsBlock d p → 1 ≤ d → (found : Bool) (i : Input) (y : List Tree × Input) → cond found p (pure []) i ≡ Ok y → FineInside d y.0
otherwise_case d p s some true i y h = s i y h
otherwise_case d p s some false i y h = let o = ok_parts ([], i) y h in subst (FineInside d) o.0 (record { cheap = tt; open_blocks = omega arith })

otherwise_fine : (d : ℕ) (p : Parser (List Tree)) → ReadsBlock d p → 1 ≤ d → ReadsBlock d (otherwise p)
unfolding otherwise
otherwise_fine d p s some i y h = otherwise_case d p s some (sees m.Else i) (after m.Else i) y h

if_statement_fine : (d : ℕ) (p : Parser (List Tree)) → ReadsBlock d p → Reads d (if_statement p)
unfolding if_statement
if_statement_fine d p s i y h =
    let a = bind_ok (expression i) _ y h in
    let b = bind_ok (p a.0.1) _ y a.2 in
    let c = bind_ok (otherwise p b.0.1) _ y b.2 in
    let o = ok_parts (branch a.0.0 (block_of b.0.0) (block_of c.0.0), c.0.1) y c.2 in
    let first = s a.0.1 b.0 b.1 in
    let second = otherwise_fine d p s (omega (arith, first.open_blocks)) b.0.1 c.0 c.1 in
    subst (Fine d) o.0
    (record {
      cheap = (expression_cheap i a.0 a.1, (first.cheap, second.cheap));
      open_blocks = most (blocks_in (block_of b.0.0)) (blocks_in (block_of c.0.0)) d first.open_blocks second.open_blocks;
    })
  where
    most : (a b n : ℕ) → suc a ≤ n → suc b ≤ n → suc (max a b) ≤ n
    most a b n h k = grind arith

while_statement_fine : (d : ℕ) (p : Parser (List Tree)) → ReadsBlock d p → Reads d (while_statement p)
unfolding while_statement
while_statement_fine d p s i y h =
    let a = bind_ok (expression i) _ y h in
    let b = bind_ok (p a.0.1) _ y a.2 in
    let o = ok_parts (repeat a.0.0 (block_of b.0.0), b.0.1) y b.2 in
    let inside = s a.0.1 b.0 b.1 in
    subst (Fine d) o.0 (record { cheap = (expression_cheap i a.0 a.1, inside.cheap); open_blocks = inside.open_blocks })

stmt_case : (d : ℕ) (p : Parser (List Tree)) → ReadsBlock d p → (tk : Token) → Reads d (stmt_by p tk)
stmt_case d p s Name i y h =
    let a = bind_ok (seek Variable i) _ y h in
    let b = bind_ok (begin_statement a.0.1) _ y a.2 in
    assignment_fine d a.0.0 b.0.1 y b.2
stmt_case d p s (Is m.If) i y h = let b = bind_ok (begin_statement i) _ y h in if_statement_fine d p s b.0.1 y b.2
stmt_case d p s (Is m.While) i y h = let b = bind_ok (begin_statement i) _ y h in while_statement_fine d p s b.0.1 y b.2
stmt_case d p s (Is m.Waitany) i y h = form_fine d (form_of m.Waitany) i y (since_ok 2 (by_form (form_of m.Waitany)) i y h).1
stmt_case d p s (Is k) i y h = form_fine d (form_of k) i y h
stmt_case d p s _ i y h = absurd (cc)

stmt_fine : (d : ℕ) (p : Parser (List Tree)) → ReadsBlock d p → Reads d (stmt p)
unfolding stmt
stmt_fine d p s i y h = stmt_case d p s (token i) i y h

one_behind : (d : ℕ) (ts : List Tree) (t : Tree) → FineBlock d (block_of ts) → Fine d t → FineBlock d (block_of (ts ++ t ∷ []))
one_behind d [] t x y = record { cheap = (y.cheap, tt); open_blocks = max_small (blocks t) 0 d y.open_blocks (omega arith) }
one_behind d (u ∷ us) t x y =
    let left : blocks u ≤ d = max_left (blocks u) (blocks_in (block_of us)) d x.open_blocks in
    let right : blocks_in (block_of us) ≤ d = max_right (blocks u) (blocks_in (block_of us)) d x.open_blocks in
    let more = one_behind d us t (record { cheap = x.cheap.1; open_blocks = right }) y in
    record { cheap = (x.cheap.0, more.cheap); open_blocks = max_small (blocks u) (blocks_in (block_of (us ++ t ∷ []))) d left more.open_blocks }
  where
    max_left : (a b n : ℕ) → max a b ≤ n → a ≤ n
    max_left a b n h = grind arith

    max_right : (a b n : ℕ) → max a b ≤ n → b ≤ n
    max_right a b n h = grind arith

stmts_case : (d : ℕ) (p : Parser (List Tree)) (inside : Bool) (n : ℕ) (found : List Tree) (i : Input) (y : List Tree × Input) (ends : Bool)
    → ReadsBlock d p → FineBlock d (block_of found)
    → ((f : List Tree) (x : Input) → FineBlock d (block_of f) → stmts p inside n f x ≡ Ok y → FineBlock d (block_of y.0))
    → cond ends (pure found) (stmt p >>= λ s. stmts p inside n (found ++ s ∷ [])) i ≡ Ok y → FineBlock d (block_of y.0)
stmts_case d p inside n found i y true s x more h = let o = ok_parts (found, i) y h in subst (λ ts. FineBlock d (block_of ts)) o.0 x
stmts_case d p inside n found i y false s x more h =
    let b = bind_ok (stmt p i) _ y h in
    more (found ++ b.0.0 ∷ []) b.0.1 (one_behind d found b.0.0 x (stmt_fine d p s i b.0 b.1)) b.2

stmts_fine : (d : ℕ) (p : Parser (List Tree)) (inside : Bool) (n : ℕ) (found : List Tree) (i : Input) (y : List Tree × Input)
    → ReadsBlock d p → FineBlock d (block_of found) → stmts p inside n found i ≡ Ok y → FineBlock d (block_of y.0)
unfolding stmts
stmts_fine d p inside zero found i y s x h = absurd (cc)
stmts_fine d p inside (suc n) found i y s x h =
    stmts_case d p inside n found i y (closes inside (token i)) s x (λ f z w e. stmts_fine d p inside n f z y s w e) h

body_fine : (d : ℕ) (p : Parser (List Tree)) (inside : Bool) (i : Input) (y : List Tree × Input) → ReadsBlock d p → body p inside i ≡ Ok y → FineBlock d (block_of y.0)
unfolding body
body_fine d p inside i y s h = stmts_fine d p inside (length i.tokens + 1) [] i y s (record { cheap = tt; open_blocks = omega arith }) h

none_opens : (v : Bool) (i : Input) (y : List Tree × Input) → cond v (fail TooDeep i) (refuse i) ≡ Ok y → ⊥
none_opens true i y h = cc
none_opens false i y h = cc

block_fine : (d : ℕ) → ReadsBlock d (block d)
unfolding block
block_fine zero i y h = absurd (none_opens (sees m.BraceOpen i) i y h)
block_fine (suc d) i y h =
    let a = bind_ok (expect m.BraceOpen i) _ y h in
    let b = bind_ok (body (block d) true a.0.1) _ y a.2 in
    let c = bind_ok (expect m.BraceClose b.0.1) _ y b.2 in
    let o = ok_parts (b.0.0, c.0.1) y c.2 in
    let x = body_fine d (block d) true a.0.1 b.0 (block_fine d) b.1 in
    subst (FineInside (suc d)) o.0 (record { cheap = x.cheap; open_blocks = omega (arith, x.open_blocks) })

-- ---- the whole text

script_fine : (i : Input) (y : Program × Input) → whole_script i ≡ Ok y → FineBlock max_blocks (block_of y.0.body)
unfolding whole_script
script_fine i y h =
    let a = bind_ok (header i) _ y h in
    let b = bind_ok (body (block max_blocks) false a.0.1) _ y a.2 in
    let o = ok_parts (record { version = b.0.1.version; ranks = a.0.0; decls = b.0.1.decls; body = b.0.0; lines = b.0.1.lines }, b.0.1) y b.2 in
    subst (λ (p : Program). FineBlock max_blocks (block_of p.body)) o.0 (body_fine max_blocks (block max_blocks) false a.0.1 b.0 (block_fine max_blocks) b.1)

pub reading_fine : (text : List ℕ) (p : Program) → reading text ≡ Ok p → FineBlock max_blocks (block_of p.body)
unfolding reading
reading_fine text p h =
    let a = refused (nat_lt max_text (length text)) _ _ p h in
    let b = refused (nat_lt (prefix_len is_text text) (length text)) _ _ p a.1 in
    let c = read_ok (whole_script (start_of text)) p b.1 in
    script_fine (start_of text) (p, c.0) c.1
