-- The canonical text of statements is cut into tokens that write them, each expression within the limit.
use Rattle.std.proofs.Common.{◌≡◌, ℕ, zero, suc, ◌≤◌, max, true, false, List, [], ◌∷◌, ◌++◌, length, length-append, Option, Some, None, refl, subst, ap, sym, ◌∙◌, append_assoc, append-nil, arith}
use Rattle.std.specs.Prelude.{codes}
use Rattle.mpd_model.specs.declared.place.DeclKind.{DeclKind}
use Rattle.mpd_model.specs.declared.place.Place.{Place}
use Rattle.mpd_model.specs.declared.token.Symbol.TheVariants as m
use Rattle.mpd_model.specs.declared.token.Token.{Token}
use Rattle.mpd_model.specs.declared.token.Token.TheVariants.{Name, Is}
use Rattle.mpd_model.specs.grammar.Canonical.{name_text, whole_text, index_text, target_text, indent, else_text, symbol_text, part_text, parts_text, tree_text, block_text}
use Rattle.mpd_model.specs.script.Declaration.{Declared}
use Rattle.mpd_model.specs.grammar.Costs.{cost, index_cost, part_cost, dearest_part, dearest, dearest_body}
use Rattle.mpd_model.specs.grammar.Input.{first_line, max_budget}
use Rattle.mpd_model.specs.grammar.Printable.{HasName, IsPrintableWhole, IsPrintableAt, IsPrintableTarget, IsPrintablePart, ArePrintable, IsPrintableTree, IsPrintableBlock, term_cost}
use Rattle.mpd_model.specs.script.Term.{Term, Target}
use Rattle.mpd_model.specs.grammar.Tokens.{Spot, tokens_after}
use Rattle.mpd_model.specs.declared.stmt.Simple.{Simple}
use Rattle.mpd_model.specs.declared.token.Symbol.{Symbol}
use Rattle.mpd_model.specs.script.Parts.{Part, of_symbol, of_term, of_target, of_name, parts_of}
use Rattle.mpd_model.specs.script.Tree.{Tree, Block, simple, branch, repeat, no_more, then_more, block_of, trees, statements, statements_in}
use Rattle.mpd_model.specs.grammar.Written.{WrittenTerm, WrittenTarget, whole, part, WrittenPart, by_symbol, by_term, by_target, by_name, WrittenParts, no_part, then_part, WrittenTree, simply, repeats, chooses, chooses_else, braces, WrittenBody, ended, follows}
use Rattle.mpd_laws.proofs.sound.Cheap.{max_small}
use Rattle.mpd_laws.proofs.cutting.Cuts.{Ends, Any, Spelled, join, turned, narrowed, fixed, blank_before, blank_behind, Both, both, IsOne, one, IsWord, one_word, IsNone, nothing}
use Rattle.mpd_laws.proofs.cutting.Symbols.{Parted, spaced, closed, parted_ends, symbol_spelled}
use Rattle.mpd_laws.proofs.printed.PrintTerms.{TermSpots, term_spelled, name_spelled, names_of}
use Rattle.mpd_laws.proofs.cutting.Signs.{square_open, square_close, if_word, while_word, end_sign, brace_open, brace_close, brace_end, else_word, brace_behind, line_end, two_spaces}

-- ---- expressions

pub record WholeSpots (ds : List Declared) (t : Term) (ss : List Spot) : Type 0 where
  pub written : WrittenTerm ds 5 ss t
  pub cheap : cost ss ≤ max_budget

whole_spots : (ds : List Declared) (t : Term) → term_cost 5 t ≤ max_budget → (ss : List Spot) → TermSpots ds 5 t (term_cost 5 t) ss → WholeSpots ds t ss
whole_spots ds t h ss x = record { written = x.written; cheap = omega (arith, x.cost) }

whole_spelled : (ds : List Declared) (t : Term) → IsPrintableWhole ds t → Spelled Ends (WholeSpots ds t) (whole_text ds t)
whole_spelled ds t h = turned (whole_text ds t) (whole_spots ds t h.cost) (term_spelled ds 5 t h.term)

-- ---- targets

record TargetSpots (ds : List Declared) (kind : DeclKind) (t : Target) (ss : List Spot) : Type 0 where
  written : WrittenTarget ds kind ss t
  cheap : index_cost ds kind ss t written ≤ max_budget

abbrev place_at : Place → Option Term → Target
place_at p o = record { place = p; index = o }

alone_spots : (ds : List Declared) (kind : DeclKind) (p : Place) → HasName ds kind false p → (ss : List Spot) → IsWord Name (name_text ds p) ss → TargetSpots ds kind (place_at p None) ss
alone_spots ds kind p x _ (one_word s h e) = record { written = whole s p (names_of ds kind false p s x h e); cheap = omega arith }

part_spots : (ds : List Declared) (kind : DeclKind) (p : Place) (t : Term) → HasName ds kind true p → (ss : List Spot)
    → Both (IsWord Name (name_text ds p)) (Both (Both (IsOne (Is m.SquareOpen)) (WholeSpots ds t)) (IsOne (Is m.SquareClose))) ss → TargetSpots ds kind (place_at p (Some t)) ss
part_spots ds kind p t x _ (both _ _ (one_word s h e) (both _ _ (both _ inside (one o h1) y) (one c h2))) =
    record { written = part s o c inside p t (names_of ds kind true p s x h e) h1 y.written h2; cheap = y.cheap }

at_spelled : (ds : List Declared) (kind : DeclKind) (p : Place) (o : Option Term) → IsPrintableAt ds kind p o → Spelled Ends (TargetSpots ds kind (place_at p o)) (name_text ds p ++ index_text ds o)
at_spelled ds kind p None h =
    subst (Spelled Ends (TargetSpots ds kind (place_at p None))) (sym (append-nil (name_text ds p))) (turned (name_text ds p) (alone_spots ds kind p h) (name_spelled (name_text ds p) h.named))
at_spelled ds kind p (Some t) h =
    let w : List ℕ = name_text ds p in
    let e : List ℕ = whole_text ds t in
    narrowed (w ++ (codes "[" ++ e ++ codes "]")) (λ z _. tt)
    (turned (w ++ (codes "[" ++ e ++ codes "]")) (part_spots ds kind p t h.0)
    (join w (codes "[" ++ e ++ codes "]") (name_spelled w h.0.named)
    (join (codes "[" ++ e) (codes "]") (join (codes "[") e square_open (whole_spelled ds t h.1) (λ z _. tt)) square_close (λ z _. refl))
    (λ z _. refl)))

target_spelled : (ds : List Declared) (kind : DeclKind) (t : Target) → IsPrintableTarget ds kind t → Spelled Ends (TargetSpots ds kind t) (target_text ds t)
target_spelled ds kind t h = at_spelled ds kind t.place t.index h

-- ---- indentation

pub nil_spelled : Spelled Any IsNone []
unfolding tokens_after
nil_spelled = fixed [] (λ p l z. refl) (λ p l. nothing) refl

indent_spelled : (n : ℕ) → Spelled Any IsNone (indent n)
indent_spelled zero = nil_spelled
indent_spelled (suc n) = blank_before (codes "  ") (indent n) two_spaces (indent_spelled n)

-- a word at the beginning of a line
begin_statement_spelled : (n : ℕ) (t : Token) (w : List ℕ) → Spelled Any (IsOne t) w → Spelled Any (IsOne t) (indent n ++ w)
begin_statement_spelled n t w x = blank_before (indent n) w (indent_spelled n) x

-- ---- statements

pub record TreeSpots (ds : List Declared) (t : Tree) (ss : List Spot) : Type 0 where
  pub lines : List ℕ
  pub written : WrittenTree ds ss t lines
  pub cheap : dearest ds ss t lines written ≤ max_budget
  pub count : length lines ≡ statements t

pub record BodySpots (ds : List Declared) (ts : List Tree) (ss : List Spot) : Type 0 where
  pub lines : List ℕ
  pub written : WrittenBody ds ss ts lines
  pub cheap : dearest_body ds ss ts lines written ≤ max_budget
  pub count : length lines ≡ statements_in (block_of ts)

tree_at : (ds : List Declared) (t u : Tree) (ss rs : List Spot) → t ≡ u → ss ≡ rs → TreeSpots ds t ss → TreeSpots ds u rs
tree_at ds t u ss rs e f x = subst (λ v. TreeSpots ds v rs) e (subst (TreeSpots ds t) f x)

block_of_trees : (b : Block) → block_of (trees b) ≡ b
block_of_trees no_more = refl
block_of_trees (then_more t b) = ap (then_more t) (block_of_trees b)

-- one token in the middle
seam : (a b : List Spot) (o : Spot) → a ++ o ∷ b ≡ (a ++ o ∷ []) ++ b
seam a b o = sym (append_assoc a (o ∷ []) b)

-- ---- statements that hold no other

record PartSpots (ds : List Declared) (p : Part) (ss : List Spot) : Type 0 where
  written : WrittenPart ds ss p
  cheap : part_cost ds ss p written ≤ max_budget

record PartsSpots (ds : List Declared) (ps : List Part) (ss : List Spot) : Type 0 where
  written : WrittenParts ds ss ps
  cheap : dearest_part ds ss ps written ≤ max_budget

symbol_spots : (ds : List Declared) (k : Symbol) (ss : List Spot) → IsOne (Is k) ss → PartSpots ds (of_symbol k) ss
symbol_spots ds k _ (one s h) = record { written = by_symbol s k h; cheap = omega arith }

name_spots : (ds : List Declared) (kind : DeclKind) (p : Place) → IsPrintablePart ds (of_name kind p) → (ss : List Spot) → IsWord Name (name_text ds p) ss → PartSpots ds (of_name kind p) ss
name_spots ds kind p x _ (one_word s h e) = record { written = by_name s kind x.0 p (names_of ds kind x.0 p s x.1 h e); cheap = omega arith }

part_spelled : (ds : List Declared) (p : Part) → IsPrintablePart ds p → Spelled Parted (PartSpots ds p) (part_text ds p)
part_spelled ds (of_symbol k) h = turned (symbol_text k) (symbol_spots ds k) (symbol_spelled k)
part_spelled ds (of_term e) h =
    turned (whole_text ds e) (λ ss x. record { written = by_term ss e x.written; cheap = x.cheap }) (narrowed (whole_text ds e) parted_ends (whole_spelled ds e h))
part_spelled ds (of_target kind t) h =
    turned (target_text ds t) (λ ss x. record { written = by_target ss kind t x.written; cheap = x.cheap }) (narrowed (target_text ds t) parted_ends (target_spelled ds kind t h))
part_spelled ds (of_name kind p) h = turned (name_text ds p) (name_spots ds kind p h) (narrowed (name_text ds p) parted_ends (name_spelled (name_text ds p) h.1.named))

none_spots : (ds : List Declared) (ss : List Spot) → IsNone ss → PartsSpots ds [] ss
none_spots ds _ nothing = record { written = no_part; cheap = omega arith }

last_spots : (ds : List Declared) (p : Part) (ss : List Spot) → PartSpots ds p ss → PartsSpots ds (p ∷ []) ss
last_spots ds p ss x =
    let last : PartsSpots ds (p ∷ []) (ss ++ []) = record { written = then_part ss [] p [] x.written no_part; cheap = max_small (part_cost ds ss p x.written) 0 max_budget x.cheap (omega arith) } in
    subst (PartsSpots ds (p ∷ [])) (append-nil ss) last

more_spots : (ds : List Declared) (p : Part) (ps : List Part) (ss : List Spot) → Both (PartSpots ds p) (PartsSpots ds ps) ss → PartsSpots ds (p ∷ ps) ss
more_spots ds p ps _ (both a b x y) =
    record { written = then_part a b p ps x.written y.written; cheap = max_small (part_cost ds a p x.written) (dearest_part ds b ps y.written) max_budget x.cheap y.cheap }

one_space : Spelled Any IsNone (codes " ")
unfolding tokens_after
one_space = fixed (codes " ") (λ p l z. refl) (λ p l. nothing) refl

parts_spelled : (ds : List Declared) (ps : List Part) → ArePrintable ds ps → Spelled Parted (PartsSpots ds ps) (parts_text ds ps)
parts_spelled ds [] h = turned [] (none_spots ds) (narrowed [] (λ z _. tt) nil_spelled)
parts_spelled ds (p ∷ []) h = turned (part_text ds p) (last_spots ds p) (part_spelled ds p h.0)
parts_spelled ds (p ∷ q ∷ ps) h =
    let first : Spelled Any (PartSpots ds p) (part_text ds p ++ codes " ") = blank_behind (part_text ds p) (codes " ") (part_spelled ds p h.0) one_space (λ z _. spaced z) in
    turned (parts_text ds (p ∷ q ∷ ps)) (more_spots ds p (q ∷ ps)) (join (part_text ds p ++ codes " ") (parts_text ds (q ∷ ps)) first (parts_spelled ds (q ∷ ps) h.1) (λ z _. tt))

simple_spots : (ds : List Declared) (s : Simple) (ss : List Spot) → Both (PartsSpots ds (parts_of s)) (IsOne (Is m.Semicolon)) ss → TreeSpots ds (simple s) ss
simple_spots ds s _ (both ss _ x (one end h)) = record { lines = first_line ss ∷ []; written = simply ss end s x.written h; cheap = x.cheap; count = refl }

simple_spelled : (ds : List Declared) (n : ℕ) (s : Simple) → ArePrintable ds (parts_of s) → Spelled Any (TreeSpots ds (simple s)) (tree_text ds n (simple s))
simple_spelled ds n s h =
    let line : List ℕ = parts_text ds (parts_of s) in
    turned (tree_text ds n (simple s)) (simple_spots ds s) (join (indent n ++ line) (codes ";\n") (blank_before (indent n) line (indent_spelled n) (parts_spelled ds (parts_of s) h)) end_sign (λ z _. closed _))

-- ---- blocks

-- a word, a condition and a block
abbrev Headed : List Declared → Token → Term → Block → List Spot → Type 0
Headed ds t c a = Both (Both (Both (Both (IsOne t) (WholeSpots ds c)) (IsOne (Is m.BraceOpen))) (BodySpots ds (trees a))) (IsOne (Is m.BraceClose))

headed_is : (a : List Spot) (o : Spot) (b : List Spot) (c : Spot) → a ++ (o ∷ b ++ c ∷ []) ≡ ((a ++ o ∷ []) ++ b) ++ c ∷ []
headed_is a o b c = seam a (b ++ c ∷ []) o ∙ sym (append_assoc (a ++ o ∷ []) b (c ∷ []))

repeats_spots : (ds : List Declared) (c : Term) (a : Block) (ss : List Spot) → Headed ds (Is m.While) c a ss → TreeSpots ds (repeat c a) ss
repeats_spots ds c a _ (both _ _ (both _ b (both _ _ (both _ e (one k h1) x) (one o h2)) y) (one z h3)) =
    tree_at ds (repeat c (block_of (trees a))) (repeat c a) (k ∷ e ++ (o ∷ b ++ z ∷ [])) ((((k ∷ e) ++ o ∷ []) ++ b) ++ z ∷ [])
    (ap (repeat c) (block_of_trees a)) (headed_is (k ∷ e) o b z)
    (record {
      lines = k.line ∷ y.lines;
      written = repeats k e (o ∷ b ++ z ∷ []) c (trees a) y.lines h1 x.written (braces o z b (trees a) y.lines h2 y.written h3);
      cheap = max_small (cost e) (dearest_body ds b (trees a) y.lines y.written) max_budget x.cheap y.cheap;
      count = omega (arith, y.count);
    })

chooses_spots : (ds : List Declared) (c : Term) (a : Block) (ss : List Spot) → Headed ds (Is m.If) c a ss → TreeSpots ds (branch c a no_more) ss
chooses_spots ds c a _ (both _ _ (both _ b (both _ _ (both _ e (one k h1) x) (one o h2)) y) (one z h3)) =
    tree_at ds (branch c (block_of (trees a)) no_more) (branch c a no_more) (k ∷ e ++ (o ∷ b ++ z ∷ [])) ((((k ∷ e) ++ o ∷ []) ++ b) ++ z ∷ [])
    (ap (λ u. branch c u no_more) (block_of_trees a)) (headed_is (k ∷ e) o b z)
    (record {
      lines = k.line ∷ y.lines;
      written = chooses k e (o ∷ b ++ z ∷ []) c (trees a) y.lines h1 x.written (braces o z b (trees a) y.lines h2 y.written h3);
      cheap = max_small (cost e) (dearest_body ds b (trees a) y.lines y.written) max_budget x.cheap y.cheap;
      count = omega (arith, y.count);
    })

-- the second block
abbrev Otherwise : List Declared → Block → List Spot → Type 0
Otherwise ds a = Both (Both (Both (IsOne (Is m.Else)) (IsOne (Is m.BraceOpen))) (BodySpots ds (trees a))) (IsOne (Is m.BraceClose))

chooses_else_spots : (ds : List Declared) (c : Term) (a d : Block) (ss : List Spot) → Both (Headed ds (Is m.If) c a) (Otherwise ds d) ss → TreeSpots ds (branch c a d) ss
chooses_else_spots ds c a d _ (both _ _ (both _ _ (both _ b (both _ _ (both _ e (one k h1) x) (one o h2)) y) (one z h3)) (both _ _ (both _ f (both _ _ (one w g1) (one q g2)) v) (one r g3))) =
    tree_at ds (branch c (block_of (trees a)) (block_of (trees d))) (branch c a d)
    (k ∷ e ++ (o ∷ b ++ z ∷ []) ++ w ∷ (q ∷ f ++ r ∷ [])) (((((k ∷ e) ++ o ∷ []) ++ b) ++ z ∷ []) ++ w ∷ (q ∷ f ++ r ∷ []))
    ((λ i. branch c (block_of_trees a i) (block_of_trees d i))) (ap (λ u. u ++ w ∷ (q ∷ f ++ r ∷ [])) (headed_is (k ∷ e) o b z))
    (record {
      lines = k.line ∷ y.lines ++ v.lines;
      written =
          chooses_else k w e (o ∷ b ++ z ∷ []) (q ∷ f ++ r ∷ []) c (trees a) (trees d) y.lines v.lines h1 x.written
          (braces o z b (trees a) y.lines h2 y.written h3) g1 (braces q r f (trees d) v.lines g2 v.written g3);
      cheap =
          max_small (cost e) (max (dearest_body ds b (trees a) y.lines y.written) (dearest_body ds f (trees d) v.lines v.written)) max_budget x.cheap
          (max_small (dearest_body ds b (trees a) y.lines y.written) (dearest_body ds f (trees d) v.lines v.written) max_budget y.cheap v.cheap);
      count = omega (arith, y.count, v.count, length-append y.lines v.lines);
    })

ended_spots : (ds : List Declared) (ss : List Spot) → IsNone ss → BodySpots ds [] ss
ended_spots ds _ nothing = record { lines = []; written = ended; cheap = omega arith; count = refl }

follows_spots : (ds : List Declared) (t : Tree) (ts : List Tree) (ss : List Spot) → Both (TreeSpots ds t) (BodySpots ds ts) ss → BodySpots ds (t ∷ ts) ss
follows_spots ds t ts _ (both a b x y) = record {
  lines = x.lines ++ y.lines;
  written = follows a b t ts x.lines y.lines x.written y.written;
  cheap = max_small (dearest ds a t x.lines x.written) (dearest_body ds b ts y.lines y.written) max_budget x.cheap y.cheap;
  count = omega (arith, x.count, y.count, length-append x.lines y.lines);
}

-- what begins a statement with a block, up to the statements inside
open_spelled : (ds : List Declared) (n : ℕ) (t : Token) (w : List ℕ) (c : Term) → Spelled Any (IsOne t) w → IsPrintableWhole ds c
    → Spelled Any (Both (Both (IsOne t) (WholeSpots ds c)) (IsOne (Is m.BraceOpen))) (indent n ++ w ++ whole_text ds c ++ codes " {\n")
open_spelled ds n t w c x h =
    join (indent n ++ w ++ whole_text ds c) (codes " {\n") (join (indent n ++ w) (whole_text ds c) (begin_statement_spelled n t w x) (whole_spelled ds c h) (λ z _. tt)) brace_open (λ z _. refl)

-- and the rest of the block
closed_spelled : {P : List Spot → Type 0} (ds : List Declared) (n : ℕ) (a : Block) (start end : List ℕ) → Spelled Any P start → Spelled Any (BodySpots ds (trees a)) (block_text ds (suc n) a)
    → Spelled Any (IsOne (Is m.BraceClose)) end
    → Spelled Any (Both (Both P (BodySpots ds (trees a))) (IsOne (Is m.BraceClose))) (start ++ block_text ds (suc n) a ++ indent n ++ end)
closed_spelled ds n a start end x y z =
    join (start ++ block_text ds (suc n) a ++ indent n) end
    (blank_behind (start ++ block_text ds (suc n) a) (indent n) (join start (block_text ds (suc n) a) x y (λ u _. tt)) (indent_spelled n) (λ u _. tt))
    z (λ u _. tt)

else_open : Spelled Any (Both (IsOne (Is m.Else)) (IsOne (Is m.BraceOpen))) (codes " else {\n")
else_open = join (codes " else ") (codes "{\n") else_word brace_behind (λ z _. tt)

branch_spelled : (ds : List Declared) (n : ℕ) (c : Term) (a b : Block) → IsPrintableWhole ds c → Spelled Any (BodySpots ds (trees a)) (block_text ds (suc n) a)
    → Spelled Any (BodySpots ds (trees b)) (block_text ds (suc n) b) → Spelled Any (TreeSpots ds (branch c a b)) (tree_text ds n (branch c a b))
branch_spelled ds n c a no_more h x y =
    let first : List ℕ = indent n ++ codes "if " ++ whole_text ds c ++ codes " {\n" ++ block_text ds (suc n) a ++ indent n ++ codes "}" in
    turned (first ++ [] ++ codes "\n") (chooses_spots ds c a)
    (blank_behind (first ++ []) (codes "\n")
    (blank_behind first []
    (closed_spelled ds n a (indent n ++ codes "if " ++ whole_text ds c ++ codes " {\n") (codes "}") (open_spelled ds n (Is m.If) (codes "if ") c if_word h) x brace_close)
    nil_spelled (λ z _. tt))
    line_end (λ z _. tt))
branch_spelled ds n c a (then_more t b) h x y =
    let first : List ℕ = indent n ++ codes "if " ++ whole_text ds c ++ codes " {\n" ++ block_text ds (suc n) a ++ indent n ++ codes "}" in
    let second : List ℕ = else_text (then_more t b) n (block_text ds (suc n) (then_more t b)) in
    turned (first ++ second ++ codes "\n") (chooses_else_spots ds c a (then_more t b))
    (blank_behind (first ++ second) (codes "\n")
    (join first second
    (closed_spelled ds n a (indent n ++ codes "if " ++ whole_text ds c ++ codes " {\n") (codes "}") (open_spelled ds n (Is m.If) (codes "if ") c if_word h) x brace_close)
    (closed_spelled ds n (then_more t b) (codes " else {\n") (codes "}") else_open y brace_close)
    (λ z _. tt))
    line_end (λ z _. tt))

mutual
  pub tree_spelled : (ds : List Declared) (n : ℕ) (t : Tree) → IsPrintableTree ds t → Spelled Any (TreeSpots ds t) (tree_text ds n t)
  tree_spelled ds n (simple s) h = simple_spelled ds n s h
  tree_spelled ds n (branch c a b) h = branch_spelled ds n c a b h.0 (block_spelled ds (suc n) a h.1.0) (block_spelled ds (suc n) b h.1.1)
  tree_spelled ds n (repeat c a) h =
      turned (tree_text ds n (repeat c a)) (repeats_spots ds c a)
      (closed_spelled ds n a (indent n ++ codes "while " ++ whole_text ds c ++ codes " {\n") (codes "}\n") (open_spelled ds n (Is m.While) (codes "while ") c while_word h.0) (block_spelled ds (suc n) a h.1) brace_end)

  pub block_spelled : (ds : List Declared) (n : ℕ) (b : Block) → IsPrintableBlock ds b → Spelled Any (BodySpots ds (trees b)) (block_text ds n b)
  block_spelled ds n no_more h = turned [] (ended_spots ds) nil_spelled
  block_spelled ds n (then_more t b) h =
      turned (tree_text ds n t ++ block_text ds n b) (follows_spots ds t (trees b)) (join (tree_text ds n t) (block_text ds n b) (tree_spelled ds n t h.0) (block_spelled ds n b h.1) (λ z _. tt))
