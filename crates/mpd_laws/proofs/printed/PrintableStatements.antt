-- What is read as a script is printable.
use Rattle.std.proofs.Common.{◌≡◌, ℕ, true, false, List, [], ◌∷◌, ◌++◌, Option, Some, None, subst, sym, ◌∙◌, append_assoc, append-nil}
use Rattle.mpd_model.specs.declared.place.DeclKind.{DeclKind}
use Rattle.mpd_model.specs.script.Declaration.{Declared}
use Rattle.mpd_model.specs.grammar.Input.{slot_in}
use Rattle.mpd_model.specs.grammar.Printable.{IsName, AreNamed, AreNew, IsPrintableWhole, IsPrintableTarget, IsPrintablePart, ArePrintable, IsPrintableTree, IsPrintableBlock, ReadScriptsArePrintable}
use Rattle.mpd_model.specs.grammar.ReaderLaws.{ScriptsAreWritten}
use Rattle.mpd_model.specs.script.Program.{Program}
use Rattle.mpd_model.specs.script.Term.{Term, Target}
use Rattle.mpd_model.specs.grammar.Tokens.{Spot, tokens}
use Rattle.mpd_model.specs.script.Parts.{Part, parts_of}
use Rattle.mpd_model.specs.script.Tree.{Tree, block_of}
use Rattle.mpd_model.specs.grammar.Written.{WrittenTerm, WrittenTarget, whole, part, WrittenPart, by_symbol, by_term, by_target, by_name, WrittenParts, no_part, then_part, WrittenTree, simply, repeats, chooses, chooses_else, WrittenBlock, braces, WrittenBody, ended, follows, declared_as, WrittenDecls, none, declares_one, declares_array, WrittenScript, script}
use Rattle.mpd_laws.proofs.cutting.GoodSpots.{AllGood, good_left, good_right, tokens_good}
use Rattle.mpd_laws.proofs.printed.PrintableTerms.{term_printable, has_name}
use Rattle.mpd_laws.proofs.printed.ReadTrees.{IsCheap, IsCheapIndex, IsCheapPart, AreCheap, IsCheapTree, IsCheapBlock, reading_fine}

-- ---- statements

whole_printable : (ds : List Declared) (ss : List Spot) (t : Term) → WrittenTerm ds 5 ss t → AllGood ss → IsCheap t → IsPrintableWhole ds t
whole_printable ds ss t w g h = record { term = term_printable ds 5 ss t w g; cost = h }

target_printable : (ds : List Declared) (kind : DeclKind) (ss : List Spot) (t : Target) → WrittenTarget ds kind ss t → AllGood ss → IsCheapIndex t.index → IsPrintableTarget ds kind t
target_printable ds kind _ _ (whole s p h) g c = has_name ds kind false s p g.0 h
target_printable ds kind _ _ (part s a b ss p t h h1 w h2) g c = (has_name ds kind true s p g.0 h, whole_printable ds ss t w (good_left ss (b ∷ []) g.1.1) c)

part_printable : (ds : List Declared) (ss : List Spot) (p : Part) → WrittenPart ds ss p → AllGood ss → IsCheapPart p → IsPrintablePart ds p
part_printable ds _ _ (by_symbol s k h) g c = tt
part_printable ds _ _ (by_term ss t w) g c = whole_printable ds ss t w g c
part_printable ds _ _ (by_target ss kind t w) g c = target_printable ds kind ss t w g c
part_printable ds _ _ (by_name s kind is_array p n) g c = (is_array, has_name ds kind is_array s p g.0 n)

parts_printable : (ds : List Declared) (ss : List Spot) (ps : List Part) → WrittenParts ds ss ps → AllGood ss → AreCheap ps → ArePrintable ds ps
parts_printable ds _ _ no_part g c = tt
parts_printable ds _ _ (then_part ss rs p ps v w) g c = (part_printable ds ss p v (good_left ss rs g) c.0, parts_printable ds rs ps w (good_right ss rs g) c.1)

mutual
  tree_printable : (ds : List Declared) (ss : List Spot) (t : Tree) (ls : List ℕ) → WrittenTree ds ss t ls → AllGood ss → IsCheapTree t → IsPrintableTree ds t
  tree_printable ds _ _ _ (simply ss end s w h) g c = parts_printable ds ss (parts_of s) w (good_left ss (end ∷ []) g) c
  tree_printable ds _ _ _ (repeats k e a t x ls h1 w f) g c = (whole_printable ds e t w (good_left e a g.1) c.0, block_printable ds a x ls f (good_right e a g.1) c.1)
  tree_printable ds _ _ _ (chooses k e a t x ls h1 w f) g c = (whole_printable ds e t w (good_left e a g.1) c.0, (block_printable ds a x ls f (good_right e a g.1) c.1.0, tt))
  tree_printable ds _ _ _ (chooses_else k o e a b t x y ls ms h1 w f h2 q) g c =
      let g0 = good_left (k ∷ e ++ a) (o ∷ b) g in (
        whole_printable ds e t w (good_left e a g0.1) c.0,
        (block_printable ds a x ls f (good_right e a g0.1) c.1.0, block_printable ds b y ms q (good_right (k ∷ e ++ a) (o ∷ b) g).1 c.1.1),
      )

  block_printable : (ds : List Declared) (ss : List Spot) (ts : List Tree) (ls : List ℕ) → WrittenBlock ds ss ts ls → AllGood ss → IsCheapBlock (block_of ts) → IsPrintableBlock ds (block_of ts)
  block_printable ds _ _ _ (braces a b ss ts ls h1 w h2) g c = body_printable ds ss ts ls w (good_left ss (b ∷ []) g.1) c

  body_printable : (ds : List Declared) (ss : List Spot) (ts : List Tree) (ls : List ℕ) → WrittenBody ds ss ts ls → AllGood ss → IsCheapBlock (block_of ts) → IsPrintableBlock ds (block_of ts)
  body_printable ds _ _ _ ended g c = tt
  body_printable ds _ _ _ (follows ss rs t ts ls ms v w) g c = (tree_printable ds ss t ls v (good_left ss rs g) c.0, body_printable ds rs ts ms w (good_right ss rs g) c.1)

-- ---- declarations

-- the declarations that were brought, behind those before
record Brought (before all : List Declared) : Type 0 where
  more : List Declared
  is : all ≡ before ++ more
  named : AreNamed more
  distinct : AreNew before more

brought_more : (before all : List Declared) (kind : DeclKind) (w : List ℕ) (o : Option ℕ) → IsName w → slot_in before w ≡ None → Brought (before ++ declared_as kind w o ∷ []) all → Brought before all
brought_more before all kind w o h new x = record {
  more = declared_as kind w o ∷ x.more;
  is = x.is ∙ append_assoc before (declared_as kind w o ∷ []) x.more;
  named = (h, x.named);
  distinct = (new, x.distinct);
}

decls_printable : (before : List Declared) (ss : List Spot) (all : List Declared) → WrittenDecls before ss all → AllGood ss → Brought before all
decls_printable _ _ _ (none ds) g = record { more = []; is = sym (append-nil ds); named = tt; distinct = tt }
decls_printable _ _ _ (declares_one ds es kind v n end ss h1 h2 new h3 w) g =
    brought_more ds es kind n.text None (g.1.0.name h2) new (decls_printable (ds ++ declared_as kind n.text None ∷ []) ss es w g.1.1.1)
decls_printable _ _ _ (declares_array ds es kind v n a c b end cells ss h1 h2 new h3 h4 h5 h6 w) g =
    brought_more ds es kind n.text (Some cells) (g.1.0.name h2) new (decls_printable (ds ++ declared_as kind n.text (Some cells) ∷ []) ss es w g.1.1.1.1.1.1)

-- ---- a whole script

record Parts (p : Program) : Type 0 where
  decls : Brought [] p.decls
  body : IsPrintableBlock p.decls (block_of p.body)

script_parts : (ss : List Spot) (p : Program) → WrittenScript ss p → AllGood ss → IsCheapBlock (block_of p.body) → Parts p
script_parts _ _ (script mpd version a ranks count b ss rs p h1 h2 h3 h4 h5 h6 ds w) g c =
    let all = g.1.1.1.1.1.1 in
    record { decls = decls_printable [] ss p.decls ds (good_left ss rs all); body = body_printable p.decls rs p.body p.lines w (good_right ss rs all) c }

pub read_printable : ScriptsAreWritten → ReadScriptsArePrintable
read_printable written text p h legal =
    let f = reading_fine text p h in
    let x = script_parts (tokens text) p (written text p h) (tokens_good 0 0 1 text) f.cheap in
    record {
      legal = legal;
      named = subst AreNamed (sym x.decls.is) x.decls.named;
      distinct = subst (AreNew []) (sym x.decls.is) x.decls.distinct;
      body = x.body;
      blocks = f.open_blocks;
    }
