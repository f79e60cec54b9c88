-- Each statement has one line.
use Rattle.std.proofs.Common.{◌≡◌, ℕ, List, length, length-append, arith, refl}
use Rattle.mpd_model.specs.script.Declaration.{Declared}
use Rattle.mpd_model.specs.grammar.Tokens.{Spot}
use Rattle.mpd_model.specs.script.Tree.{Tree, block_of, statements, statements_in}
use Rattle.mpd_model.specs.grammar.Written.{WrittenTree, simply, repeats, chooses, chooses_else, WrittenBlock, braces, WrittenBody, ended, follows}

mutual
  tree_lines : (ds : List Declared) (ss : List Spot) (t : Tree) (ls : List ℕ) → WrittenTree ds ss t ls → length ls ≡ statements t
  tree_lines ds _ _ _ (simply ss end s w h) = refl
  tree_lines ds ss t ls (repeats k e a v x ms h1 h2 b) = omega (arith, block_lines ds a x ms b)
  tree_lines ds ss t ls (chooses k e a v x ms h1 h2 b) = omega (arith, block_lines ds a x ms b)
  tree_lines ds ss t ls (chooses_else k w e a b v x y ms ns h1 h2 f h3 g) =
      omega (arith, length-append ms ns, block_lines ds a x ms f, block_lines ds b y ns g)

  block_lines : (ds : List Declared) (ss : List Spot) (ts : List Tree) (ls : List ℕ) → WrittenBlock ds ss ts ls → length ls ≡ statements_in (block_of ts)
  block_lines ds ss ts ls (braces a b rs us ms h1 w h2) = body_lines ds rs us ms w

  pub body_lines : (ds : List Declared) (ss : List Spot) (ts : List Tree) (ls : List ℕ) → WrittenBody ds ss ts ls → length ls ≡ statements_in (block_of ts)
  body_lines ds ss ts ls ended = refl
  body_lines ds ss ts ls (follows rs qs t us ms ns a b) = omega (arith, length-append ms ns, tree_lines ds rs t ms a, body_lines ds qs us ns b)
