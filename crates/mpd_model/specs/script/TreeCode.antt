-- How the logic stores a statement.
use Rattle.std.specs.Prelude.{◌≡◌, refl}
use Rattle.std.proofs.Common.{ap}
use Rattle.std.specs.Coded.{Coded}
use base.Stored.{Gv, gnil, gnum, gcons}
use Rattle.mpd_model.specs.contracts.stmt.Simple as simple_row
use Rattle.mpd_model.specs.script.TermCode.{front_of, back_of, term_code, term_inj}
use Rattle.mpd_model.specs.script.Tree.{Tree, simple, branch, repeat, Block, no_more, then_more}

-- a number for the kind, and after it what the statement has
abbrev mutual
  pub tree_code : Tree → Gv
  tree_code (simple s) = gcons (gnum 0) (simple_row.the_row.coded.code s)
  tree_code (branch test first second) = gcons (gnum 1) (gcons (term_code test) (gcons (block_code first) (block_code second)))
  tree_code (repeat test body) = gcons (gnum 2) (gcons (term_code test) (block_code body))

  pub block_code : Block → Gv
  block_code no_more = gnil
  block_code (then_more t b) = gcons (tree_code t) (block_code b)

-- the condition, and what stands after it
abbrev test_code : Gv → Gv
test_code g = front_of (back_of g)

abbrev blocks_code : Gv → Gv
blocks_code g = back_of (back_of g)

mutual
  pub tree_inj : (x y : Tree) → tree_code x ≡ tree_code y → x ≡ y
  tree_inj (simple s) (simple t) p = ap simple (simple_row.the_row.coded.inj s t (ap back_of p))
  tree_inj (branch c a b) (branch d x y) p =
      let test = term_inj c d (ap test_code p) in
      let first = block_inj a x (ap (λ g. front_of (blocks_code g)) p) in
      let second = block_inj b y (ap (λ g. back_of (blocks_code g)) p) in
      λ i. branch (test i) (first i) (second i)
  tree_inj (repeat c a) (repeat d x) p =
      let test = term_inj c d (ap test_code p) in
      let body = block_inj a x (ap blocks_code p) in
      λ i. repeat (test i) (body i)
  tree_inj _ _ p = absurd (cc)

  block_inj : (x y : Block) → block_code x ≡ block_code y → x ≡ y
  block_inj no_more no_more p = refl
  block_inj (then_more t a) (then_more u b) p =
      let first = tree_inj t u (ap front_of p) in
      let others = block_inj a b (ap back_of p) in
      λ i. then_more (first i) (others i)
  block_inj _ _ p = absurd (cc)

abbrev pub coded_tree : Coded Tree
coded_tree = record { code = tree_code; inj = tree_inj }
