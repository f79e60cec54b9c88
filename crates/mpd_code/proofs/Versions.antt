-- The nodes of a script are of statements that version 1 has exactly where its statements are.
use Rattle.std.proofs.Common.{◌≡◌, ℕ, ◌+◌, ◌≤◌, Bool, true, false, ◌&&◌, List, [], ◌∷◌, ◌++◌, refl, sym, ap, subst, ◌∙◌, arith}
use Rattle.std.proofs.lemmas.List.Folds.{list_all-append}
use Rattle.std.specs.Bool.{Decides}
use Rattle.std.specs.List.{list_all}
use Rattle.mpd_model.specs.declared.stmt.Simple.{Simple}
use Rattle.mpd_model.specs.declared.stmt.Simple.TheVariants as st
use Rattle.mpd_model.specs.script.Tree.{Tree, simple, branch, repeat, Block, no_more, then_more, statements, statements_in}
use Rattle.mpd_model.specs.script.Program.{first_version, IsTreeOf, IsBlockOf}
use Rattle.mpd_code.specs.declared.node.Node.{Node}
use Rattle.mpd_code.specs.declared.node.Action.TheVariants as does
use Rattle.mpd_code.specs.Lowered.{entry, lowered, lowered_one}
use Rattle.mpd_code.specs.Versions.{is_first, is_of_first}

both_first : (a b : Bool) → (a && b) ≡ true → (a ≡ true) × (b ≡ true)
both_first true b e = (refl, e)
both_first false b e = absurd (let h : ⊥ = cc in h)

both_hold : (a b : Bool) → a ≡ true → b ≡ true → (a && b) ≡ true
both_hold a b e h = ap (λ (c : Bool). c && b) e ∙ h

joined : (xs ys : List Node) → list_all is_of_first (xs ++ ys) ≡ true → (list_all is_of_first xs ≡ true) × (list_all is_of_first ys ≡ true)
joined xs ys e = both_first (list_all is_of_first xs) (list_all is_of_first ys) (sym (list_all-append is_of_first xs ys) ∙ e)

joins : (xs ys : List Node) → list_all is_of_first xs ≡ true → list_all is_of_first ys ≡ true → list_all is_of_first (xs ++ ys) ≡ true
joins xs ys e h = list_all-append is_of_first xs ys ∙ both_hold (list_all is_of_first xs) (list_all is_of_first ys) e h

simple_of : (s : Simple) (n : ℕ) → list_all is_of_first (record { action = does.Simple s; next = n } ∷ []) ≡ true → first_version s ≤ 1
simple_of (st.Waitany s) n e = absurd (let h : ⊥ = cc in h)
simple_of s n e = omega arith

first_of : (s : Simple) (n : ℕ) → first_version s ≤ 1 → list_all is_of_first (record { action = does.Simple s; next = n } ∷ []) ≡ true
first_of (st.Waitany s) n h = absurd (omega (arith, h))
first_of s n h = refl

mutual
  block_of_first : (n next : ℕ) (b : Block) → list_all is_of_first (lowered n b next) ≡ true → IsBlockOf 1 b
  block_of_first n next no_more e = tt
  block_of_first n next (then_more t b) e =
      let parts = joined (lowered_one n t (entry (n + statements t) b next)) (lowered (n + statements t) b next) e in
      (tree_of_first n (entry (n + statements t) b next) t parts.0, block_of_first (n + statements t) next b parts.1)

  tree_of_first : (n next : ℕ) (t : Tree) → list_all is_of_first (lowered_one n t next) ≡ true → IsTreeOf 1 t
  tree_of_first n next (simple s) e = simple_of s next e
  tree_of_first n next (branch c a b) e =
      let parts = joined (lowered (n + 1) a next) (lowered (n + 1 + statements_in a) b next) e in
      (block_of_first (n + 1) next a parts.0, block_of_first (n + 1 + statements_in a) next b parts.1)
  tree_of_first n next (repeat c a) e = block_of_first (n + 1) n a e

mutual
  nodes_of_first : (n next : ℕ) (b : Block) → IsBlockOf 1 b → list_all is_of_first (lowered n b next) ≡ true
  nodes_of_first n next no_more h = refl
  nodes_of_first n next (then_more t b) h =
      joins (lowered_one n t (entry (n + statements t) b next)) (lowered (n + statements t) b next)
      (nodes_of_one n (entry (n + statements t) b next) t h.0) (nodes_of_first (n + statements t) next b h.1)

  nodes_of_one : (n next : ℕ) (t : Tree) → IsTreeOf 1 t → list_all is_of_first (lowered_one n t next) ≡ true
  nodes_of_one n next (simple s) h = first_of s next h
  nodes_of_one n next (branch c a b) h =
      joins (lowered (n + 1) a next) (lowered (n + 1 + statements_in a) b next) (nodes_of_first (n + 1) next a h.0) (nodes_of_first (n + 1 + statements_in a) next b h.1)
  nodes_of_one n next (repeat c a) h = nodes_of_first (n + 1) n a h

pub version_told : (nodes : List Node) (b : Block) (n next : ℕ) (all : Bool) → nodes ≡ lowered n b next → all ≡ list_all is_of_first nodes → Decides all (IsBlockOf 1 b)
version_told nodes b n next all is e =
    (λ h. block_of_first n next b (sym (ap (list_all is_of_first) is) ∙ sym e ∙ h), λ h. e ∙ ap (list_all is_of_first) is ∙ nodes_of_first n next b h)

pub ruleset versions = (version_told)
