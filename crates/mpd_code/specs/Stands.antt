-- What a node stands for, given what is left to run at each number.
use Rattle.std.specs.Prelude.{◌≡◌, ℕ, ◌+◌, List, ◌∷◌, ◌++◌}
use Rattle.mpd_model.specs.script.Tree.{Tree, simple, branch, repeat, Block, trees, statements_in, numbered}
use Rattle.mpd_code.specs.declared.node.Node.{Node}
use Rattle.mpd_code.specs.declared.node.Action.{Action}
use Rattle.mpd_code.specs.declared.node.Action.TheVariants.{Simple, Branch, Repeat}

-- The action is that of a statement, which has number n and `tail` after it. Its blocks are left where its numbers point.
abbrev pub Does : (ℕ → List (ℕ × Tree)) → ℕ → List (ℕ × Tree) → Action → Tree → Type 0
Does at n tail (Simple s) t = t ≡ simple s
Does at n tail (Branch c first second) t =
    (a : Block) × ((b : Block) × ((t ≡ branch c a b)
    × ((at first ≡ numbered (n + 1) (trees a) ++ tail)
    × (at second ≡ numbered (n + 1 + statements_in a) (trees b) ++ tail))))
Does at n tail (Repeat c body) t =
    (a : Block) × ((t ≡ repeat c a)
    × (at body ≡ numbered (n + 1) (trees a) ++ (n, repeat c a) ∷ tail))

-- At its number the node's statement is left first, and what its successor stands for after it.
pub record Stands (at : ℕ → List (ℕ × Tree)) (n : ℕ) (node : Node) : Type 0 where
  pub statement : Tree
  pub left : at n ≡ (n, statement) ∷ at node.next
  pub does : Does at n (at node.next) node.action statement
