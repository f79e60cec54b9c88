-- The nodes that a block is lowered to.
use Rattle.std.specs.Prelude.{ℕ, ◌+◌, List, [], ◌∷◌, ◌++◌}
use Rattle.mpd_model.specs.script.Tree.{Tree, simple, branch, repeat, Block, no_more, then_more, statements, statements_in}
use Rattle.mpd_code.specs.declared.node.Node.{Node}
use Rattle.mpd_code.specs.declared.node.Action.TheVariants.{Simple, Branch, Repeat}

-- where a block begins that is numbered from n: at n, or at what follows where it is empty
abbrev pub entry : ℕ → Block → ℕ → ℕ
entry n no_more next = next
entry n (then_more t b) next = n

-- The nodes of a block that is numbered from n, and which `next` follows.
abbrev mutual
  pub lowered : ℕ → Block → ℕ → List Node
  lowered n no_more next = []
  lowered n (then_more t b) next = lowered_one n t (entry (n + statements t) b next) ++ lowered (n + statements t) b next

  pub lowered_one : ℕ → Tree → ℕ → List Node
  lowered_one n (simple s) next = record { action = Simple s; next = next } ∷ []
  lowered_one n (branch c a b) next =
      record { action = Branch c (entry (n + 1) a next) (entry (n + 1 + statements_in a) b next); next = next }
      ∷ (lowered (n + 1) a next ++ lowered (n + 1 + statements_in a) b next)
  lowered_one n (repeat c a) next = record { action = Repeat c (entry (n + 1) a n); next = next } ∷ lowered (n + 1) a n
