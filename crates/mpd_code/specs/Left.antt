-- What is left to run at each statement of a program, the statement itself first.
use Rattle.std.specs.Prelude.{ℕ, ◌+◌, List, [], ◌∷◌, ◌++◌, slice_index_or}
use Rattle.mpd_model.specs.script.Tree.{Tree, simple, branch, repeat, Block, no_more, then_more, block_of, trees, statements, statements_in, numbered}
use Rattle.mpd_model.specs.script.Program.{Program}

-- A block is numbered from a number on, and `behind` is what is left after it. Behind the body of a `while` stands the `while` again.
abbrev mutual
  pub lefts : ℕ → Block → List (ℕ × Tree) → List (List (ℕ × Tree))
  lefts n no_more behind = []
  lefts n (then_more t b) behind = lefts_of n t (numbered (n + statements t) (trees b) ++ behind) ++ lefts (n + statements t) b behind

  pub lefts_of : ℕ → Tree → List (ℕ × Tree) → List (List (ℕ × Tree))
  lefts_of n (simple s) behind = ((n, simple s) ∷ behind) ∷ []
  lefts_of n (branch c a b) behind = ((n, branch c a b) ∷ behind) ∷ (lefts (n + 1) a behind ++ lefts (n + 1 + statements_in a) b behind)
  lefts_of n (repeat c a) behind = ((n, repeat c a) ∷ behind) ∷ lefts (n + 1) a ((n, repeat c a) ∷ behind)

-- what is left to run at the statement of a number; nothing past the last
abbrev pub left_at : Program → ℕ → List (ℕ × Tree)
left_at p i = slice_index_or (lefts 0 (block_of p.body) []) i []
