-- A statement, and a block of them.
use Rattle.std.specs.Prelude.{◌≡◌, ℕ, ◌+◌, List, [], ◌∷◌, refl}
use Rattle.std.proofs.Common.{ap}
use Rattle.mpd_model.specs.declared.stmt.Simple.{Simple}
use Rattle.mpd_model.specs.script.Term.{Term}

mutual
  pub data Tree : Type 0 where
    -- a statement that holds no other
    simple : Simple → Tree
    -- `if`, with its first and its second block
    branch : Term → Block → Block → Tree
    -- `while`
    repeat : Term → Block → Tree

  pub data Block : Type 0 where
    no_more : Block
    then_more : Tree → Block → Block

abbrev pub block_of : List Tree → Block
block_of [] = no_more
block_of (t ∷ ts) = then_more t (block_of ts)

abbrev pub trees : Block → List Tree
trees no_more = []
trees (then_more t b) = t ∷ trees b

pub trees_of_block : (ts : List Tree) → trees (block_of ts) ≡ ts
trees_of_block [] = refl
trees_of_block (t ∷ ts) = ap (λ us. t ∷ us) (trees_of_block ts)

-- how many statements, with those inside
abbrev mutual
  pub statements : Tree → ℕ
  statements (simple s) = 1
  statements (branch test first second) = statements_in first + statements_in second + 1
  statements (repeat test body) = statements_in body + 1

  pub statements_in : Block → ℕ
  statements_in no_more = 0
  statements_in (then_more t b) = statements t + statements_in b

-- Statements in text order are numbered from 0, those inside a statement right after it.
abbrev pub numbered : ℕ → List Tree → List (ℕ × Tree)
numbered n [] = []
numbered n (t ∷ ts) = (n, t) ∷ numbered (n + statements t) ts
