-- The recursion over statements ends.
use Rattle.std.proofs.Common.{ℕ, zero, suc, ◌<◌, ◌≤◌, List, [], ◌∷◌, length, get_or, arith}
use Rattle.mpd_model.specs.script.Tree.{Tree, block_of, statements, statements_in}

-- no statement of a block has more statements than the block
pub statements_at : (ts : List Tree) (i : ℕ) (d : Tree) → i < length ts → statements (get_or ts i d) ≤ statements_in (block_of ts)
statements_at [] i d h = absurd (omega arith)
statements_at (t ∷ ts) zero d h = omega arith
statements_at (t ∷ ts) (suc i) d h = omega (arith, statements_at ts i d (omega arith))
