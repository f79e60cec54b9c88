-- How many statements there are.
use Rattle.std.proofs.Common.{ℕ, zero, suc, ◌<◌, ◌≤◌, List, [], ◌∷◌, length, get_or, arith}
use Rattle.mpd_model.specs.script.Tree.{Tree, simple, branch, repeat, block_of, statements, statements_in}

pub statements_pos : (t : Tree) → 0 < statements t
statements_pos (simple s) = omega arith
statements_pos (branch c a b) = omega arith
statements_pos (repeat c a) = omega arith

-- no statement of a block has more statements than the block
pub statements_at : (ts : List Tree) (i : ℕ) (d : Tree) → i < length ts → statements (get_or ts i d) ≤ statements_in (block_of ts)
statements_at [] i d h = absurd (omega arith)
statements_at (t ∷ ts) zero d h = omega arith
statements_at (t ∷ ts) (suc i) d h = omega (arith, statements_at ts i d (omega arith))

pub ruleset falling = (statements_pos, statements_at)
