-- Where blocks begin.
use Rattle.std.proofs.Common.{◌≡◌, ℕ, ◌<◌, List, [], ◌∷◌, length, reverse, refl, sym, arith}
use Rattle.std.proofs.lemmas.List.{length-reverse}
use Rattle.mpd_model.specs.script.Tree.{Tree, block_of}
use Rattle.mpd_code.specs.Lowered.{entry}

pub entry_some : (n next : ℕ) (ts : List Tree) → 0 < length ts → n ≡ entry n (block_of ts) next
entry_some n next [] h = absurd (omega arith)
entry_some n next (t ∷ ts) h = refl

pub entry_none : (n next : ℕ) (ts : List Tree) → length ts ≡ 0 → next ≡ entry n (block_of ts) next
entry_none n next [] h = refl
entry_none n next (t ∷ ts) h = absurd (omega arith)

-- whether a block is empty is the same of its statements in the other order
pub entry_reversed : (n next : ℕ) (ts : List Tree) → entry n (block_of (reverse ts)) next ≡ entry n (block_of ts) next
entry_reversed n next [] = refl
entry_reversed n next (t ∷ ts) = sym (entry_some n next (reverse (t ∷ ts)) (omega (arith, length-reverse (t ∷ ts))))

pub ruleset entries = (entry_some, entry_none)
