use Rattle.std.proofs.Common.{ℕ, ◌+◌, ◌-◌, ◌*◌, ◌≤◌, List, [], ◌∷◌, arith}
use Rattle.mpd_model.specs.grammar.Tokens.{decimal_after}

-- more digits make no smaller number
pub le-decimal_after : (n : ℕ) (ds : List ℕ) → n ≤ decimal_after n ds
le-decimal_after n [] = omega arith
le-decimal_after n (d ∷ ds) = omega (arith, le-decimal_after (n * 10 + (d - 48)) ds)
