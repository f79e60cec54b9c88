use Rattle.std.proofs.Common.{◌≡◌, ◌+◌, ◌*◌, ◌-◌}
use Rattle.mpd_model.specs.grammar.Grammar.{expr, level, chain}
use Rattle.mpd_script.proofs.expr.+expr.Given as goal

abbrev pub decreases-expr : goal.decreases-expr
decreases-expr l = 32 * l.depth

abbrev pub decreases-atom : goal.decreases-atom
decreases-atom l = 32 * l.depth + 2

abbrev pub decreases-rounds : goal.decreases-rounds
decreases-rounds l = 32 * l.depth + 1

abbrev pub decreases-place_inside : goal.decreases-place_inside
decreases-place_inside l = 32 * l.depth + 1

abbrev pub decreases-unary : goal.decreases-unary
decreases-unary l = 32 * l.depth + 1

abbrev pub decreases-level : goal.decreases-level
decreases-level l = 32 * l.depth + 2 * l.of + 4

abbrev pub decreases-chain : goal.decreases-chain
decreases-chain l = 32 * l.depth + 2 * l.of + 3

abbrev pub invariant-chain-loop-turn : goal.invariant-chain-loop-turn
invariant-chain-loop-turn l =
    chain (level (expr l.depth) (l.of - 1)) l.of l.most l.fn.left l.fn.tokens ≡ chain (level (expr l.depth) (l.of - 1)) l.of (l.most - l._turn) l.left l.tokens
