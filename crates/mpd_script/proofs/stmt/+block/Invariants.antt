use Rattle.std.proofs.Common.{◌≡◌, ◌+◌, ◌*◌, ◌-◌}
use Rattle.mpd_model.specs.grammar.Grammar.{block, body, stmts}
use Rattle.mpd_script.proofs.stmt.+block.Given as goal

abbrev pub decreases-block : goal.decreases-block
decreases-block l = 8 * l.depth

abbrev pub decreases-otherwise : goal.decreases-otherwise
decreases-otherwise l = 8 * l.depth + 1

abbrev pub decreases-if_statement : goal.decreases-if_statement
decreases-if_statement l = 8 * l.depth + 2

abbrev pub decreases-while_statement : goal.decreases-while_statement
decreases-while_statement l = 8 * l.depth + 2

abbrev pub decreases-stmt : goal.decreases-stmt
decreases-stmt l = 8 * l.depth + 3

abbrev pub decreases-body : goal.decreases-body
decreases-body l = 8 * l.depth + 4

abbrev pub invariant-body-loop-turn : goal.invariant-body-loop-turn
invariant-body-loop-turn l =
    body (block l.depth) l.inside l.fn.tokens ≡ stmts (block l.depth) l.inside (l.most - l._turn) l.found.items l.tokens
