use Rattle.std.proofs.Common.{◌+◌, ◌*◌}
use Rattle.mpd_model.specs.script.Term.{nodes}
use Rattle.mpd_code.proofs.evaluation.+eval.Given as goal

abbrev pub decreases-eval : goal.decreases-eval
decreases-eval l = 2 * nodes l.expr.now

abbrev pub decreases-eval_element : goal.decreases-eval_element
decreases-eval_element l = 2 * nodes l.index.now + 1

abbrev pub decreases-eval_unary : goal.decreases-eval_unary
decreases-eval_unary l = 2 * nodes l.operand.now + 1

abbrev pub decreases-eval_binary : goal.decreases-eval_binary
decreases-eval_binary l = 2 * (nodes l.left.now + nodes l.right.now) + 1
