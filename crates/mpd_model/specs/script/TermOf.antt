-- The term that a node stands for.
use Rattle.mpd_model.specs.script.Term.{Term, lit, own_rank, size, cell, element, op1, op2}
use Rattle.mpd_model.specs.declared.expr.ExprNode.{ExprNode}
use Rattle.mpd_model.specs.declared.expr.ExprNode.TheVariants.{Number, Rank, Size, Cell, Element, Unary, Binary}

abbrev pub term_of : ExprNode → Term
term_of (Number z) = lit z
term_of Rank = own_rank
term_of Size = size
term_of (Cell p) = cell p
term_of (Element p a) = element p a.value
term_of (Unary op a) = op1 op a.value
term_of (Binary op a b) = op2 op a.value b.value
