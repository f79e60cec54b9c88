-- What a token costs of the budget of an expression: one or nothing.
use Rattle.std.proofs.Common.{◌≡◌, ℕ, ◌+◌, ◌≤◌, List, [], ◌∷◌, ◌++◌, Option, None, Some, refl, arith}
use Rattle.mpd_model.specs.declared.expr.BinaryOp.{BinaryOp}
use Rattle.mpd_model.specs.declared.expr.UnaryOp.{UnaryOp}
use Rattle.mpd_model.specs.declared.token.Symbol.TheVariants as m
use Rattle.mpd_model.specs.declared.token.Token.{Token}
use Rattle.mpd_model.specs.declared.token.Token.TheVariants.{Is}
use Rattle.mpd_model.specs.grammar.Costs.{counted, price, cost}
use Rattle.mpd_model.specs.grammar.Grammar.{sign, operator, operator_at}
use Rattle.mpd_model.specs.grammar.Input.{token_of, behind}
use Rattle.mpd_model.specs.grammar.Tokens.{Spot}

counted_most : (o : Option (BinaryOp × ℕ)) → counted o ≤ 1
counted_most None = omega arith
counted_most (Some p) = omega arith

price_most : (t : Token) → price t ≤ 1
price_most (Is m.RoundOpen) = omega arith
price_most (Is m.SquareOpen) = omega arith
price_most (Is m.Not) = omega arith
price_most t = counted_most (operator t)

pub cost_behind : (ss : List Spot) → cost ss ≤ cost (behind ss) + 1
cost_behind [] = omega arith
cost_behind (s ∷ ss) = omega (arith, price_most s.token)

pub cost_free : (ss : List Spot) → price (token_of ss) ≡ 0 → cost ss ≡ cost (behind ss)
cost_free [] h = refl
cost_free (s ∷ ss) h = omega (arith, h)

pub cost_append : (ss rs : List Spot) → cost (ss ++ rs) ≡ cost ss + cost rs
cost_append [] rs = omega arith
cost_append (s ∷ ss) rs = omega (arith, cost_append ss rs)

-- ---- operators and signs cost one

pub operator_costs : (k : ℕ) (op : BinaryOp) (t : Token) → operator_at k t ≡ Some op → price t ≡ 1
operator_costs k op (Is m.Equal) h = refl
operator_costs k op (Is m.NotEqual) h = refl
operator_costs k op (Is m.Or) h = refl
operator_costs k op (Is m.And) h = refl
operator_costs k op (Is m.Less) h = refl
operator_costs k op (Is m.AtMost) h = refl
operator_costs k op (Is m.Greater) h = refl
operator_costs k op (Is m.AtLeast) h = refl
operator_costs k op (Is m.Plus) h = refl
operator_costs k op (Is m.Minus) h = refl
operator_costs k op (Is m.Times) h = refl
operator_costs k op (Is m.Divide) h = refl
operator_costs k op (Is m.Remainder) h = refl
operator_costs k op _ h = absurd (cc)

pub sign_costs : (op : UnaryOp) (t : Token) → sign t ≡ Some op → price t ≡ 1
sign_costs op (Is m.Minus) h = refl
sign_costs op (Is m.Not) h = refl
sign_costs op _ h = absurd (cc)
