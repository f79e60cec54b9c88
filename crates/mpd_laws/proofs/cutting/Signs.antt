-- Signs and words with a blank behind them, cut.
use Rattle.std.proofs.Common.{◌≡◌, suc, Some, refl}
use Rattle.std.specs.Prelude.{codes}
use Rattle.mpd_model.specs.declared.expr.BinaryOp.{BinaryOp}
use Rattle.mpd_model.specs.declared.expr.BinaryOp.TheVariants.{Or, And, Equal, NotEqual, Less, AtMost, Greater, AtLeast, Add, Subtract, Multiply, Divide, Remainder}
use Rattle.mpd_model.specs.declared.token.Symbol.TheVariants as m
use Rattle.mpd_model.specs.declared.token.Token.{Token}
use Rattle.mpd_model.specs.declared.token.Token.TheVariants.{Is}
use Rattle.mpd_model.specs.grammar.Canonical.{below, op_text}
use Rattle.mpd_model.specs.grammar.Costs.{price}
use Rattle.mpd_model.specs.grammar.Grammar.{operator_at}
use Rattle.mpd_model.specs.grammar.Tokens.{tokens_after, front, sign, word}
use Rattle.mpd_laws.proofs.cutting.Cuts.{Any, Spelled, fixed, IsOne, one, IsNone, nothing}

pub square_open : Spelled Any (IsOne (Is m.SquareOpen)) (codes "[")
unfolding tokens_after front sign
square_open = fixed (codes "[") (λ p l z. refl) (λ p l. one _ refl) refl

pub square_close : Spelled Any (IsOne (Is m.SquareClose)) (codes "]")
unfolding tokens_after front sign
square_close = fixed (codes "]") (λ p l z. refl) (λ p l. one _ refl) refl

pub round_open : Spelled Any (IsOne (Is m.RoundOpen)) (codes "(")
unfolding tokens_after front sign
round_open = fixed (codes "(") (λ p l z. refl) (λ p l. one _ refl) refl

pub round_close : Spelled Any (IsOne (Is m.RoundClose)) (codes ")")
unfolding tokens_after front sign
round_close = fixed (codes ")") (λ p l z. refl) (λ p l. one _ refl) refl

pub minus : Spelled Any (IsOne (Is m.Minus)) (codes "-")
unfolding tokens_after front sign
minus = fixed (codes "-") (λ p l z. refl) (λ p l. one _ refl) refl

-- ---- operators, with the spaces around them

abbrev pub op_token : BinaryOp → Token
op_token Or = Is m.Or
op_token And = Is m.And
op_token Equal = Is m.Equal
op_token NotEqual = Is m.NotEqual
op_token Less = Is m.Less
op_token AtMost = Is m.AtMost
op_token Greater = Is m.Greater
op_token AtLeast = Is m.AtLeast
op_token Add = Is m.Plus
op_token Subtract = Is m.Minus
op_token Multiply = Is m.Times
op_token Divide = Is m.Divide
op_token Remainder = Is m.Remainder

pub op_spelled : (op : BinaryOp) → Spelled Any (IsOne (op_token op)) (op_text op)
unfolding tokens_after front sign
op_spelled Or = fixed (codes " || ") (λ p l z. refl) (λ p l. one _ refl) refl
op_spelled And = fixed (codes " && ") (λ p l z. refl) (λ p l. one _ refl) refl
op_spelled Equal = fixed (codes " == ") (λ p l z. refl) (λ p l. one _ refl) refl
op_spelled NotEqual = fixed (codes " != ") (λ p l z. refl) (λ p l. one _ refl) refl
op_spelled Less = fixed (codes " < ") (λ p l z. refl) (λ p l. one _ refl) refl
op_spelled AtMost = fixed (codes " <= ") (λ p l z. refl) (λ p l. one _ refl) refl
op_spelled Greater = fixed (codes " > ") (λ p l z. refl) (λ p l. one _ refl) refl
op_spelled AtLeast = fixed (codes " >= ") (λ p l z. refl) (λ p l. one _ refl) refl
op_spelled Add = fixed (codes " + ") (λ p l z. refl) (λ p l. one _ refl) refl
op_spelled Subtract = fixed (codes " - ") (λ p l z. refl) (λ p l. one _ refl) refl
op_spelled Multiply = fixed (codes " * ") (λ p l z. refl) (λ p l. one _ refl) refl
op_spelled Divide = fixed (codes " / ") (λ p l z. refl) (λ p l. one _ refl) refl
op_spelled Remainder = fixed (codes " % ") (λ p l z. refl) (λ p l. one _ refl) refl

pub op_level : (op : BinaryOp) → operator_at (suc (below op)) (op_token op) ≡ Some op
op_level Or = refl
op_level And = refl
op_level Equal = refl
op_level NotEqual = refl
op_level Less = refl
op_level AtMost = refl
op_level Greater = refl
op_level AtLeast = refl
op_level Add = refl
op_level Subtract = refl
op_level Multiply = refl
op_level Divide = refl
op_level Remainder = refl

pub op_price : (op : BinaryOp) → price (op_token op) ≡ 1
op_price Or = refl
op_price And = refl
op_price Equal = refl
op_price NotEqual = refl
op_price Less = refl
op_price AtMost = refl
op_price Greater = refl
op_price AtLeast = refl
op_price Add = refl
op_price Subtract = refl
op_price Multiply = refl
op_price Divide = refl
op_price Remainder = refl

-- ---- words and signs of statements

pub if_word : Spelled Any (IsOne (Is m.If)) (codes "if ")
unfolding tokens_after front sign word
if_word = fixed (codes "if ") (λ p l z. refl) (λ p l. one _ refl) refl

pub while_word : Spelled Any (IsOne (Is m.While)) (codes "while ")
unfolding tokens_after front sign word
while_word = fixed (codes "while ") (λ p l z. refl) (λ p l. one _ refl) refl

pub end_sign : Spelled Any (IsOne (Is m.Semicolon)) (codes ";\n")
unfolding tokens_after front sign
end_sign = fixed (codes ";\n") (λ p l z. refl) (λ p l. one _ refl) refl

pub brace_open : Spelled Any (IsOne (Is m.BraceOpen)) (codes " {\n")
unfolding tokens_after front sign
brace_open = fixed (codes " {\n") (λ p l z. refl) (λ p l. one _ refl) refl

pub brace_close : Spelled Any (IsOne (Is m.BraceClose)) (codes "}")
unfolding tokens_after front sign
brace_close = fixed (codes "}") (λ p l z. refl) (λ p l. one _ refl) refl

pub brace_end : Spelled Any (IsOne (Is m.BraceClose)) (codes "}\n")
unfolding tokens_after front sign
brace_end = fixed (codes "}\n") (λ p l z. refl) (λ p l. one _ refl) refl

pub else_word : Spelled Any (IsOne (Is m.Else)) (codes " else ")
unfolding tokens_after front sign word
else_word = fixed (codes " else ") (λ p l z. refl) (λ p l. one _ refl) refl

pub brace_behind : Spelled Any (IsOne (Is m.BraceOpen)) (codes "{\n")
unfolding tokens_after front sign
brace_behind = fixed (codes "{\n") (λ p l z. refl) (λ p l. one _ refl) refl

pub line_end : Spelled Any IsNone (codes "\n")
unfolding tokens_after
line_end = fixed (codes "\n") (λ p l z. refl) (λ p l. nothing) refl

pub two_spaces : Spelled Any IsNone (codes "  ")
unfolding tokens_after
two_spaces = fixed (codes "  ") (λ p l z. refl) (λ p l. nothing) refl
