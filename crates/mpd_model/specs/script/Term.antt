-- An expression and its value.
use Rattle.std.specs.Prelude.{ℕ, ◌+◌, ℤ, pos, negsuc, ◌+ℤ◌, ◌-ℤ◌, ◌*ℤ◌, neg_ℤ, int_lt, int_le, int_div, int_rem, Bool, false, ◌&&◌, ◌||◌, ◌==◌, nat_lt, List, slice_index_or, if◌then◌else◌, not, Option, Some, None, Result, Ok, Err}
use Rattle.std.specs.Ordering.{int_eq}
use Rattle.mpd_model.specs.declared.expr.BinaryOp.{BinaryOp}
use Rattle.mpd_model.specs.declared.expr.BinaryOp.TheVariants.{Or, And, Equal, NotEqual, Less, AtMost, Greater, AtLeast, Add, Subtract, Multiply, Divide, Remainder}
use Rattle.mpd_model.specs.declared.expr.UnaryOp.{UnaryOp}
use Rattle.mpd_model.specs.declared.expr.UnaryOp.TheVariants.{Negate, Not}
use Rattle.mpd_model.specs.declared.place.Place.{Place}
use Rattle.mpd_model.specs.declared.call.Trap.{Trap}
use Rattle.mpd_model.specs.declared.call.Trap.TheVariants.{Overflow, ZeroDivisor, BadIndex}

pub data Term : Type 0 where
  lit : ℤ → Term
  own_rank : Term
  size : Term
  -- a variable that is no array, and an array at an index
  cell : Place → Term
  element : Place → Term → Term
  op1 : UnaryOp → Term → Term
  op2 : BinaryOp → Term → Term → Term

abbrev pub nodes : Term → ℕ
nodes (lit z) = 1
nodes own_rank = 1
nodes size = 1
nodes (cell p) = 1
nodes (element p a) = nodes a + 1
nodes (op1 op a) = nodes a + 1
nodes (op2 op a b) = nodes a + nodes b + 1

-- a place that a statement writes: an array has an index
pub record Target : Type 0 where
  pub place : Place
  pub index : Option Term

-- what an evaluation gives: a number, or the trap that ended it
abbrev pub Value : Type 0
Value = Result ℤ Trap

abbrev pub then_value : Value → (ℤ → Value) → Value
then_value (Ok z) f = f z
then_value (Err t) f = Err t

abbrev pub and_then : {A B : Type 0} → Result A Trap → (A → Result B Trap) → Result B Trap
and_then (Ok a) f = f a
and_then (Err t) f = Err t

-- true is 1 and false is 0; zero is false, and all else is true
abbrev pub truth : Bool → ℤ
truth b = if b then pos 1 else pos 0

abbrev pub is_zero : ℤ → Bool
is_zero (pos k) = k == 0
is_zero (negsuc k) = false

-- ---- arithmetic on 64 bits with a sign

abbrev pub is_whole : ℤ → Bool
is_whole (pos n) = nat_lt n 9223372036854775808
is_whole (negsuc n) = nat_lt n 9223372036854775808

abbrev pub bounded : ℤ → Value
bounded z = if is_whole z then Ok z else Err Overflow

-- A quotient is rounded toward zero, and a remainder has the sign of the dividend. Either is refused where the quotient is out of range.
abbrev pub division : ℤ → ℤ → ℤ → Value
division x y z = if is_zero y then Err ZeroDivisor else (if is_whole (int_div x y) then Ok z else Err Overflow)

abbrev pub combined : BinaryOp → ℤ → ℤ → Value
combined Or x y = Ok (truth (not (is_zero x) || not (is_zero y)))
combined And x y = Ok (truth (not (is_zero x) && not (is_zero y)))
combined Equal x y = Ok (truth (int_eq x y))
combined NotEqual x y = Ok (truth (not (int_eq x y)))
combined Less x y = Ok (truth (int_lt x y))
combined AtMost x y = Ok (truth (int_le x y))
combined Greater x y = Ok (truth (int_lt y x))
combined AtLeast x y = Ok (truth (int_le y x))
combined Add x y = bounded (x +ℤ y)
combined Subtract x y = bounded (x -ℤ y)
combined Multiply x y = bounded (x *ℤ y)
combined Divide x y = division x y (int_div x y)
combined Remainder x y = division x y (int_rem x y)

abbrev pub altered : UnaryOp → ℤ → Value
altered Negate x = bounded (neg_ℤ x)
altered Not x = Ok (truth (is_zero x))

-- what the left side of `||` or `&&` decides alone: the right side is then not evaluated
abbrev pub decided : BinaryOp → ℤ → Option ℤ
decided Or x = if is_zero x then None else Some (pos 1)
decided And x = if is_zero x then Some (pos 0) else None
decided _ x = None

abbrev pub unless_decided : Option ℤ → Value → Value
unless_decided (Some z) v = Ok z
unless_decided None v = v

-- ---- ranges

-- a number below the bound
abbrev pub within : ℤ → ℕ → Trap → Result ℕ Trap
within (pos k) n t = if nat_lt k n then Ok k else Err t
within (negsuc k) n t = Err t

abbrev pub checked : Value → ℕ → Trap → Result ℕ Trap
checked (Ok z) n t = within z n t
checked (Err e) n t = Err e

-- ---- values

-- what a statement is evaluated in: the variables and the handles of a rank, the number of the rank, and how many ranks there are
pub record Env : Type 0 where
  pub vars : List ℤ
  -- the call that each handle has, if any
  pub handles : List (Option ℕ)
  pub rank : ℕ
  pub size : ℕ

-- the value of an expression: its parts are evaluated from left to right, and an index is checked as it is evaluated
abbrev pub value_of : Term → Env → Value
value_of (lit z) env = Ok z
value_of own_rank env = Ok (pos env.rank)
value_of size env = Ok (pos env.size)
value_of (cell at) env = Ok (slice_index_or env.vars at.first (pos 0))
value_of (element at index) env = and_then (checked (value_of index env) at.cells BadIndex) (λ i. Ok (slice_index_or env.vars (at.first + i) (pos 0)))
value_of (op1 op a) env = then_value (value_of a env) (altered op)
value_of (op2 op a b) env = then_value (value_of a env) (λ x. unless_decided (decided op x) (then_value (value_of b env) (combined op x)))

-- the cell that a target is
abbrev pub cell_at : Place → Option Term → Env → Result ℕ Trap
cell_at at None env = Ok at.first
cell_at at (Some index) env = and_then (checked (value_of index env) at.cells BadIndex) (λ i. Ok (at.first + i))

abbrev pub target_cell : Target → Env → Result ℕ Trap
target_cell t = cell_at t.place t.index
