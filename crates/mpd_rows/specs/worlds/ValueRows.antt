-- Worked rows of values: what expressions give, and how they trap, each beside what was worked out by hand.
use Rattle.std.specs.Prelude.{◌≡◌, ℕ, ℤ, pos, negsuc, map, List, [], ◌∷◌, Some, None, Result, Ok, Err, codes, refl}
use Rattle.mpd_model.specs.declared.expr.BinaryOp.TheVariants.{Or, And, Equal, NotEqual, Less, AtMost, Greater, AtLeast, Add, Subtract, Multiply, Divide, Remainder}
use Rattle.mpd_model.specs.declared.expr.UnaryOp.TheVariants.{Negate, Not}
use Rattle.mpd_model.specs.declared.place.Place.{Place}
use Rattle.mpd_model.specs.declared.call.Trap.{Trap}
use Rattle.mpd_model.specs.declared.call.Trap.TheVariants.{Overflow, ZeroDivisor, BadRank, BadTag, BadIndex, Assertion}
use Rattle.mpd_model.specs.script.Term.{Term, lit, own_rank, size, cell, element, op1, op2, Target, Value, Env, value_of, target_cell}
use Rattle.mpd_model.specs.texts.Texts.{trap_name}

-- `var x; var a[3]; var one[1]; var none[0];`
abbrev x : Place
x = record { declaration = 0; first = 0; cells = 1 }

abbrev a : Place
a = record { declaration = 1; first = 1; cells = 3 }

abbrev one : Place
one = record { declaration = 2; first = 4; cells = 1 }

abbrev none : Place
none = record { declaration = 3; first = 5; cells = 0 }

-- x is 2, a is 10 20 30, and the cell of `one` is -40
abbrev cells : List ℤ
cells = pos 2 ∷ pos 10 ∷ pos 20 ∷ pos 30 ∷ negsuc 39 ∷ []

-- on rank 1 of 3
abbrev env : Env
env = record { vars = cells; handles = []; rank = 1; size = 3 }

abbrev value : Term → Value
value t = value_of t env

abbrev n : ℕ → Term
n k = lit (pos k)

-- a number with a minus before it
abbrev m : ℕ → Term
m k = op1 Negate (lit (pos k))

abbrev largest : Term
largest = n 9223372036854775807

-- `-9223372036854775807 - 1`: no number can be written that is as small
abbrev smallest : Term
smallest = op2 Subtract (m 9223372036854775807) (n 1)

abbrev over_zero : Term
over_zero = op2 Divide (n 1) (n 0)

-- what is worked out: a number, a number below zero, or a trap
abbrev is : ℕ → Value
is k = Ok (pos k)

-- `below k` is -1 - k
abbrev below : ℕ → Value
below k = Ok (negsuc k)

abbrev traps : Trap → Value
traps t = Err t

-- an expression, and its value
abbrev Table : Type 0
Table = List (Term × Value)

abbrev found : Table → List Value
found table = map {B = Value} (λ r. value r.0) table

abbrev wanted : Table → List Value
wanted table = map {B = Value} (λ r. r.1) table

-- ---- four examples

pub row_right_side_left : value (op2 Or (n 1) over_zero) ≡ is 1
row_right_side_left = refl

pub row_toward_zero : value (op2 Divide (m 7) (n 2)) ≡ below 2
row_toward_zero = refl

pub row_sign_of_dividend : value (op2 Remainder (m 7) (n 2)) ≡ below 0
row_sign_of_dividend = refl

pub row_over_zero : value over_zero ≡ traps ZeroDivisor
row_over_zero = refl

-- ---- atoms

abbrev atoms : Table
atoms =
    (n 0, is 0) ∷ (largest, is 9223372036854775807) ∷ (own_rank, is 1) ∷ (size, is 3) ∷ (cell x, is 2)
    ∷ (smallest, below 9223372036854775807) ∷ []

pub row_atoms : found atoms ≡ wanted atoms
row_atoms = refl

-- ---- comparisons: each with its left side less, equal and greater

abbrev comparisons : Table
comparisons =
    (op2 Equal (n 4) (n 5), is 0) ∷ (op2 Equal (n 5) (n 5), is 1) ∷ (op2 Equal (n 6) (n 5), is 0)
    ∷ (op2 NotEqual (n 4) (n 5), is 1) ∷ (op2 NotEqual (n 5) (n 5), is 0) ∷ (op2 NotEqual (n 6) (n 5), is 1)
    ∷ (op2 Less (n 4) (n 5), is 1) ∷ (op2 Less (n 5) (n 5), is 0) ∷ (op2 Less (n 6) (n 5), is 0)
    ∷ (op2 AtMost (n 4) (n 5), is 1) ∷ (op2 AtMost (n 5) (n 5), is 1) ∷ (op2 AtMost (n 6) (n 5), is 0)
    ∷ (op2 Greater (n 4) (n 5), is 0) ∷ (op2 Greater (n 5) (n 5), is 0) ∷ (op2 Greater (n 6) (n 5), is 1)
    ∷ (op2 AtLeast (n 4) (n 5), is 0) ∷ (op2 AtLeast (n 5) (n 5), is 1) ∷ (op2 AtLeast (n 6) (n 5), is 1) ∷ []

pub row_comparisons : found comparisons ≡ wanted comparisons
row_comparisons = refl

-- below zero the larger number is nearer to it, and no comparison overflows
abbrev signed_comparisons : Table
signed_comparisons =
    (op2 Less (m 1) (n 0), is 1) ∷ (op2 Less (m 2) (m 1), is 1) ∷ (op2 Less (m 1) (m 2), is 0) ∷ (op2 Less (n 0) (m 1), is 0)
    ∷ (op2 Greater (m 1) (m 2), is 1) ∷ (op2 AtMost (m 2) (m 2), is 1) ∷ (op2 AtLeast (m 1) (n 1), is 0) ∷ (op2 AtMost (m 3) (m 4), is 0)
    ∷ (op2 Equal (m 1) (n 1), is 0) ∷ (op2 Equal (m 1) (m 1), is 1) ∷ (op2 NotEqual (m 1) (n 1), is 1) ∷ (op2 Equal (m 0) (n 0), is 1)
    ∷ (op2 Less smallest largest, is 1) ∷ (op2 Greater smallest largest, is 0) ∷ (op2 Equal smallest smallest, is 1) ∷ (op2 AtLeast largest smallest, is 1) ∷ []

pub row_signed_comparisons : found signed_comparisons ≡ wanted signed_comparisons
row_signed_comparisons = refl

-- ---- truth values: zero is false, all else is true, and what comes out is 0 or 1

abbrev truths : Table
truths =
    (op1 Not (n 0), is 1) ∷ (op1 Not (n 1), is 0) ∷ (op1 Not (n 5), is 0) ∷ (op1 Not (m 1), is 0) ∷ (op1 Not smallest, is 0)
    ∷ (op1 Not (op1 Not (n 5)), is 1) ∷ (op1 Not (op1 Not (n 0)), is 0) ∷ (op1 Not (m 0), is 1)
    ∷ (op2 And (n 0) (n 0), is 0) ∷ (op2 And (n 0) (n 5), is 0) ∷ (op2 And (n 5) (n 0), is 0) ∷ (op2 And (n 5) (m 2), is 1) ∷ (op2 And (m 2) (n 7), is 1)
    ∷ (op2 Or (n 0) (n 0), is 0) ∷ (op2 Or (n 0) (n 5), is 1) ∷ (op2 Or (n 5) (n 0), is 1) ∷ (op2 Or (m 5) (n 2), is 1) ∷ (op2 Or (n 0) (m 1), is 1) ∷ []

pub row_truths : found truths ≡ wanted truths
row_truths = refl

-- `&&` and `||` leave their right side where the left decides, and only there; the left side is always evaluated
abbrev left_out : Table
left_out =
    (op2 And (n 0) over_zero, is 0) ∷ (op2 And (n 1) over_zero, traps ZeroDivisor) ∷ (op2 And (m 1) over_zero, traps ZeroDivisor)
    ∷ (op2 Or (m 1) over_zero, is 1) ∷ (op2 Or (n 7) over_zero, is 1) ∷ (op2 Or (n 0) over_zero, traps ZeroDivisor)
    ∷ (op2 And over_zero (n 0), traps ZeroDivisor) ∷ (op2 Or over_zero (n 1), traps ZeroDivisor)
    ∷ (op2 Or (op2 And (n 0) over_zero) (n 3), is 1) ∷ (op2 Or (n 1) (op2 And (n 1) over_zero), is 1) ∷ (op2 And (op2 Or (n 1) over_zero) over_zero, traps ZeroDivisor)
    ∷ (op2 Or (n 1) (element a (n 3)), is 1) ∷ (op2 And (n 0) (op2 Add largest (n 1)), is 0) ∷ []

pub row_left_out : found left_out ≡ wanted left_out
row_left_out = refl

-- every other operator evaluates both sides, the left one first
abbrev both_sides : Table
both_sides =
    (op2 Multiply (n 0) over_zero, traps ZeroDivisor) ∷ (op2 Equal (n 0) over_zero, traps ZeroDivisor) ∷ (op2 Less (n 0) over_zero, traps ZeroDivisor)
    ∷ (op2 Add (op2 Add largest (n 1)) over_zero, traps Overflow) ∷ (op2 Add over_zero (op2 Add largest (n 1)), traps ZeroDivisor)
    ∷ (op2 Subtract (element a (n 3)) over_zero, traps BadIndex) ∷ (op2 Greater over_zero (element a (n 3)), traps ZeroDivisor)
    ∷ (op2 Divide over_zero (n 0), traps ZeroDivisor) ∷ (op2 Divide (element a (n 9)) (n 0), traps BadIndex)
    ∷ (op1 Negate over_zero, traps ZeroDivisor) ∷ (op1 Not over_zero, traps ZeroDivisor) ∷ []

pub row_both_sides : found both_sides ≡ wanted both_sides
row_both_sides = refl

-- ---- quotients and remainders

abbrev quotients : Table
quotients =
    (op2 Divide (n 7) (n 2), is 3) ∷ (op2 Divide (m 7) (n 2), below 2) ∷ (op2 Divide (n 7) (m 2), below 2) ∷ (op2 Divide (m 7) (m 2), is 3)
    ∷ (op2 Divide (n 6) (n 2), is 3) ∷ (op2 Divide (m 6) (n 2), below 2) ∷ (op2 Divide (n 6) (m 2), below 2) ∷ (op2 Divide (m 6) (m 2), is 3)
    ∷ (op2 Divide (n 1) (n 2), is 0) ∷ (op2 Divide (m 1) (n 2), is 0) ∷ (op2 Divide (n 1) (m 2), is 0) ∷ (op2 Divide (m 1) (m 2), is 0)
    ∷ (op2 Divide (n 0) (n 5), is 0) ∷ (op2 Divide (n 0) (m 5), is 0) ∷ (op2 Divide (n 7) (n 7), is 1) ∷ (op2 Divide (n 7) (m 7), below 0)
    ∷ (op2 Divide largest (n 1), is 9223372036854775807) ∷ (op2 Divide largest (m 1), below 9223372036854775806)
    ∷ (op2 Divide smallest (n 1), below 9223372036854775807) ∷ (op2 Divide smallest (n 2), below 4611686018427387903)
    ∷ (op2 Divide smallest smallest, is 1) ∷ (op2 Divide smallest largest, below 0) ∷ (op2 Divide largest smallest, is 0) ∷ []

pub row_quotients : found quotients ≡ wanted quotients
row_quotients = refl

abbrev remainders : Table
remainders =
    (op2 Remainder (n 7) (n 2), is 1) ∷ (op2 Remainder (m 7) (n 2), below 0) ∷ (op2 Remainder (n 7) (m 2), is 1) ∷ (op2 Remainder (m 7) (m 2), below 0)
    ∷ (op2 Remainder (n 6) (n 2), is 0) ∷ (op2 Remainder (m 6) (n 2), is 0) ∷ (op2 Remainder (n 6) (m 2), is 0) ∷ (op2 Remainder (m 6) (m 2), is 0)
    ∷ (op2 Remainder (n 3) (n 5), is 3) ∷ (op2 Remainder (m 3) (n 5), below 2) ∷ (op2 Remainder (n 3) (m 5), is 3) ∷ (op2 Remainder (m 3) (m 5), below 2)
    ∷ (op2 Remainder (n 0) (n 5), is 0) ∷ (op2 Remainder (n 5) (n 1), is 0) ∷ (op2 Remainder (n 5) (m 1), is 0)
    ∷ (op2 Remainder largest (n 2), is 1) ∷ (op2 Remainder largest (m 1), is 0) ∷ (op2 Remainder largest smallest, is 9223372036854775807)
    ∷ (op2 Remainder smallest (n 1), is 0) ∷ (op2 Remainder smallest (n 3), below 1) ∷ (op2 Remainder smallest largest, below 0) ∷ (op2 Remainder smallest smallest, is 0) ∷ []

pub row_remainders : found remainders ≡ wanted remainders
row_remainders = refl

abbrev zero_divisors : Table
zero_divisors =
    (op2 Divide (n 0) (n 0), traps ZeroDivisor) ∷ (op2 Divide (m 1) (n 0), traps ZeroDivisor) ∷ (op2 Divide smallest (n 0), traps ZeroDivisor)
    ∷ (op2 Remainder (n 1) (n 0), traps ZeroDivisor) ∷ (op2 Remainder (n 0) (n 0), traps ZeroDivisor) ∷ (op2 Remainder smallest (n 0), traps ZeroDivisor)
    ∷ (op2 Divide (n 1) (m 0), traps ZeroDivisor) ∷ (op2 Remainder (n 1) (op2 Subtract (n 1) (n 1)), traps ZeroDivisor) ∷ []

pub row_zero_divisors : found zero_divisors ≡ wanted zero_divisors
row_zero_divisors = refl

-- ---- overflow, and the values next to it

abbrev sums : Table
sums =
    (op2 Add (n 2) (n 3), is 5) ∷ (op2 Add (n 2) (m 3), below 0) ∷ (op2 Add (m 2) (m 3), below 4)
    ∷ (op2 Add largest (n 0), is 9223372036854775807) ∷ (op2 Add largest (n 1), traps Overflow) ∷ (op2 Add (n 1) largest, traps Overflow)
    ∷ (op2 Add (n 9223372036854775806) (n 1), is 9223372036854775807) ∷ (op2 Add largest largest, traps Overflow)
    ∷ (op2 Add smallest (n 0), below 9223372036854775807) ∷ (op2 Add smallest (m 1), traps Overflow) ∷ (op2 Add (m 1) smallest, traps Overflow)
    ∷ (op2 Add (m 9223372036854775807) (m 1), below 9223372036854775807) ∷ (op2 Add smallest smallest, traps Overflow)
    ∷ (op2 Add smallest largest, below 0) ∷ (op2 Add largest smallest, below 0) ∷ []

pub row_sums : found sums ≡ wanted sums
row_sums = refl

abbrev differences : Table
differences =
    (op2 Subtract (n 2) (n 3), below 0) ∷ (op2 Subtract (n 3) (n 2), is 1) ∷ (op2 Subtract (m 2) (m 3), is 1) ∷ (op2 Subtract (n 2) (m 3), is 5)
    ∷ (op2 Subtract smallest (n 1), traps Overflow) ∷ (op2 Subtract (m 9223372036854775807) (n 2), traps Overflow) ∷ (op2 Subtract smallest (m 1), below 9223372036854775806)
    ∷ (op2 Subtract largest (m 1), traps Overflow) ∷ (op2 Subtract (n 9223372036854775806) (m 1), is 9223372036854775807)
    ∷ (op2 Subtract (n 0) smallest, traps Overflow) ∷ (op2 Subtract (m 1) smallest, is 9223372036854775807)
    ∷ (op2 Subtract (m 1) largest, below 9223372036854775807) ∷ (op2 Subtract (m 2) largest, traps Overflow)
    ∷ (op2 Subtract smallest smallest, is 0) ∷ (op2 Subtract largest smallest, traps Overflow) ∷ (op2 Subtract largest largest, is 0) ∷ []

pub row_differences : found differences ≡ wanted differences
row_differences = refl

-- 3037000499 is the largest number whose square is in range
abbrev products : Table
products =
    (op2 Multiply (n 6) (n 7), is 42) ∷ (op2 Multiply (m 6) (n 7), below 41) ∷ (op2 Multiply (n 6) (m 7), below 41) ∷ (op2 Multiply (m 6) (m 7), is 42)
    ∷ (op2 Multiply (n 0) smallest, is 0) ∷ (op2 Multiply (m 1) (n 0), is 0)
    ∷ (op2 Multiply largest (n 1), is 9223372036854775807) ∷ (op2 Multiply largest (m 1), below 9223372036854775806) ∷ (op2 Multiply largest (n 2), traps Overflow)
    ∷ (op2 Multiply smallest (n 1), below 9223372036854775807) ∷ (op2 Multiply smallest (m 1), traps Overflow) ∷ (op2 Multiply (m 1) smallest, traps Overflow)
    ∷ (op2 Multiply (n 4294967296) (n 2147483647), is 9223372032559808512) ∷ (op2 Multiply (n 4294967296) (n 2147483648), traps Overflow)
    ∷ (op2 Multiply (n 4294967296) (m 2147483648), below 9223372036854775807) ∷ (op2 Multiply (n 4294967296) (m 2147483649), traps Overflow)
    ∷ (op2 Multiply (m 4294967296) (m 2147483648), traps Overflow)
    ∷ (op2 Multiply (n 3037000499) (n 3037000499), is 9223372030926249001) ∷ (op2 Multiply (n 3037000500) (n 3037000500), traps Overflow) ∷ []

pub row_products : found products ≡ wanted products
row_products = refl

-- the smallest number has no negation, and its quotient and remainder by -1 are refused
abbrev negations : Table
negations =
    (op1 Negate (n 0), is 0) ∷ (op1 Negate (n 1), below 0) ∷ (op1 Negate (m 1), is 1)
    ∷ (op1 Negate largest, below 9223372036854775806) ∷ (op1 Negate (m 9223372036854775807), is 9223372036854775807)
    ∷ (op1 Negate smallest, traps Overflow) ∷ (op1 Negate (op2 Add smallest (n 1)), is 9223372036854775807) ∷ (op1 Negate (op1 Negate smallest), traps Overflow)
    ∷ (op2 Divide smallest (m 1), traps Overflow) ∷ (op2 Remainder smallest (m 1), traps Overflow)
    ∷ (op2 Divide (op2 Add smallest (n 1)) (m 1), is 9223372036854775807) ∷ (op2 Remainder (op2 Add smallest (n 1)) (m 1), is 0)
    ∷ (op2 Divide smallest (m 2), is 4611686018427387904) ∷ (op2 Remainder smallest (m 2), is 0) ∷ []

pub row_negations : found negations ≡ wanted negations
row_negations = refl

-- each step is in range, and not only the last
abbrev on_the_way : Table
on_the_way =
    (op2 Subtract (op2 Add largest (n 1)) (n 1), traps Overflow) ∷ (op2 Add (op2 Subtract largest (n 1)) (n 1), is 9223372036854775807)
    ∷ (op2 Divide (op2 Multiply largest (n 2)) (n 2), traps Overflow) ∷ (op2 Multiply (n 0) (op2 Add largest (n 1)), traps Overflow) ∷ []

pub row_on_the_way : found on_the_way ≡ wanted on_the_way
row_on_the_way = refl

-- ---- indexes

abbrev indexes : Table
indexes =
    (element a (n 0), is 10) ∷ (element a (n 1), is 20) ∷ (element a (n 2), is 30) ∷ (element a (n 3), traps BadIndex) ∷ (element a (n 4), traps BadIndex)
    ∷ (element a (m 0), is 10) ∷ (element a (m 1), traps BadIndex) ∷ (element a (m 3), traps BadIndex) ∷ (element a largest, traps BadIndex) ∷ (element a smallest, traps BadIndex)
    ∷ (element one (n 0), below 39) ∷ (element one (n 1), traps BadIndex) ∷ (element one (m 1), traps BadIndex)
    ∷ (element none (n 0), traps BadIndex) ∷ (element none (n 1), traps BadIndex) ∷ (element none (m 1), traps BadIndex) ∷ []

pub row_indexes : found indexes ≡ wanted indexes
row_indexes = refl

-- an index is an expression, checked as it is evaluated
abbrev computed_indexes : Table
computed_indexes =
    (element a (cell x), is 30) ∷ (element a own_rank, is 20) ∷ (element a size, traps BadIndex) ∷ (element a (op2 Subtract (cell x) (n 2)), is 10)
    ∷ (element a (op2 Divide (element a (n 0)) (n 10)), is 20) ∷ (element a (element a (n 0)), traps BadIndex) ∷ (element a (element one (n 0)), traps BadIndex)
    ∷ (element a (op2 Divide (element a (op2 Divide (element a (n 1)) (n 10))) (n 30)), is 20)
    ∷ (element a over_zero, traps ZeroDivisor) ∷ (element none over_zero, traps ZeroDivisor) ∷ (element a (op2 Divide (element a (n 3)) (n 0)), traps BadIndex)
    ∷ (element a (op2 Add largest (n 1)), traps Overflow)
    ∷ (op2 Add (element a (n 3)) over_zero, traps BadIndex) ∷ (op2 Add over_zero (element a (n 3)), traps ZeroDivisor) ∷ (op2 Add (element a (n 0)) (element a (n 2)), is 40) ∷ []

pub row_computed_indexes : found computed_indexes ≡ wanted computed_indexes
row_computed_indexes = refl

-- ---- the cells that targets are

abbrev targets : List (Target × Result ℕ Trap)
targets =
    (record { place = x; index = None }, Ok 0) ∷ (record { place = a; index = Some (n 0) }, Ok 1) ∷ (record { place = a; index = Some (cell x) }, Ok 3)
    ∷ (record { place = one; index = Some (n 0) }, Ok 4) ∷ (record { place = a; index = Some (n 3) }, Err BadIndex) ∷ (record { place = a; index = Some (m 1) }, Err BadIndex)
    ∷ (record { place = none; index = Some (n 0) }, Err BadIndex) ∷ (record { place = a; index = Some over_zero }, Err ZeroDivisor) ∷ []

pub row_targets : map {B = Result ℕ Trap} (λ r. target_cell r.0 env) targets ≡ map {B = Result ℕ Trap} (λ r. r.1) targets
row_targets = refl

-- ---- names

pub row_trap_names : map {B = List ℕ} trap_name (Overflow ∷ ZeroDivisor ∷ BadRank ∷ BadTag ∷ BadIndex ∷ Assertion ∷ [])
    ≡ codes "overflow" ∷ codes "zero-divisor" ∷ codes "bad-rank" ∷ codes "bad-tag" ∷ codes "bad-index" ∷ codes "assert" ∷ []
row_trap_names = refl
