-- Comparisons of a value with a number, and their operators.
use Rattle.std.specs.Prelude.{ℕ, ℤ, int_lt, int_le, Bool, not, bytes_eq, if◌then◌else◌, List, Option, Some, None, codes}
use Rattle.std.specs.Ordering.{int_eq}
use Rattle.mpd_model.specs.declared.comparison.Comparison.{Comparison}
use Rattle.mpd_model.specs.declared.comparison.Comparison.TheVariants.{Equal, NotEqual, Less, AtMost, Greater, AtLeast}

-- the operator as scripts write it
abbrev pub text_of : Comparison → List ℕ
text_of Equal = codes "=="
text_of NotEqual = codes "!="
text_of Less = codes "<"
text_of AtMost = codes "<="
text_of Greater = codes ">"
text_of AtLeast = codes ">="

-- whether it holds of a value and a number
abbrev pub holds : Comparison → ℤ → ℤ → Bool
holds Equal x y = int_eq x y
holds NotEqual x y = not (int_eq x y)
holds Less x y = int_lt x y
holds AtMost x y = int_le x y
holds Greater x y = int_lt y x
holds AtLeast x y = int_le y x

-- the comparison whose operator this is, if it is one's
abbrev pub comparison_of : List ℕ → Option Comparison
comparison_of z =
    if bytes_eq z (codes "==") then Some Equal
    else (if bytes_eq z (codes "!=") then Some NotEqual
    else (if bytes_eq z (codes "<") then Some Less
    else (if bytes_eq z (codes "<=") then Some AtMost
    else (if bytes_eq z (codes ">") then Some Greater
    else (if bytes_eq z (codes ">=") then Some AtLeast else None)))))
