-- Lists, and how many moments made them.
use Rattle.std.specs.Prelude.{ℕ, List}

pub record History : Type 0 where
  pub lists : List (List ℕ)
  pub length : ℕ
