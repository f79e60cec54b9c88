-- What tapes and lists are to their callers.
use Rattle.std.specs.Prelude.{ℕ, List}

-- the items, how many more fit without memory, and how many writes there were
pub record TapeView (T : Type 0) : Type 0 where
  pub items : List T
  pub room : ℕ
  pub writes : ℕ

-- the lists, how many items have a cell (those below `room`), and how many links were written
pub record ListsView : Type 0 where
  pub lists : List (List ℕ)
  pub room : ℕ
  pub writes : ℕ
