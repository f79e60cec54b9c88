-- How many rows and columns the parts of a screen have (docs/CONSOLE.md, "A view").
use Rattle.std.specs.Prelude.{ℕ, ◌-◌, ◌/◌, min, max}

-- how many rows the panes have, of so many, with so many ranks
abbrev pub pane_rows : ℕ → ℕ → ℕ
pane_rows rows ranks = min (rows - 6) (max ranks ((rows - 2) / 2))

-- how many lines stand above the panes, of a script of so many, about line `at`, in so many rows
abbrev pub above : ℕ → ℕ → ℕ → ℕ
above count at rows = min (at - 1 - rows / 2) (count - rows)
