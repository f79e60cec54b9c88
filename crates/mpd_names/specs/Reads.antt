-- What a statement reads, and what a rank holds in that.
use Rattle.std.specs.Prelude.{ℕ, Bool, false, ◌||◌, ◌==◌, List, [], ◌∷◌, Option, Some, None}
use Rattle.std.specs.List.{list_any}
use Rattle.mpd_model.specs.declared.stmt.Simple as stmt
use Rattle.mpd_model.specs.script.Term.{Term, lit, own_rank, size, cell, element, op1, op2}
use Rattle.mpd_model.specs.script.Parts.{Part, of_term, of_target, parts_of}
use Rattle.mpd_model.specs.script.Tree.{Tree, simple, branch, repeat}
use Rattle.mpd_model.specs.script.Program.{Program}
use Rattle.mpd_model.specs.steps.World.{RankWorld}
use Rattle.mpd_code.specs.declared.node.Action.{Action}
use Rattle.mpd_code.specs.declared.node.Action.TheVariants.{Simple, Branch, Repeat}
use Rattle.mpd_names.specs.declared.holding.Holding.{Holding}
use Rattle.mpd_names.specs.Held.{holdings_if}

-- whether the variable of declaration d stands in an expression
abbrev pub reads : ℕ → Term → Bool
reads d (lit z) = false
reads d own_rank = false
reads d size = false
reads d (cell at) = at.declaration == d
reads d (element at index) = (at.declaration == d) || reads d index
reads d (op1 op a) = reads d a
reads d (op2 op a b) = reads d a || reads d b

-- the same of one that may be left out
abbrev pub index_reads : ℕ → Option Term → Bool
index_reads d None = false
index_reads d (Some index) = reads d index

-- and of a part of a statement: of a place that stands in no expression the index alone is read
abbrev pub part_reads : ℕ → Part → Bool
part_reads d (of_term e) = reads d e
part_reads d (of_target kind t) = index_reads d t.index
part_reads d part = false

abbrev pub simple_reads : ℕ → stmt.Simple → Bool
simple_reads d s = list_any (part_reads d) (parts_of s)

-- Whether a statement reads it. An `if` and a `while` read what stands in their condition.
abbrev pub statement_reads : ℕ → Tree → Bool
statement_reads d (simple s) = simple_reads d s
statement_reads d (branch test first second) = reads d test
statement_reads d (repeat test body) = reads d test

-- and a node
abbrev pub action_reads : ℕ → Action → Bool
action_reads d (Simple s) = simple_reads d s
action_reads d (Branch test first second) = reads d test
action_reads d (Repeat test body) = reads d test

-- ---- what a rank holds in what is read

-- of what is left to run the first statement is the one that counts
abbrev pub reads_in : Program → Option RankWorld → List (ℕ × Tree) → List Holding
reads_in s r [] = []
reads_in s r (t ∷ ts) = holdings_if s r (λ d. statement_reads d t.1)

-- What a rank holds in the variables that its next statement reads, in the order of their declarations. A rank that is trapped has that
-- statement still before it, and holds what it held then.
abbrev pub reads_of : Program → Option RankWorld → List Holding
reads_of s None = []
reads_of s (Some r) = reads_in s (Some r) r.rest
