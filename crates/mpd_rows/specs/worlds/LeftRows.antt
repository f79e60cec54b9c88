-- Rows of what is left to run.
use Rattle.std.specs.Prelude.{◌≡◌, [], ◌∷◌, pos, refl}
use Rattle.mpd_model.specs.script.Term.{lit}
use Rattle.mpd_model.specs.script.Tree.{Tree, branch, repeat, no_more, then_more}
use Rattle.mpd_model.specs.script.Program.{Program}
use Rattle.mpd_code.specs.Left.{left_at}
use Rattle.mpd_rows.specs.worlds.Statements.{print}

-- p1; while w { p2; if c { p3 } else { } } p4
abbrev p1 : Tree
p1 = print (lit (pos 1))

abbrev p2 : Tree
p2 = print (lit (pos 2))

abbrev p3 : Tree
p3 = print (lit (pos 3))

abbrev p4 : Tree
p4 = print (lit (pos 4))

abbrev test : Tree
test = branch (lit (pos 5)) (then_more p3 no_more) no_more

abbrev loop : Tree
loop = repeat (lit (pos 6)) (then_more p2 (then_more test no_more))

abbrev program : Program
program = record { version = 1; ranks = 1; decls = []; body = p1 ∷ loop ∷ p4 ∷ []; lines = 1 ∷ 2 ∷ 3 ∷ 4 ∷ 5 ∷ 6 ∷ [] }

-- at the start: the whole body
row_1 : left_at program 0 ≡ (0, p1) ∷ (1, loop) ∷ (5, p4) ∷ []
row_1 = refl

-- at the `while`: it and what is after it
row_2 : left_at program 1 ≡ (1, loop) ∷ (5, p4) ∷ []
row_2 = refl

-- in its body: what is left of the body, the `while` again, and what is after it
row_3 : left_at program 2 ≡ (2, p2) ∷ (3, test) ∷ (1, loop) ∷ (5, p4) ∷ []
row_3 = refl

row_4 : left_at program 3 ≡ (3, test) ∷ (1, loop) ∷ (5, p4) ∷ []
row_4 = refl

-- in a block of an `if` inside: after it what is after the `if`
row_5 : left_at program 4 ≡ (4, p3) ∷ (1, loop) ∷ (5, p4) ∷ []
row_5 = refl

row_6 : left_at program 5 ≡ (5, p4) ∷ []
row_6 = refl

-- at the end: nothing
row_7 : left_at program 6 ≡ []
row_7 = refl

-- a `while` with an empty body, and an `if` with two empty blocks
abbrev idle : Tree
idle = repeat (lit (pos 7)) no_more

abbrev choice : Tree
choice = branch (lit (pos 8)) no_more no_more

abbrev empties : Program
empties = record { version = 1; ranks = 1; decls = []; body = idle ∷ choice ∷ p1 ∷ []; lines = 1 ∷ 2 ∷ 3 ∷ [] }

row_8 : left_at empties 0 ≡ (0, idle) ∷ (1, choice) ∷ (2, p1) ∷ []
row_8 = refl

row_9 : left_at empties 1 ≡ (1, choice) ∷ (2, p1) ∷ []
row_9 = refl

row_10 : left_at empties 3 ≡ []
row_10 = refl
