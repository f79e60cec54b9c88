-- The states of several runs: two runs share the states of the steps that they begin with (docs/PAGES.md, "States").
use Rattle.std.specs.Prelude.{ℕ, ◌+◌, ◌&&◌, ◌==◌, Bool, true, false, nat_le, List, [], ◌∷◌, ◌++◌, length, drop, Option, Some, None}
use Rattle.std.specs.Option.{option_map}
use Rattle.std.specs.List.{list_any, position}
use Rattle.mpd_model.specs.declared.step.Step.{Step}
use Rattle.mpd_model.specs.script.Program.{Program}
use Rattle.mpd_model.specs.steps.World.{World}
use Rattle.mpd_model.specs.steps.Next.{next}
use Rattle.mpd_model.specs.runs.Trail.{step_eq}
use Rattle.mpd_page.specs.declared.tree.Branch.{Branch}
use Rattle.mpd_page.specs.declared.tree.TheConstants.{STATES_MAX}
use Rattle.mpd_page.specs.declared.walk.Walk.{Walk}
use Rattle.mpd_page.specs.declared.node.Node.{Node}
use Rattle.mpd_page.specs.Nodes.{node, first_node}

-- ---- the tree

-- The states but the start, which is number 0, stand in a list, the first of them as number 1: each by the state from which a step leads there.
abbrev pub branch : ℕ → Step → Branch
branch at a = record { from = at; step = a }

abbrev pub is_branch : ℕ → Step → Branch → Bool
is_branch at a b = b.from == at && step_eq b.step a

-- the number of the state to which a step leads from another, where it is there: it stands after that
abbrev pub child : List Branch → ℕ → Step → Option ℕ
child tree at a = option_map (λ i. at + i + 1) (position (is_branch at a) (drop at tree))

abbrev pub grown : List Branch → ℕ → Step → List Branch
grown tree at a = tree ++ branch at a ∷ []

-- that number, or the one of a new state
abbrev pub number_or : ℕ → Option ℕ → ℕ
number_or n None = n
number_or n (Some i) = i

-- the number of the state to which a step leads
abbrev pub number_there : List Branch → ℕ → Step → ℕ
number_there tree at a = number_or (length tree + 1) (child tree at a)

abbrev pub grown_if : List Branch → List Branch → Option ℕ → List Branch
grown_if tree more None = more
grown_if tree more (Some i) = tree

-- the tree with that state
abbrev pub tree_there : List Branch → ℕ → Step → List Branch
tree_there tree at a = grown_if tree (grown tree at a) (child tree at a)

-- the tree with the states of a run that it hasn't yet, from a state on
abbrev pub run_tree : List Branch → ℕ → List Step → List Branch
run_tree tree at [] = tree
run_tree tree at (a ∷ steps) = run_tree (tree_there tree at a) (number_there tree at a) steps

-- the number of the state in which the run ends
abbrev pub run_end : List Branch → ℕ → List Step → ℕ
run_end tree at [] = at
run_end tree at (a ∷ steps) = run_end (tree_there tree at a) (number_there tree at a) steps

abbrev pub runs_tree : List Branch → List (List Step) → List Branch
runs_tree tree [] = tree
runs_tree tree (run ∷ runs) = runs_tree (run_tree tree 0 run) runs

-- whether a page has that many states, the start among them
abbrev pub is_few : List Branch → Bool
is_few tree = nat_le (length tree + 1) STATES_MAX

-- ---- the states

abbrev pub has_some : List Step → Bool
has_some [] = false
has_some (a ∷ steps) = true

abbrev pub led : (World → List Node) → Option World → List Node
led behind None = []
led behind (Some w) = behind w

abbrev pub new_node : Program → Walk → ℕ → World → World → Step → Bool → List Node
new_node s walk at w v a more = node s walk at w v a more ∷ []

abbrev pub node_if : List Node → Option ℕ → List Node
node_if nodes None = nodes
node_if nodes (Some i) = []

-- a state, where it isn't there yet
abbrev pub node_there : Program → Walk → List Branch → ℕ → World → World → Step → Bool → List Node
node_there s walk tree at w v a more = node_if (new_node s walk at w v a more) (child tree at a)

-- the states of a run that the tree hasn't yet, from a state on, which is the one of a number
abbrev pub run_nodes : Program → Walk → List Branch → ℕ → World → List Step → List Node
run_nodes s walk tree at w [] = []
run_nodes s walk tree at w (a ∷ steps) = led (λ v. node_there s walk tree at w v a (has_some steps) ++ run_nodes s walk (tree_there tree at a) (number_there tree at a) v steps) (next w a)

abbrev pub runs_nodes : Program → Walk → World → List Branch → List (List Step) → List Node
runs_nodes s walk w tree [] = []
runs_nodes s walk w tree (run ∷ runs) = run_nodes s walk tree 0 w run ++ runs_nodes s walk w (run_tree tree 0 run) runs

-- the states of some runs from the start
abbrev pub nodes_of : Program → Walk → World → List (List Step) → List Node
nodes_of s walk w runs = first_node s walk w (list_any has_some runs) ∷ runs_nodes s walk w [] runs
