-- A run along the tree, one step at a time.
use Rattle.std.proofs.Common.{◌≡◌, ℕ, ◌≤◌, ◌<◌, ◌+◌, ◌==◌, Bool, not, List, [], ◌∷◌, ◌++◌, length, Option, Some, None, refl, sym, ap, ◌∙◌, arith, append_assoc, append-nil}
use Rattle.std.proofs.lemmas.Bool.Decides.{nat_tests}
use Rattle.std.proofs.lemmas.List.{length-append}
use Rattle.std.specs.Option.{option_and_then}
use Rattle.mpd_model.specs.declared.step.Step.{Step}
use Rattle.mpd_model.specs.script.Program.{Program}
use Rattle.mpd_model.specs.steps.World.{World}
use Rattle.mpd_model.specs.steps.Next.{next, fold}
use Rattle.mpd_page.specs.declared.node.Node.{Node}
use Rattle.mpd_page.specs.declared.tree.Branch.{Branch}
use Rattle.mpd_page.specs.declared.tree.TheConstants.{STATES_MAX}
use Rattle.mpd_page.specs.declared.walk.Walk.{Walk}
use Rattle.mpd_page.specs.Trees.{branch, child, grown, grown_if, number_there, tree_there, run_end, run_tree, has_some, led, node_there, run_nodes}

-- ---- a tree only grows

grows_if : (tree more : List Branch) (o : Option ℕ) → length tree ≤ length more → length tree ≤ length (grown_if tree more o)
grows_if tree more None h = h
grows_if tree more (Some i) h = omega arith

pub more_by_one : (tree : List Branch) (at : ℕ) (a : Step) → length (grown tree at a) ≡ length tree + 1
more_by_one tree at a = length-append tree (branch at a ∷ [])

pub tree_grows : (steps : List Step) (tree : List Branch) (at : ℕ) → length tree ≤ length (run_tree tree at steps)
tree_grows [] tree at = omega arith
tree_grows (a ∷ steps) tree at =
    let here : length tree ≤ length (tree_there tree at a) = grows_if tree (grown tree at a) (child tree at a) (omega (arith, more_by_one tree at a)) in
    omega (arith, here, tree_grows steps (tree_there tree at a) (number_there tree at a))

-- ---- one step more

some_left : (steps : List Step) → not (length steps == 0) ≡ has_some steps
some_left [] = refl
some_left (a ∷ steps) = grind (arith, nat_tests)

pub end_more : (tree : List Branch) (at n : ℕ) (now : List Branch) (a : Step) (left rest : List Step) (total : ℕ) → left ≡ a ∷ rest → n ≡ number_there tree at a → now ≡ tree_there tree at a
    → run_end tree at left ≡ total → run_end now n rest ≡ total
end_more tree at n now a left rest total split number told e = ap (λ t. run_end t n rest) told ∙ ap (λ k. run_end (tree_there tree at a) k rest) number ∙ sym (ap (run_end tree at) split) ∙ e

pub tree_more : (tree : List Branch) (at n : ℕ) (now : List Branch) (a : Step) (left rest : List Step) (total : List Branch) → left ≡ a ∷ rest → n ≡ number_there tree at a → now ≡ tree_there tree at a
    → run_tree tree at left ≡ total → run_tree now n rest ≡ total
tree_more tree at n now a left rest total split number told e = ap (λ t. run_tree t n rest) told ∙ ap (λ k. run_tree (tree_there tree at a) k rest) number ∙ sym (ap (run_tree tree at) split) ∙ e

pub nodes_more : (s : Program) (walk : Walk) (tree : List Branch) (at n : ℕ) (now : List Branch) (w v : World) (a : Step) (left rest : List Step) (more : Bool) (so_far nodes total : List Node)
    → left ≡ a ∷ rest → n ≡ number_there tree at a → now ≡ tree_there tree at a → next w a ≡ Some v → more ≡ not (length rest == 0) → nodes ≡ so_far ++ node_there s walk tree at w v a more
    → so_far ++ run_nodes s walk tree at w left ≡ total → nodes ++ run_nodes s walk now n v rest ≡ total
nodes_more s walk tree at n now w v a left rest more so_far nodes total split number told leads is line e =
    let there : List Node = run_nodes s walk (tree_there tree at a) (number_there tree at a) v rest in
    let same : run_nodes s walk now n v rest ≡ there = ap (λ t. run_nodes s walk t n v rest) told ∙ ap (λ k. run_nodes s walk (tree_there tree at a) k v rest) number in
    let here : run_nodes s walk tree at w left ≡ node_there s walk tree at w v a more ++ there =
    ap (run_nodes s walk tree at w) split
    ∙ ap (led (λ u. node_there s walk tree at w u a (has_some rest) ++ run_nodes s walk (tree_there tree at a) (number_there tree at a) u rest)) leads
    ∙ ap (λ b. node_there s walk tree at w v a b ++ there) (sym (is ∙ some_left rest)) in
    ap (λ xs. nodes ++ xs) same ∙ ap (λ xs. xs ++ there) line ∙ append_assoc so_far (node_there s walk tree at w v a more) there ∙ ap (λ xs. so_far ++ xs) (sym here) ∙ e

pub leads_more : (w v : World) (a : Step) (left rest : List Step) (total : Option World) → left ≡ a ∷ rest → next w a ≡ Some v → fold w left ≡ total → fold v rest ≡ total
leads_more w v a left rest total split leads e = sym (ap (fold w) split ∙ ap (option_and_then (λ u. fold u rest)) leads) ∙ e

pub steps_more : (so_far now total : List Step) (a : Step) (left rest : List Step) → left ≡ a ∷ rest → now ≡ so_far ++ a ∷ [] → so_far ++ left ≡ total → now ++ rest ≡ total
steps_more so_far now total a left rest split more e = ap (λ xs. xs ++ rest) more ∙ append_assoc so_far (a ∷ []) rest ∙ ap (λ xs. so_far ++ xs) (sym split) ∙ e

-- ---- no step more

none_left : (left : List Step) → length left ≡ 0 → left ≡ []
none_left [] h = refl
none_left (a ∷ left) h = absurd (omega (arith, h))

pub end_done : (tree : List Branch) (at total : ℕ) (left : List Step) → length left ≡ 0 → run_end tree at left ≡ total → at ≡ total
end_done tree at total left h e = sym (ap (run_end tree at) (none_left left h)) ∙ e

pub tree_done : (tree total : List Branch) (at : ℕ) (left : List Step) → length left ≡ 0 → run_tree tree at left ≡ total → tree ≡ total
tree_done tree total at left h e = sym (ap (run_tree tree at) (none_left left h)) ∙ e

pub nodes_done : (s : Program) (walk : Walk) (tree : List Branch) (at : ℕ) (w : World) (left : List Step) (so_far total : List Node) → length left ≡ 0 → so_far ++ run_nodes s walk tree at w left ≡ total → so_far ≡ total
nodes_done s walk tree at w left so_far total h e = sym (append-nil so_far) ∙ ap (λ xs. so_far ++ run_nodes s walk tree at w xs) (sym (none_left left h)) ∙ e

pub leads_done : (u w v : World) (left steps : List Step) → length left ≡ 0 → v ≡ w → fold w left ≡ fold u steps → fold u steps ≡ Some v
leads_done u w v left steps h same e = sym e ∙ ap (fold w) (none_left left h) ∙ ap Some (sym same)

pub steps_done : (so_far total left : List Step) → length left ≡ 0 → so_far ++ left ≡ total → so_far ≡ total
steps_done so_far total left h e = sym (append-nil so_far) ∙ ap (λ xs. so_far ++ xs) (sym (none_left left h)) ∙ e

-- ---- too many

pub too_many : (tree total : List Branch) (at : ℕ) (a : Step) (left rest : List Step) → left ≡ a ∷ rest → child tree at a ≡ None → STATES_MAX ≤ length tree + 1 → run_tree tree at left ≡ total → STATES_MAX < length total + 1
too_many tree total at a left rest split new most e =
    let now : List Branch = tree_there tree at a in
    let grown_now : now ≡ grown tree at a = ap (grown_if tree (grown tree at a)) new in
    let all : run_tree now (number_there tree at a) rest ≡ total = sym (ap (run_tree tree at) split) ∙ e in
    omega (arith, most, more_by_one tree at a, ap length grown_now, ap length all, tree_grows rest now (number_there tree at a))

pub ruleset going_along = (end_more, tree_more, nodes_more, leads_more, steps_more, end_done, tree_done, nodes_done, leads_done, steps_done, too_many)
