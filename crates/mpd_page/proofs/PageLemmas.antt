-- Runs of a page, one after another.
use Rattle.std.proofs.Common.{◌≡◌, ℕ, ◌≤◌, ◌<◌, ◌+◌, true, false, List, [], ◌∷◌, ◌++◌, length, refl, sym, ap, subst, ◌∙◌, arith, append_assoc, append-nil}
use Rattle.std.proofs.lemmas.Bool.Decides.{nat_tests}
use Rattle.mpd_model.specs.declared.step.Step.{Step}
use Rattle.mpd_model.specs.declared.call.Mode.{Mode}
use Rattle.mpd_model.specs.script.Program.{Program}
use Rattle.mpd_model.specs.steps.World.{World}
use Rattle.mpd_page.specs.declared.node.Node.{Node}
use Rattle.mpd_page.specs.declared.ends.PageEnd.{PageEnd}
use Rattle.mpd_page.specs.declared.tree.Branch.{Branch}
use Rattle.mpd_page.specs.declared.tree.TheConstants.{STATES_MAX}
use Rattle.mpd_page.specs.declared.walk.Walk.{Walk}
use Rattle.mpd_page.specs.Trees.{run_end, run_tree, run_nodes, runs_tree, runs_nodes, is_few}
use Rattle.mpd_page.specs.Ends.{AreEnds, EndAdded}
use Rattle.mpd_page.specs.Markup.{harmless}
use Rattle.mpd_page.specs.Templates.{page_head, page_tail}
use Rattle.mpd_page.specs.Pages.{IsPage}
use Rattle.mpd_page.proofs.MarkupLemmas.{no_markup}
use Rattle.mpd_page.proofs.RunLemmas.{tree_grows}

-- ---- the start

-- steps behind none are all
pub behind_none : (old now steps : List Step) → old ≡ [] → now ≡ old ++ steps → now ≡ steps
behind_none old now steps none e = e ∙ ap (λ xs. xs ++ steps) none

-- ---- runs

trees_grow : (runs : List (List Step)) (tree : List Branch) → length tree ≤ length (runs_tree tree runs)
trees_grow [] tree = omega arith
trees_grow (run ∷ runs) tree = omega (arith, tree_grows run tree 0, trees_grow runs (run_tree tree 0 run))

-- one run more
pub runs_on : (tree now total : List Branch) (run : List Step) (left rest : List (List Step)) → left ≡ run ∷ rest → now ≡ run_tree tree 0 run → runs_tree tree left ≡ total → runs_tree now rest ≡ total
runs_on tree now total run left rest split more e = ap (λ t. runs_tree t rest) more ∙ sym (ap (runs_tree tree) split) ∙ e

pub nodes_on : (s : Program) (walk : Walk) (w : World) (tree now : List Branch) (run : List Step) (left rest : List (List Step)) (so_far nodes total : List Node) → left ≡ run ∷ rest → now ≡ run_tree tree 0 run
    → nodes ≡ so_far ++ run_nodes s walk tree 0 w run → so_far ++ runs_nodes s walk w tree left ≡ total → nodes ++ runs_nodes s walk w now rest ≡ total
nodes_on s walk w tree now run left rest so_far nodes total split more told e =
    let there : List Node = runs_nodes s walk w (run_tree tree 0 run) rest in
    ap (λ t. nodes ++ runs_nodes s walk w t rest) more ∙ ap (λ xs. xs ++ there) told ∙ append_assoc so_far (run_nodes s walk tree 0 w run) there ∙ ap (λ xs. so_far ++ xs) (sym (ap (runs_nodes s walk w tree) split)) ∙ e

-- what further ends make of those so far
abbrev pub Further : ℕ → Program → Mode → List Branch → List (List Step) → List PageEnd → List Branch → List (List Step) → Type 0
Further most s mode tree left so_far first runs = (z : List PageEnd) → AreEnds most s mode tree left z → AreEnds most s mode first runs (so_far ++ z)

pub ends_on : (most : ℕ) (s : Program) (mode : Mode) (tree now first : List Branch) (run : List Step) (left rest runs : List (List Step)) (so_far ends : List PageEnd) → left ≡ run ∷ rest → now ≡ run_tree tree 0 run
    → EndAdded most s mode (run_end tree 0 run) run so_far ends → Further most s mode tree left so_far first runs → Further most s mode now rest ends first runs
ends_on most s mode tree now first run left rest runs so_far ends split more added further z are =
    let here : AreEnds most s mode (run_tree tree 0 run) rest z = subst (λ t. AreEnds most s mode t rest z) more are in
    let all : AreEnds most s mode tree left (added.one ∷ z) = subst (λ xs. AreEnds most s mode tree xs (added.one ∷ z)) (sym split) (added.one, z, (added.is, here, refl)) in
    subst (λ xs. AreEnds most s mode first runs xs) (sym (ap (λ xs. xs ++ z) added.added ∙ append_assoc so_far (added.one ∷ []) z)) (further (added.one ∷ z) all)

-- ---- no run more

none_left : (left : List (List Step)) → length left ≡ 0 → left ≡ []
none_left [] h = refl
none_left (run ∷ left) h = absurd (omega (arith, h))

pub runs_over : (tree total : List Branch) (left : List (List Step)) → length left ≡ 0 → runs_tree tree left ≡ total → tree ≡ total
runs_over tree total left h e = sym (ap (runs_tree tree) (none_left left h)) ∙ e

pub nodes_over : (s : Program) (walk : Walk) (w : World) (tree : List Branch) (left : List (List Step)) (so_far total : List Node) → length left ≡ 0 → so_far ++ runs_nodes s walk w tree left ≡ total → so_far ≡ total
nodes_over s walk w tree left so_far total h e = sym (append-nil so_far) ∙ ap (λ xs. so_far ++ runs_nodes s walk w tree xs) (sym (none_left left h)) ∙ e

pub ends_over : (most : ℕ) (s : Program) (mode : Mode) (tree first : List Branch) (left runs : List (List Step)) (so_far : List PageEnd) → length left ≡ 0 → Further most s mode tree left so_far first runs → AreEnds most s mode first runs so_far
ends_over most s mode tree first left runs so_far h further =
    let none : AreEnds most s mode tree left [] = subst (λ xs. AreEnds most s mode tree xs []) (sym (none_left left h)) refl in
    subst (λ xs. AreEnds most s mode first runs xs) (append-nil so_far) (further [] none)

-- ---- too many

pub more_in_all : (tree total : List Branch) (run : List Step) (left rest : List (List Step)) → left ≡ run ∷ rest → STATES_MAX < length (run_tree tree 0 run) + 1 → runs_tree tree left ≡ total → STATES_MAX < length total + 1
more_in_all tree total run left rest split most e =
    let all : runs_tree (run_tree tree 0 run) rest ≡ total = sym (ap (runs_tree tree) split) ∙ e in
    omega (arith, most, ap length all, trees_grow rest (run_tree tree 0 run))

pub few_is : (tree : List Branch) → length tree + 1 ≤ STATES_MAX → is_few tree ≡ true
few_is tree h = grind (arith, nat_tests)

pub many_is : (tree : List Branch) → STATES_MAX < length tree + 1 → is_few tree ≡ false
many_is tree h = grind (arith, nat_tests)

-- the states behind the first
pub nodes_all : (first told : Node) (old now more : List Node) → first ≡ told → old ≡ first ∷ [] → now ≡ old ++ more → now ≡ told ∷ more
nodes_all first told old now more is begun all = all ∙ ap (λ xs. xs ++ more) begun ∙ ap (λ n. n ∷ more) is

-- ---- the page

-- the template about what is written of a text
pub page_is : (text page : List ℕ) → page ≡ page_head ++ harmless text ++ page_tail → IsPage page
page_is text page is = record { written = harmless text; clean = no_markup text; is = is }

pub ruleset drawing = (runs_on, nodes_on, ends_on, runs_over, nodes_over, ends_over, more_in_all)

pub ruleset paging = (few_is, many_is, nodes_all)

pub ruleset about = (page_is, append_assoc)
