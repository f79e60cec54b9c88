-- In a tree a state comes after the one from which a step leads there.
use Rattle.std.proofs.Common.{◌≡◌, ℕ, zero, suc, ◌+◌, ◌≤◌, ◌<◌, nat_lt, Bool, true, false, List, [], ◌∷◌, ◌++◌, length, drop, slice_get, Option, Some, None, cond, refl, subst, arith}
use Rattle.std.proofs.lemmas.Bool.Decides.{nat_tests}
use Rattle.std.proofs.lemmas.List.{length-drop}
use Rattle.std.specs.Option.{option_map}
use Rattle.std.specs.List.{position_or_len}
use Rattle.mpd_model.specs.declared.step.Step.{Step}
use Rattle.mpd_page.specs.declared.tree.Branch.{Branch}
use Rattle.mpd_page.specs.Trees.{branch, is_branch, child, grown, grown_if, number_or, number_there, tree_there, run_tree, runs_tree}
use Rattle.mpd_page.specs.PageLaws.{ParentsComeFirst}
use Rattle.mpd_page.proofs.RunLemmas.{more_by_one}

inside : (x y : Branch) → Some x ≡ Some y → x ≡ y
inside x y h = cc

one_more : (tree : List Branch) (k : ℕ) (x : Branch) → x.from ≤ k + length tree → ((i : ℕ) (b : Branch) → slice_get tree i ≡ Some b → b.from ≤ k + i)
    → (i : ℕ) (b : Branch) → slice_get (tree ++ x ∷ []) i ≡ Some b → b.from ≤ k + i
one_more [] k x h rises zero b e = subst (λ (y : Branch). y.from ≤ k + 0) (inside x b e) h
one_more [] k x h rises (suc i) b e = absurd (cc)
one_more (y ∷ tree) k x h rises zero b e = rises zero b e
one_more (y ∷ tree) k x h rises (suc i) b e =
    let further : b.from ≤ (k + 1) + i = one_more tree (k + 1) x (omega (arith, h)) (λ j c f. let n : c.from ≤ k + suc j = rises (suc j) c f in omega (arith, n)) i b e in
    omega (arith, further)

-- ---- one step

found : (b : Bool) (n m at i : ℕ) → nat_lt n m ≡ b → option_map (λ j. at + j + 1) (cond b (Some n) None) ≡ Some i → (n < m) × (at + n + 1 ≡ i)
found true n m at i h e = (grind (arith, nat_tests), same (at + n + 1) i e)
  where
    same : (x y : ℕ) → Some x ≡ Some y → x ≡ y
    same x y k = cc
found false n m at i h e = absurd (cc)

child_within : (tree : List Branch) (at : ℕ) (a : Step) (i : ℕ) → child tree at a ≡ Some i → i ≤ length tree
child_within tree at a i e =
    let n : ℕ = position_or_len (is_branch at a) (drop at tree) in
    let m : ℕ = length (drop at tree) in
    let f : (n < m) × (at + n + 1 ≡ i) = found (nat_lt n m) n m at i refl e in
    omega (arith, f.0, f.1, length-drop at tree)

there : (tree : List Branch) (at : ℕ) (a : Step) (o : Option ℕ) → child tree at a ≡ o → number_or (length tree + 1) o ≤ length (grown_if tree (grown tree at a) o)
there tree at a None e = omega (arith, more_by_one tree at a)
there tree at a (Some i) e = child_within tree at a i e

kept_if : (tree more : List Branch) (o : Option ℕ) → ((i : ℕ) (b : Branch) → slice_get tree i ≡ Some b → b.from ≤ i) → ((i : ℕ) (b : Branch) → slice_get more i ≡ Some b → b.from ≤ i)
    → (i : ℕ) (b : Branch) → slice_get (grown_if tree more o) i ≡ Some b → b.from ≤ i
kept_if tree more None h k = k
kept_if tree more (Some j) h k = h

step_rises : (tree : List Branch) (at : ℕ) (a : Step) → at ≤ length tree → ((i : ℕ) (b : Branch) → slice_get tree i ≡ Some b → b.from ≤ i) → (i : ℕ) (b : Branch) → slice_get (tree_there tree at a) i ≡ Some b → b.from ≤ i
step_rises tree at a within rises =
    kept_if tree (grown tree at a) (child tree at a) rises
    (λ i b e. let n : b.from ≤ 0 + i = one_more tree 0 (branch at a) (omega (arith, within)) (λ j c f. let m : c.from ≤ j = rises j c f in omega (arith, m)) i b e in omega (arith, n))

-- ---- runs

run_rises : (steps : List Step) (tree : List Branch) (at : ℕ) → at ≤ length tree → ((i : ℕ) (b : Branch) → slice_get tree i ≡ Some b → b.from ≤ i) → (i : ℕ) (b : Branch) → slice_get (run_tree tree at steps) i ≡ Some b → b.from ≤ i
run_rises [] tree at within rises = rises
run_rises (a ∷ steps) tree at within rises = run_rises steps (tree_there tree at a) (number_there tree at a) (there tree at a (child tree at a) refl) (step_rises tree at a within rises)

runs_rise : (runs : List (List Step)) (tree : List Branch) → ((i : ℕ) (b : Branch) → slice_get tree i ≡ Some b → b.from ≤ i) → (i : ℕ) (b : Branch) → slice_get (runs_tree tree runs) i ≡ Some b → b.from ≤ i
runs_rise [] tree rises = rises
runs_rise (run ∷ runs) tree rises = runs_rise runs (run_tree tree 0 run) (run_rises run tree 0 (omega arith) rises)

pub parents_come_first : ParentsComeFirst
parents_come_first runs = runs_rise runs [] (λ i b e. absurd (cc))
