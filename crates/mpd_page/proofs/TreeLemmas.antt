-- A state of a tree, by its number.
use Rattle.std.proofs.Common.{◌≡◌, ℕ, ◌≤◌, ◌<◌, ◌+◌, ◌-◌, List, length, drop, arith}
use Rattle.std.proofs.lemmas.List.{length-drop}
use Rattle.mpd_page.specs.declared.tree.Branch.{Branch}

-- what stands after so many is within the whole
pub stands_within : (tree : List Branch) (at place : ℕ) → at ≤ length tree → place < length (drop at tree) → at + place + 1 ≤ length tree
stands_within tree at place h k = omega (arith, h, k, length-drop at tree)

pub ruleset finding = (stands_within, length-drop)
