-- The order of choices, which is that of a walk, and leaves that rise by it.
use Rattle.std.specs.Prelude.{ℕ, Bool, List, [], ◌∷◌}
use Rattle.std.specs.declared.cmp.Ordering.{Ordering}
use Rattle.std.specs.declared.cmp.Ordering.TheVariants.{Less, Equal, Greater}
use Rattle.std.specs.Ordering.{nat_cmp, is_eq}
use Rattle.std.specs.Cmp.Lexicographic.{slice_cmp}
use Rattle.std.specs.List.Sorted.{IsStrictlySortedBy}
use Rattle.mpd_explore.specs.declared.report.SearchLeaf.{SearchLeaf}
use Rattle.mpd_policy.specs.Walk.{Run}

-- Of two lists of choices the one with the smaller number comes first, where they first differ.
abbrev pub order : List ℕ → List ℕ → Ordering
order cs ds = slice_cmp nat_cmp cs ds

abbrev pub same_choices : List ℕ → List ℕ → Bool
same_choices cs ds = is_eq (order cs ds)

abbrev pub run_order : Run → Run → Ordering
run_order a b = order a.choices b.choices

abbrev pub leaf_order : SearchLeaf → SearchLeaf → Ordering
leaf_order a b = order a.choices b.choices

-- each leaf comes before all after it, so none is there twice
abbrev pub Rises : List SearchLeaf → Type 0
Rises leaves = IsStrictlySortedBy leaf_order leaves

-- ---- one leaf more

abbrev pub with_leaf_by : Ordering → SearchLeaf → SearchLeaf → List SearchLeaf → List SearchLeaf → List SearchLeaf
with_leaf_by Less l m ms behind = m ∷ behind
with_leaf_by Equal l m ms behind = m ∷ ms
with_leaf_by Greater l m ms behind = l ∷ m ∷ ms

-- leaves that rise, and one at its place, unless one with its choices is there
abbrev pub with_leaf : SearchLeaf → List SearchLeaf → List SearchLeaf
with_leaf l [] = l ∷ []
with_leaf l (m ∷ ms) = with_leaf_by (leaf_order m l) l m ms (with_leaf l ms)
