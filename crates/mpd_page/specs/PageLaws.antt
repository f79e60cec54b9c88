-- Laws of pages.
use Rattle.std.specs.Prelude.{◌≡◌, ◌≤◌, ℕ, true, Some, List, [], slice_get}
use Rattle.mpd_model.specs.declared.step.Step.{Step}
use Rattle.mpd_model.specs.declared.call.Mode.{Mode}
use Rattle.mpd_model.specs.script.Program.{Program}
use Rattle.mpd_model.specs.steps.World.{World, start}
use Rattle.mpd_model.specs.steps.Next.{next, fold}
use Rattle.mpd_page.specs.declared.tree.Branch.{Branch}
use Rattle.mpd_page.specs.Changes.{node_change, first_change}
use Rattle.mpd_page.specs.Trees.{runs_tree}
use Rattle.mpd_page.specs.Markup.{no_less, harmless}
use Rattle.mpd_page.specs.Views.{view_of, applied_all, applied_along, blank_view}

-- The changes that are told of a step, applied to what is shown of the state before it, give what is shown of the state to which it leads.
abbrev pub ChangesLeadOn : Type 0
ChangesLeadOn = (s : Program) (w v : World) (a : Step) → next w a ≡ Some v → applied_all (node_change s w v a) (view_of s w) ≡ view_of s v

-- What is told of the start, applied to the blank view, gives what is shown of it.
abbrev pub StartIsShown : Type 0
StartIsShown = (s : Program) (mode : Mode) → applied_all (first_change s (start s mode)) (blank_view s (start s mode)) ≡ view_of s (start s mode)

-- So the changes of a run, applied in turn to what is told of the start, give what is shown of the state where its steps lead.
abbrev pub RunsAreShown : Type 0
RunsAreShown =
    (s : Program) (mode : Mode) (steps : List Step) (w : World) → fold (start s mode) steps ≡ Some w
    → applied_along s (start s mode) (applied_all (first_change s (start s mode)) (blank_view s (start s mode))) steps ≡ view_of s w

-- What is written between the two parts of the template has no `<`, whatever text it is written of.
abbrev pub NoMarkup : Type 0
NoMarkup = (text : List ℕ) → no_less (harmless text) ≡ true

-- In the tree of any runs a state comes after the one from which a step leads there: that at place i of the list is number i + 1.
abbrev pub ParentsComeFirst : Type 0
ParentsComeFirst = (runs : List (List Step)) (i : ℕ) (b : Branch) → slice_get (runs_tree [] runs) i ≡ Some b → b.from ≤ i
