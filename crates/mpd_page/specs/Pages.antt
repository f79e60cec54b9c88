-- The runs of a page as values, and the page: the template about its data (docs/PAGES.md, "The file").
use Rattle.std.specs.Prelude.{◌≡◌, ℕ, true, List, [], ◌++◌, length}
use Rattle.mpd_model.specs.declared.step.Step.{Step}
use Rattle.mpd_model.specs.declared.call.Mode.{Mode}
use Rattle.mpd_model.specs.script.Program.{Program}
use Rattle.mpd_model.specs.steps.World.{start}
use Rattle.mpd_page.specs.declared.walk.Walk.{Walk}
use Rattle.mpd_page.specs.declared.nodes.Drawn.{Drawn}
use Rattle.mpd_page.specs.Trees.{nodes_of, runs_tree, is_few}
use Rattle.mpd_page.specs.Ends.{AreEnds, share}
use Rattle.mpd_page.specs.Markup.{no_less}
use Rattle.mpd_page.specs.Templates.{page_head, page_tail}

-- Some runs, their states and their ends. The searches for the steps that decide come to so many states at most, all together.
pub record AreDrawn (states : ℕ) (s : Program) (mode : Mode) (walk : Walk) (runs : List (List Step)) (d : Drawn) : Type 0 where
  pub few : is_few (runs_tree [] runs) ≡ true
  pub nodes : d.nodes.items ≡ nodes_of s walk (start s mode) runs
  pub ends : AreEnds (share states (length runs)) s mode [] runs d.ends.items

-- The template about data that has no `<`: so nothing in the data ends the element that it stands in.
pub record IsPage (page : List ℕ) : Type 0 where
  pub written : List ℕ
  pub clean : no_less written ≡ true
  pub is : page ≡ page_head ++ written ++ page_tail
