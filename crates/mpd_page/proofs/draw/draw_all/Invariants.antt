use Rattle.std.proofs.Common.{◌≡◌, ◌≤◌, ◌+◌, ◌++◌, length}
use Rattle.mpd_model.specs.steps.World.{start}
use Rattle.mpd_page.specs.declared.tree.TheConstants.{STATES_MAX}
use Rattle.mpd_page.specs.Trees.{runs_tree, runs_nodes}
use Rattle.mpd_page.proofs.PageLemmas.{Further}
use Rattle.mpd_page.proofs.draw.draw_all.Given as goal

abbrev pub invariant-loop-one : goal.invariant-loop-one
invariant-loop-one l = record {
  few : length l.drawn.tree.items + 1 ≤ STATES_MAX;
  tree : runs_tree l.drawn.tree.items l.left ≡ runs_tree l.fn.drawn.tree.items l.runs;
  nodes : l.drawn.nodes.items ++ runs_nodes l.code.program l.plan.walk (start l.code.program l.mode) l.drawn.tree.items l.left ≡ l.fn.drawn.nodes.items ++ runs_nodes l.code.program l.plan.walk (start l.code.program l.mode) l.fn.drawn.tree.items l.runs;
  ends : Further l.plan.blamed l.code.program l.mode l.drawn.tree.items l.left l.drawn.ends.items l.fn.drawn.tree.items l.runs;
}

abbrev pub decreases-loop-one : goal.decreases-loop-one
decreases-loop-one l = length l.left
