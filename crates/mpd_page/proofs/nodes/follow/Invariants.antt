use Rattle.std.proofs.Common.{◌≡◌, ◌≤◌, ◌+◌, ◌++◌, length}
use Rattle.mpd_model.specs.steps.Next.{fold}
use Rattle.mpd_model.specs.runs.Trail.{done_steps}
use Rattle.mpd_page.specs.declared.tree.TheConstants.{STATES_MAX}
use Rattle.mpd_page.specs.Trees.{run_end, run_tree, run_nodes}
use Rattle.mpd_page.proofs.nodes.follow.Given as goal

abbrev pub invariant-loop-step : goal.invariant-loop-step
invariant-loop-step l = record {
  world : l.ahead.world ≡ l.behind.world;
  program : l.behind.trail.program ≡ l.fn.behind.trail.program;
  program_ahead : l.ahead.trail.program ≡ l.fn.ahead.trail.program;
  mode : l.ahead.trail.mode ≡ l.fn.ahead.trail.mode;
  steps : done_steps l.ahead.trail ++ l.left ≡ done_steps l.fn.ahead.trail ++ l.steps;
  ends : l.drawn.ends.items ≡ l.fn.drawn.ends.items;
  within : l.at ≤ length l.drawn.tree.items;
  few : length l.drawn.tree.items + 1 ≤ STATES_MAX;
  number : run_end l.drawn.tree.items l.at l.left ≡ run_end l.fn.drawn.tree.items 0 l.steps;
  tree : run_tree l.drawn.tree.items l.at l.left ≡ run_tree l.fn.drawn.tree.items 0 l.steps;
  nodes : l.drawn.nodes.items ++ run_nodes l.fn.behind.trail.program l.walk l.drawn.tree.items l.at l.behind.world l.left ≡ l.fn.drawn.nodes.items ++ run_nodes l.fn.behind.trail.program l.walk l.fn.drawn.tree.items 0 l.fn.behind.world l.steps;
  leads : fold l.behind.world l.left ≡ fold l.fn.behind.world l.steps;
}

abbrev pub decreases-loop-step : goal.decreases-loop-step
decreases-loop-step l = length l.left
