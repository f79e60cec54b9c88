use Rattle.std.proofs.Common.{rules}
use Rattle.mpd_model.specs.steps.World.{start}
use Rattle.mpd_page.proofs.PageLemmas.{runs_on, nodes_on, ends_on, ends_over, more_in_all}
use Rattle.mpd_page.proofs.draw.draw_all.Goals as goal

pub loop-one-preserved : goal.loop-one-preserved
loop-one-preserved c =
    let t = c.loop-one.invariant in
    let told = c.in-Ok.ensures in
    let s = c.args.code.now.program in
    let tree = c.loop-one.drawn.tree.items in
    let now = c.draw_run.new.drawn.tree.items in
    let left = c.loop-one.left.now in
    let rest = c.in-Some.rest.now in
    record {
      few = told.few;
      tree = runs_on tree now _ c.in-Some.one.now left rest (search rules) told.tree t.tree;
      nodes = nodes_on s c.args.plan.walk (start s c.args.mode) tree now c.in-Some.one.now left rest c.loop-one.drawn.nodes.items c.draw_run.new.drawn.nodes.items _ (search rules) told.tree told.nodes t.nodes;
      ends = ends_on c.args.plan.blamed s c.args.mode tree now _ c.in-Some.one.now left rest _ c.loop-one.drawn.ends.items c.draw_run.new.drawn.ends.items (search rules) told.tree told.ends t.ends;
    }

pub returns-in-Err-clause-too_many : goal.returns-in-Err-clause-too_many
returns-in-Err-clause-too_many c h =
    more_in_all c.loop-one.drawn.tree.items _ c.in-Some.one.now c.loop-one.left.now c.in-Some.rest.now (search rules) (c.in-Err.ensures.too_many h) c.loop-one.invariant.tree

pub returns-clause-ends : goal.returns-clause-ends
returns-clause-ends c =
    ends_over c.args.plan.blamed c.args.code.now.program c.args.mode c.loop-one.drawn.tree.items _ c.loop-one.left.now _ c.loop-one.drawn.ends.items (search rules) c.loop-one.invariant.ends
