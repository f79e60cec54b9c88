use Rattle.std.proofs.Common.{rules}
use Rattle.mpd_page.proofs.RunLemmas.{too_many}
use Rattle.mpd_page.proofs.nodes.follow.Goals as goal

pub returns-in-Err-clause-too_many : goal.returns-in-Err-clause-too_many
returns-in-Err-clause-too_many c h =
    let t = c.loop-step.invariant in
    too_many c.loop-step.drawn.tree.items _ c.loop-step.at c.in-Some.step.now c.loop-step.left.now c.in-Some.rest.now (search rules) (c.in-Err.ensures.is_new h) (c.in-Err.ensures.too_many h) t.tree
