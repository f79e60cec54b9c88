use Rattle.std.proofs.Common.{◌≡◌, ap, ◌∙◌, true, false, length}
use Rattle.crossbeam_deque.specs.Handles.{view, worker_deque}
use Rattle.mpd_trail.specs.DebuggerViews.{standing_of}
use Rattle.mpd_pool.specs.Numbers.{hand}
use Rattle.mpd_pool.specs.Parts.{CanExplore}
use Rattle.mpd_pool.specs.Brought.{IsJob}
use Rattle.mpd_pool.proofs.Keeps.{forks}
use Rattle.mpd_pool.proofs.Workers.{can_same, copy_stands, all_more}
use Rattle.mpd_pool.proofs.pool.add_job.Goals as goal

pub another-requires : goal.another-requires
another-requires c = forks _ _ c.requires.owner.0

pub returns-clause-jobs : goal.returns-clause-jobs
returns-clause-jobs c =
    let d = standing_of c.args.debugger.now in
    let e = standing_of c.in_ok-debugger.debugger in
    let deque = worker_deque c.args.owner.now in
    let ps = c.args.pieces.now in
    let l = c.args.limits in
    let same : e ≡ d = copy_stands d.trail e.trail d.world e.world c.requires.can.0.0 c.in_ok-debugger.ensures.trail c.in_ok-debugger.ensures.world in
    let can : CanExplore e l ps = can_same e d l ps same c.requires.can in
    let knows : view c.another.result ≡ hand false true (length ps) = c.another.ensures.rule.1 ∙ ap (λ n. hand false true n) c.requires.owner.1 in
    all_more (IsJob deque d l ps) c.args.jobs.now.items c.reserve.new.self.items c.push_reserved.new.self.items _ c.reserve.ensures.items c.push_reserved.ensures.items c.requires.jobs
    ((c.another.ensures.same.2, knows, can), same)
