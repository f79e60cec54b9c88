use Rattle.std.proofs.Common.{sym, subst, ◌∙◌}
use Rattle.mpd_trail.specs.DebuggerViews.{standing_of}
use Rattle.mpd_runs.specs.Drawing.{Drew}
use Rattle.mpd_runs.proofs.DrawLemmas.{drew_by, same_name, same_mark}
use Rattle.mpd_runs.proofs.draw.draw_run.Goals as goal

pub returns-clause-drew : goal.returns-clause-drew
returns-clause-drew g c =
    let stream = g.R.Rng.stream in
    let d = standing_of c.args.debugger.now in
    let e = standing_of c.walk.new.debugger in
    let same = same_name (λ x. stream x.random.now) (λ x. x.choices.now.items) (λ x. x.random.ghost_name) (λ x. x.choices.ghost_name) _ d e _ c.walk.new.chooser c.in_ok-stop.stop c.in_ok-stop.ensures.walks in
    let mark = same_mark (λ x. stream x.random.now) (λ x. x.choices.now.items) (λ x. x.random.ghost_name) (λ x. x.choices.ghost_name) _ d e _ c.walk.new.chooser c.in_ok-stop.stop c.in_ok-stop.ensures.walks in
    let all = drew_by (λ x. stream x.random.now) (λ x. x.choices.now.items) (λ x. x.random.ghost_name) (λ x. x.choices.ghost_name) c.args.fuel c.depth-base.result d e _ c.walk.new.chooser c.in_ok-stop.stop c.in-Some.ending c.requires.none c.depth-base.ensures.value c.in_ok-stop.ensures.walks (sym c.in-Some.is ∙ c.in_ok-ending.ensures.ending) in
    let lent = subst (λ r. Drew c.args.fuel d (stream c.args.random.now) c.walk.new.chooser.choices.now.items c.in-Some.ending e (stream r)) (sym (c.random-1.given.1 (sym same))) all in
    subst (λ v. Drew c.args.fuel d (stream c.args.random.now) v.items c.in-Some.ending e (stream c.random-1.given.0)) (sym (c.choices-1.given.1 (sym mark))) lent
