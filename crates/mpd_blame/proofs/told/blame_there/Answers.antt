use Rattle.std.proofs.Common.{◌≤◌, ap, subst, sym, ◌∙◌}
use Rattle.mpd_model.specs.runs.Trail.{Trail}
use Rattle.mpd_trail.specs.DebuggerViews.{standing_of}
use Rattle.mpd_blame.proofs.BackLemmas.{begun_beyond, followed_few}
use Rattle.mpd_blame.proofs.told.blame_there.Goals as goal

pub blame_here-requires-clause-within : goal.blame_here-requires-clause-within
blame_here-requires-clause-within c =
    let few = followed_few c.args.limits.fuel c.args.choices.now (standing_of c.args.debugger.now) (standing_of c.follow.new.debugger) c.requires.at_start c.follow.ensures.beyond.reached c.requires.some c.in_ok-follow.ensures.steps in
    subst (λ n. n ≤ c.args.limits.fuel) (sym (ap (λ (t : Trail). t.depth) c.forget_undone.ensures.trail)) few

pub returns-clause-beyond : goal.returns-clause-beyond
returns-clause-beyond c =
    begun_beyond (standing_of c.args.debugger.now) (standing_of c.forget_undone.new.self) (standing_of c.blame_here.new.debugger) c.requires.at_start (c.forget_undone.ensures.program ∙ c.follow.ensures.beyond.program)
    (c.forget_undone.ensures.mode ∙ c.follow.ensures.beyond.mode) c.blame_here.ensures.back
