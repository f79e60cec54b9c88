use Rattle.std.proofs.Common.{rules, ◌≡◌, ◌-◌, [], Bool, Some, Option, List, length, refl, sym, subst}
use Rattle.mpd_model.specs.declared.step.Step.{Step}
use Rattle.mpd_trail.specs.DebuggerViews.{standing_of}
use Rattle.mpd_explore.specs.Sleeping.{Rules}
use Rattle.mpd_explore.specs.Pieces.{rules_of}
use Rattle.mpd_explore.specs.Along.{Going}
use Rattle.mpd_explore.specs.Slept.{asleep_there}
use Rattle.mpd_explore.proofs.AlongLemmas.{going_none, none_of_none, going_all}
use Rattle.mpd_explore.proofs.SleepLemmas.{none_there}
use Rattle.mpd_explore.proofs.follow.follow.Goals as goal

pub returns-clause-going : goal.returns-clause-going
returns-clause-going g c =
    let rules : Bool → Rules = rules_of g.S.Schedule.decides g.S.Schedule.same g.S.Schedule.keeps in
    let d = standing_of c.args.debugger.now in
    let e = standing_of c.walk.new.debugger in
    let none = c.none-sleep.result in
    let f = c.walk.new.chooser in
    let all = going_all rules c.args.sleeps (λ x. x.sleeps) (λ x. x.left.now) (λ x. x.sleep) c.args.limit d e _ f c.in_ok-stop.stop refl c.requires.within c.requires.reaches c.walk.ensures.beyond c.in_ok-stop.ensures.walks in
    subst (λ (s : Option (List Step)). Going (rules c.args.sleeps) (c.args.limit - d.trail.depth) c.args.choices.now s d [] (asleep_there f.sleep) e) (none_there none c.none-sleep.ensures.steps c.none-sleep.ensures.passed) all

pub returns-then-is_empty-clause-going : goal.returns-then-is_empty-clause-going
returns-then-is_empty-clause-going g c =
    let r : Rules = rules_of g.S.Schedule.decides g.S.Schedule.same g.S.Schedule.keeps c.args.sleeps in
    let d = standing_of c.args.debugger.now in
    let short : length c.args.choices.now ≡ 0 = search rules in
    let none = c.none-sleep.result in
    subst (λ (s : Option (List Step)). Going r (c.args.limit - d.trail.depth) c.args.choices.now (Some []) d [] s d) (sym (none_there none c.none-sleep.ensures.steps c.none-sleep.ensures.passed))
    (going_none r (Some []) (c.args.limit - d.trail.depth) c.args.choices.now d c.state_is_reached.ensures.reached (none_of_none c.args.choices.now short))
