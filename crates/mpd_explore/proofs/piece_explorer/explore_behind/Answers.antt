use Rattle.std.proofs.Common.{◌≡◌, ◌+◌, ◌-◌, ℕ, List, [], Some, None, map, string_bytes, sym, ap, ◌∙◌, arith}
use Rattle.mpd_model.specs.declared.step.Step.{Step}
use Rattle.mpd_trail.specs.DebuggerViews.{standing_of}
use Rattle.mpd_explore.specs.Sleeping.{Rules}
use Rattle.mpd_explore.specs.declared.sleep.Sleep.{Sleep}
use Rattle.mpd_explore.specs.Along.{Going}
use Rattle.mpd_explore.specs.Slept.{asleep_there}
use Rattle.mpd_explore.specs.Pieces.{rules_of}
use Rattle.mpd_explore.proofs.BehindLemmas.{going_forgotten, going_there, part_found, left_found, no_part, none_left_out, no_witnesses, no_texts, witnesses_behind, texts_behind}
use Rattle.mpd_explore.proofs.SleepLemmas.{passed_there, awake_there}
use Rattle.mpd_explore.proofs.piece_explorer.explore_behind.Goals as goal

pub returns-then-sleep-clause-leaves : goal.returns-then-sleep-clause-leaves
returns-then-sleep-clause-leaves g c =
    let r : Rules = rules_of g.S.Schedule.decides g.S.Schedule.same g.S.Schedule.keeps c.args.limits.ends in
    let d = standing_of c.args.debugger.now in
    let e = standing_of c.follow.new.debugger in
    let f = standing_of c.forget_undone.new.self in
    let l = c.args.limits in
    let fuel : ℕ = c.args.limits.fuel in
    let limit : ℕ = c.depth-base.result + fuel in
    let slept = c.in_ok-sleep.sleep in
    let raw : Going r fuel c.args.choices.now (Some []) d [] (asleep_there slept) f =
    going_forgotten r (Some []) (asleep_there slept) fuel (limit - d.trail.depth) c.args.choices.now d e f (omega (arith, c.depth-base.ensures.value)) c.in_ok-sleep.ensures.going c.forget_undone.ensures.trail c.forget_undone.ensures.world c.forget_undone.ensures.steps c.forget_undone.ensures.reached in
    let going : Going r fuel c.args.choices.now (Some []) d [] None f = going_there r (Some []) (asleep_there slept) None fuel c.args.choices.now [] d f (passed_there slept _ (ap (λ (s : Sleep). s.is_passed) c.sleep.view_is) c.if-sleep.true) raw in
    c.nothing_found-report.ensures.leaves ∙ sym (no_part r l c.args.choices.now d f going)

pub returns-then-sleep-clause-more : goal.returns-then-sleep-clause-more
returns-then-sleep-clause-more g c =
    let r : Rules = rules_of g.S.Schedule.decides g.S.Schedule.same g.S.Schedule.keeps c.args.limits.ends in
    let d = standing_of c.args.debugger.now in
    let e = standing_of c.follow.new.debugger in
    let f = standing_of c.forget_undone.new.self in
    let l = c.args.limits in
    let fuel : ℕ = c.args.limits.fuel in
    let limit : ℕ = c.depth-base.result + fuel in
    let slept = c.in_ok-sleep.sleep in
    let raw : Going r fuel c.args.choices.now (Some []) d [] (asleep_there slept) f =
    going_forgotten r (Some []) (asleep_there slept) fuel (limit - d.trail.depth) c.args.choices.now d e f (omega (arith, c.depth-base.ensures.value)) c.in_ok-sleep.ensures.going c.forget_undone.ensures.trail c.forget_undone.ensures.world c.forget_undone.ensures.steps c.forget_undone.ensures.reached in
    let going : Going r fuel c.args.choices.now (Some []) d [] None f = going_there r (Some []) (asleep_there slept) None fuel c.args.choices.now [] d f (passed_there slept _ (ap (λ (s : Sleep). s.is_passed) c.sleep.view_is) c.if-sleep.true) raw in
    c.nothing_found-report.ensures.more ∙ sym (none_left_out r l c.args.choices.now d f going)

pub returns-then-sleep-clause-witnesses : goal.returns-then-sleep-clause-witnesses
returns-then-sleep-clause-witnesses g c =
    let r : Rules = rules_of g.S.Schedule.decides g.S.Schedule.same g.S.Schedule.keeps c.args.limits.ends in
    no_witnesses r (standing_of c.args.debugger.now) c.args.limits.fuel c.nothing_found-report.result.leaves.items c.nothing_found-report.ensures.leaves

pub returns-then-sleep-clause-texts : goal.returns-then-sleep-clause-texts
returns-then-sleep-clause-texts g c =
    let r : Rules = rules_of g.S.Schedule.decides g.S.Schedule.same g.S.Schedule.keeps c.args.limits.ends in
    no_texts r c.args.limits.witnesses (standing_of c.args.debugger.now) c.args.limits.fuel _ _ c.nothing_found-report.ensures.leaves (ap (map string_bytes) c.nothing_found-report.ensures.witnesses)

pub returns-in-Ok-clause-leaves : goal.returns-in-Ok-clause-leaves
returns-in-Ok-clause-leaves g c =
    let r : Rules = rules_of g.S.Schedule.decides g.S.Schedule.same g.S.Schedule.keeps c.args.limits.ends in
    let d = standing_of c.args.debugger.now in
    let e = standing_of c.follow.new.debugger in
    let f = standing_of c.forget_undone.new.self in
    let l = c.args.limits in
    let fuel : ℕ = c.args.limits.fuel in
    let limit : ℕ = c.depth-base.result + fuel in
    let slept = c.in_ok-sleep.sleep in
    let raw : Going r fuel c.args.choices.now (Some []) d [] (asleep_there slept) f =
    going_forgotten r (Some []) (asleep_there slept) fuel (limit - d.trail.depth) c.args.choices.now d e f (omega (arith, c.depth-base.ensures.value)) c.in_ok-sleep.ensures.going c.forget_undone.ensures.trail c.forget_undone.ensures.world c.forget_undone.ensures.steps c.forget_undone.ensures.reached in
    let asleep : List Step = c.deref.result.now in
    let going : Going r fuel c.args.choices.now (Some []) d [] (Some asleep) f = going_there r (Some []) (asleep_there slept) (Some asleep) fuel c.args.choices.now [] d f (awake_there slept _ asleep (ap (λ (s : Sleep). s.is_passed) c.sleep.view_is) c.if-sleep.false (c.deref.ensures.value ∙ ap (λ (s : Sleep). s.steps) c.sleep.view_is)) raw in
    let left : going.rest ≡ limit - c.depth.result = omega (arith, going.spent, c.depth.ensures.value, c.depth-base.ensures.value) in
    part_found r (limit - c.depth.result) l c.args.choices.now asleep d f c.in_ok-report.report.leaves.items c.put_in_front.new.leaves.items going left c.in_ok-report.ensures.leaves c.in-Ok.ensures.leaves

pub returns-in-Ok-clause-more : goal.returns-in-Ok-clause-more
returns-in-Ok-clause-more g c =
    let r : Rules = rules_of g.S.Schedule.decides g.S.Schedule.same g.S.Schedule.keeps c.args.limits.ends in
    let d = standing_of c.args.debugger.now in
    let e = standing_of c.follow.new.debugger in
    let f = standing_of c.forget_undone.new.self in
    let l = c.args.limits in
    let fuel : ℕ = c.args.limits.fuel in
    let limit : ℕ = c.depth-base.result + fuel in
    let slept = c.in_ok-sleep.sleep in
    let raw : Going r fuel c.args.choices.now (Some []) d [] (asleep_there slept) f =
    going_forgotten r (Some []) (asleep_there slept) fuel (limit - d.trail.depth) c.args.choices.now d e f (omega (arith, c.depth-base.ensures.value)) c.in_ok-sleep.ensures.going c.forget_undone.ensures.trail c.forget_undone.ensures.world c.forget_undone.ensures.steps c.forget_undone.ensures.reached in
    let asleep : List Step = c.deref.result.now in
    let going : Going r fuel c.args.choices.now (Some []) d [] (Some asleep) f = going_there r (Some []) (asleep_there slept) (Some asleep) fuel c.args.choices.now [] d f (awake_there slept _ asleep (ap (λ (s : Sleep). s.is_passed) c.sleep.view_is) c.if-sleep.false (c.deref.ensures.value ∙ ap (λ (s : Sleep). s.steps) c.sleep.view_is)) raw in
    let left : going.rest ≡ limit - c.depth.result = omega (arith, going.spent, c.depth.ensures.value, c.depth-base.ensures.value) in
    left_found r (limit - c.depth.result) l c.args.choices.now asleep d f c.in_ok-report.report.more going left c.in_ok-report.ensures.more

pub returns-in-Ok-clause-witnesses : goal.returns-in-Ok-clause-witnesses
returns-in-Ok-clause-witnesses g c =
    let r : Rules = rules_of g.S.Schedule.decides g.S.Schedule.same g.S.Schedule.keeps c.args.limits.ends in
    let d = standing_of c.args.debugger.now in
    let e = standing_of c.follow.new.debugger in
    let f = standing_of c.forget_undone.new.self in
    let l = c.args.limits in
    let fuel : ℕ = c.args.limits.fuel in
    let limit : ℕ = c.depth-base.result + fuel in
    let slept = c.in_ok-sleep.sleep in
    let raw : Going r fuel c.args.choices.now (Some []) d [] (asleep_there slept) f =
    going_forgotten r (Some []) (asleep_there slept) fuel (limit - d.trail.depth) c.args.choices.now d e f (omega (arith, c.depth-base.ensures.value)) c.in_ok-sleep.ensures.going c.forget_undone.ensures.trail c.forget_undone.ensures.world c.forget_undone.ensures.steps c.forget_undone.ensures.reached in
    let asleep : List Step = c.deref.result.now in
    let going : Going r fuel c.args.choices.now (Some []) d [] (Some asleep) f = going_there r (Some []) (asleep_there slept) (Some asleep) fuel c.args.choices.now [] d f (awake_there slept _ asleep (ap (λ (s : Sleep). s.is_passed) c.sleep.view_is) c.if-sleep.false (c.deref.ensures.value ∙ ap (λ (s : Sleep). s.steps) c.sleep.view_is)) raw in
    let left : going.rest ≡ limit - c.depth.result = omega (arith, going.spent, c.depth.ensures.value, c.depth-base.ensures.value) in
    witnesses_behind r (Some []) (Some asleep) fuel (limit - c.depth.result) c.args.choices.now d f c.in_ok-report.report.leaves.items _ going left c.in-Ok.ensures.leaves c.in_ok-report.ensures.witnesses

pub returns-in-Ok-clause-texts : goal.returns-in-Ok-clause-texts
returns-in-Ok-clause-texts g c =
    let r : Rules = rules_of g.S.Schedule.decides g.S.Schedule.same g.S.Schedule.keeps c.args.limits.ends in
    let d = standing_of c.args.debugger.now in
    let e = standing_of c.follow.new.debugger in
    let f = standing_of c.forget_undone.new.self in
    let l = c.args.limits in
    let fuel : ℕ = c.args.limits.fuel in
    let limit : ℕ = c.depth-base.result + fuel in
    let slept = c.in_ok-sleep.sleep in
    let raw : Going r fuel c.args.choices.now (Some []) d [] (asleep_there slept) f =
    going_forgotten r (Some []) (asleep_there slept) fuel (limit - d.trail.depth) c.args.choices.now d e f (omega (arith, c.depth-base.ensures.value)) c.in_ok-sleep.ensures.going c.forget_undone.ensures.trail c.forget_undone.ensures.world c.forget_undone.ensures.steps c.forget_undone.ensures.reached in
    let asleep : List Step = c.deref.result.now in
    let going : Going r fuel c.args.choices.now (Some []) d [] (Some asleep) f = going_there r (Some []) (asleep_there slept) (Some asleep) fuel c.args.choices.now [] d f (awake_there slept _ asleep (ap (λ (s : Sleep). s.is_passed) c.sleep.view_is) c.if-sleep.false (c.deref.ensures.value ∙ ap (λ (s : Sleep). s.steps) c.sleep.view_is)) raw in
    let left : going.rest ≡ limit - c.depth.result = omega (arith, going.spent, c.depth.ensures.value, c.depth-base.ensures.value) in
    texts_behind r (Some []) (Some asleep) c.args.limits.witnesses fuel (limit - c.depth.result) c.args.choices.now d f f.trail.program f.trail.mode c.in_ok-report.report.leaves.items _ _ going left c.in-Ok.ensures.leaves c.in_ok-report.ensures.witnesses c.in_ok-report.ensures.texts
