use Rattle.std.proofs.Common.{◌≡◌, Option, ◌≤◌, ◌+◌, ◌-◌, suc, true, length, sym, ap, subst, ◌∙◌, arith}
use Rattle.mpd_model.specs.runs.Trail.{Trail}
use Rattle.mpd_trail.specs.DebuggerViews.{standing_of}
use Rattle.mpd_outcomes.specs.declared.report.StateLimits.{StateLimits}
use Rattle.mpd_outcomes.specs.Outcomes.{leaves_from}
use Rattle.mpd_outcomes.specs.Goals.{states_along}
use Rattle.mpd_blame.specs.declared.back.Blame.{Blame}
use Rattle.mpd_blame.specs.Blame.{is_doomed, states_on, DoomedFrom, Turned}
use Rattle.mpd_blame.proofs.BackLemmas.{start_of, back_same, back_step, back_clean, back_leads, doomed_end, doomed_more, spent_end, spent_more, turned_blames}
use Rattle.mpd_blame.proofs.back.turns.Goals as goal

pub loop-undone-init : goal.loop-undone-init
loop-undone-init c =
    let d = standing_of c.args.debugger.now in
    let reached = c.state_is_reached.ensures.reached in
    record { back = back_same d reached c.requires.clean; depth = omega arith; doomed = doomed_end c.args.limits.fuel d reached c.requires.clean c.requires.doomed; fuel = ap (λ (l : StateLimits). l.fuel) c.limits_after-limits.ensures; spent = subst (λ n. c.args.limits.visited ≤ n + states_on c.args.limits.fuel (start_of d) d.trail.steps d.trail.depth (suc (length d.trail.steps - d.trail.depth))) (sym (ap (λ (l : StateLimits). l.visited) c.limits_after-limits.ensures)) (spent_end c.args.limits.fuel c.args.visited c.args.limits.visited d reached c.requires.come) }

pub turn-requires-clause-clean : goal.turn-requires-clause-clean
turn-requires-clause-clean c = back_clean (standing_of c.args.debugger.now) (standing_of c.loop-undone.debugger) c.state_is_reached.ensures.reached c.loop-undone.invariant.back

pub turn-requires-clause-some : goal.turn-requires-clause-some
turn-requires-clause-some c =
    let deep = c.loop-undone.invariant.depth in
    let value = c.depth-depth.ensures.value in
    let test = c.loop-undone-test.true in
    omega (arith, deep, value, test)

pub turn-requires-clause-within : goal.turn-requires-clause-within
turn-requires-clause-within c =
    let fuel = c.loop-undone.invariant.fuel in
    let low = c.loop-undone.invariant.back.within in
    let within = c.requires.within in
    omega (arith, fuel, low, within)

pub turn-requires-clause-few : goal.turn-requires-clause-few
turn-requires-clause-few c =
    let fuel = c.loop-undone.invariant.fuel in
    let few = c.requires.few in
    omega (arith, fuel, few)

pub turn-requires-clause-doomed : goal.turn-requires-clause-doomed
turn-requires-clause-doomed c =
    let d = standing_of c.args.debugger.now in
    let e = standing_of c.loop-undone.debugger in
    let i = c.loop-undone.invariant in
    let low = i.back.within in
    let clean = c.requires.clean in
    subst (λ n. is_doomed (n - e.trail.depth) e.world ≡ true) (sym i.fuel) (i.doomed e.trail.depth e.world (omega arith) (omega (arith, low, clean)) (back_leads d e i.back))

pub returns-in_err-blame-clause-back : goal.returns-in_err-blame-clause-back
returns-in_err-blame-clause-back c = back_step (standing_of c.args.debugger.now) (standing_of c.loop-undone.debugger) (standing_of c.turn.new.debugger) c.loop-undone.invariant.back c.turn.ensures.trail c.turn.ensures.reached

pub returns-in-Some-clause-back : goal.returns-in-Some-clause-back
returns-in-Some-clause-back c = back_step (standing_of c.args.debugger.now) (standing_of c.loop-undone.debugger) (standing_of c.turn.new.debugger) c.loop-undone.invariant.back c.turn.ensures.trail c.turn.ensures.reached

pub returns-clause-back : goal.returns-clause-back
returns-clause-back c = c.loop-undone.invariant.back

pub returns-in-Some-clause-blame : goal.returns-in-Some-clause-blame
returns-in-Some-clause-blame c =
    let d = standing_of c.args.debugger.now in
    let e = standing_of c.loop-undone.debugger in
    let f = standing_of c.turn.new.debugger in
    let i = c.loop-undone.invariant in
    let fuel = c.args.limits.fuel in
    let most = c.loop-undone.limits.visited in
    let less : f.trail.depth ≡ e.trail.depth - 1 = ap (λ (t : Trail). t.depth) c.turn.ensures.trail in
    let some : e.trail.depth ≡ suc f.trail.depth = (let deep = i.depth in let value = c.depth-depth.ensures.value in let test = c.loop-undone-test.true in omega (arith, less, deep, value, test)) in
    let turned = subst (λ (o : Option Blame). Turned most fuel e o f) c.in-Some.is (subst (λ n. Turned most n e c.in_ok-blame.field-0 f) i.fuel c.in_ok-blame.ensures.turned) in
    turned_blames c.args.limits.visited most fuel d e f c.in-Some.blame c.state_is_reached.ensures.reached c.requires.clean i.back (back_step d e f i.back c.turn.ensures.trail c.turn.ensures.reached) some i.doomed i.spent turned

pub loop-undone-preserved : goal.loop-undone-preserved
loop-undone-preserved c =
    let d = standing_of c.args.debugger.now in
    let e = standing_of c.loop-undone.debugger in
    let f = standing_of c.turn.new.debugger in
    let i = c.loop-undone.invariant in
    let fuel = c.args.limits.fuel in
    let most = c.loop-undone.limits.visited in
    let left = c.turn.new.limits.visited in
    let now = back_step d e f i.back c.turn.ensures.trail c.turn.ensures.reached in
    let less : f.trail.depth ≡ e.trail.depth - 1 = ap (λ (t : Trail). t.depth) c.turn.ensures.trail in
    let deep = i.depth in
    let some : e.trail.depth ≡ suc f.trail.depth = (let value = c.depth-depth.ensures.value in let test = c.loop-undone-test.true in omega (arith, less, deep, value, test)) in
    let turned : is_doomed (fuel - f.trail.depth) f.world ≡ true = subst (λ (o : Option Blame). Turned most fuel e o f) c.in_default.is (subst (λ n. Turned most n e c.in_ok-blame.field-0 f) i.fuel c.in_ok-blame.ensures.turned) in
    let few : most ≤ left + states_along (leaves_from (fuel - f.trail.depth) f.world) = subst (λ n. most ≤ left + states_along (leaves_from (n - f.trail.depth) f.world)) i.fuel c.in_ok-blame.ensures.spent in
    let within : e.trail.depth ≤ length d.trail.steps = (let low = i.back.within in let clean = c.requires.clean in omega (arith, low, clean)) in
    record {
      back = now;
      depth = omega (arith, deep, some);
      doomed = doomed_more fuel (start_of d) d.trail.steps f.trail.depth f.world (back_leads d f now) turned (subst (DoomedFrom fuel (start_of d) d.trail.steps) some i.doomed);
      fuel = c.turn.ensures.fuel ∙ i.fuel;
      spent = spent_more fuel c.args.limits.visited most left d e f now some within i.spent few;
    }
