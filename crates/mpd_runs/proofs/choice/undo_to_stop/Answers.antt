use Rattle.std.proofs.Common.{◌≡◌, ℕ, ◌-◌, Some, ap, ◌∙◌, rules}
use Rattle.mpd_trail.specs.DebuggerViews.{standing_of}
use Rattle.mpd_runs.proofs.LastChoiceLemmas.{undoing_more, undone_to, deep_enough}
use Rattle.mpd_runs.proofs.choice.undo_to_stop.Goals as goal

pub loop-undone-preserved : goal.loop-undone-preserved
loop-undone-preserved c =
    undoing_more c.args.breaks.now c.args.debugger.now.trail (standing_of c.loop-undone.debugger) (standing_of c.undo.new.self) (standing_of c.is_stop.new.debugger) c.loop-undone.undone c.in_ok-is_stop.is_stop c.loop-undone.invariant
    (search rules) (search (rules, deep_enough)) c.undo.ensures.undone.moved.reached c.is_stop.ensures.as_found c.in_ok-is_stop.ensures.stops c.if-is_stop.false

pub returns-then-is_stop : goal.returns-then-is_stop
returns-then-is_stop c =
    let whole : c.depth-depth.result ≡ c.args.debugger.now.trail.depth = search rules in
    ap (λ (n : ℕ). Some ((n - c.loop-undone.undone) - 1)) whole
    ∙ undone_to c.args.breaks.now c.args.debugger.now.trail (standing_of c.loop-undone.debugger) (standing_of c.undo.new.self) c.loop-undone.undone c.in_ok-is_stop.is_stop c.loop-undone.invariant
    (search rules) (search (rules, deep_enough)) c.undo.ensures.undone.moved.reached c.in_ok-is_stop.ensures.stops c.if-is_stop.true
