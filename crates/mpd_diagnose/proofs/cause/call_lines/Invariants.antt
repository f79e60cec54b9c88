use Rattle.std.proofs.Common.{◌≡◌, drop, map}
use Rattle.mpd_model.specs.declared.outcome.IssuedCall.{IssuedCall}
use Rattle.mpd_model.specs.steps.World.{call_at}
use Rattle.mpd_names.specs.Placed.{issue_line}
use Rattle.mpd_diagnose.specs.Causes.{with_numbers, call_lines}
use Rattle.mpd_diagnose.proofs.cause.call_lines.Given as goal

abbrev pub invariant-loop-call : goal.invariant-loop-call
invariant-loop-call l = with_numbers l.lines.keys (map (λ (c : IssuedCall). issue_line l.core.program.lines (call_at l.core.world.board c.id)) (drop l.call-index l.calls)) ≡ call_lines l.core.program l.core.world.board l.calls
