use Rattle.std.proofs.Common.{◌≡◌, ◌-◌, ◌++◌, string_bytes}
use Rattle.mpd_model.specs.steps.World.{call_id}
use Rattle.mpd_model.specs.texts.Texts.{call_line, call_lines}
use Rattle.mpd_trace.proofs.RangeTexts.{texts_from}
use Rattle.mpd_trace.proofs.state_text.push_calls.Given as goal

abbrev pub invariant-loop-index : goal.invariant-loop-index
invariant-loop-index l = string_bytes l.out ++ texts_from (λ i. call_line l.core.world.board (call_id l.rank i)) l.index (l.count - l.index) ≡ string_bytes l.fn.out ++ call_lines l.core.world.board l.rank
