use Rattle.std.proofs.Common.{◌≡◌, ◌++◌, drop, string_bytes}
use Rattle.std.specs.Prelude.{codes}
use Rattle.mpd_model.specs.texts.Texts.{spaced, handle_text}
use Rattle.mpd_trace.proofs.state_text.push_handles.Given as goal

abbrev pub invariant-loop-handle : goal.invariant-loop-handle
invariant-loop-handle l = string_bytes l.out ++ spaced handle_text (drop l.handle-index l.handles) ≡ string_bytes l.fn.out ++ (codes "handles" ++ spaced handle_text l.handles)
