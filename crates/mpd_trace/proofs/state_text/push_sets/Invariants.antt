use Rattle.std.proofs.Common.{◌≡◌, ◌++◌, drop, string_bytes}
use Rattle.std.specs.List.{flat_map}
use Rattle.mpd_model.specs.texts.Texts.{set_line}
use Rattle.mpd_trace.proofs.state_text.push_sets.Given as goal

abbrev pub invariant-loop-set : goal.invariant-loop-set
invariant-loop-set l = string_bytes l.out ++ flat_map set_line (drop l.set-index l.sets) ≡ string_bytes l.fn.out ++ flat_map set_line l.sets
