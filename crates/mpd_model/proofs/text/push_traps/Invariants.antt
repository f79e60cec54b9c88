use Rattle.std.proofs.Common.{◌≡◌, ◌++◌, drop, string_bytes}
use Rattle.std.specs.Prelude.{codes}
use Rattle.mpd_model.specs.texts.Texts.{trapped_text, spaced}
use Rattle.mpd_model.proofs.text.push_traps.Given as goal

abbrev pub invariant-loop-trapped : goal.invariant-loop-trapped
invariant-loop-trapped l = string_bytes l.out ++ spaced trapped_text (drop l.trapped-index l.traps) ≡ string_bytes l.fn.out ++ (codes "trap" ++ spaced trapped_text l.traps)
