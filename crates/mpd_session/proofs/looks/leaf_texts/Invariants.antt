use Rattle.std.proofs.Common.{◌≡◌, map, take, string_bytes}
use Rattle.mpd_explore.specs.ReportText.{leaf_text}
use Rattle.mpd_session.proofs.looks.leaf_texts.Given as goal

abbrev pub invariant-loop-leaf : goal.invariant-loop-leaf
invariant-loop-leaf l = map string_bytes l.items.items ≡ map leaf_text (take l.leaf-index l.leaves)
