use Rattle.std.proofs.Common.{◌≡◌, ◌+◌, ◌≤◌, drop, length}
use Rattle.mpd_vocabulary.specs.Topics.{shared}
use Rattle.mpd_vocabulary.proofs.topic.shared.Given as goal

abbrev pub invariant-loop-i : goal.invariant-loop-i
invariant-loop-i l = record { value : l.i + shared (drop l.i l.one) l.rest ≡ shared l.one l.other; bound : l.i ≤ length l.one }
