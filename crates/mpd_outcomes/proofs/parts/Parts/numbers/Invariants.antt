use Rattle.std.proofs.Common.{◌≤◌, ◌-◌, length}
use Rattle.mpd_outcomes.proofs.PartLemmas.{IsRead}
use Rattle.mpd_outcomes.proofs.parts.Parts.numbers.Given as goal

abbrev pub invariant-loop-done : goal.invariant-loop-done
invariant-loop-done l = record {
  read : IsRead l.self l.key (length l.key - l._done) l.left l.numbers.items;
  few : length l.left ≤ length l.key - l._done;
}
