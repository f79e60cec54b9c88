use Rattle.std.proofs.Common.{◌≤◌, ◌-◌, length, ℕ, List}
use Rattle.std.specs.Prelude.{ℤ, Vec}
use Rattle.std.specs.declared.alloc.Global.{Global}
use Rattle.mpd_outcomes.specs.Parts.{HasMoreParts}
use Rattle.mpd_outcomes.proofs.PartLemmas.{IsRead}
use Rattle.mpd_outcomes.proofs.parts.Parts.keep_all.Given as goal

abbrev pub invariant-loop-done : goal.invariant-loop-done
invariant-loop-done l = record {
  more : HasMoreParts l.fn.self l.self;
  read : (later : List (Vec ℤ Global × ℕ)) → HasMoreParts l.self later → IsRead later l.key (length l.key - l._done) l.left l.numbers.items;
  few : length l.left ≤ length l.key - l._done;
}
