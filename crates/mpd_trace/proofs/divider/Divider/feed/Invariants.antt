use Rattle.std.proofs.Common.{◌≡◌, ◌≤◌, ◌++◌, ℕ, List, length, drop}
use Rattle.mpd_trace.specs.Divided.{splits, IsHeld}
use Rattle.mpd_trace.proofs.divider.Divider.feed.Given as goal

abbrev pub invariant-loop-index : goal.invariant-loop-index
invariant-loop-index l = record {
  going : (z : List ℕ) → splits l.self (drop l.index l.piece ++ z) ≡ splits l.fn.self (l.piece ++ z);
  short : length l.self.known ≤ 65536;
  held : IsHeld l.self;
}
