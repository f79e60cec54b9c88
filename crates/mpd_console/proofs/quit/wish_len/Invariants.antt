use Rattle.std.proofs.Common.{◌≡◌, ◌+◌, ◌≤◌, drop, length}
use Rattle.std.specs.Option.{option_map}
use Rattle.mpd_console.specs.Quitting.{wish_len, begun_after}
use Rattle.mpd_console.proofs.quit.wish_len.Given as goal

abbrev pub invariant-loop-i : goal.invariant-loop-i
invariant-loop-i l = record {
  value : option_map (λ n. l.i + n) (wish_len l.begun (drop l.i l.piece)) ≡ wish_len l.fn.begun l.piece;
  bound : l.i ≤ length l.piece;
  begun : begun_after l.begun (drop l.i l.piece) ≡ begun_after l.fn.begun l.piece;
}
