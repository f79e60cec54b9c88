use Rattle.std.proofs.Common.{◌≡◌, ◌++◌, length, map, take, drop}
use Rattle.mpd_explore.specs.Pieces.{behind}
use Rattle.mpd_explore.proofs.piece_explorer.put_in_front.Given as goal

abbrev pub invariant-loop-place : goal.invariant-loop-place
invariant-loop-place l = record {
  front : l.leaves.items ≡ map (behind l.choices) (take l.place l.fn.leaves.items) ++ drop l.place l.fn.leaves.items;
  long : length l.leaves.items ≡ length l.fn.leaves.items;
}
