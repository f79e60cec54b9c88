use Rattle.std.proofs.Common.{◌≡◌, ◌≤◌, length, map, vec_len, vec_capacity}
use Rattle.mpd_runs.specs.Drawing.{in_box}
use Rattle.mpd_runs.proofs.keep.unboxed.Given as goal

abbrev pub invariant-loop-boxed : goal.invariant-loop-boxed
invariant-loop-boxed g l = record {
  so_far : l.items.items ≡ map in_box l.yielded;
  count : vec_len l.items ≡ length l.yielded;
  room : vec_len l.fn.boxes ≤ vec_capacity l.items;
}
