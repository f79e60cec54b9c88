use Rattle.std.proofs.Common.{◌≡◌, ◌<◌, ◌||◌, ℕ, false, drop, get_or, length}
use Rattle.mpd_explain.specs.Lost.{is_waited}
use Rattle.mpd_explain.proofs.lost.keep_waited.Given as goal

abbrev pub invariant-loop-call : goal.invariant-loop-call
invariant-loop-call l = record {
  count : length l.kept ≡ length l.fn.kept;
  kept : (i : ℕ) → i < length l.fn.kept → (get_or l.kept i false || is_waited (drop l.call-index l.calls) i) ≡ (get_or l.fn.kept i false || is_waited l.calls i);
}
