use Rattle.std.proofs.Common.{◌≡◌, ◌<◌, ◌||◌, ℕ, false, drop, get_or, length}
use Rattle.std.specs.List.{list_any}
use Rattle.mpd_model.specs.runs.Breakpoints.{is_number}
use Rattle.mpd_explain.proofs.lost.keep_held.Given as goal

abbrev pub invariant-loop-handle : goal.invariant-loop-handle
invariant-loop-handle l = record {
  count : length l.kept ≡ length l.fn.kept;
  kept : (i : ℕ) → i < length l.fn.kept → (get_or l.kept i false || list_any (λ h. is_number h i) (drop l.handle-index l.handles)) ≡ (get_or l.fn.kept i false || list_any (λ h. is_number h i) l.handles);
}
