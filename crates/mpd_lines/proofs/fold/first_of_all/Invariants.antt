use Rattle.std.proofs.Common.{◌≡◌, ◌-◌, length, take}
use Rattle.std.specs.List.{find, list_any, range_with_len}
use Rattle.mpd_lines.specs.Folding.{can_cut, is_ink}
use Rattle.mpd_lines.proofs.fold.first_of_all.Given as goal

abbrev pub invariant-loop-place : goal.invariant-loop-place
invariant-loop-place l = record {
  inked : l.is_inked ≡ list_any is_ink (take l.place l.line);
  value : find (can_cut l.line) (range_with_len l.place (length l.line - l.place)) ≡ find (can_cut l.line) (range_with_len 0 (length l.line));
}
