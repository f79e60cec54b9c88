use Rattle.std.proofs.Common.{◌≡◌, take}
use Rattle.mpd_match.specs.Views.{calls_in, lines_in, writes_in}
use Rattle.mpd_match.proofs.AtSide.{marks_in}
use Rattle.mpd_match.proofs.sides.copy_sides.Given as goal

abbrev pub invariant-loop-rank : goal.invariant-loop-rank
invariant-loop-rank l = record {
  calls : calls_in l.copied.items ≡ calls_in (take l.rank l.sides.items);
  marks : marks_in l.copied.items ≡ marks_in (take l.rank l.sides.items);
  lines : lines_in l.copied.items ≡ lines_in (take l.rank l.sides.items);
  writes : writes_in l.copied.items ≡ 0;
}
