use Rattle.std.proofs.Common.{◌≡◌, suc, [], replicate}
use Rattle.mpd_match.specs.Views.{calls_in, lines_in, writes_in}
use Rattle.mpd_match.proofs.AtSide.{marks_in}
use Rattle.mpd_match.proofs.sides.new_sides.Given as goal

abbrev pub invariant-loop : goal.invariant-loop
invariant-loop l = record {
  calls : calls_in l.sides.items ≡ replicate l.counter [];
  marks : marks_in l.sides.items ≡ replicate l.counter [];
  lines : lines_in l.sides.items ≡ replicate l.counter (suc l.ranks);
  writes : writes_in l.sides.items ≡ 0;
}
