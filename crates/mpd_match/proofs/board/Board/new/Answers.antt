use Rattle.mpd_match.proofs.Boards.{meets_new}
use Rattle.mpd_match.proofs.Counted.{counted_new}
use Rattle.mpd_match.proofs.board.Board.new.Goals as goal

pub invariant_of-result : goal.invariant_of-result
invariant_of-result c = record {
  meets = meets_new c.args.mode c.in_ok-new_sides.field-0.items c.new.result.items c.args.ranks c.requires c.in_ok-new_sides.ensures.calls c.in_ok-new_sides.ensures.marks c.in_ok-new_sides.ensures.lines c.new.ensures.items;
  counted = counted_new c.args.mode c.in_ok-new_sides.field-0.items c.new.result.items c.in_ok-filled.field-0.items c.args.ranks c.in_ok-new_sides.ensures.calls c.in_ok-filled.ensures.items;
}
