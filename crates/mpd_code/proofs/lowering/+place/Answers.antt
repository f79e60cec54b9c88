use Rattle.std.proofs.Common.{◌≡◌, ◌+◌, length, reverse, ◌∙◌, arith, rules}
use Rattle.mpd_model.specs.script.Tree.{statements, statements_in, block_of}
use Rattle.mpd_code.specs.Lowered.{entry}
use Rattle.mpd_code.proofs.Placed.{placed_more, counted_more, length_placed, length_more}
use Rattle.mpd_code.proofs.lowering.+place.Goals as goal

pub place_all-loop-stmt-preserved : goal.place_all-loop-stmt-preserved
place_all-loop-stmt-preserved t c =
    let fewer : statements_in (block_of (reverse c.loop-stmt.rest.items)) ≡ statements c.in-Some.stmt + statements_in (block_of (reverse c.pop.new.self.items)) =
    counted_more c.loop-stmt.rest.items c.pop.new.self.items c.in-Some.stmt c.in-Some.ensures.items in
    let follows : c.entry-follows.result ≡ entry (length c.loop-stmt.nodes.items + statements c.in-Some.stmt) (block_of c.pop.new.self.items) c.args.next = search rules in
    record {
      small = omega (arith, fewer, c.loop-stmt.invariant.small, length_more c.loop-stmt.nodes.items c.place.new.nodes.items c.in-Some.stmt c.entry-follows.result c.in_ok-place.ensures);
      within = omega (arith, fewer, c.loop-stmt.invariant.within);
      placed = placed_more c.loop-stmt.nodes.items c.place.new.nodes.items c.loop-stmt.rest.items c.pop.new.self.items c.in-Some.stmt c.args.next c.entry-follows.result c.in-Some.ensures.items follows c.in_ok-place.ensures ∙ c.loop-stmt.invariant.placed;
    }

pub place_branch-place_all-requires-2 : goal.place_branch-place_all-requires-2
place_branch-place_all-requires-2 t c =
    let m : length c.place_all.new.nodes.items ≡ length c.args.nodes.now.items + 1 + statements_in (block_of c.args.first.items) =
    length_placed c.args.nodes.now.items c.add.new.nodes.items c.place_all.new.nodes.items (block_of c.args.first.items) _ c.args.next c.in_ok-add.ensures c.in_ok-place_all.ensures in
    (omega arith, omega (arith, m))
