use Rattle.std.proofs.Common.{◌≡◌, ◌≤◌, ◌+◌, ◌*◌, ◌++◌, length, reverse, vec_len}
use Rattle.mpd_model.specs.script.Tree.{statements, statements_in, block_of}
use Rattle.mpd_code.specs.Lowered.{lowered}
use Rattle.mpd_code.proofs.lowering.+place.Given as goal

abbrev pub decreases-place : goal.decreases-place
decreases-place l = 3 * statements l.stmt + 1

abbrev pub decreases-place_all : goal.decreases-place_all
decreases-place_all l = 3 * statements_in (block_of l.block.items) + 2

abbrev pub decreases-place_branch : goal.decreases-place_branch
decreases-place_branch l = 3 * (statements_in (block_of l.first.items) + statements_in (block_of l.second.items)) + 3

abbrev pub decreases-place_repeat : goal.decreases-place_repeat
decreases-place_repeat l = 3 * statements_in (block_of l.body.items) + 3

abbrev pub invariant-place_all-loop-stmt : goal.invariant-place_all-loop-stmt
invariant-place_all-loop-stmt l = record {
  small : length l.nodes.items + statements_in (block_of (reverse l.rest.items)) ≤ 4096;
  within : statements_in (block_of (reverse l.rest.items)) ≤ statements_in (block_of l.fn.block.items);
  placed : l.nodes.items ++ lowered (length l.nodes.items) (block_of (reverse l.rest.items)) l.next ≡ l.fn.nodes.items ++ lowered (length l.fn.nodes.items) (block_of l.fn.block.items) l.next;
}

abbrev pub decreases-place_all-loop-stmt : goal.decreases-place_all-loop-stmt
decreases-place_all-loop-stmt l = vec_len l.rest
