use Rattle.std.proofs.Common.{vec_len, is_ok, arith}
use Rattle.mpd_queue.proofs.Methods.{holds_grown}
use Rattle.mpd_queue.proofs.lists.Lists.keep_room.Goals as goal

pub invariant_of-self : goal.invariant_of-self
invariant_of-self c =
    let k = c.self.inside.links in
    holds_grown k.cells.items c.resize.new.self.items c.none.result c.none-2.result k.ends.items (vec_len k.ends) (vec_len k.cells) (vec_len c.resize.new.self) c.args.count (is_ok c.resize.result) c.self.inside.shown
    c.none.ensures c.none-2.ensures (omega (arith, k.cells.ok.0)) (omega arith) (omega arith) c.resize.ensures.items c.resize.ensures.len c.self.invariant
