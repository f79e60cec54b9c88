use Rattle.std.proofs.Common.{List, ap, ◌∙◌, ◌++◌, vec_len, arith}
use Rattle.mpd_queue.specs.declared.links.Cell.{Cell}
use Rattle.mpd_queue.specs.declared.links.Ends.{Ends}
use Rattle.mpd_queue.proofs.Methods.{holds_copied}
use Rattle.mpd_queue.proofs.lists.Lists.copy.Goals as goal

pub invariant_of-result : goal.invariant_of-result
invariant_of-result c =
    let k = c.self.inside.links in
    holds_copied k.cells.items c.extend_from_slice.new.self.items k.ends.items c.extend_from_slice-2.new.self.items
    (vec_len k.ends) (vec_len k.cells) (vec_len c.extend_from_slice-2.new.self) (vec_len c.extend_from_slice.new.self) c.self.inside.shown c.copy.result
    (c.in_ok-extend_from_slice.ensures.items ∙ ap (λ (xs : List Cell). xs ++ c.as_slice.result.now) c.new-cells.ensures.items ∙ c.as_slice.ensures.value)
    (c.in_ok-extend_from_slice-2.ensures.items ∙ ap (λ (xs : List Ends). xs ++ c.as_slice-2.result.now) c.new-ends.ensures.items ∙ c.as_slice-2.ensures.value)
    (omega (arith, c.in_ok-extend_from_slice-2.ensures.len, c.new-ends.ensures.len, c.as_slice-2.ensures.len))
    (omega (arith, c.in_ok-extend_from_slice.ensures.len, c.new-cells.ensures.len, c.as_slice.ensures.len))
    c.copy.ensures c.self.invariant
