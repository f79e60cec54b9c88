use Rattle.std.proofs.Common.{Option, ℕ, ap, ◌∙◌}
use Rattle.mpd_queue.specs.InOrder.{with_inserted}
use Rattle.mpd_queue.proofs.Spots.{with_one_pushed}
use Rattle.mpd_queue.proofs.lists.Lists.push_back.Goals as goal

pub returns-clause-lists : goal.returns-clause-lists
returns-clause-lists c =
    c.insert.ensures.lists
    ∙ ap (λ (a : Option ℕ). with_inserted c.args.self.now.lists c.args.list c.args.item a) c.none.ensures
    ∙ with_one_pushed c.args.self.now.lists c.args.list c.args.item
