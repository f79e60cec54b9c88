use Rattle.std.proofs.Common.{◌∙◌}
use Rattle.mpd_pool.proofs.Places.{filled_taken, filled_at}
use Rattle.mpd_pool.proofs.join.taken.Goals as goal
use Rattle.std.proofs.Common.{refl}

pub returns-clause-part : goal.returns-clause-part
returns-clause-part c = λ d l ps f.
    filled_at d d l ps c.args.slots.now.items c.args.number c.index_mut.result.now c.take.result c.requires.within (c.take.ensures.value ∙ c.index_mut.ensures.value) refl f

pub returns-clause-filled : goal.returns-clause-filled
returns-clause-filled c = λ d l ps f. filled_taken d l ps c.args.slots.now.items c.args.number c.take.new.self c.take.ensures.after f
