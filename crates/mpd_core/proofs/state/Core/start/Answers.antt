use Rattle.mpd_core.proofs.TagLemmas.{held_start}
use Rattle.mpd_core.proofs.state.Core.start.Goals as goal

pub invariant_of-result : goal.invariant_of-result
invariant_of-result c =
    held_start c.args.code.now.program c.in_ok-start_ranks.field-0.items c.in_ok-new.field-0.board c.ranks-size.result c.args.mode c.in_ok-start_ranks.ensures.numbers c.ranks-size.ensures.value c.ranks-size.ensures.small c.in_ok-new.ensures.board
