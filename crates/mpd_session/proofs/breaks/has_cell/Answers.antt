use Rattle.std.proofs.Common.{◌∙◌, ◌≤◌, subst}
use Rattle.mpd_session.proofs.LookLemmas.{no_cell, cell_told}
use Rattle.mpd_session.proofs.breaks.has_cell.Goals as goal

pub returns-then-rank-rank_count : goal.returns-then-rank-rank_count
returns-then-rank-rank_count c = no_cell c.args.core.now.world c.args.rank c.args.cell (subst (λ n. n ≤ c.args.rank) c.rank_count.ensures.value c.if-rank-rank_count.true)

pub returns : goal.returns
returns c =
    cell_told c.args.core.now.world c.args.rank c.args.cell _ c.variables.result.now c.is_some.result c.rank.ensures.world c.variables.ensures (c.is_some.ensures ∙ c.get.ensures.lookup.0)
