use Rattle.std.proofs.Common.{◌<◌, length, refl, rules}
use Rattle.mpd_core.proofs.RankLemmas.{on_board, held_set}
use Rattle.mpd_core.proofs.SteppedLemmas.{ranks_stepped}
use Rattle.mpd_core.proofs.ranks.step_one.Goals as goal

pub step_rank-requires-clause-rank : goal.step_rank-requires-clause-rank
step_rank-requires-clause-rank c =
    let within : c.args.rank < length c.args.ranks.now.items = search rules in
    on_board c.args.code.now.program c.args.ranks.now.items c.args.board.now.board (length c.args.ranks.now.items) c.args.rank c.index_mut-state.result.now refl within c.index_mut-state.ensures.value c.requires.held

pub returns-clause-stepped : goal.returns-clause-stepped
returns-clause-stepped c =
    let within : c.args.rank < length c.args.ranks.now.items = search rules in
    ranks_stepped c.args.code.now.program c.args.ranks.now.items (length c.args.ranks.now.items) c.args.rank c.index_mut-state.result.now c.step_rank.new.state c.args.board.now c.step_rank.new.board c.step_rank.result refl within c.index_mut-state.ensures.value c.requires.held c.step_rank.ensures.stepped

pub returns-clause-held : goal.returns-clause-held
returns-clause-held c =
    held_set c.args.code.now.program c.args.ranks.now.items c.args.board.now.board c.step_rank.new.board.board c.args.rank c.index_mut-state.result.now c.step_rank.new.state c.index_mut-state.ensures.value c.step_rank.ensures.number c.step_rank.ensures.ranks (c.step_rank.ensures.tags c.requires.held.tags) c.requires.held
