use Rattle.std.proofs.Common.{◌<◌, length, refl, rules}
use Rattle.mpd_core.proofs.RankLemmas.{woke_read}
use Rattle.mpd_core.proofs.ranks.wake_one.Goals as goal

pub returns-clause-recorded : goal.returns-clause-recorded
returns-clause-recorded c =
    let within : c.args.rank < length c.args.ranks.now.items = search rules in
    λ s. woke_read s c.args.ranks.now.items (length c.args.ranks.now.items) c.args.rank c.index_mut-state.result.now c.args.writes c.args.handle c.complete.result refl within c.index_mut-state.ensures.value (c.complete.ensures.recorded s)
