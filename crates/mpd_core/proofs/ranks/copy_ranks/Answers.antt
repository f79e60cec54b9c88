use Rattle.std.proofs.Common.{◌≡◌, ◌<◌, [], ◌∷◌, ◌++◌, length, rules, arith, length-append}
use Rattle.mpd_rank.specs.Views.{RankView}
use Rattle.mpd_core.proofs.RankLemmas.{ranks_copied_more, numbers_copied_more, writes_more}
use Rattle.mpd_core.proofs.ranks.copy_ranks.Goals as goal

pub loop-rank-preserved : goal.loop-rank-preserved
loop-rank-preserved c =
    let i = c.loop-rank.invariant in
    let vs = c.args.ranks.now.items in
    let copied = c.loop-rank.copied.items in
    let n = c.loop-rank.rank in
    let v : RankView = c.index.result.now in
    let w : RankView = c.in_ok-copy.field-0 in
    let within : n < length vs = search rules in
    let pushed : c.push.new.self.items ≡ copied ++ w ∷ [] = search rules in
    record {
      ranks = λ s. rw pushed (ranks_copied_more s copied vs n v w within c.index.ensures (c.in_ok-copy.ensures.world s) (i.ranks s));
      numbers = rw pushed (numbers_copied_more copied vs n v w within c.index.ensures c.in_ok-copy.ensures.rank i.numbers);
      size = rw pushed (omega (arith, length-append copied (w ∷ []), i.size));
      writes = rw pushed (writes_more copied w i.writes c.in_ok-copy.ensures.writes);
    }
