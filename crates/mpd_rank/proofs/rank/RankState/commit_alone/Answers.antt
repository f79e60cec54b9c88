use Rattle.mpd_rank.proofs.RankLemmas.{assign_back}
use Rattle.mpd_rank.proofs.rank.RankState.commit_alone.Goals as goal

pub returns-in-Assign-clause-back : goal.returns-in-Assign-clause-back
returns-in-Assign-clause-back c = λ p running. assign_back p c.args.self.now c.assign.new.self c.assign.result c.in-Assign.cell c.in-Assign.next _ c.assign.ensures.after c.assign.ensures.recorded running
