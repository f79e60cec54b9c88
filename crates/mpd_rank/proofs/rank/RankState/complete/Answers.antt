use Rattle.std.proofs.Common.{◌∙◌, ap, refl}
use Rattle.mpd_rank.specs.Views.{RankView}
use Rattle.mpd_rank.specs.Undone.{handle_entry}
use Rattle.mpd_rank.proofs.RankLemmas.{wake_back}
use Rattle.mpd_rank.proofs.rank.RankState.complete.Goals as goal

pub returns-clause-back : goal.returns-clause-back
returns-clause-back c = λ p blocked. wake_back p c.args.self.now c.move_to.new.self c.args.writes c.args.handle (record { cells = c.write_all-cells.result; handle = c.request-handle.result }) (rw (c.move_to.ensures.after, c.control-node.ensures, c.request-handle.ensures.after, c.write_all-cells.ensures.after) refl) c.write_all-cells.ensures.was (c.request-handle.ensures.was ∙ ap (λ (v : RankView). handle_entry c.args.handle v.handles) c.write_all-cells.ensures.after) blocked
