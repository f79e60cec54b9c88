use Rattle.mpd_page.proofs.SameLemmas.{reasons_told}
use Rattle.mpd_page.proofs.same.same_reason.Goals as goal

pub returns : goal.returns
returns c = reasons_told c.wait_alike.result c.args.one.now c.args.other.now c.wait_alike.ensures
