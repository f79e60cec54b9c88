use Rattle.mpd_witness.proofs.judgement.verdict_at_start.Goals as goal

pub returns : goal.returns
returns c = rw c.in_ok-core.ensures.world at c.verdict_from.ensures.verdict
