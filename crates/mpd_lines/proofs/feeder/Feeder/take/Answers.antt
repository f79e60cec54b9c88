use Rattle.mpd_lines.proofs.feeder.Feeder.take.Goals as goal

pub returns-then-byte-eq10-clause-gathered : goal.returns-then-byte-eq10-clause-gathered
returns-then-byte-eq10-clause-gathered g c = rw c.if-byte-eq10.true c.end_line-told.ensures
