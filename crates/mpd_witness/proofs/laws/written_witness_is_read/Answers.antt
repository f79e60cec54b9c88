use Rattle.mpd_witness.proofs.ReportRead.{report_is_read}
use Rattle.mpd_witness.proofs.laws.written_witness_is_read.Goals as goal

pub returns : goal.returns
returns c = report_is_read
