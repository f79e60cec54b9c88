use Rattle.mpd_explain.proofs.CallLemmas.{calls_name}
use Rattle.mpd_explain.proofs.laws.calls_name_their_statements.Goals as goal

pub returns : goal.returns
returns c = calls_name
