use Rattle.mpd_laws.proofs.buffered.SendsDone.{synchronous_await}
use Rattle.mpd_laws.proofs.buffers.synchronous_sends_await_their_match.Goals as goal

pub returns : goal.returns
returns c = synchronous_await
