use Rattle.std.proofs.Common.{◌≡◌, length}
use Rattle.mpd_lines.specs.Telling.{Sent}
use Rattle.mpd_lines.proofs.outbox.write_all.Given as goal

abbrev pub invariant-loop-rest : goal.invariant-loop-rest
invariant-loop-rest g l = record {
  sent : Sent (g.W.Sink.seen l.fn.sink).contents (g.W.Sink.seen l.sink).contents l.bytes l.rest;
  counted : (g.W.Sink.seen l.sink).failures ≡ (g.W.Sink.seen l.fn.sink).failures;
}

abbrev pub decreases-loop-rest : goal.decreases-loop-rest
decreases-loop-rest g l = length l.rest
