use Rattle.std.proofs.Common.{drop}
use Rattle.mpd_lines.specs.Gathering.{Fed}
use Rattle.mpd_lines.specs.Telling.{waiting_below}
use Rattle.mpd_lines.proofs.feeder.Feeder.feed.Given as goal

abbrev pub invariant-loop-byte : goal.invariant-loop-byte
invariant-loop-byte g l =
    Fed g.D.LineDesk.says (waiting_below g.D.LineDesk.gathers) l.fn.desk l.fn.self l.piece (g.W.Sink.seen l.fn.sink) l.fn.outbox (g.W.Sink.seen l.sink) l.outbox l.desk l.self (drop l.byte-index l.piece)
