use Rattle.std.proofs.Common.{◌≡◌, []}
use Rattle.mpd_lines.specs.Turned.{SoFar}
use Rattle.mpd_lines.proofs.engine.run_kept.Given as goal

abbrev pub invariant-loop-turn : goal.invariant-loop-turn
invariant-loop-turn g l = record {
  so_far : SoFar g.D.LineDesk.says l.fn.desk l.before l._turn (g.S.Source.seen l.fn.source) (g.S.Source.seen l.source) (g.W.Sink.seen l.fn.sink) (g.W.Sink.seen l.sink) l.desk l.feeder;
  none : l.outbox ≡ [];
}
