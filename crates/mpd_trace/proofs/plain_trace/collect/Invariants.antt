use Rattle.mpd_trace.specs.Collected.{Follows}
use Rattle.mpd_trace.proofs.plain_trace.collect.Given as goal

abbrev pub invariant-loop-turn : goal.invariant-loop-turn
invariant-loop-turn g l = record {
  follows : Follows (g.S.Source.seen l.fn.source) (g.S.Source.seen l.source) l.turn l.divider;
}
