use Rattle.std.proofs.Common.{◌≤◌, ◌+◌, vec_capacity}
use Rattle.mpd_lines.specs.UpTo.{Gathered}
use Rattle.mpd_lines.proofs.up_to.read_up_to.Given as goal

abbrev pub invariant-loop-turn : goal.invariant-loop-turn
invariant-loop-turn g l = record {
  gathered : Gathered l.fn.max (g.S.Source.seen l.fn.source) (g.S.Source.seen l.source) l.turn l.text.items;
  room : l.fn.max + 1 ≤ vec_capacity l.text;
}
