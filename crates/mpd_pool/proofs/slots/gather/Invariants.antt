use Rattle.std.proofs.Common.{vec_len, List}
use Rattle.mpd_model.specs.runs.Trail.{Standing}
use Rattle.mpd_explore.specs.declared.report.SearchLimits.{SearchLimits}
use Rattle.mpd_explore.specs.declared.splitter.Piece.{Piece}
use Rattle.mpd_pool.specs.Parts.{Filled}
use Rattle.mpd_pool.specs.Brought.{AllRight}
use Rattle.mpd_pool.proofs.slots.gather.Given as goal

abbrev pub invariant-loop-one : goal.invariant-loop-one
invariant-loop-one l = record {
  right : (d : Standing) (k : SearchLimits) (ps : List Piece) → AllRight d k ps l.initial.brought.items → AllRight d k ps l.brought.items;
  filled : (d : Standing) (k : SearchLimits) (ps : List Piece) → AllRight d k ps l.initial.brought.items → Filled d k ps l.initial.slots.items → Filled d k ps l.slots.items;
}

abbrev pub decreases-loop-one : goal.decreases-loop-one
decreases-loop-one l = vec_len l.brought
