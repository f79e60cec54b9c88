use Rattle.std.proofs.Common.{◌≡◌, true, All, vec_len, List}
use Rattle.crossbeam_deque.specs.Handles.{worker_deque, worker_view, IsPassOf}
use Rattle.mpd_model.specs.runs.Trail.{Standing}
use Rattle.mpd_explore.specs.declared.report.SearchLimits.{SearchLimits}
use Rattle.mpd_explore.specs.declared.splitter.Piece.{Piece}
use Rattle.mpd_pool.specs.declared.work.Batch.{Batch}
use Rattle.mpd_pool.specs.Parts.{Filled}
use Rattle.mpd_pool.specs.Brought.{AllRight}
use Rattle.mpd_pool.proofs.slots.collect.Given as goal

abbrev pub invariant-loop-batch : goal.invariant-loop-batch
invariant-loop-batch l = record {
  live : (worker_view l.owner).live ≡ true;
  passes : All (λ (b : Batch). IsPassOf (worker_deque l.owner) b.pass) l.batches.items;
  right : (d : Standing) (k : SearchLimits) (ps : List Piece) → All (λ (b : Batch). AllRight d k ps b.brought.items) l.initial.batches.items → All (λ (b : Batch). AllRight d k ps b.brought.items) l.batches.items;
  filled : (d : Standing) (k : SearchLimits) (ps : List Piece) → All (λ (b : Batch). AllRight d k ps b.brought.items) l.initial.batches.items → Filled d k ps l.initial.slots.items → Filled d k ps l.slots.items;
}

abbrev pub decreases-loop-batch : goal.decreases-loop-batch
decreases-loop-batch l = vec_len l.batches
