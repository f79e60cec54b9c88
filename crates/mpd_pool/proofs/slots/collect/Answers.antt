use Rattle.std.proofs.Common.{ap, sym, subst, All, Global}
use Rattle.atomic_blocks.specs.Lent.{RowsId}
use Rattle.crossbeam_deque.specs.Handles.{worker_deque, IsPassOf}
use Rattle.mpd_pool.specs.declared.work.Batch.{Batch}
use Rattle.mpd_pool.specs.Brought.{AllRight}
use Rattle.mpd_pool.proofs.Keeps.{merges}
use Rattle.mpd_pool.proofs.Workers.{all_front, all_last}
use Rattle.mpd_pool.proofs.slots.collect.Goals as goal

pub absorb-requires-clause-rule : goal.absorb-requires-clause-rule
absorb-requires-clause-rule c = merges _ _ _ _ c.loop-batch.invariant.live

pub loop-batch-preserved : goal.loop-batch-preserved
loop-batch-preserved c =
    let i = c.loop-batch.invariant in
    let same = c.absorb.ensures.same in
    let popped = c.in-Some.ensures.items in
    record {
      live = ap (λ v. v.live) c.absorb.ensures.rule;
      passes = (let P : RowsId × Global → Type 0 = λ deque. All (λ (b : Batch). IsPassOf deque b.pass) c.pop.new.self.items in
          subst P (sym same.0.0) (all_front (λ (b : Batch). IsPassOf (worker_deque c.loop-batch.owner) b.pass) _ _ _ popped i.passes));
      right = λ d k ps all. all_front (λ (b : Batch). AllRight d k ps b.brought.items) _ _ _ popped (i.right d k ps all);
      filled = λ d k ps all f. c.gather.ensures d k ps (all_last (λ (b : Batch). AllRight d k ps b.brought.items) _ _ _ popped (i.right d k ps all)) (i.filled d k ps all f);
    }
