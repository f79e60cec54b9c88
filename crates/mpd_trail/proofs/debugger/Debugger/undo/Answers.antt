use Rattle.std.proofs.Common.{◌≡◌, ◌<◌, ◌+◌, ◌-◌, ℕ, length, take, get_or, None, arith, rules}
use Rattle.std.proofs.lemmas.Grind.{common_steps}
use Rattle.mpd_model.specs.declared.step.Step.TheVariants.{Local}
use Rattle.mpd_model.specs.steps.World.{start}
use Rattle.mpd_trail.specs.Kept.{local_rank, Keeps}
use Rattle.mpd_trail.proofs.KeptLemmas.{is_local, is_apart, local_there, other_there, local_pop, other_pop, keeping}
use Rattle.mpd_trail.proofs.debugger.Debugger.undo.Goals as goal

pub returns-in-Local-clause-undone : goal.returns-in-Local-clause-undone
returns-in-Local-clause-undone c =
    record {
      moved =
          let s = c.self.inside in
          let n = c.in-Some.last in
          let m : ℕ = length s.locals.items - 1 in
          let p = c.in-Local.rank in
          let u = c.index-in-Local.result.now in
          let a = c.index.result.now in
          let long : length s.locals.items + length s.others.items ≡ n + 1 = search rules in
          let read : a ≡ get_or s.steps.items n a = search rules in
          let local : a ≡ Local p = is_local c.of.result a p c.of.ensures c.in-Local.is in
          let some : 0 < length s.locals.items = local_there s.core.program (start s.core.program s.mode) s.locals.items s.others.items s.steps.items s.core.world n p a long read local c.self.invariant in
          let own : length s.locals.items ≡ m + 1 = omega (arith, some) in
          let is : u ≡ get_or s.locals.items m u = search rules in
          let cut : c.truncate.new.self.items ≡ take m s.locals.items = search rules in
          let after : Keeps c.undo_local.new.self.program (start c.undo_local.new.self.program s.mode) c.truncate.new.self.items s.others.items s.steps.items c.undo_local.new.self.world =
          rw (cut, c.undo_local.ensures.program, c.undo_local.ensures.world)
          (local_pop s.core.program (start s.core.program s.mode) s.locals.items s.others.items s.steps.items s.core.world n m p u a long own is read local c.self.invariant) in
          search (rules, keeping, after);
      steps = grind (arith, common_steps);
      few = search (rules, keeping);
      room_left = search (rules, keeping);
    }

pub returns-in-Other-clause-undone : goal.returns-in-Other-clause-undone
returns-in-Other-clause-undone c =
    record {
      moved =
          let s = c.self.inside in
          let n = c.in-Some.last in
          let m : ℕ = length s.others.items - 1 in
          let u = c.index-in-Other.result.now in
          let a = c.index.result.now in
          let long : length s.locals.items + length s.others.items ≡ n + 1 = search rules in
          let read : a ≡ get_or s.steps.items n a = search rules in
          let other : local_rank a ≡ None = is_apart c.of.result a _ c.of.ensures c.in-Other.is in
          let some : 0 < length s.others.items = other_there s.core.program (start s.core.program s.mode) s.locals.items s.others.items s.steps.items s.core.world n a long read other c.self.invariant in
          let own : length s.others.items ≡ m + 1 = omega (arith, some) in
          let is : u ≡ get_or s.others.items m u = search rules in
          let cut : c.truncate-in-Other.new.self.items ≡ take m s.others.items = search rules in
          let after : Keeps c.undo_other.new.self.program (start c.undo_other.new.self.program s.mode) s.locals.items c.truncate-in-Other.new.self.items s.steps.items c.undo_other.new.self.world =
          rw (cut, c.undo_other.ensures.program, c.undo_other.ensures.world)
          (other_pop s.core.program (start s.core.program s.mode) s.locals.items s.others.items s.steps.items s.core.world n m u a long own is read other c.self.invariant) in
          search (rules, keeping, after);
      steps = grind (arith, common_steps);
      few = grind (arith, common_steps, keeping);
      room_left = search (rules, keeping);
    }
