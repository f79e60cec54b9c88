-- What a debugger replies to a list of steps taken, taken back and taken again, told by the steps kept and by how many of them are
-- not undone.
use Rattle.std.specs.Prelude.{◌≡◌, ◌<◌, ◌≤◌, ◌+◌, ℕ, List, [], ◌∷◌, ◌++◌, length, take, drop, slice_get, None, Some, IsSome}
use Rattle.mpd_model.specs.declared.limits.TheConstants.{STEPS_MAX}
use Rattle.mpd_model.specs.declared.step.Step.{Step}
use Rattle.mpd_model.specs.steps.World.{World, start}
use Rattle.mpd_model.specs.steps.Next.{next, fold}
use Rattle.mpd_model.specs.runs.Trail.{Trail, Standing, done_steps, applied, taken_back, redone, gone_back}
use Rattle.mpd_core.specs.Writes.{most_writes}
use Rattle.mpd_trail.specs.DebuggerViews.{Place}
use Rattle.mpd_trail.specs.DebuggerWrites.{most_writes_of}
use Rattle.mpd_trail.specs.declared.run.TrailCommand.{TrailCommand}
use Rattle.mpd_trail.specs.declared.run.Reply.{Reply}
use Rattle.mpd_trail.specs.declared.run.TrailCommand.TheVariants.{Apply, Undo, Redo, UndoTo}
use Rattle.mpd_trail.specs.declared.run.Reply.TheVariants.{Done, NotEnabled, Full, AtStart, NoRedo, NotBefore, Memory}

abbrev pub first_of : Trail → World
first_of t = start t.program t.mode

-- A step more is not undone, and where it was taken the relation of steps has it.
pub record Takes (old : Trail) (a : Step) (new : Trail) : Type 0 where
  pub leads : IsSome (fold (first_of old) (done_steps new))
  pub steps : done_steps new ≡ done_steps old ++ a ∷ []

-- One command: the trail before it, the reply, and the trail after it. A step is refused exactly where the relation of steps has
-- none, or as one too many, or for want of memory. What was undone is taken again as it was, so only want of memory can be in the
-- way of it. No command that takes steps back wants memory.
abbrev pub Answers : Trail → TrailCommand → Reply → Trail → Type 0
Answers old (Apply a) Done new = Takes old a new × (length (done_steps old) < STEPS_MAX) × (new ≡ applied old a)
Answers old (Apply a) NotEnabled new = (fold (first_of old) (done_steps old ++ a ∷ []) ≡ None) × (new ≡ old)
Answers old (Apply a) Full new = IsSome (fold (first_of old) (done_steps old ++ a ∷ [])) × (length (done_steps old) ≡ STEPS_MAX) × (new ≡ old)
Answers old (Apply a) Memory new = IsSome (fold (first_of old) (done_steps old ++ a ∷ [])) × (length (done_steps old) < STEPS_MAX) × (new ≡ old)
Answers old (Apply a) r new = ⊥
Answers old Undo Done new = (a : Step) × (done_steps old ≡ done_steps new ++ a ∷ []) × (new ≡ taken_back old)
Answers old Undo AtStart new = (done_steps old ≡ []) × (new ≡ old)
Answers old Undo r new = ⊥
Answers old Redo Done new = (a : Step) × (slice_get old.steps (length (done_steps old)) ≡ Some a) × Takes old a new × (new ≡ redone old)
Answers old Redo NoRedo new = (done_steps old ≡ old.steps) × (new ≡ old)
Answers old Redo Memory new = (length (done_steps old) < length old.steps) × (new ≡ old)
Answers old Redo r new = ⊥
Answers old (UndoTo depth) Done new = (depth ≤ length (done_steps old)) × (done_steps new ≡ take depth (done_steps old)) × (new ≡ gone_back old depth)
Answers old (UndoTo depth) NotBefore new = (length (done_steps old) < depth) × (new ≡ old)
Answers old (UndoTo depth) r new = ⊥

pub record Stays (old new : Standing) : Type 0 where
  pub trail : new.trail ≡ old.trail
  pub world : new.world ≡ old.world

-- The same command, told by the worlds.
abbrev pub Carried : Standing → TrailCommand → Reply → Standing → Type 0
Carried old (Apply a) Done new = (next old.world a ≡ Some new.world) × (new.trail ≡ applied old.trail a) × (old.trail.depth < STEPS_MAX)
Carried old (Apply a) NotEnabled new = (next old.world a ≡ None) × Stays old new
Carried old (Apply a) Full new = IsSome (next old.world a) × (old.trail.depth ≡ STEPS_MAX) × Stays old new
Carried old (Apply a) Memory new = IsSome (next old.world a) × (old.trail.depth < STEPS_MAX) × Stays old new
Carried old (Apply a) r new = ⊥
Carried old Undo Done new = (0 < old.trail.depth) × (new.trail ≡ taken_back old.trail)
Carried old Undo AtStart new = (old.trail.depth ≡ 0) × Stays old new
Carried old Undo r new = ⊥
Carried old Redo Done new = (old.trail.depth < length old.trail.steps) × (new.trail ≡ redone old.trail)
Carried old Redo NoRedo new = (old.trail.depth ≡ length old.trail.steps) × Stays old new
Carried old Redo Memory new = (old.trail.depth < length old.trail.steps) × Stays old new
Carried old Redo r new = ⊥
Carried old (UndoTo depth) Done new = (depth ≤ old.trail.depth) × (new.trail ≡ gone_back old.trail depth)
Carried old (UndoTo depth) NotBefore new = (old.trail.depth < depth) × Stays old new
Carried old (UndoTo depth) r new = ⊥

-- How many writes a command takes at least where it is carried out: one for each step that it takes, or takes back.
abbrev pub Raised : List Step → TrailCommand → ℕ → ℕ → Type 0
Raised old (Apply a) before after = before + 1 ≤ after
Raised old Undo before after = before + 1 ≤ after
Raised old Redo before after = before + 1 ≤ after
Raised old (UndoTo depth) before after = before + length (drop depth old) ≤ after

-- How many it takes at most, of a script of so many ranks: as many as the steps that it takes, or takes back.
abbrev pub Bounded : ℕ → List Step → TrailCommand → List Step → ℕ → ℕ → Type 0
Bounded ranks old (Apply a) new before after = after ≤ before + most_writes ranks a
Bounded ranks old Undo new before after = (a : Step) → old ≡ new ++ a ∷ [] → after ≤ before + most_writes ranks a
Bounded ranks old Redo new before after = (a : Step) → new ≡ old ++ a ∷ [] → after ≤ before + most_writes ranks a
Bounded ranks old (UndoTo depth) new before after = after ≤ before + most_writes_of ranks (drop depth old)

-- How many it takes, told by its reply and the steps not undone; a refusal takes none.
abbrev pub Written : ℕ → List Step → TrailCommand → Reply → List Step → ℕ → ℕ → Type 0
Written ranks old c Done new before after = Raised old c before after × Bounded ranks old c new before after
Written ranks old c r new before after = after ≡ before

-- For how many steps a command takes room at most: for one where a step is taken, or taken again, and else for none.
abbrev pub taken : TrailCommand → Reply → ℕ
taken (Apply a) Done = 1
taken Redo Done = 1
taken c r = 0

-- A list of commands, with a reply to each. Memory is refused only where no room was left.
abbrev pub Run : Place → List TrailCommand → List Reply → Place → Type 0
Run old [] [] new = new ≡ old
Run old (c ∷ cs) (r ∷ rs) new =
    (mid : Place) × Answers old.trail c r mid.trail × Written old.trail.program.ranks (done_steps old.trail) c r (done_steps mid.trail) old.writes mid.writes
    × (r ≡ Memory → old.room ≡ 0) × (old.room ≤ mid.room + taken c r) × Run mid cs rs new
Run old [] (r ∷ rs) new = ⊥
Run old (c ∷ cs) [] new = ⊥

-- A run from a trail and a count of writes, with some room.
abbrev pub RunFrom : Trail → ℕ → List TrailCommand → List Reply → Place → Type 0
RunFrom old writes cs rs new = (room : ℕ) × Run (record { trail = old; room = room; writes = writes }) cs rs new

-- how many of the commands take a step, or take one again
abbrev pub steps_in : List TrailCommand → ℕ
steps_in [] = 0
steps_in (c ∷ cs) = taken c Done + steps_in cs

-- what was asked for wasn't refused memory
abbrev pub IsGiven : Reply → Type 0
IsGiven r = r ≡ Memory → ⊥

pub record SameScript (old new : Trail) : Type 0 where
  pub program : new.program ≡ old.program
  pub mode : new.mode ≡ old.mode
