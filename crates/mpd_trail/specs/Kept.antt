-- What the debugger keeps: each record is that of its step and takes it back, and on the world that the step led to it can be taken
-- back. Records of local steps stand apart from those of others. All steps kept, undone ones included, lead somewhere.
use Rattle.std.specs.Prelude.{◌≡◌, ℕ, ◌+◌, ◌≤◌, List, [], ◌∷◌, length, min, take, reverse, Option, Some, None, IsSome}
use Rattle.mpd_model.specs.declared.limits.TheConstants.{STEPS_MAX}
use Rattle.mpd_model.specs.declared.step.Step.{Step}
use Rattle.mpd_model.specs.declared.step.Step.TheVariants.{Local}
use Rattle.mpd_model.specs.steps.World.{World}
use Rattle.mpd_model.specs.steps.Next.{next, fold}
use Rattle.mpd_model.specs.script.Program.{Program}
use Rattle.mpd_rank.specs.Undone.{LocalDone}
use Rattle.mpd_core.specs.declared.record.OtherRecord.{OtherRecord}
use Rattle.mpd_core.specs.declared.record.Record.{Record}
use Rattle.mpd_core.specs.declared.record.Record.TheVariants as kind
use Rattle.mpd_core.specs.Records.{record_of}
use Rattle.mpd_core.specs.Undone.{undone, CanUndo}

-- the rank of a local step
abbrev pub local_rank : Step → Option ℕ
local_rank (Local p) = Some p
local_rank a = None

-- the record of the newest step, and the records that are left
pub record Drawn : Type 0 where
  pub newest : Record
  pub locals : List LocalDone
  pub others : List OtherRecord

-- A local step, which has a rank here, has its record in the first list, any other step in the second.
abbrev pub drawn : Option ℕ → List LocalDone → List OtherRecord → Option Drawn
drawn (Some p) (u ∷ locals) others = Some (record { newest = kind.Local p u; locals = locals; others = others })
drawn (Some p) [] others = None
drawn None locals (u ∷ others) = Some (record { newest = kind.Other u; locals = locals; others = others })
drawn None locals [] = None

-- the record of a step that led to a world, which takes it back from there
pub record TakesBack (s : Program) (a : Step) (last : World) (done : Record) : Type 0 where
  pub led : next (undone s last done) a ≡ Some last
  pub can : CanUndo last done
  pub recorded : record_of (undone s last done) a ≡ Some done

-- The record takes the step back, and what is left leads to the world before it.
abbrev pub LeadsBy : (List LocalDone → List OtherRecord → World → Type 0) → Program → Step → World → Option Drawn → Type 0
LeadsBy before s a last (Some d) = TakesBack s a last d.newest × before d.locals d.others (undone s last d.newest)
LeadsBy before s a last None = ⊥

-- where no step is left, no record is either
abbrev pub IsStart : List LocalDone → List OtherRecord → World → World → Type 0
IsStart [] [] first last = last ≡ first
IsStart [] (u ∷ others) first last = ⊥
IsStart (u ∷ locals) others first last = ⊥

-- The newest records and steps come first. A record doesn't hold its step.
abbrev pub LeadsTo : Program → World → List LocalDone → List OtherRecord → List Step → World → Type 0
LeadsTo s first locals others [] last = IsStart locals others first last
LeadsTo s first locals others (a ∷ steps) last = LeadsBy (λ l o w. LeadsTo s first l o steps w) s a last (drawn (local_rank a) locals others)

pub record Keeps (s : Program) (first : World) (locals : List LocalDone) (others : List OtherRecord) (steps : List Step) (last : World) : Type 0 where
  pub within : length locals + length others ≤ length steps
  pub few : length steps ≤ STEPS_MAX
  pub leads : LeadsTo s first (reverse locals) (reverse others) (reverse (take (length locals + length others) steps)) last
  pub whole : IsSome (fold first steps)

-- for how many steps room is kept, by the room for records of local steps, of others, and for steps
abbrev pub room_in : ℕ → ℕ → ℕ → ℕ
room_in locals others steps = min locals (min others steps)
