-- What a call of the core comes to that takes a step, and one that takes a step back.
use Rattle.std.specs.Prelude.{◌≡◌, ◌↔◌, ℕ, ◌+◌, ◌≤◌, Some, None, Result, IfOk, OnOk, OnErr, IsErrOf}
use Rattle.mpd_model.specs.declared.step.Step.{Step}
use Rattle.mpd_model.specs.steps.Next.{next}
use Rattle.mpd_core.specs.declared.fault.StepFault.{StepFault}
use Rattle.mpd_core.specs.declared.fault.StepFault.TheVariants.{NotEnabled, Memory}
use Rattle.mpd_core.specs.declared.record.Record.{Record}
use Rattle.mpd_core.specs.Views.{CoreView}
use Rattle.mpd_core.specs.Records.{record_of}
use Rattle.mpd_core.specs.Undone.{undone, CanUndo}
use Rattle.mpd_core.specs.Looks.{step_looks, most_looks}
use Rattle.mpd_core.specs.Writes.{most_writes, most_writes_back}

-- what the call takes of the room that was kept: that for one step, or none where it is refused
pub record Spent {T E : Type 0} (old new : ℕ) (result : Result T E) : Type 0 where
  pub room_left : old ≤ new + 1
  pub err_room : OnErr result (old ≤ new)

-- how many writes it counts, at least and at most, or none where it is refused
pub record Wrote {T E : Type 0} (least most old new : ℕ) (result : Result T E) : Type 0 where
  pub rises : OnOk result (old + least ≤ new)
  pub few : new ≤ old + most
  pub unwritten : OnErr result (new ≡ old)

-- A step of a core, from `old` to `new`: to where the definition goes, with the record that the definition has for the step, which
-- takes it back; or not, exactly where the definition goes nowhere, or for want of room. What the call answers is all of the record
-- but for what `entry` adds to it.
pub record CoreStepped {D : Type 0} (entry : D → Record) (a : Step) (old new : CoreView) (result : Result D StepFault) : Type 0 where
  pub ok : OnOk result (next old.world a ≡ Some new.world)
  pub recorded : IfOk result (λ done. record_of old.world a ≡ Some (entry done))
  pub back : IfOk result (λ done. undone old.program new.world (entry done) ≡ old.world)
  pub can : IfOk result (λ done. CanUndo new.world (entry done))
  pub not_enabled : IsErrOf result NotEnabled ↔ (next old.world a ≡ None)
  pub memory : IsErrOf result Memory → old.room ≡ 0
  pub err : OnErr result (new.world ≡ old.world)
  pub program : new.program ≡ old.program
  pub room : Spent old.room new.room result
  pub looks : new.looks ≡ old.looks + step_looks old.world.board a
  pub few_looks : new.looks ≤ old.looks + most_looks old.world.board a

-- how many writes it counts, whatever step it is
abbrev pub StepWrote : {D : Type 0} → Step → CoreView → CoreView → Result D StepFault → Type 0
StepWrote a old new result = Wrote 1 (most_writes old.program.ranks a) old.writes new.writes result

-- the step of a record, taken back
pub record CoreUndone (done : Record) (old new : CoreView) : Type 0 where
  pub world : new.world ≡ undone old.program old.world done
  pub program : new.program ≡ old.program
  pub room_left : old.room ≤ new.room
  pub rises : old.writes + 1 ≤ new.writes
  pub few : new.writes ≤ old.writes + most_writes_back old.program.ranks done
  pub looks : new.looks ≡ old.looks
