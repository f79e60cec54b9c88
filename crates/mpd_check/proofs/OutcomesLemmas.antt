-- Where a debugger stands, and what is answered of the ways to end.
use Rattle.std.proofs.Common.{◌≡◌, ℕ, List, Result, Ok, Err, IfOk, ap₂, ◌∙◌}
use Rattle.std.specs.declared.alloc.AllocError.{AllocError}
use Rattle.mpd_model.specs.declared.call.Mode.{Mode}
use Rattle.mpd_model.specs.script.Program.{Program}
use Rattle.mpd_model.specs.steps.World.{World, start}
use Rattle.mpd_model.specs.runs.Trail.{Trail, Standing}
use Rattle.mpd_trail.specs.DebuggerViews.{DebuggerView, standing_of}
use Rattle.mpd_model.specs.devices.Seen.{SinkSeen}
use Rattle.mpd_outcomes.specs.declared.report.Outcomes.{Outcomes}
use Rattle.mpd_outcomes.specs.declared.report.StateLimits.{StateLimits}
use Rattle.mpd_lines.specs.declared.engine.EngineFault.{EngineFault}
use Rattle.mpd_lines.specs.declared.engine.EngineFault.TheVariants.{ReadFailed, WriteFailed, TooManyTurns, Memory}
use Rattle.mpd_check.specs.declared.outcomes.OutcomesFound.{OutcomesFound}
use Rattle.mpd_check.specs.declared.outcomes.ToldOutcomes.{ToldOutcomes}
use Rattle.mpd_check.specs.Outcomes.{IsTextOf, OutcomesAnsweredBy, PutOutcomes}

-- ---- where a debugger stands

pub same_standing : (d e : DebuggerView) → d.trail ≡ e.trail → d.world ≡ e.world → standing_of d ≡ standing_of e
same_standing d e trail world = ap₂ (λ (t : Trail) (w : World). let s : Standing = record { trail = t; world = w } in s) trail world

-- ---- what is answered

pub put_answered : (text : Outcomes → List ℕ → Type 0) (limits : StateLimits) (s : Program) (mode : Mode) (old new : SinkSeen) (told : Result ToldOutcomes AllocError) (r : Result OutcomesFound EngineFault)
    → IfOk told (IsTextOf text limits (start s mode)) → PutOutcomes told old new r → OutcomesAnsweredBy text limits s mode old new r
put_answered text limits s mode old new (Ok told) (Ok found) tells h = (tells.0, tells.1, told.text.items, tells.2, h.0, h.1 ∙ tells.3)
put_answered text limits s mode old new (Ok told) (Err WriteFailed) tells h = (tells.0, tells.1, told.text.items, tells.2, h)
put_answered text limits s mode old new (Ok told) (Err ReadFailed) tells h = h
put_answered text limits s mode old new (Ok told) (Err TooManyTurns) tells h = h
put_answered text limits s mode old new (Ok told) (Err Memory) tells h = absurd h
put_answered text limits s mode old new (Err refused) (Ok found) tells h = absurd h
put_answered text limits s mode old new (Err refused) (Err WriteFailed) tells h = absurd h
put_answered text limits s mode old new (Err refused) (Err ReadFailed) tells h = h
put_answered text limits s mode old new (Err refused) (Err TooManyTurns) tells h = h
put_answered text limits s mode old new (Err refused) (Err Memory) tells h = h
