-- What an engine has read and written, and which requests its desk has taken, by what it answers.
use Rattle.std.specs.Prelude.{◌≡◌, ℕ, ◌+◌, ◌*◌, ◌≤◌, false, List, [], length, Result, Ok, Err}
use Rattle.std.specs.Io.KnownBytes.{Consumes, IsAtEnd}
use Rattle.mpd_model.specs.declared.limits.TheConstants.{READS_MAX}
use Rattle.mpd_model.specs.texts.Lines.{lines_of}
use Rattle.mpd_model.specs.devices.Seen.{SourceSeen, SinkSeen}
use Rattle.mpd_lines.specs.Served.{Served}
use Rattle.mpd_lines.specs.Telling.{Tells, waiting_below}
use Rattle.mpd_lines.specs.declared.engine.EngineFault.{EngineFault}
use Rattle.mpd_session.specs.declared.request.Request.{Request}
use Rattle.mpd_session.specs.declared.reply.Reply.{Reply}
use Rattle.mpd_wire.specs.declared.fault.WireFault.{WireFault}
use Rattle.mpd_wire.specs.declared.engine.End.{End}
use Rattle.mpd_wire.specs.Says.{Says, answered}

-- The desk d answers the lines of a source, each before the next is asked, and is e then. Which request a line is, `is` says. At the end of the input all of its lines
-- were answered, and those that aren't empty are counted; what stands where a fault ended it is told of any desk of lines.
abbrev pub Ended : {D : Type 0} → (List ℕ → Result Request WireFault) → (D → Request → Reply → D → Type 0) → (D → Type 0) → D → SourceSeen → SourceSeen → SinkSeen → SinkSeen → D → Result End EngineFault → Type 0
Ended is asks full d s t v w e (Ok end) =
    (read : List ℕ) × Consumes s.remaining t.remaining read × IsAtEnd t.remaining × (t.ends ≡ s.ends + 1)
    × Tells (Says is asks full) d (lines_of read) v.contents w.contents e × (length read ≤ 4096 * READS_MAX) × (end.lines ≡ answered (lines_of read))
Ended is asks full d s t v w e (Err f) = Served (Says is asks full) (waiting_below false) d [] READS_MAX s t v w e (Err f)
