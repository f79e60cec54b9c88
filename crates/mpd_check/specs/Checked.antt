-- What a check answers.
use Rattle.std.specs.Prelude.{◌≡◌, ◌<◌, ◌≤◌, ℕ, ◌+◌, ◌++◌, Bool, false, if◌then◌else◌, List, [], length, slice_get, Option, Some, Result, Ok, Err, codes}
use Rattle.std.specs.Fmt.{decimal}
use Rattle.std.specs.Io.KnownBytes.{Appends}
use Rattle.mpd_model.specs.declared.call.Mode.{Mode}
use Rattle.mpd_model.specs.script.Program.{Program}
use Rattle.mpd_model.specs.steps.World.{start}
use Rattle.mpd_model.specs.texts.Texts.{line}
use Rattle.mpd_model.specs.devices.Seen.{SinkSeen}
use Rattle.mpd_explore.specs.declared.report.SearchLeaf.{SearchLeaf}
use Rattle.mpd_explore.specs.declared.report.Witnesses.TheVariants.{OfNone, OfDeadlocks}
use Rattle.mpd_explore.specs.Sleeping.{decides_by}
use Rattle.mpd_explore.specs.ReportText.{report_text}
use Rattle.mpd_explore.specs.declared.splitter.TheConstants.{PIECES_MAX}
use Rattle.mpd_explore.specs.Pieces.{pieces, part, part_left, split_report, split_more}
use Rattle.mpd_pool.specs.declared.pool.TheConstants.{WORKERS_MAX}
use Rattle.mpd_pool.specs.declared.pool.SearchPlan.{SearchPlan}
use Rattle.mpd_lines.specs.declared.engine.EngineFault.TheVariants.{ReadFailed, WriteFailed, TooManyTurns, Memory}
use Rattle.mpd_lines.specs.Telling.{AppendsPart}
use Rattle.mpd_lines.specs.declared.verdict.Verdict.{Verdict}
use Rattle.mpd_check.specs.declared.fault.CheckFault.{CheckFault}
use Rattle.mpd_check.specs.declared.fault.CheckFault.TheVariants.{BadWorkers, TooManyPieces, NoSuchPiece, Engine}
use Rattle.mpd_check.specs.declared.counts.Tally.{Tally}
use Rattle.mpd_check.specs.declared.modes.Listed.TheVariants as listed
use Rattle.mpd_check.specs.declared.ReportOptions.{ReportOptions}
use Rattle.mpd_check.specs.Tally.{tally_of, verdict_of}
use Rattle.mpd_check.specs.ModeText.{mode_line, least_line}

-- ---- what is told of a script's runs from its start

-- the choices of each piece
abbrev pub pieces_of : Program → Mode → SearchPlan → List (List ℕ)
pieces_of s mode plan = pieces (decides_by plan.limits.ends) plan.split plan.limits.fuel (start s mode)

-- the leaves that are listed, and whether there are more
abbrev pub leaves_of : Program → Mode → SearchPlan → List SearchLeaf
leaves_of s mode plan = split_report plan.split plan.limits (start s mode)

abbrev pub more_of : Program → Mode → SearchPlan → Bool
more_of s mode plan = split_more plan.split plan.limits (start s mode)

-- the same of the runs that begin with the choices of one piece
abbrev pub leaves_at : Program → Mode → SearchPlan → List ℕ → List SearchLeaf
leaves_at s mode plan choices = part plan.limits choices (start s mode)

abbrev pub more_at : Program → Mode → SearchPlan → List ℕ → Bool
more_at s mode plan choices = part_left plan.limits choices (start s mode)

-- a report of these leaves
abbrev pub text_of : Program → Mode → SearchPlan → List SearchLeaf → Bool → List ℕ
text_of s mode plan leaves more = report_text (decides_by plan.limits.ends) plan.limits.witnesses [] plan.limits.fuel (start s mode) leaves more

-- how many pieces there are: `pieces 225`
abbrev pub count_text : ℕ → List ℕ
count_text count = line (codes "pieces " ++ decimal count)

-- ---- what is answered

-- so many workers there may be
abbrev pub IsCrew : ℕ → Type 0
IsCrew workers = (0 < workers) × (workers ≤ WORKERS_MAX)

abbrev pub AreFew : Program → Mode → SearchPlan → Type 0
AreFew s mode plan = length (pieces_of s mode plan) ≤ PIECES_MAX

-- the whole text was written
abbrev pub Wrote : List ℕ → SinkSeen → SinkSeen → Type 0
Wrote text old new = Appends old.contents new.contents text × (new.failures ≡ old.failures)

-- a part of it was, until a write failed
abbrev pub WrotePart : List ℕ → SinkSeen → SinkSeen → Type 0
WrotePart text old new = AppendsPart old.contents new.contents text × (new.failures ≡ old.failures + 1)

-- what was told is written
abbrev pub Put : List ℕ → Tally → SinkSeen → SinkSeen → Result Tally CheckFault → Type 0
Put text told old new (Ok tally) = Wrote text old new × (tally ≡ told)
Put text told old new (Err (Engine WriteFailed)) = WrotePart text old new
Put text told old new (Err (Engine ReadFailed)) = ⊥
Put text told old new (Err (Engine TooManyTurns)) = ⊥
Put text told old new (Err (Engine Memory)) = ⊥
Put text told old new (Err BadWorkers) = ⊥
Put text told old new (Err TooManyPieces) = ⊥
Put text told old new (Err (NoSuchPiece number count)) = ⊥

-- This text of a whole report was written, or a part of it until a write failed; or nothing: the number of workers is refused, else there
-- are too many pieces, or memory was refused.
abbrev pub AnsweredBy : List ℕ → Program → Mode → SearchPlan → ℕ → SinkSeen → SinkSeen → Result Tally CheckFault → Type 0
AnsweredBy text s mode plan workers old new (Ok tally) = Wrote text old new × (tally ≡ tally_of (leaves_of s mode plan) (more_of s mode plan)) × IsCrew workers × AreFew s mode plan
AnsweredBy text s mode plan workers old new (Err (Engine WriteFailed)) = WrotePart text old new × IsCrew workers × AreFew s mode plan
AnsweredBy text s mode plan workers old new (Err (Engine Memory)) = (new ≡ old) × IsCrew workers
AnsweredBy text s mode plan workers old new (Err (Engine ReadFailed)) = ⊥
AnsweredBy text s mode plan workers old new (Err (Engine TooManyTurns)) = ⊥
AnsweredBy text s mode plan workers old new (Err BadWorkers) = (new ≡ old) × (IsCrew workers → ⊥)
AnsweredBy text s mode plan workers old new (Err TooManyPieces) = (new ≡ old) × IsCrew workers × (PIECES_MAX < length (pieces_of s mode plan))
AnsweredBy text s mode plan workers old new (Err (NoSuchPiece number count)) = ⊥

-- the whole report
abbrev pub Answered : Program → Mode → SearchPlan → ℕ → SinkSeen → SinkSeen → Result Tally CheckFault → Type 0
Answered s mode plan workers old new result = AnsweredBy (text_of s mode plan (leaves_of s mode plan) (more_of s mode plan)) s mode plan workers old new result

-- the search that is asked for where no more is said than these
abbrev pub plan_by : ReportOptions → SearchPlan
plan_by o = record {
  split = o.split;
  limits = record { runs = o.runs; fuel = o.fuel; witnesses = if o.witness then OfDeadlocks else OfNone; until_bad = false; ends = false };
}

-- the whole report, and whether something bad is listed
abbrev pub Judged : Program → ReportOptions → SinkSeen → SinkSeen → Result Verdict CheckFault → Type 0
Judged s o old new (Ok v) = (t : Tally) × Answered s o.mode (plan_by o) o.workers old new (Ok t) × (v ≡ verdict_of false false t)
Judged s o old new (Err fault) = Answered s o.mode (plan_by o) o.workers old new (Err fault)

-- what it tells, or why nothing is told
abbrev pub IsTallied : Program → Mode → SearchPlan → ℕ → Result Tally CheckFault → Type 0
IsTallied s mode plan workers (Ok tally) = (tally ≡ tally_of (leaves_of s mode plan) (more_of s mode plan)) × IsCrew workers × AreFew s mode plan
IsTallied s mode plan workers (Err (Engine Memory)) = IsCrew workers
IsTallied s mode plan workers (Err (Engine WriteFailed)) = ⊥
IsTallied s mode plan workers (Err (Engine ReadFailed)) = ⊥
IsTallied s mode plan workers (Err (Engine TooManyTurns)) = ⊥
IsTallied s mode plan workers (Err BadWorkers) = IsCrew workers → ⊥
IsTallied s mode plan workers (Err TooManyPieces) = IsCrew workers × (PIECES_MAX < length (pieces_of s mode plan))
IsTallied s mode plan workers (Err (NoSuchPiece number count)) = ⊥

-- one line of what it tells
abbrev pub ModeAnswered : Program → Mode → SearchPlan → ℕ → SinkSeen → SinkSeen → Result Tally CheckFault → Type 0
ModeAnswered s mode plan workers old new result = AnsweredBy (mode_line listed.Leaves mode (tally_of (leaves_of s mode plan) (more_of s mode plan))) s mode plan workers old new result

-- The part of the report that the piece of a number has was written; or nothing: there are too many pieces, or so few.
abbrev pub PartAnswered : (List ℕ → List ℕ) → Program → Mode → SearchPlan → ℕ → SinkSeen → SinkSeen → Result Tally CheckFault → Type 0
PartAnswered text s mode plan number old new (Ok tally) =
    (choices : List ℕ) × (slice_get (pieces_of s mode plan) number ≡ Some choices) × AreFew s mode plan
    × Wrote (text choices) old new × (tally ≡ tally_of (leaves_at s mode plan choices) (more_at s mode plan choices))
PartAnswered text s mode plan number old new (Err (Engine WriteFailed)) =
    (choices : List ℕ) × (slice_get (pieces_of s mode plan) number ≡ Some choices) × AreFew s mode plan × WrotePart (text choices) old new
PartAnswered text s mode plan number old new (Err (Engine Memory)) = new ≡ old
PartAnswered text s mode plan number old new (Err (Engine ReadFailed)) = ⊥
PartAnswered text s mode plan number old new (Err (Engine TooManyTurns)) = ⊥
PartAnswered text s mode plan number old new (Err BadWorkers) = ⊥
PartAnswered text s mode plan number old new (Err TooManyPieces) = (new ≡ old) × (PIECES_MAX < length (pieces_of s mode plan))
PartAnswered text s mode plan number old new (Err (NoSuchPiece asked count)) = (new ≡ old) × (asked ≡ number) × (count ≡ length (pieces_of s mode plan)) × (count ≤ number) × AreFew s mode plan

-- a text of how many pieces there are is written
abbrev pub PutCount : List ℕ → SinkSeen → SinkSeen → Result Unit CheckFault → Type 0
PutCount text old new (Ok done) = Wrote text old new
PutCount text old new (Err (Engine WriteFailed)) = WrotePart text old new
PutCount text old new (Err (Engine ReadFailed)) = ⊥
PutCount text old new (Err (Engine TooManyTurns)) = ⊥
PutCount text old new (Err (Engine Memory)) = ⊥
PutCount text old new (Err BadWorkers) = ⊥
PutCount text old new (Err TooManyPieces) = ⊥
PutCount text old new (Err (NoSuchPiece number count)) = ⊥

-- which mode is the first without a deadlock or a trap was written; or nothing, where memory was refused
abbrev pub LeastPut : Option Mode → SinkSeen → SinkSeen → Result Unit CheckFault → Type 0
LeastPut least old new (Err (Engine Memory)) = new ≡ old
LeastPut least old new result = PutCount (least_line least) old new result

-- How many pieces there are was written; or nothing, where they are too many.
abbrev pub Counted : Program → Mode → SearchPlan → SinkSeen → SinkSeen → Result Unit CheckFault → Type 0
Counted s mode plan old new (Ok done) = Wrote (count_text (length (pieces_of s mode plan))) old new × AreFew s mode plan
Counted s mode plan old new (Err (Engine WriteFailed)) = WrotePart (count_text (length (pieces_of s mode plan))) old new × AreFew s mode plan
Counted s mode plan old new (Err (Engine Memory)) = new ≡ old
Counted s mode plan old new (Err (Engine ReadFailed)) = ⊥
Counted s mode plan old new (Err (Engine TooManyTurns)) = ⊥
Counted s mode plan old new (Err BadWorkers) = ⊥
Counted s mode plan old new (Err TooManyPieces) = (new ≡ old) × (PIECES_MAX < length (pieces_of s mode plan))
Counted s mode plan old new (Err (NoSuchPiece number count)) = ⊥
