-- Reports by their leaves, all of them or those that end in the same way together, each with what is asked for beside it; and what is written
-- of them. With nothing beside their leaves that is the text of a report.
use Rattle.std.specs.Prelude.{◌≡◌, ◌<◌, ◌≤◌, ℕ, Bool, false, nat_lt, List, [], length, map, slice_get, Some, Result, Ok, Err, string_bytes}
use Rattle.mpd_model.specs.declared.call.Mode.{Mode}
use Rattle.mpd_model.specs.script.Program.{Program}
use Rattle.mpd_model.specs.declared.decision.Decision.{Decision}
use Rattle.mpd_model.specs.steps.World.{World, start}
use Rattle.mpd_model.specs.runs.Trail.{Standing, first_standing}
use Rattle.mpd_policy.specs.Wide.{wide_decision}
use Rattle.mpd_model.specs.devices.Seen.{SinkSeen}
use Rattle.mpd_explore.specs.declared.report.SearchLeaf.{SearchLeaf}
use Rattle.mpd_explore.specs.declared.report.SearchLimits.{SearchLimits}
use Rattle.mpd_explore.specs.declared.splitter.TheConstants.{PIECES_MAX}
use Rattle.mpd_policy.specs.Walk.{wide_walk}
use Rattle.mpd_explore.specs.Sleeping.{decides_by}
use Rattle.mpd_explore.specs.Report.{shown, ended_by}
use Rattle.mpd_explore.specs.ReportText.{report_text}
use Rattle.mpd_explore.specs.Printed.{told_text}
use Rattle.mpd_runs.specs.Drawn.{seeded, draws, sampled}
use Rattle.mpd_pool.specs.declared.pool.SearchPlan.{SearchPlan}
use Rattle.mpd_lines.specs.declared.engine.EngineFault.TheVariants.{ReadFailed, WriteFailed, TooManyTurns, Memory}
use Rattle.mpd_check.specs.declared.fault.CheckFault.{CheckFault}
use Rattle.mpd_check.specs.declared.fault.CheckFault.TheVariants.{BadWorkers, TooManyPieces, NoSuchPiece, Engine}
use Rattle.mpd_check.specs.declared.counts.Tally.{Tally}
use Rattle.mpd_check.specs.declared.listing.Listing.{Listing}
use Rattle.mpd_check.specs.declared.listing.Telling.{Telling}
use Rattle.mpd_check.specs.Tally.{tally_of}
use Rattle.mpd_check.specs.Grouped.{shown_of}
use Rattle.mpd_check.specs.Shown.{IsShown, ends_if}
use Rattle.mpd_check.specs.Checked.{pieces_of, leaves_of, more_of, leaves_at, more_at, text_of, IsCrew, AreFew, Wrote, WrotePart, AnsweredBy, PartAnswered}

-- ---- a report by its leaves

-- That of leaves which were listed where a debugger stands, with what is asked for beside them.
pub record IsListing (decide : World → Decision) (t : Telling) (l : SearchLimits) (d : Standing) (leaves : List SearchLeaf) (more : Bool) (v : Listing) : Type 0 where
  pub tally_is : v.tally ≡ tally_of leaves more
  pub shown_is : IsShown decide t.group l d leaves more v.shown v.groups.items
  pub ends_are : v.ends.items ≡ ends_if decide t.explain l.fuel d (shown_of t.group leaves)

-- the same of a whole report from the start of a script, or why there is none
abbrev pub IsListed : Telling → Program → Mode → SearchPlan → ℕ → Result Listing CheckFault → Type 0
IsListed t s mode plan workers (Ok v) = IsListing (decides_by plan.limits.ends) t plan.limits (first_standing s mode) (leaves_of s mode plan) (more_of s mode plan) v × IsCrew workers × AreFew s mode plan
IsListed t s mode plan workers (Err (Engine Memory)) = IsCrew workers
IsListed t s mode plan workers (Err (Engine WriteFailed)) = ⊥
IsListed t s mode plan workers (Err (Engine ReadFailed)) = ⊥
IsListed t s mode plan workers (Err (Engine TooManyTurns)) = ⊥
IsListed t s mode plan workers (Err BadWorkers) = IsCrew workers → ⊥
IsListed t s mode plan workers (Err TooManyPieces) = IsCrew workers × (PIECES_MAX < length (pieces_of s mode plan))
IsListed t s mode plan workers (Err (NoSuchPiece number count)) = ⊥

-- the part of it that the piece of a number has, or why there is none
abbrev pub IsPartListed : Telling → Program → Mode → SearchPlan → ℕ → Result Listing CheckFault → Type 0
IsPartListed t s mode plan number (Ok v) =
    (choices : List ℕ) × (slice_get (pieces_of s mode plan) number ≡ Some choices) × AreFew s mode plan
    × IsListing (decides_by plan.limits.ends) t plan.limits (first_standing s mode) (leaves_at s mode plan choices) (more_at s mode plan choices) v
IsPartListed t s mode plan number (Err (Engine WriteFailed)) = ⊥
IsPartListed t s mode plan number (Err (Engine Memory)) = Unit {0}
IsPartListed t s mode plan number (Err (Engine ReadFailed)) = ⊥
IsPartListed t s mode plan number (Err (Engine TooManyTurns)) = ⊥
IsPartListed t s mode plan number (Err BadWorkers) = ⊥
IsPartListed t s mode plan number (Err TooManyPieces) = PIECES_MAX < length (pieces_of s mode plan)
IsPartListed t s mode plan number (Err (NoSuchPiece asked count)) = (asked ≡ number) × (count ≡ length (pieces_of s mode plan)) × (count ≤ number) × AreFew s mode plan

-- ---- what is written

-- nothing is asked for beside the leaves
abbrev pub IsPlain : Telling → Type 0
IsPlain t = (t.explain ≡ false) × (t.group ≡ false)

-- A text of a listing: with nothing beside its leaves that of a report. What else is said of it is in no clause.
abbrev pub IsTextOf : Telling → Listing → List ℕ → Type 0
IsTextOf t v text = IsPlain t → text ≡ told_text (map string_bytes v.shown.witnesses.items) v.shown.leaves.items v.shown.more

-- such a text was written, or a part of it until a write failed; or nothing, where memory was refused
abbrev pub PutListing : Telling → Listing → SinkSeen → SinkSeen → Result Tally CheckFault → Type 0
PutListing t v old new (Ok tally) = (text : List ℕ) × IsTextOf t v text × Wrote text old new × (tally ≡ v.tally)
PutListing t v old new (Err (Engine WriteFailed)) = (text : List ℕ) × IsTextOf t v text × WrotePart text old new
PutListing t v old new (Err (Engine Memory)) = new ≡ old
PutListing t v old new (Err (Engine ReadFailed)) = ⊥
PutListing t v old new (Err (Engine TooManyTurns)) = ⊥
PutListing t v old new (Err BadWorkers) = ⊥
PutListing t v old new (Err TooManyPieces) = ⊥
PutListing t v old new (Err (NoSuchPiece number count)) = ⊥

-- a text of the whole report was written: with nothing beside the leaves the one that `Answered` has
abbrev pub ListingAnswered : Telling → Program → Mode → SearchPlan → ℕ → SinkSeen → SinkSeen → Result Tally CheckFault → Type 0
ListingAnswered t s mode plan workers old new result = (text : List ℕ) × (IsPlain t → text ≡ text_of s mode plan (leaves_of s mode plan) (more_of s mode plan)) × AnsweredBy text s mode plan workers old new result

-- the text of the part of a report that has the runs which begin with some choices
abbrev pub plain_part : Program → Mode → SearchPlan → List ℕ → List ℕ
plain_part s mode plan choices = text_of s mode plan (leaves_at s mode plan choices) (more_at s mode plan choices)

-- a text of the part that the piece of a number has was written: with nothing beside its leaves that one
abbrev pub PartWritten : Telling → Program → Mode → SearchPlan → ℕ → SinkSeen → SinkSeen → Result Tally CheckFault → Type 0
PartWritten t s mode plan number old new result =
    (text : List ℕ → List ℕ) × (IsPlain t → (choices : List ℕ) → slice_get (pieces_of s mode plan) number ≡ Some choices → text choices ≡ plain_part s mode plan choices) × PartAnswered text s mode plan number old new result

-- ---- a sample

-- the leaves of the runs that are drawn, each once, up to the first bad one if that is asked for, and whether the wide walk has others
abbrev pub sample_leaves : Program → Mode → ℕ → SearchLimits → List SearchLeaf
sample_leaves s mode seed l = ended_by l.until_bad (map shown (sampled (draws l.until_bad l.fuel l.runs (start s mode) (seeded seed)) l.fuel (start s mode)))

abbrev pub sample_more : Program → Mode → ℕ → SearchLimits → Bool
sample_more s mode seed l = nat_lt (length (sample_leaves s mode seed l)) (length (wide_walk l.fuel (start s mode)))

-- This text of a sample was written, or a part of it until a write failed; or nothing, where memory was refused.
abbrev pub SampledBy : List ℕ → Program → Mode → ℕ → SearchLimits → SinkSeen → SinkSeen → Result Tally CheckFault → Type 0
SampledBy text s mode seed l old new (Ok tally) = Wrote text old new × (tally ≡ tally_of (sample_leaves s mode seed l) (sample_more s mode seed l))
SampledBy text s mode seed l old new (Err (Engine WriteFailed)) = WrotePart text old new
SampledBy text s mode seed l old new (Err (Engine Memory)) = new ≡ old
SampledBy text s mode seed l old new (Err (Engine ReadFailed)) = ⊥
SampledBy text s mode seed l old new (Err (Engine TooManyTurns)) = ⊥
SampledBy text s mode seed l old new (Err BadWorkers) = ⊥
SampledBy text s mode seed l old new (Err TooManyPieces) = ⊥
SampledBy text s mode seed l old new (Err (NoSuchPiece number count)) = ⊥

-- the text of the report of a sample
abbrev pub sample_text : Program → Mode → ℕ → SearchLimits → List ℕ
sample_text s mode seed l = report_text wide_decision l.witnesses [] l.fuel (start s mode) (sample_leaves s mode seed l) (sample_more s mode seed l)

-- a text of it was written: with nothing beside its leaves that one
abbrev pub SampleAnswered : Telling → Program → Mode → ℕ → SearchLimits → SinkSeen → SinkSeen → Result Tally CheckFault → Type 0
SampleAnswered t s mode seed l old new result = (text : List ℕ) × (IsPlain t → text ≡ sample_text s mode seed l) × SampledBy text s mode seed l old new result
