-- The record of each step, a function of the world before it.
use Rattle.std.specs.Prelude.{ℕ, ℤ, List, length, slice_get, Option, Some, option_and_then}
use Rattle.std.specs.Option.{option_map}
use Rattle.mpd_model.specs.declared.step.Step.{Step}
use Rattle.mpd_model.specs.declared.step.Step.TheVariants as step
use Rattle.mpd_model.specs.steps.World.{RankWorld, World}
use Rattle.mpd_model.specs.steps.Next.{wake_writes, wake_clears, any_writes, any_handle}
use Rattle.mpd_match.specs.Changes.{record_of_pair}
use Rattle.mpd_rank.specs.declared.change.WakeRecord.{WakeRecord}
use Rattle.mpd_rank.specs.Undone.{LocalDone}
use Rattle.mpd_rank.specs.Records.{local_record, wake_record}
use Rattle.mpd_core.specs.declared.record.OtherRecord.TheVariants.{Matched, Woke, Released}
use Rattle.mpd_core.specs.declared.record.Record.{Record}
use Rattle.mpd_core.specs.declared.record.Record.TheVariants.{Local, Other}

-- the record of the local step of one of the ranks, and of the wake of one
abbrev pub local_record_at : List RankWorld → ℕ → Option LocalDone
local_record_at ranks p = option_and_then (local_record p (length ranks)) (slice_get ranks p)

abbrev pub wake_record_at : List RankWorld → ℕ → List (ℕ × ℤ) → Option ℕ → Option WakeRecord
wake_record_at ranks p writes handle = option_map (λ r. wake_record r writes handle) (slice_get ranks p)

-- the record of a rank that went on
abbrev pub woken_at : ℕ → WakeRecord → Record
woken_at p was = Other (Woke p was)

-- What a wake writes and clears is told by the call that the rank was blocked on, and by the request that is chosen of a waitany.
abbrev pub record_of : World → Step → Option Record
record_of w (step.Local p) = option_map (Local p) (local_record_at w.ranks p)
record_of w (step.Match s r) = Some (Other (Matched (record_of_pair w.board s r)))
record_of w (step.Wake p) = option_map (woken_at p) (wake_record_at w.ranks p (wake_writes w.board p) (wake_clears w.board p))
record_of w (step.WakeAny p i) = option_map (woken_at p) (wake_record_at w.ranks p (any_writes w p i) (any_handle w p i))
record_of w step.Release = Some (Other Released)
