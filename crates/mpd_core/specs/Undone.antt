-- What taking a step back makes of a world, and where it can be taken back.
use Rattle.std.specs.Prelude.{◌≡◌, ℕ, ◌<◌, true, Some, None, length, map}
use Rattle.mpd_model.specs.declared.call.MatchSet.TheVariants as set
use Rattle.mpd_model.specs.script.Program.{Program}
use Rattle.mpd_model.specs.steps.World.{World, Board, calls_of, partner, last_call}
use Rattle.mpd_model.specs.steps.Next.{update_at}
use Rattle.mpd_match.specs.Changes.{without_last_call, without_last_set, last_set, Recorded, is_woke}
use Rattle.mpd_rank.specs.declared.change.LocalChange.{LocalChange}
use Rattle.mpd_rank.specs.declared.change.LocalChange.TheVariants.{Issued}
use Rattle.mpd_rank.specs.Undone.{undone_rank, unwoken, blocked_again}
use Rattle.mpd_core.specs.declared.record.OtherRecord.{OtherRecord}
use Rattle.mpd_core.specs.declared.record.OtherRecord.TheVariants.{Matched, Woke, Released}
use Rattle.mpd_core.specs.declared.record.Record.{Record}
use Rattle.mpd_core.specs.declared.record.Record.TheVariants.{Local, Other}

-- a board before a local step of a rank, which issued a call or did something else
abbrev pub unissued : Board → ℕ → LocalChange → Board
unissued b p (Issued handle) = without_last_call b p
unissued b p change = b

-- a world before a step that isn't local
abbrev pub undone_other : World → OtherRecord → World
undone_other w (Matched places) = record w { board = without_last_set w.board }
undone_other w (Woke p was) = record { ranks = update_at w.ranks p (λ r. unwoken r was); board = without_last_set w.board }
undone_other w Released = record { ranks = map blocked_again w.ranks; board = without_last_set w.board }

abbrev pub undone : Program → World → Record → World
undone s w (Local p done) = record { ranks = update_at w.ranks p (λ r. undone_rank s r done); board = unissued w.board p done.change }
undone s w (Other done) = undone_other w done

-- ---- where a record can be taken back

-- a call that was issued last is there, and no pair names it
abbrev pub CanUnissue : Board → ℕ → LocalChange → Type 0
CanUnissue b p (Issued handle) = (0 < length (calls_of b p)) × (partner b.sets (last_call b p) ≡ None)
CanUnissue b p change = Unit {0}

-- the last match set is the one that the step formed; where it is a pair, the places are those of its calls before it
abbrev pub CanUndoOther : World → OtherRecord → Type 0
CanUndoOther w (Matched places) = Recorded (without_last_set w.board) places (last_set w.board)
CanUndoOther w (Woke p was) = (p < length w.ranks) × (is_woke (last_set w.board) ≡ true)
CanUndoOther w Released = last_set w.board ≡ Some set.Barrier

-- A record can be taken back on the world that its step led to: what `undo` requires, `apply` ensures, and the trail carries.
abbrev pub CanUndo : World → Record → Type 0
CanUndo w (Local p done) = (p < length w.ranks) × CanUnissue w.board p done.change
CanUndo w (Other done) = CanUndoOther w done
