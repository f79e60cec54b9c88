-- What the pieces of a walk say of the whole.
use Rattle.std.specs.Prelude.{◌≡◌, ℕ, flat_map, map, false}
use Rattle.std.specs.List.{AllByRecursion}
use Rattle.mpd_model.specs.steps.World.{World}
use Rattle.mpd_explore.specs.declared.report.SearchLimits.{SearchLimits}
use Rattle.mpd_explore.specs.Sleeping.{decides_by, walk_of}
use Rattle.mpd_explore.specs.Report.{shown, listed, left_out}
use Rattle.mpd_explore.specs.Pieces.{pieces, walk_at, Reaches, split_report, split_more}

-- The walks of all pieces, joined in order, are the walk that is asked for: that with every order, or that where each end is once.
abbrev pub PiecesJoinToTheWalk : Type 0
PiecesJoinToTheWalk = (k : ℕ) (l : SearchLimits) (w : World) → flat_map (λ cs. walk_at l cs w) (pieces (decides_by l.ends) k l.fuel w) ≡ walk_of l w

-- Some run begins with the choices of each piece.
abbrev pub EachPieceIsReached : Type 0
EachPieceIsReached = (k : ℕ) (l : SearchLimits) (w : World) → AllByRecursion (λ cs. Reaches (decides_by l.ends) l.fuel cs w) (pieces (decides_by l.ends) k l.fuel w)

-- Cut by no choice, the report is the whole one.
abbrev pub NoChoiceIsTheWhole : Type 0
NoChoiceIsTheWhole = (l : SearchLimits) (w : World) → (split_report 0 l w ≡ listed l (map shown (walk_of l w))) × (split_more 0 l w ≡ left_out l (map shown (walk_of l w)))

-- Where there is no more, the report of a split has the leaf of each run, in order.
abbrev pub NoMoreIsTheWhole : Type 0
NoMoreIsTheWhole = (k : ℕ) (l : SearchLimits) (w : World) → split_more k l w ≡ false → split_report k l w ≡ map shown (walk_of l w)
