-- A rank that isn't there has no line.
use Rattle.std.proofs.Common.{◌≡◌, ℕ, ◌≤◌, List, length, slice_get, sym, ap}
use Rattle.std.proofs.lemmas.Option.{slice_get_past}
use Rattle.mpd_model.specs.steps.World.{World}
use Rattle.mpd_names.specs.Placed.{rank_line}

pub no_line : (lines : List ℕ) (w : World) (p : ℕ) → length w.ranks ≤ p → 0 ≡ rank_line lines (slice_get w.ranks p)
no_line lines w p h = ap (rank_line lines) (sym (slice_get_past w.ranks p h))
