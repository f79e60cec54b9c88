-- A rank that isn't there holds nothing.
use Rattle.std.proofs.Common.{◌≡◌, ℕ, ◌≤◌, [], length, slice_get, sym, ap}
use Rattle.std.proofs.lemmas.Option.{slice_get_past}
use Rattle.mpd_model.specs.steps.World.{World}
use Rattle.mpd_page.specs.Changes.{vars_of, handles_of, out_of}

pub no_vars : (w : World) (p : ℕ) → length w.ranks ≤ p → [] ≡ vars_of (slice_get w.ranks p)
no_vars w p h = sym (ap vars_of (slice_get_past w.ranks p h))

pub no_handles : (w : World) (p : ℕ) → length w.ranks ≤ p → [] ≡ handles_of (slice_get w.ranks p)
no_handles w p h = sym (ap handles_of (slice_get_past w.ranks p h))

pub no_output : (w : World) (p : ℕ) → length w.ranks ≤ p → [] ≡ out_of (slice_get w.ranks p)
no_output w p h = sym (ap out_of (slice_get_past w.ranks p h))

pub ruleset none_held = (no_vars, no_handles, no_output)
