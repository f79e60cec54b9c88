-- Steps with the calls and lines that they are about, on the state before them.
use Rattle.std.specs.Prelude.{ℕ, List, map, slice_get, Option, Some, None}
use Rattle.std.specs.Option.{option_map}
use Rattle.mpd_model.specs.declared.step.CallId.{CallId}
use Rattle.mpd_model.specs.declared.step.Step.{Step}
use Rattle.mpd_model.specs.declared.step.Step.TheVariants.{Local, Match, Wake, WakeAny, Release}
use Rattle.mpd_model.specs.script.Program.{Program}
use Rattle.mpd_model.specs.steps.World.{World, buffer, last_call}
use Rattle.mpd_model.specs.steps.Next.{any_call, any_handle, enabled}
use Rattle.mpd_names.specs.declared.place.PlacedCall.{PlacedCall}
use Rattle.mpd_names.specs.Placed.{rank_line, placed_call_of}
use Rattle.mpd_explain.specs.declared.steps.Completed.{Completed}
use Rattle.mpd_explain.specs.declared.steps.PlacedStep.{PlacedStep}
use Rattle.mpd_explain.specs.declared.steps.PlacedStep.TheVariants as at

-- the request of an index of the waitany that rank p has issued last, by its call
abbrev pub completed_of : Program → World → ℕ → ℕ → CallId → Completed
completed_of s w p i c = record { handle = any_handle w p i; call = placed_call_of s w.board c; got = buffer w.board c }

abbrev pub placed_step_of : Program → World → Step → PlacedStep
placed_step_of s w (Local p) = at.Local p (rank_line s.lines (slice_get w.ranks p))
placed_step_of s w (Match c d) = at.Match (placed_call_of s w.board c) (placed_call_of s w.board d)
placed_step_of s w (Wake p) = at.Wake (placed_call_of s w.board (last_call w.board p))
placed_step_of s w (WakeAny p i) = at.WakeAny (placed_call_of s w.board (last_call w.board p)) i (option_map (completed_of s w p i) (any_call w p i))
placed_step_of s w Release = at.Release

abbrev pub step_of : PlacedStep → Step
step_of (at.Local p line) = Local p
step_of (at.Match c d) = Match c.call d.call
step_of (at.Wake c) = Wake c.call.rank
step_of (at.WakeAny c i r) = WakeAny c.call.rank i
step_of at.Release = Release

-- the call that a candidate is chosen for: the receive of a match, and the waitany that a rank goes
-- on from
abbrev pub chooser : PlacedStep → Option PlacedCall
chooser (at.Match c d) = Some d
chooser (at.WakeAny c i r) = Some c
chooser other = None

abbrev pub enabled_steps : Program → World → List PlacedStep
enabled_steps s w = map (placed_step_of s w) (enabled w)
