use Rattle.std.proofs.Common.{◌≡◌, drop}
use Rattle.std.specs.List.{list_all}
use Rattle.mpd_picture.specs.Shapes.{is_choice}
use Rattle.mpd_picture.proofs.candidates.are_choices.Given as goal

abbrev pub invariant-loop-step : goal.invariant-loop-step
invariant-loop-step l = list_all (is_choice l.core.world.board) (drop l.step-index l.steps) ≡ list_all (is_choice l.core.world.board) l.steps
