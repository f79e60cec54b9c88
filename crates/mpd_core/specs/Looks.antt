-- How many looks at the lists of free calls a step takes.
use Rattle.std.specs.Prelude.{ℕ, ◌+◌, cond, length}
use Rattle.mpd_model.specs.declared.step.Step.{Step}
use Rattle.mpd_model.specs.declared.step.Step.TheVariants.{Match}
use Rattle.mpd_model.specs.steps.World.{Board, fits, pending, posted}
use Rattle.mpd_match.specs.Looks.{eligible_looks}

abbrev pub step_looks : Board → Step → ℕ
step_looks b (Match s r) = eligible_looks b s r
step_looks b a = 0

-- at most the cells of the two lists and 2, and none where the two are no send and receive that fit
abbrev pub most_looks : Board → Step → ℕ
most_looks b (Match s r) = cond (fits b s r) (length (pending b s.rank r.rank) + length (posted b r.rank) + 2) 0
most_looks b a = 0
