-- The matches that nobody has to choose, and those that somebody has to.
use Rattle.std.specs.Prelude.{ℕ, Bool, List, Option, Some, None}
use Rattle.std.specs.List.{filter, flat_map}
use Rattle.mpd_model.specs.declared.step.CallId.{CallId}
use Rattle.mpd_model.specs.declared.step.Step.{Step}
use Rattle.mpd_model.specs.declared.call.CallKind.{CallKind}
use Rattle.mpd_model.specs.declared.call.CallKind.TheVariants.{Recv}
use Rattle.mpd_model.specs.steps.World.{Board, call_id, rank_numbers, call_numbers}
use Rattle.mpd_match.specs.Matches.{matches_with}

-- the source that a receive names, if any
abbrev pub named_source : Option CallKind → Option ℕ
named_source (Some (Recv r)) = r.from
named_source kind = None

-- the matches that pass a test: of a receive, of a receiver, and all
abbrev pub picked_with : (Board → Step → Bool) → Board → CallId → List Step
picked_with test b r = filter (test b) (matches_with b r)

abbrev pub picked_at : (Board → Step → Bool) → Board → ℕ → List Step
picked_at test b q = flat_map (λ j. picked_with test b (call_id q j)) (call_numbers b q)

abbrev pub picked_on : (Board → Step → Bool) → Board → List Step
picked_on test b = flat_map (picked_at test b) (rank_numbers b)
