-- The matches that are enabled, as lists of steps: by receiver, receive, sender and send.
use Rattle.std.specs.Prelude.{ℕ, List, map}
use Rattle.std.specs.List.{filter, flat_map}
use Rattle.mpd_model.specs.declared.step.CallId.{CallId}
use Rattle.mpd_model.specs.declared.step.Step.{Step}
use Rattle.mpd_model.specs.declared.step.Step.TheVariants.{Match}
use Rattle.mpd_model.specs.steps.World.{Board, call_id, rank_numbers, call_numbers, eligible}

-- of a receive with sends of one rank
abbrev pub matches_from : Board → CallId → ℕ → List Step
matches_from b r p = map (λ i. Match (call_id p i) r) (filter (λ i. eligible b (call_id p i) r) (call_numbers b p))

-- of a receive
abbrev pub matches_with : Board → CallId → List Step
matches_with b r = flat_map (matches_from b r) (rank_numbers b)

-- of a receiver
abbrev pub matches_at : Board → ℕ → List Step
matches_at b q = flat_map (λ j. matches_with b (call_id q j)) (call_numbers b q)

-- all
abbrev pub matches_on : Board → List Step
matches_on b = flat_map (matches_at b) (rank_numbers b)
