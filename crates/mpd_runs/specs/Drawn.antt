-- Which runs are drawn, by the stream of a generator, and which leaves a sample has. They are runs of the wide walk, which has every end.
use Rattle.std.specs.Prelude.{ℕ, zero, suc, Bool, false, ◌&&◌, if◌then◌else◌, List, [], ◌∷◌, length, slice_get, Option, Some, None}
use Rattle.std.specs.List.{list_any, filter}
use Rattle.rand_core.specs.Stream.{Stream}
use Rattle.rand_core.specs.Steps.{stream_of, steps_u64_low}
use Rattle.rand_core.specs.Pcg32Seed.{pcg32_seed}
use Rattle.rand_pcg.specs.Pcg.{pcg64, pcg64_of_seed}
use Rattle.rand.specs.Uniform.{usize_single}
use Rattle.mpd_model.specs.declared.step.Step.{Step}
use Rattle.mpd_model.specs.declared.decision.Decision.{Decision}
use Rattle.mpd_model.specs.declared.decision.Decision.TheVariants.{Forced, Choice, Leaf}
use Rattle.mpd_model.specs.steps.World.{World}
use Rattle.mpd_model.specs.steps.Next.{next}
use Rattle.mpd_policy.specs.Wide.{wide_decision}
use Rattle.mpd_explore.specs.declared.report.SearchLeaf as leaf
use Rattle.mpd_policy.specs.Walk.{Run, wide_walk, run_by}
use Rattle.mpd_explore.specs.Report.{is_bad}
use Rattle.mpd_runs.specs.Order.{same_choices}

-- all that the generator of a sample will answer
abbrev pub seeded : ℕ → Stream
seeded seed = stream_of (steps_u64_low pcg64) (pcg64_of_seed (pcg32_seed 32 seed))

-- ---- one run, told by its choices, and the stream that is left

abbrev pub drawn_from : (World → Stream → List ℕ × Stream) → Option World → Stream → List ℕ × Stream
drawn_from draw None s = ([], s)
drawn_from draw (Some w) s = draw w s

abbrev pub drawn_by : (World → Stream → List ℕ × Stream) → World → Option Step → Stream → List ℕ × Stream
drawn_by draw w None s = ([], s)
drawn_by draw w (Some a) s = drawn_from draw (next w a) s

abbrev pub led : ℕ → List ℕ × Stream → List ℕ × Stream
led c d = (c ∷ d.0, d.1)

-- after the candidate with this number
abbrev pub drawn_choice : (World → Stream → List ℕ × Stream) → World → List Step → ℕ × Stream → List ℕ × Stream
drawn_choice draw w candidates d = led d.0 (drawn_by draw w (slice_get candidates d.0) d.1)

abbrev pub drawn_followed : (World → Stream → List ℕ × Stream) → World → Stream → Decision → List ℕ × Stream
drawn_followed draw w s (Forced a) = drawn_from draw (next w a) s
drawn_followed draw w s (Choice candidates) = drawn_choice draw w candidates (usize_single 0 (length candidates) s)
drawn_followed draw w s (Leaf o) = ([], s)

-- a run with so much fuel: at each choice a candidate is drawn, each as likely as the other
unfoldable pub drawn : ℕ → World → Stream → List ℕ × Stream
drawn zero w s = ([], s)
drawn (suc n) w s = drawn_followed (drawn n) w s (wide_decision w)

-- ---- many runs

abbrev pub is_bad_run : Option Run → Bool
is_bad_run None = false
is_bad_run (Some r) = is_bad r.ending

-- So many runs, one after another from one stream. Where that is asked for, the drawing ends after the first that ends in a deadlock or
-- a trap.
unfoldable pub draws : Bool → ℕ → ℕ → World → Stream → List (List ℕ)
draws until_bad fuel zero w s = []
draws until_bad fuel (suc k) w s =
    (drawn fuel w s).0 ∷ (if until_bad && is_bad_run (run_by wide_decision fuel (drawn fuel w s).0 w) then [] else draws until_bad fuel k w (drawn fuel w s).1)

-- ---- what a sample has

abbrev pub is_among : List (List ℕ) → Run → Bool
is_among lists r = list_any (λ cs. same_choices cs r.choices) lists

-- the runs of the wide walk whose choices are among those that were drawn
abbrev pub sampled : List (List ℕ) → ℕ → World → List Run
sampled lists n w = filter (is_among lists) (wide_walk n w)

-- whether a leaf with these choices is one of some
abbrev pub is_listed : List leaf.SearchLeaf → List ℕ → Bool
is_listed leaves cs = list_any (λ l. same_choices l.choices cs) leaves
