-- The ends of the leaves of a report. What comes next in a state is told by a function, as in the
-- walk that listed them.
use Rattle.std.specs.Prelude.{ℕ, List, [], ◌++◌, map, Option, Some, None}
use Rattle.mpd_model.specs.declared.step.Step.{Step}
use Rattle.mpd_model.specs.declared.decision.Decision.{Decision}
use Rattle.mpd_model.specs.declared.call.Mode.{Mode}
use Rattle.mpd_model.specs.declared.outcome.Outcome.TheVariants.{Done, Leftovers, Deadlock, Trap}
use Rattle.mpd_model.specs.script.Program.{Program}
use Rattle.mpd_model.specs.steps.World.{World, start}
use Rattle.mpd_model.specs.steps.Next.{fold}
use Rattle.mpd_policy.specs.declared.ending.Ending.{Ending}
use Rattle.mpd_policy.specs.declared.ending.Ending.TheVariants.{Ended, Cut}
use Rattle.mpd_policy.specs.Walk.{run_by, steps_by}
use Rattle.mpd_explore.specs.declared.report.SearchLeaf.{SearchLeaf}
use Rattle.mpd_explain.specs.declared.ends.End.{End}
use Rattle.mpd_explain.specs.declared.ends.End.TheVariants as the_end
use Rattle.mpd_explain.specs.Ends.{end_of}

-- an end of which nothing but its kind is known: that of a run that leads nowhere
abbrev pub bare_end : Ending → End
bare_end Cut = the_end.Cut
bare_end (Ended Done) = the_end.Done
bare_end (Ended (Leftovers calls)) = the_end.Leftovers []
bare_end (Ended (Deadlock calls)) = the_end.Deadlock [] [] []
bare_end (Ended (Trap ranks)) = the_end.Trap []

-- the end of a run that ends so where its steps lead
abbrev pub end_at : Program → Option World → Ending → End
end_at s None e = bare_end e
end_at s (Some w) e = end_of s w e

-- the end of a run that has these steps from the start of a script
abbrev pub end_after : Program → Mode → List Step → Ending → End
end_after s mode steps e = end_at s (fold (start s mode) steps) e

-- that of a leaf from a state, with so much fuel, after some steps
abbrev pub end_of_leaf : (World → Decision) → Program → Mode → List Step → ℕ → World → SearchLeaf → End
end_of_leaf decide s mode before fuel w l = end_after s mode (before ++ steps_by (run_by decide fuel l.choices w)) l.ending

-- those of all leaves
abbrev pub ends_of_leaves : (World → Decision) → Program → Mode → List Step → ℕ → World → List SearchLeaf → List End
ends_of_leaves decide s mode before fuel w leaves = map (end_of_leaf decide s mode before fuel w) leaves
