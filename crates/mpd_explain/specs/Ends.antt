-- How a run ends, with what is known of that end.
use Rattle.std.specs.Prelude.{ℕ, Bool, true, false, if◌then◌else◌, List, [], map, slice_get, None}
use Rattle.mpd_model.specs.declared.step.CallId.{CallId}
use Rattle.mpd_model.specs.declared.outcome.TrappedRank.{TrappedRank}
use Rattle.mpd_model.specs.declared.outcome.Outcome.{Outcome}
use Rattle.mpd_model.specs.declared.outcome.Outcome.TheVariants.{Done, Leftovers, Deadlock, Trap}
use Rattle.mpd_model.specs.script.Program.{Program}
use Rattle.mpd_model.specs.steps.World.{World, kind_at, is_barrier}
use Rattle.mpd_model.specs.steps.Outcomes.{ids_of}
use Rattle.mpd_names.specs.Placed.{rank_line, placed_call_of}
use Rattle.mpd_names.specs.Stand.{stands_of, rank_ended}
use Rattle.mpd_names.specs.Reads.{reads_of}
use Rattle.mpd_policy.specs.declared.ending.Ending.{Ending}
use Rattle.mpd_policy.specs.declared.ending.Ending.TheVariants.{Ended, Cut}
use Rattle.mpd_explain.specs.declared.ends.Absence.{Absence}
use Rattle.mpd_explain.specs.declared.ends.AwaitedRank.{AwaitedRank}
use Rattle.mpd_explain.specs.declared.ends.Wait.{Wait}
use Rattle.mpd_explain.specs.declared.ends.TrapPlace.{TrapPlace}
use Rattle.mpd_explain.specs.declared.ends.End.{End}
use Rattle.mpd_explain.specs.declared.ends.End.TheVariants as the_end
use Rattle.mpd_explain.specs.Requests.{requests}
use Rattle.mpd_explain.specs.Wishes.{wish_of}
use Rattle.mpd_explain.specs.Waits.{absent, awaited_ranks, cycles}
use Rattle.mpd_explain.specs.Left.{awaited, left_beside}

-- ---- a call that blocks its rank

-- a rank that is not at a barrier, and where it stands
abbrev pub absence_of : Program → World → ℕ → Absence
absence_of s w q = record { rank = q; stands = stands_of s w q }

abbrev pub absences : Program → World → List Absence
absences s w = map (absence_of s w) (absent w)

abbrev pub awaited_of : World → ℕ → AwaitedRank
awaited_of w q = record { rank = q; has_ended = rank_ended w q }

abbrev pub barrier_wait : Program → World → CallId → List AwaitedRank → Wait
barrier_wait s w c qs = record {
  wish = record { call = placed_call_of s w.board c; nearest = None; taken = None };
  requests = [];
  absent = absences s w;
  awaited = qs;
}

abbrev pub call_wait : Program → World → CallId → List AwaitedRank → Wait
call_wait s w c qs = record {
  wish = wish_of s w c;
  requests = map (wish_of s w) (requests w c.rank (kind_at w.board c));
  absent = [];
  awaited = qs;
}

abbrev pub wait_by : Program → World → CallId → List AwaitedRank → Wait
wait_by s w c qs = if is_barrier (kind_at w.board c) then barrier_wait s w c qs else call_wait s w c qs

abbrev pub wait_of : Program → World → CallId → Wait
wait_of s w c = wait_by s w c (map (awaited_of w) (awaited_ranks w c))

-- ---- ends

-- a deadlock in which these calls are blocked
abbrev pub deadlock_of : Program → World → List CallId → End
deadlock_of s w blocked = the_end.Deadlock (map (wait_of s w) blocked) (cycles w) (left_beside s w.board (awaited w blocked))

-- a rank that is trapped has the statement that trapped it still before it, and holds what it held
-- then
abbrev pub trap_of : Program → World → TrappedRank → TrapPlace
trap_of s w t = record {
  rank = t.rank;
  line = rank_line s.lines (slice_get w.ranks t.rank);
  trap = t.trap;
  reads = reads_of s (slice_get w.ranks t.rank);
}

-- the end of a run with this outcome in a world
abbrev pub outcome_end : Program → World → Outcome → End
outcome_end s w Done = the_end.Done
outcome_end s w (Leftovers calls) = the_end.Leftovers (map (placed_call_of s w.board) (ids_of calls))
outcome_end s w (Deadlock calls) = deadlock_of s w (ids_of calls)
outcome_end s w (Trap ranks) = the_end.Trap (map (trap_of s w) ranks)

abbrev pub end_of : Program → World → Ending → End
end_of s w Cut = the_end.Cut
end_of s w (Ended o) = outcome_end s w o

-- whether there is more to an end than that a run ends so
abbrev pub has_more : Outcome → Bool
has_more Done = false
has_more (Leftovers calls) = true
has_more (Deadlock blocked) = true
has_more (Trap ranks) = true

abbrev pub tells_of : Ending → Bool
tells_of Cut = false
tells_of (Ended o) = has_more o
