-- What a report tells of a script, counted, and the verdict of its check.
use Rattle.std.specs.Prelude.{◌≡◌, ◌-◌, ◌&&◌, ◌||◌, ◌==◌, nat_lt, not, if◌then◌else◌, Bool, true, false, List, length, count_by}
use Rattle.mpd_model.specs.declared.call.Mode.{Mode}
use Rattle.mpd_model.specs.declared.outcome.Outcome.TheVariants as outcome
use Rattle.mpd_model.specs.steps.World.{is_limited}
use Rattle.mpd_model.specs.script.Tree.{block_of}
use Rattle.mpd_model.specs.script.Program.{Program, IsBlockOf}
use Rattle.mpd_policy.specs.declared.ending.Ending.{Ending}
use Rattle.mpd_policy.specs.declared.ending.Ending.TheVariants.{Ended}
use Rattle.mpd_policy.specs.declared.ending.Ending.TheVariants as ends
use Rattle.mpd_explore.specs.declared.report.SearchLeaf.{SearchLeaf}
use Rattle.mpd_outcomes.specs.declared.report.Count.TheVariants.{Exactly}
use Rattle.mpd_runs.specs.declared.counts.WayCounts.{WayCounts}
use Rattle.mpd_lines.specs.declared.verdict.Verdict.{Verdict}
use Rattle.mpd_lines.specs.declared.verdict.Verdict.TheVariants.{Good, Bad, NotWhole}
use Rattle.mpd_check.specs.declared.counts.Kind.{Kind}
use Rattle.mpd_check.specs.declared.counts.Kind.TheVariants.{Leftovers, Deadlock, Trap, Cut}
use Rattle.mpd_check.specs.declared.counts.Tally.{Tally}

abbrev pub ends_so : Kind → Ending → Bool
ends_so Leftovers (Ended (outcome.Leftovers calls)) = true
ends_so Deadlock (Ended (outcome.Deadlock calls)) = true
ends_so Trap (Ended (outcome.Trap ranks)) = true
ends_so Cut ends.Cut = true
ends_so kind ending = false

abbrev pub is_of : Kind → SearchLeaf → Bool
is_of kind l = ends_so kind l.ending

abbrev pub tally_of : List SearchLeaf → Bool → Tally
tally_of leaves more = record {
  runs = length leaves;
  leftovers = count_by (is_of Leftovers) leaves;
  deadlocks = count_by (is_of Deadlock) leaves;
  traps = count_by (is_of Trap) leaves;
  cut = count_by (is_of Cut) leaves;
  more = more;
}

-- how many of its runs end in each way: those that are done are none of the others
abbrev pub ways_of : Tally → WayCounts
ways_of t = record {
  done = Exactly ((((t.runs - t.leftovers) - t.deadlocks) - t.traps) - t.cut);
  leftovers = Exactly t.leftovers;
  deadlock = Exactly t.deadlocks;
  trap = Exactly t.traps;
  cut = Exactly t.cut;
  total = Exactly t.runs;
  more = t.more;
}

-- a deadlock or a trap is listed
abbrev pub is_bad : Tally → Bool
is_bad t = nat_lt 0 t.deadlocks || nat_lt 0 t.traps

-- all runs are listed, each to its end
abbrev pub is_whole : Tally → Bool
is_whole t = not t.more && t.cut == 0

-- Whether runs leave out no end of a script in a mode: those of the wide walk leave out none. What a waitany takes, and which sends are buffered
-- where buffers run out, depends on the order of steps, of which the walk by the decisions tries one.
abbrev pub LeavesOutNone : Bool → Program → Mode → Type 0
LeavesOutNone true s mode = Unit {0}
LeavesOutNone false s mode = IsBlockOf 1 (block_of s.body) × (is_limited mode ≡ false)

-- it tells every way in which its script can end in a mode
abbrev pub TellsAll : Bool → Program → Mode → Tally → Type 0
TellsAll is_wide s mode t = (is_whole t ≡ true) × LeavesOutNone is_wide s mode

-- bad where something bad is listed; else not whole where all must be told and isn't; else good
abbrev pub judged : Bool → Bool → Bool → Verdict
judged complete all bad = if bad then Bad else (if complete && not all then NotWhole else Good)

abbrev pub verdict_of : Bool → Bool → Tally → Verdict
verdict_of complete tells_all t = judged complete tells_all (is_bad t)
