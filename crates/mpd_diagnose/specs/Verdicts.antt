-- What a diagnosis comes to.
use Rattle.std.specs.Prelude.{ℕ, nat_le, Bool, false, not, ◌&&◌, ◌||◌, if◌then◌else◌, Option, Some, None}
use Rattle.mpd_lines.specs.declared.verdict.Verdict.{Verdict}
use Rattle.mpd_lines.specs.declared.verdict.Verdict.TheVariants.{Good, Bad, NotWhole}
use Rattle.mpd_runs.specs.declared.counts.WayCounts.{WayCounts}
use Rattle.mpd_runs.specs.Counts.{is_count}
use Rattle.mpd_runs.specs.Runs.{sees_all}
use Rattle.mpd_diagnose.specs.declared.diagnosis.Runs.{Runs}
use Rattle.mpd_diagnose.specs.declared.verdict.TheConstants.{PICTURED_STEPS}

-- ---- what becomes of the runs

-- no run hangs or traps
abbrev pub ends_well : WayCounts → Bool
ends_well c = is_count 0 c.deadlock && is_count 0 c.trap

-- no run does, of all there are
abbrev pub never_fails : WayCounts → Bool
never_fails c = ends_well c && sees_all c

-- every run hangs or traps: none ends otherwise, and there are no more
abbrev pub always_fails : WayCounts → Bool
always_fails c = sees_all c && is_count 0 c.done && is_count 0 c.leftovers

abbrev pub always_hangs : WayCounts → Bool
always_hangs c = always_fails c && is_count 0 c.trap && not (is_count 0 c.deadlock)

abbrev pub always_traps : WayCounts → Bool
always_traps c = always_fails c && is_count 0 c.deadlock && not (is_count 0 c.trap)

-- every run fails, and some hang and some trap
abbrev pub fails_both : WayCounts → Bool
fails_both c = always_fails c && not (is_count 0 c.deadlock) && not (is_count 0 c.trap)

-- whether runs are drawn: there are more, and none of these hangs or traps
abbrev pub draws : WayCounts → Bool
draws c = c.more && ends_well c

-- whether other modes are tried next: no run of this one hangs or traps, or every run does
abbrev pub tries_modes : WayCounts → Bool
tries_modes c = never_fails c || always_fails c

-- A run of at most so many steps is drawn: no step shows more than 17 glyphs, and 20,000 can be
-- drawn.
abbrev pub is_drawn : ℕ → Bool
is_drawn steps = nat_le steps PICTURED_STEPS

-- ---- the verdict

-- whether a run ends with calls left over
abbrev pub leaves_some : WayCounts → Bool
leaves_some c = not (is_count 0 c.leftovers)

abbrev pub leaves_if : Option WayCounts → Bool
leaves_if None = false
leaves_if (Some c) = leaves_some c

-- the same of one that was drawn, too
abbrev pub leaves : WayCounts → Option WayCounts → Bool
leaves c drawn = leaves_some c || leaves_if drawn

-- the same where that is asked for
abbrev pub is_untidy : Bool → WayCounts → Bool
is_untidy strict c = strict && leaves_some c

-- whether a run hangs or traps, or does so
abbrev pub is_bad : Bool → WayCounts → Bool
is_bad strict c = not (ends_well c) || is_untidy strict c

-- the same of runs that were drawn, where some were
abbrev pub is_bad_if : Bool → Option WayCounts → Bool
is_bad_if strict None = false
is_bad_if strict (Some c) = is_bad strict c

abbrev pub verdict_of : Bool → WayCounts → Option WayCounts → Verdict
verdict_of strict c drawn = if is_bad strict c then Bad else (if is_bad_if strict drawn then Bad else (if sees_all c then Good else NotWhole))

-- how many runs that were drawn end in each way, where some were
abbrev pub drawn_counts : Option Runs → Option WayCounts
drawn_counts None = None
drawn_counts (Some r) = Some r.counts
