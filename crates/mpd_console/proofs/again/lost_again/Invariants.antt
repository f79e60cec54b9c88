use Rattle.std.proofs.Common.{◌≡◌, ◌-◌, ◌++◌}
use Rattle.std.specs.List.{flat_map, range_with_len}
use Rattle.mpd_model.specs.declared.limits.TheConstants.{BREAKS_MAX}
use Rattle.mpd_model.specs.runs.Breakpoints.{break_at}
use Rattle.mpd_console.specs.Again.{lost_at, lost_again}
use Rattle.mpd_console.proofs.again.lost_again.Given as goal

abbrev pub invariant-loop-number : goal.invariant-loop-number
invariant-loop-number l =
    l.list.items ++ flat_map (λ n. lost_at l.old.program.decls l.new.program n (break_at l.breaks n)) (range_with_len l.number (BREAKS_MAX - l.number)) ≡ lost_again l.old.program.decls l.new.program l.breaks
