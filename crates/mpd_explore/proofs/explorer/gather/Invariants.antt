use Rattle.std.proofs.Common.{◌≡◌, [], true, false, length, map, reverse, string_bytes}
use Rattle.mpd_trail.specs.Run.{first_of}
use Rattle.mpd_trail.specs.DebuggerViews.{standing_of}
use Rattle.mpd_explore.specs.Search.{Safe, At, search_by, come}
use Rattle.mpd_explore.specs.Report.{any_bad}
use Rattle.mpd_explore.specs.Gathered.{Gathered}
use Rattle.mpd_explore.proofs.explorer.gather.Given as goal

abbrev pub invariant-loop-turn : goal.invariant-loop-turn
invariant-loop-turn g l =
    let s = search_by g.S.Schedule.decides g.S.Schedule.same g.S.Schedule.keeps l.bounds (first_of l.fn.debugger.trail) in
    record {
      at : At s (reverse l.frontier.stack.items) (standing_of l.debugger);
      gathered : Gathered l.limits.witnesses (come s [] l.fn.frontier.asleep (standing_of l.fn.debugger)) (come s (reverse l.frontier.stack.items) l.frontier.asleep (standing_of l.debugger)) l.report.leaves.items (map string_bytes l.report.witnesses.items);
      counted : length l.report.leaves.items ≡ l.turn;
      good : l.limits.until_bad ≡ true → any_bad l.report.leaves.items ≡ false;
      safe : Safe l.bounds.base (standing_of l.fn.debugger) (standing_of l.debugger);
    }
