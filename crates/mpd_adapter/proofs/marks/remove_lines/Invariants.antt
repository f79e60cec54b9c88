use Rattle.std.proofs.Common.{◌≡◌, ◌-◌}
use Rattle.std.specs.List.{range_with_len}
use Rattle.mpd_adapter.specs.Marks.{without_all, without_lines}
use Rattle.mpd_adapter.proofs.marks.remove_lines.Given as goal

abbrev pub invariant-loop-number : goal.invariant-loop-number
invariant-loop-number l = record {
  all : without_all l.console.session (range_with_len l.number (l.count - l.number)) ≡ without_lines l.fn.console.session;
  held : l.console ≡ record l.fn.console { session = l.console.session };
}
