use Rattle.std.proofs.Common.{◌≡◌, ◌≤◌, ◌+◌, ◌-◌, ◌++◌, drop, length, vec_len, vec_capacity}
use Rattle.mpd_adapter.specs.Marks.{marks_of, held_after_all}
use Rattle.mpd_adapter.proofs.marks.set_all.Given as goal

abbrev pub invariant-loop-plan : goal.invariant-loop-plan
invariant-loop-plan l = record {
  marks : l.marks.items ++ marks_of l.console.session (drop l.plan-index l.plans) ≡ marks_of l.fn.console.session l.plans;
  all : held_after_all l.console.session (drop l.plan-index l.plans) ≡ held_after_all l.fn.console.session l.plans;
  held : l.console ≡ record l.fn.console { session = l.console.session };
  room : vec_len l.marks + (length l.plans - l.plan-index) ≤ vec_capacity l.marks;
}
