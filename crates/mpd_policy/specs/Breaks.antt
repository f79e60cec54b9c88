-- The breakpoints that go by no rank, by no handle and under no condition, among all kinds.
use Rattle.std.specs.Prelude.{Option, Some, None}
use Rattle.mpd_model.specs.declared.breakpoint.Breakpoint.{Breakpoint}
use Rattle.mpd_model.specs.declared.breakpoint.Breakpoint.TheVariants as on
use Rattle.mpd_policy.specs.declared.breaks.Break.{Break}
use Rattle.mpd_policy.specs.declared.breaks.Break.TheVariants as alone

abbrev pub breakpoint_of : Break → Breakpoint
breakpoint_of (alone.Line n) = on.Line n None None
breakpoint_of (alone.Change p c) = on.Change p c
breakpoint_of (alone.Match n) = on.Match n None

abbrev pub break_of : Breakpoint → Option Break
break_of (on.Line n None None) = Some (alone.Line n)
break_of (on.Line n None (Some when)) = None
break_of (on.Line n (Some p) when) = None
break_of (on.Change p c) = Some (alone.Change p c)
break_of (on.Handle p h) = None
break_of (on.Match n None) = Some (alone.Match n)
break_of (on.Match n (Some p)) = None
break_of (on.Rank p) = None
