use Rattle.std.proofs.Common.{rules, refl}
use Rattle.mpd_console.proofs.AlongLemmas.{along_is}
use Rattle.mpd_console.proofs.along.along_by.Goals as goal

pub returns : goal.returns
returns c =
    along_is c.args.breaks.now c.args.word c.args.goal c.depth-begun.result c.saturating_sub-steps.result c.args.debugger.now.trail c.go_along.new.debugger.trail c.in_ok-stopped.stopped _
    c.depth-begun.ensures.value c.in_ok-go_along.ensures.end (search rules) c.in_ok-stopped.ensures.stopped refl
