use Rattle.std.proofs.Common.{ap, ◌∙◌}
use Rattle.mpd_check.specs.Checked.{leaves_of, more_of}
use Rattle.mpd_check.specs.declared.modes.Listed.TheVariants.{Leaves}
use Rattle.mpd_check.specs.ModeText.{mode_line}
use Rattle.mpd_check.specs.Tally.{tally_of}
use Rattle.mpd_check.proofs.CheckLemmas.{put_answered}
use Rattle.mpd_check.proofs.modes.check_mode.Goals as goal

pub returns-in-Ok-line_of : goal.returns-in-Ok-line_of
returns-in-Ok-line_of g c =
    put_answered (mode_line Leaves c.args.subject.mode (tally_of (leaves_of c.args.subject.code.now.program c.args.subject.mode c.args.plan) (more_of c.args.subject.code.now.program c.args.subject.mode c.args.plan)))
    c.args.subject.code.now.program c.args.subject.mode c.args.plan c.args.crew.workers (g.W.Sink.seen c.args.sink.now) (g.W.Sink.seen c.put.new.sink) _ _ c.put.result
    ((λ i. (c.into_bytes-text.ensures.value i).items) ∙ c.in-Ok-line_of.ensures ∙ ap (mode_line Leaves c.args.subject.mode) c.in-Ok.ensures.0) c.in-Ok.ensures.0 c.in-Ok.ensures.1 c.in-Ok.ensures.2 c.put.ensures
