use Rattle.std.proofs.Common.{decimal, ◌∙◌}
use Rattle.mpd_server.proofs.AnnouncedLemmas.{ended_first}
use Rattle.mpd_server.proofs.lines.end_line.Goals as goal

pub returns-in-Err : goal.returns-in-Err
returns-in-Err g c =
    ended_first c.as_bytes.result.now (decimal c.args.number) (g.W.Sink.seen c.args.sink.now) (g.W.Sink.seen c.write_all.new.sink)
    (c.as_bytes.ensures.value ∙ c.format.ensures.text) c.in-Err.ensures
