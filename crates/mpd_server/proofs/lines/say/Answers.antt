use Rattle.std.proofs.Common.{decimal}
use Rattle.mpd_server.proofs.AnnouncedLemmas.{said_first}
use Rattle.mpd_server.proofs.lines.say.Goals as goal

pub returns-in-Err : goal.returns-in-Err
returns-in-Err g c =
    said_first c.as_bytes.result.now c.args.word.now (decimal c.args.number) (g.W.Sink.seen c.args.sink.now) (g.W.Sink.seen c.write_all.new.sink)
    c.as_bytes.ensures.value c.in-Err.ensures
