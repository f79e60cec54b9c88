use Rattle.std.proofs.Common.{rules}
use Rattle.mpd_check.proofs.CheckLemmas.{put_counted}
use Rattle.mpd_check.proofs.part.count_pieces.Goals as goal

pub returns-in-Ok-count_text : goal.returns-in-Ok-count_text
returns-in-Ok-count_text g c =
    put_counted c.args.subject.code.now.program c.args.subject.mode c.args.plan (g.W.Sink.seen c.args.sink.now) (g.W.Sink.seen c.put_text.new.sink) _ c.len-count.result c.in-Ok.begun.pieces.items c.put_text.result c.in-Ok-count_text.ensures (search rules) c.in-Ok.ensures.pieces c.in-Ok.ensures.few c.put_text.ensures
