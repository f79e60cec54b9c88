use Rattle.std.proofs.Common.{rules}
use Rattle.mpd_lines.proofs.SentLaws.{sent_more}
use Rattle.mpd_lines.proofs.outbox.write_all.Goals as goal

pub loop-rest-preserved : goal.loop-rest-preserved
loop-rest-preserved g c = record {
  sent = sent_more (g.W.Sink.seen c.args.sink.now).contents (g.W.Sink.seen c.loop-rest.sink).contents (g.W.Sink.seen c.write.new.self).contents c.args.bytes.now c.loop-rest.rest.now
      c.split_at.result.1.now c.in_ok-count.count c.split_at.ensures.back c.loop-rest.invariant.sent c.in_ok-count.ensures.bytes;
  counted = search rules;
}
