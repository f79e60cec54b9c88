use Rattle.std.proofs.Common.{refl}
use Rattle.mpd_check.proofs.ListingLemmas.{part_written, unlisted_written}
use Rattle.mpd_check.proofs.part.check_piece.Goals as goal

pub returns-in-Ok : goal.returns-in-Ok
returns-in-Ok g c =
    part_written c.args.wanted.telling c.args.subject.code.now.program c.args.subject.mode c.args.wanted.plan c.args.number (g.W.Sink.seen c.args.sink.now) (g.W.Sink.seen c.put_listing.new.sink) c.in-Ok.listing c.put_listing.result c.in-Ok.ensures c.put_listing.ensures

pub returns-in-Err : goal.returns-in-Err
returns-in-Err g c =
    unlisted_written c.args.wanted.telling c.args.subject.code.now.program c.args.subject.mode c.args.wanted.plan c.args.number (g.W.Sink.seen c.args.sink.now) (g.W.Sink.seen c.args.sink.now) c.in-Err.fault refl c.in-Err.ensures
