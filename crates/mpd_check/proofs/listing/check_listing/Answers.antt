use Rattle.std.proofs.Common.{refl}
use Rattle.mpd_check.proofs.ListingLemmas.{listing_answered, unlisted_answered}
use Rattle.mpd_check.proofs.listing.check_listing.Goals as goal

pub returns-in-Ok : goal.returns-in-Ok
returns-in-Ok g c =
    listing_answered c.args.wanted.telling c.args.subject.code.now.program c.args.subject.mode c.args.wanted.plan c.args.crew.workers (g.W.Sink.seen c.args.sink.now) (g.W.Sink.seen c.put_listing.new.sink) c.in-Ok.listing c.put_listing.result c.in-Ok.ensures c.put_listing.ensures

pub returns-in-Err : goal.returns-in-Err
returns-in-Err g c =
    unlisted_answered c.args.wanted.telling c.args.subject.code.now.program c.args.subject.mode c.args.wanted.plan c.args.crew.workers (g.W.Sink.seen c.args.sink.now) (g.W.Sink.seen c.args.sink.now) c.in-Err.fault refl c.in-Err.ensures
