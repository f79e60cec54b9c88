use Rattle.std.proofs.Common.{refl}
use Rattle.mpd_check.proofs.ListingLemmas.{put_listed}
use Rattle.mpd_check.proofs.print.put_listing.Goals as goal

pub returns-in-Ok : goal.returns-in-Ok
returns-in-Ok g c = put_listed c.args.telling c.args.listing.now (g.W.Sink.seen c.args.sink.now) (g.W.Sink.seen c.put.new.sink) _ _ c.put.result c.in-Ok.ensures refl c.put.ensures
