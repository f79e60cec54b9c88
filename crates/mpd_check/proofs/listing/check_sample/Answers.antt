use Rattle.std.proofs.Common.{refl}
use Rattle.mpd_check.specs.Listing.{sample_text}
use Rattle.mpd_check.proofs.ListingLemmas.{sample_answered}
use Rattle.mpd_check.proofs.listing.check_sample.Goals as goal

pub returns-in-Ok : goal.returns-in-Ok
returns-in-Ok g c =
    sample_answered c.args.telling c.args.subject.code.now.program c.args.subject.mode c.args.plan.seed c.args.plan.limits (g.W.Sink.seen c.args.sink.now) (g.W.Sink.seen c.put_listing.new.sink) c.in-Ok.listing c.put_listing.result c.in-Ok.ensures c.put_listing.ensures

pub returns-in-Err : goal.returns-in-Err
returns-in-Err g c = (sample_text c.args.subject.code.now.program c.args.subject.mode c.args.plan.seed c.args.plan.limits, λ plain. refl, refl)
