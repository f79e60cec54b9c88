use Rattle.std.proofs.Common.{arith, refl}
use Rattle.mpd_explore.specs.Sleeping.{decides_by}
use Rattle.mpd_trail.specs.DebuggerViews.{standing_of}
use Rattle.mpd_check.proofs.CheckLemmas.{piece_listed, none_listed, reached_number}
use Rattle.mpd_check.proofs.ListingLemmas.{listing_moved}
use Rattle.mpd_check.proofs.part.list_number.Goals as goal

pub returns-then-number-count : goal.returns-then-number-count
returns-then-number-count g c = none_listed c.args.wanted.telling c.args.debugger.now.trail.program c.args.debugger.now.trail.mode c.args.wanted.plan c.args.pieces.now c.args.number c.requires.pieces (omega (arith, c.if-number-count.true)) c.requires.few

pub list_at-requires-clause-reaches : goal.list_at-requires-clause-reaches
list_at-requires-clause-reaches g c =
    reached_number c.args.debugger.now.trail.program c.args.debugger.now.trail.mode c.args.wanted.plan c.args.pieces.now c.args.number c.index-pieces-number.result (standing_of c.args.debugger.now) c.requires.standing c.requires.pieces (omega (arith, c.if-number-count.false)) c.index-pieces-number.is

pub returns-in-Ok : goal.returns-in-Ok
returns-in-Ok g c =
    let plan = c.args.wanted.plan in
    piece_listed c.args.wanted.telling c.args.debugger.now.trail.program c.args.debugger.now.trail.mode plan c.args.pieces.now c.args.number c.index-pieces-number.result c.in-Ok.listing c.requires.pieces (omega (arith, c.if-number-count.false)) c.index-pieces-number.is c.requires.few
    (listing_moved (decides_by plan.limits.ends) c.args.wanted.telling plan.limits _ _ _ _ _ _ c.in-Ok.listing c.requires.standing refl refl c.in-Ok.ensures)
