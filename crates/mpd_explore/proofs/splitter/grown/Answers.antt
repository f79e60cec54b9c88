use Rattle.std.proofs.Common.{◌≡◌, sym, ap, ◌∙◌}
use Rattle.mpd_explore.specs.declared.splitter.Piece.{Piece}
use Rattle.mpd_explore.specs.declared.splitter.SplitFault.TheVariants.{TooManyPieces}
use Rattle.mpd_explore.specs.declared.splitter.TheConstants.{PIECES_MAX}
use Rattle.mpd_explore.specs.Along.{Adds, longer}
use Rattle.mpd_explore.proofs.ListedLemmas.{neither}
use Rattle.mpd_explore.proofs.SplitLemmas.{reached_at, grown_more, grown_many, still_more, grown_all, still_all, same_fault}
use Rattle.mpd_explore.proofs.splitter.grown.Goals as goal

pub push_grown-requires-clause-reaches : goal.push_grown-requires-clause-reaches
push_grown-requires-clause-reaches g c =
    let i = c.loop-piece.invariant in
    let own : c.deref.result.now ≡ c.piece-item.result.choices = c.deref.ensures.value ∙ ap (λ (p : Piece). p.choices) c.piece.view_is in
    reached_at g.S.Schedule.decides c.args.fuel c.args.debugger.now.world c.loop-piece.debugger.world c.args.from.now c.loop-piece.piece-index c.piece-item.result c.deref.result.now c.loop-piece-test.true c.piece-item.is own i.world c.requires.reaches

pub returns-in-Err-clause-many : goal.returns-in-Err-clause-many
returns-in-Err-clause-many g c =
    let i = c.loop-piece.invariant in
    let own : c.deref.result.now ≡ c.piece-item.result.choices = c.deref.ensures.value ∙ ap (λ (p : Piece). p.choices) c.piece.view_is in
    λ h. grown_many g.S.Schedule.decides c.args.fuel c.args.debugger.now.world c.args.from.now c.loop-piece.piece-index c.piece-item.result c.deref.result.now c.loop-piece.made.items PIECES_MAX c.loop-piece-test.true c.piece-item.is own i.adds (rw i.world at (c.in-Err.ensures.many (same_fault c.in-Err.fault TooManyPieces h)))

pub loop-piece-preserved : goal.loop-piece-preserved
loop-piece-preserved g c =
    let i = c.loop-piece.invariant in
    let w = c.args.debugger.now.world in
    let p = c.piece-item.result in
    let cs = c.deref.result.now in
    let own : cs ≡ p.choices = c.deref.ensures.value ∙ ap (λ (q : Piece). q.choices) c.piece.view_is in
    let adds : Adds c.loop-piece.made.items (longer g.S.Schedule.decides c.args.fuel cs w) c.push_grown.new.made.items = rw i.world at c.in-Ok.ensures.ok in
    record {
      adds = grown_more g.S.Schedule.decides c.args.fuel w c.args.from.now c.loop-piece.piece-index p cs c.loop-piece.made.items c.push_grown.new.made.items c.loop-piece-test.true c.piece-item.is own i.adds adds;
      few = c.in-Ok.ensures.few;
      still = λ h. let both = neither c.loop-piece.grows c.in-Ok.more (sym c.either-grows.ensures ∙ h) in still_more g.S.Schedule.decides c.args.fuel w c.args.from.now c.loop-piece.piece-index p cs c.loop-piece-test.true c.piece-item.is own (rw i.world at (c.in-Ok.ensures.still both.1)) (i.still both.0);
      trail = c.in-Ok.ensures.as_found.trail ∙ i.trail;
      world = c.in-Ok.ensures.as_found.world ∙ i.world;
      reached = c.in-Ok.ensures.as_found.reached;
    }

pub returns-clause-ok : goal.returns-clause-ok
returns-clause-ok g c =
    grown_all g.S.Schedule.decides c.args.fuel c.args.debugger.now.world c.args.from.now c.loop-piece.made.items c.loop-piece.piece-index c.loop-piece-test.false c.loop-piece.invariant.adds

pub returns-clause-still : goal.returns-clause-still
returns-clause-still g c = λ h. still_all g.S.Schedule.decides c.args.fuel c.args.debugger.now.world c.args.from.now c.loop-piece.piece-index c.loop-piece-test.false (c.loop-piece.invariant.still h)
