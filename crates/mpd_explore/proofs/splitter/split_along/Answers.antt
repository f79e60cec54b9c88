use Rattle.std.proofs.Common.{◌≡◌, ◌∙◌, ap, sym, refl, arith, length}
use Rattle.mpd_explore.specs.declared.splitter.SplitFault.TheVariants.{TooManyPieces}
use Rattle.mpd_explore.specs.declared.splitter.TheConstants.{PIECES_MAX}
use Rattle.mpd_explore.specs.Pieces.{pieces, numbered}
use Rattle.mpd_explore.specs.Along.{all_longer, choices_of}
use Rattle.mpd_explore.proofs.PieceLemmas.{pieces_none}
use Rattle.mpd_explore.proofs.SplitLemmas.{level_reached, next_level, last_level, too_many, not_many, same_fault, is_still}
use Rattle.mpd_explore.proofs.splitter.split_along.Goals as goal

pub loop-choice-init : goal.loop-choice-init
loop-choice-init g c =
    record {
      made = c.in_ok-made.ensures.ok ∙ ap (numbered 0) (sym (pieces_none g.S.Schedule.decides c.args.fuel c.args.debugger.now.world));
      few = omega (arith, ap length c.in_ok-made.ensures.ok);
      trail = refl;
      world = refl;
      reached = c.state_is_reached.ensures.reached;
    }

pub grown-requires-clause-reaches : goal.grown-requires-clause-reaches
grown-requires-clause-reaches g c =
    let i = c.loop-choice.invariant in
    rw i.world (level_reached g.S.Schedule.decides c.args.fuel c.loop-choice.choice c.args.debugger.now.world c.deref.result.now (c.deref.ensures.value ∙ i.made))

pub returns-in-Err-clause-many : goal.returns-in-Err-clause-many
returns-in-Err-clause-many g c =
    let i = c.loop-choice.invariant in
    λ h. too_many g.S.Schedule.decides c.args.fuel c.loop-choice.choice c.args.choices PIECES_MAX c.args.debugger.now.world c.deref.result.now c.can_be_followed.ensures.follow (c.deref.ensures.value ∙ i.made) c.loop-choice-test.true (rw i.world at (c.in-Err.ensures.many (same_fault c.in-Err.fault TooManyPieces h)))

pub returns-then-not-level-clause-ok : goal.returns-then-not-level-clause-ok
returns-then-not-level-clause-ok g c =
    let i = c.loop-choice.invariant in
    let w = c.args.debugger.now.world in
    let grown : c.in-Ok.level.made.items ≡ numbered 0 (all_longer g.S.Schedule.decides c.args.fuel w c.deref.result.now) = rw i.world at c.in-Ok.ensures.ok in
    let still : all_longer g.S.Schedule.decides c.args.fuel w c.deref.result.now ≡ choices_of c.deref.result.now = rw i.world at (c.in-Ok.ensures.still (is_still c.in-Ok.level.grows c.if-not-level.true)) in
    last_level g.S.Schedule.decides c.args.fuel c.loop-choice.choice c.args.choices w c.deref.result.now c.in-Ok.level.made.items (c.deref.ensures.value ∙ i.made) grown still (omega arith)

pub returns-then-not-level-clause-few : goal.returns-then-not-level-clause-few
returns-then-not-level-clause-few g c =
    not_many PIECES_MAX (pieces g.S.Schedule.decides c.args.choices c.args.fuel c.args.debugger.now.world) c.in-Ok.level.made.items (returns-then-not-level-clause-ok g c) c.in-Ok.ensures.few

pub loop-choice-preserved : goal.loop-choice-preserved
loop-choice-preserved g c =
    let i = c.loop-choice.invariant in
    let w = c.args.debugger.now.world in
    let grown : c.in-Ok.level.made.items ≡ numbered 0 (all_longer g.S.Schedule.decides c.args.fuel w c.deref.result.now) = rw i.world at c.in-Ok.ensures.ok in
    record {
      made = next_level g.S.Schedule.decides c.args.fuel c.loop-choice.choice w c.deref.result.now c.in-Ok.level.made.items (c.deref.ensures.value ∙ i.made) grown;
      few = c.in-Ok.ensures.few;
      trail = c.in-Ok.ensures.as_found.trail ∙ i.trail;
      world = c.in-Ok.ensures.as_found.world ∙ i.world;
      reached = c.in-Ok.ensures.as_found.reached;
    }

pub returns-clause-few : goal.returns-clause-few
returns-clause-few g c = let i = c.loop-choice.invariant in not_many PIECES_MAX (pieces g.S.Schedule.decides c.args.choices c.args.fuel c.args.debugger.now.world) c.loop-choice.made.items (i.made ∙ ap (λ k. numbered 0 (pieces g.S.Schedule.decides k c.args.fuel c.args.debugger.now.world)) (omega arith)) i.few
