use Rattle.std.proofs.Common.{◌≡◌, List, ◌∷◌, [], ◌++◌, Option, slice_get, get_or, subst, sym, ◌∙◌, take, ◌+◌}
use Rattle.std.proofs.lemmas.List.{get_or_default}
use Rattle.mpd_model.specs.runs.Trail.{Standing}
use Rattle.mpd_trail.specs.DebuggerViews.{standing_of}
use Rattle.mpd_outcomes.specs.declared.report.Count.TheVariants.{Exactly}
use Rattle.mpd_blame.specs.declared.told.PlacedBlame.{PlacedBlame}
use Rattle.mpd_blame.proofs.ToldLemmas.{zipped_more, standing_same}
use Rattle.mpd_diagnose.specs.declared.groups.Group.{Group}
use Rattle.mpd_diagnose.specs.Diagnosed.{BlamedAt, AreBlamed}
use Rattle.mpd_diagnose.proofs.diagnosis.blames_of.Goals as goal

pub loop-group-preserved : goal.loop-group-preserved
loop-group-preserved c =
    let i = c.loop-group.invariant in
    let d = standing_of c.args.debugger.now in
    let leaves = c.args.leaves.now in
    let limits = c.args.limits in
    let blame = c.in_ok-blame.blame in
    let place = c.loop-group.group-index in
    let none : Group = record { first = 0; count = Exactly 0; shown = 0 } in
    let group = get_or c.args.groups.now place none in
    let told : Standing → Group → Option PlacedBlame → Type 0 = λ s g o. BlamedAt limits s (slice_get leaves g.shown) o in
    let same = standing_same c.args.debugger.now c.loop-group.debugger i.trail i.world in
    let here = subst (λ (s : Standing). told s group blame) same c.in_ok-blame.ensures.blamed in
    record {
      trail = c.blame_at.ensures.as_found.trail ∙ i.trail;
      world = c.blame_at.ensures.as_found.world ∙ i.world;
      reached = c.blame_at.ensures.as_found.reached;
      blames =
          subst (λ (bs : List (Option PlacedBlame)). AreBlamed limits d leaves (take (place + 1) c.args.groups.now) bs) (sym c.in_ok-push.ensures.items)
          (zipped_more (told d) c.args.groups.now c.loop-group.blames.items place group blame c.loop-group-test.true (get_or_default c.args.groups.now place none group c.loop-group-test.true) here i.blames);
    }
