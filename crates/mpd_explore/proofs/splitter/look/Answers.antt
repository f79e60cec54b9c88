use Rattle.std.proofs.Common.{rules, ◌≡◌, length, sym, ap, ◌∙◌}
use Rattle.mpd_model.specs.runs.Decisions.{CanFollow}
use Rattle.mpd_model.specs.declared.decision.Decision.TheVariants.{Forced, Choice, Leaf}
use Rattle.mpd_model.specs.runs.Trail.{Trail}
use Rattle.mpd_trail.specs.DebuggerViews.{standing_of}
use Rattle.mpd_explore.specs.Along.{counted}
use Rattle.mpd_explore.proofs.AlongLemmas.{pieces_forced}
use Rattle.mpd_explore.proofs.PieceLemmas.{leaf_counted, choice_counted}
use Rattle.mpd_explore.proofs.splitter.look.Goals as goal

pub returns-in-Leaf-clause-looked : goal.returns-in-Leaf-clause-looked
returns-in-Leaf-clause-looked g c =
    let decide = g.S.Schedule.decides in
    let d = standing_of c.args.debugger.now in
    let leaf : decide d.world ≡ Leaf c.in-Leaf.field-0 = ap decide (sym c.core.ensures.world) ∙ sym c.in_ok-decide.ensures.ok ∙ c.in-Leaf.is in
    λ n. leaf_counted decide n d.world c.in-Leaf.field-0 leaf

pub returns-in-Forced-clause-looked : goal.returns-in-Forced-clause-looked
returns-in-Forced-clause-looked g c =
    let decide = g.S.Schedule.decides in
    let d = standing_of c.args.debugger.now in
    let e = standing_of c.forward.new.self in
    let forced : decide d.world ≡ Forced c.in-Forced.step = ap decide (sym c.core.ensures.world) ∙ sym c.in_ok-decide.ensures.ok ∙ c.in-Forced.is in
    (ap (λ (t : Trail). t.depth) c.in_ok-forward-in-Forced.ensures.taken.moved.ok, λ n. pieces_forced decide 0 n d.world e.world c.in-Forced.step forced c.in_ok-forward-in-Forced.ensures.taken.world)

pub returns-clause-looked : goal.returns-clause-looked
returns-clause-looked g c =
    let decide = g.S.Schedule.decides in
    let d = standing_of c.args.debugger.now in
    let choice : decide d.world ≡ Choice c.in-Choice.candidates = ap decide (sym c.core.ensures.world) ∙ sym c.in_ok-decide.ensures.ok ∙ c.in-Choice.is in
    let follow : CanFollow d.world (Choice c.in-Choice.candidates) = rw choice at (c.can_be_followed.ensures.follow d.world) in
    let held : c.len.result ≡ length c.candidates.inside.items.items = search rules in
    let long : length c.in-Choice.candidates ≡ c.len.result = ap length (sym c.candidates.view_is) ∙ sym held in
    λ n. choice_counted decide n d.world c.in-Choice.candidates choice follow ∙ ap counted long
