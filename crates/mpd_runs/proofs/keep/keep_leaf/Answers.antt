use Rattle.std.proofs.Common.{map, sym, ap, ◌∙◌}
use Rattle.mpd_model.specs.runs.Trail.{done_steps}
use Rattle.mpd_explore.specs.declared.report.SearchLeaf.{SearchLeaf}
use Rattle.mpd_explore.specs.Witness.{witness_by}
use Rattle.mpd_explore.specs.WitnessTexts.{behind_number}
use Rattle.mpd_explore.specs.Asked.{are_asked, asked_text}
use Rattle.mpd_runs.specs.Drawing.{in_box, leaves_in}
use Rattle.mpd_runs.proofs.KeepLemmas.{box_put, leaf_there, leaf_added, text_inserted}
use Rattle.mpd_runs.proofs.keep.keep_leaf.Goals as goal

pub returns-then-is_there-clause-leaves : goal.returns-then-is_there-clause-leaves
returns-then-is_there-clause-leaves c =
    leaf_there c.args.leaf (leaves_in c.args.held.now.leaves) (map in_box c.deref.result.now) (map in_box c.deref-3.result.now) c.deref-2.result.now c.deref-4.result.now c.place_of-place.result c.is_there.result
    (ap (map in_box) c.deref.ensures.value) (c.deref-2.ensures.value ∙ ap (λ (l : SearchLeaf). l.choices) c.leaf.view_is) (ap (map in_box) c.deref-3.ensures.value) (c.deref-4.ensures.value ∙ ap (λ (l : SearchLeaf). l.choices) c.leaf.view_is) c.place_of-place.ensures c.is_there.ensures c.if-is_there.true

pub returns-clause-leaves : goal.returns-clause-leaves
returns-clause-leaves c =
    leaf_added c.args.leaf (leaves_in c.args.held.now.leaves) (leaves_in c.insert.new.self) (map in_box c.deref.result.now) (map in_box c.deref-3.result.now) c.deref-2.result.now c.deref-4.result.now c.place_of-place.result c.is_there.result
    (ap (map in_box) c.deref.ensures.value) (c.deref-2.ensures.value ∙ ap (λ (l : SearchLeaf). l.choices) c.leaf.view_is) (ap (map in_box) c.deref-3.ensures.value) (c.deref-4.ensures.value ∙ ap (λ (l : SearchLeaf). l.choices) c.leaf.view_is) c.place_of-place.ensures c.is_there.ensures c.if-is_there.false (box_put _ _ _ c.in_ok-new.field-0 _ c.in_ok-insert.ensures.items c.in_ok-new.ensures.ok)

pub returns-clause-texts : goal.returns-clause-texts
returns-clause-texts c text own told =
    text_inserted (are_asked c.args.asked) text c.args.leaf (leaves_in c.args.held.now.leaves) (leaves_in c.insert.new.self) _ _ c.place_of-place.result _ (own ∙ ap (λ end. asked_text c.args.asked end (behind_number (witness_by (done_steps c.args.debugger.now.trail) end))) (sym (ap (λ (l : SearchLeaf). l.ending) c.leaf.view_is))) (box_put _ _ _ c.in_ok-new.field-0 _ c.in_ok-insert.ensures.items c.in_ok-new.ensures.ok) c.in_default.ensures told
