use Rattle.std.proofs.Common.{◌≡◌, Bool, not, List, ℕ, sym, ap, ◌∙◌}
use Rattle.std.specs.List.{list_any}
use Rattle.mpd_diagnose.specs.Groups.{same_at, is_first}
use Rattle.mpd_explain.proofs.ListLemmas.{filter_more}
use Rattle.mpd_diagnose.proofs.AlikeLemmas.{finds_more}
use Rattle.mpd_diagnose.proofs.groups.firsts.Goals as goal

pub loop-number-preserved : goal.loop-number-preserved
loop-number-preserved c =
    let ends = c.args.ends.now in
    let n = c.loop-number.number in
    let i = c.loop-number.invariant in
    let before = c.loop-number.numbers.items in
    let known = c.is_known-is_known.ensures ∙ ap (λ (ns : List ℕ). list_any (same_at ends n) ns) c.deref.ensures.value in
    let first : not c.is_known-is_known.result ≡ is_first ends n = ap not (known ∙ i.finds n) in
    record {
      numbers = filter_more (is_first ends) n _ (not c.is_known-is_known.result) before _ _ c.loop-number-test.true i.numbers first c.in_ok-push_if.ensures;
      finds = finds_more ends n (not c.is_known-is_known.result) before _ i.finds first c.in_ok-push_if.ensures;
    }
