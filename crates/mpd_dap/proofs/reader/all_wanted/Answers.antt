use Rattle.std.proofs.Common.{sym, ap, ◌∙◌}
use Rattle.serde_json.specs.View.{view}
use Rattle.mpd_dap.specs.Asks.{wanted_of}
use Rattle.mpd_dap.proofs.WantLemmas.{found_more, found_none, found_all}
use Rattle.mpd_dap.proofs.reader.all_wanted.Goals as goal

pub loop-value-preserved : goal.loop-value-preserved
loop-value-preserved c =
    found_more c.loop-value.items.items c.push.new.self.items c.in-Some.wanted c.args.values.now c.loop-value.value-index _ _ c.loop-value-test.true c.loop-value.invariant
    (sym c.in-Some.is ∙ c.in_ok-wanted.ensures ∙ ap (λ v. wanted_of (view v)) c.value-item.is) c.in_ok-push.ensures.items

pub returns-in_default : goal.returns-in_default
returns-in_default c =
    found_none c.loop-value.items.items c.args.values.now c.loop-value.value-index _ _ c.loop-value-test.true c.loop-value.invariant (sym c.in_default.is ∙ c.in_ok-wanted.ensures ∙ ap (λ v. wanted_of (view v)) c.value-item.is)

pub returns : goal.returns
returns c = found_all c.loop-value.items.items c.args.values.now c.loop-value.value-index _ c.loop-value-test.false c.loop-value.invariant
