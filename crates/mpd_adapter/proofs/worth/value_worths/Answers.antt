use Rattle.std.proofs.Common.{◌+◌, drop}
use Rattle.std.proofs.lemmas.List.{drop_more}
use Rattle.mpd_names.proofs.JoinLemmas.{joined_more}
use Rattle.mpd_adapter.specs.Worths.{value_worth}
use Rattle.mpd_adapter.proofs.worth.value_worths.Goals as goal

pub loop-value-preserved : goal.loop-value-preserved
loop-value-preserved c =
    let values = c.args.values.now in
    joined_more (value_worth c.args.meant) (drop c.loop-value.value-index values) (drop (c.loop-value.value-index + 1) values) _ c.loop-value.list.items _ _ (drop_more values c.loop-value.value-index _ c.loop-value-test.true)
    c.loop-value.invariant c.in_ok-push_value.ensures
