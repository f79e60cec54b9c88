use Rattle.mpd_adapter.proofs.DeskLemmas.{fed, unfed}
use Rattle.mpd_adapter.proofs.desk.without_feed.Goals as goal

-- src/desk.rt:94:9
pub returns-then-not-ends_with : goal.returns-then-not-ends_with
returns-then-not-ends_with c = unfed _ c.if-not-ends_with.ensures.value

-- src/desk.rt:89:1
pub returns : goal.returns
returns c = fed _ _ c.if-not-ends_with.ensures.value c.split_at.ensures.front
