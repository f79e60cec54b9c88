use Rattle.std.proofs.Common.{◌∙◌}
use Rattle.mpd_outcomes.specs.declared.report.Count.TheVariants.{Exactly}
use Rattle.mpd_runs.specs.declared.way.Way.TheVariants as way
use Rattle.mpd_runs.specs.Counts.{with_told}
use Rattle.mpd_runs.proofs.CountLemmas.{counts_are}
use Rattle.mpd_runs.proofs.counts.counts_told.Goals as goal

pub returns-clause-told : goal.returns-clause-told
returns-clause-told c = λ j. record {
  done = (c.told_in.ensures ∙ (λ i. with_told way.Done (Exactly 0) (c.deref.ensures.value i) (c.deref-2.ensures.value i))) j;
  leftovers = (c.told_in-2.ensures ∙ (λ i. with_told way.Leftovers (Exactly 0) (c.deref-3.ensures.value i) (c.deref-4.ensures.value i))) j;
  deadlock = (c.told_in-3.ensures ∙ (λ i. with_told way.Deadlock (Exactly 0) (c.deref-5.ensures.value i) (c.deref-6.ensures.value i))) j;
  trap = (c.told_in-4.ensures ∙ (λ i. with_told way.Trap (Exactly 0) (c.deref-7.ensures.value i) (c.deref-8.ensures.value i))) j;
  cut = (c.told_in-5.ensures ∙ (λ i. with_told way.Cut (Exactly 0) (c.deref-9.ensures.value i) (c.deref-10.ensures.value i))) j;
  total = c.args.outcomes.now.total;
  more = c.args.outcomes.now.firsts.more;
}

pub returns-clause-counts : goal.returns-clause-counts
returns-clause-counts c fuel w h =
    counts_are fuel w c.args.outcomes.now h c.told_in.result c.told_in-2.result c.told_in-3.result c.told_in-4.result c.told_in-5.result
    (c.told_in.ensures ∙ (λ i. with_told way.Done (Exactly 0) (c.deref.ensures.value i) (c.deref-2.ensures.value i)))
    (c.told_in-2.ensures ∙ (λ i. with_told way.Leftovers (Exactly 0) (c.deref-3.ensures.value i) (c.deref-4.ensures.value i)))
    (c.told_in-3.ensures ∙ (λ i. with_told way.Deadlock (Exactly 0) (c.deref-5.ensures.value i) (c.deref-6.ensures.value i)))
    (c.told_in-4.ensures ∙ (λ i. with_told way.Trap (Exactly 0) (c.deref-7.ensures.value i) (c.deref-8.ensures.value i)))
    (c.told_in-5.ensures ∙ (λ i. with_told way.Cut (Exactly 0) (c.deref-9.ensures.value i) (c.deref-10.ensures.value i)))
