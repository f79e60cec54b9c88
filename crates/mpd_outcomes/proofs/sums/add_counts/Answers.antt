use Rattle.std.proofs.Common.{◌≡◌, ◌<◌, ◌≤◌, ◌+◌, ℕ, suc, List, length, take, sym, ap, ◌∙◌, arith}
use Rattle.mpd_outcomes.specs.declared.report.Count.{Count}
use Rattle.mpd_outcomes.specs.Sums.{added}
use Rattle.mpd_outcomes.proofs.TellLemmas.{added_none, count_set, count_pushed, added_long, added_short}
use Rattle.mpd_outcomes.proofs.sums.add_counts.Goals.{then-number-len, else-number-len+in_ok-push}
use Rattle.mpd_outcomes.proofs.sums.add_counts.Goals as goal

pub loop-number-init : goal.loop-number-init
loop-number-init c = c.reserve_exact.ensures.items ∙ sym (added_none c.args.counts.now.items)

pub loop-number-preserved : goal.loop-number-preserved
loop-number-preserved c =
    let cs : List Count = c.args.counts.now.items in
    let ds : List Count = c.args.others.now in
    let n : ℕ = c.loop-number.number in
    let i : c.loop-number.counts.items ≡ added cs (take n ds) = c.loop-number.invariant in
    let there : n < length ds = (let test = c.loop-number-test.true in let end = c.loop-number.auto.number-end in omega (arith, test, end)) in
    let long = ap (λ (l : List Count). length l) i in
    let many = c.len.ensures in
    let one_more : suc n ≡ n + 1 = omega arith in
    elim c.if-number-len.branch [
      | then-number-len w ↦
          let lt : n < length cs = added_short cs ds n there (let h = w.if-number-len.true in omega (arith, h, many, long)) in
          ap (λ v. v.items) w.counts-is
          ∙ count_set cs ds c.loop-number.counts.items n w.plus.result w.index.result.now _ i lt there w.index.ensures w.plus.ensures
          ∙ ap (λ (k : ℕ). added cs (take k ds)) one_more
      | else-number-len+in_ok-push w ↦
          let le : length cs ≤ n = added_long cs ds n (omega (arith, there)) (let h = w.if-number-len.false in omega (arith, h, many, long)) in
          ap (λ v. v.items) w.counts-is ∙ w.in_ok-push.ensures.items ∙ count_pushed cs ds c.loop-number.counts.items n _ i le there ∙ ap (λ (k : ℕ). added cs (take k ds)) one_more
    ]
