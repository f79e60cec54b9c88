use Rattle.std.proofs.Common.{◌≡◌, ◌<◌, ◌≤◌, ◌+◌, ℕ, suc, List, length, take, refl, sym, ap, ◌∙◌, arith}
use Rattle.mpd_explore.specs.declared.report.SearchLeaf.{SearchLeaf}
use Rattle.mpd_explore.specs.Ends.{has_end}
use Rattle.mpd_outcomes.proofs.TellLemmas.{read_at, ends_more, all_taken}
use Rattle.mpd_outcomes.proofs.ways.way_of.Goals as goal

pub loop-number-init : goal.loop-number-init
loop-number-init c = refl

pub returns-then-same_ending-clause-found : goal.returns-then-same_ending-clause-found
returns-then-same_ending-clause-found c =
    let there : c.loop-number.number < length c.args.leaves.now = (let test = c.loop-number-test.true in let end = c.loop-number.auto.number-end in omega (arith, test, end)) in
    (c.index-leaves-number.result, read_at c.args.leaves.now c.loop-number.number c.index-leaves-number.result there c.index-leaves-number.is, sym c.if-same_ending.ensures)

pub loop-number-preserved : goal.loop-number-preserved
loop-number-preserved c =
    let there : c.loop-number.number < length c.args.leaves.now = (let test = c.loop-number-test.true in let end = c.loop-number.auto.number-end in omega (arith, test, end)) in
    let one_more : c.loop-number.number + 1 ≡ suc c.loop-number.number = omega arith in
    ap (λ (k : ℕ). has_end (take k c.args.leaves.now) c.args.ending.now) one_more
    ∙ ends_more c.args.leaves.now c.args.ending.now c.loop-number.number c.index-leaves-number.result (read_at c.args.leaves.now c.loop-number.number c.index-leaves-number.result there c.index-leaves-number.is) c.loop-number.invariant
    (sym c.if-same_ending.ensures)

pub returns-clause-none : goal.returns-clause-none
returns-clause-none c =
    let all : length c.args.leaves.now ≤ c.loop-number.number = (let test = c.loop-number-test.false in let end = c.loop-number.auto.number-end in omega (arith, test, end)) in
    ap (λ (ls : List SearchLeaf). has_end ls c.args.ending.now) (sym (all_taken c.args.leaves.now c.loop-number.number all)) ∙ c.loop-number.invariant
