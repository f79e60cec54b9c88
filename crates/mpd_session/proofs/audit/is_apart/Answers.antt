use Rattle.std.proofs.Common.{rules, ◌≢◌}
use Rattle.std.specs.List.{All}
use Rattle.mpd_session.proofs.AuditLemmas.{some_fails, walk_begins, walk_below, walk_more, walk_ends}
use Rattle.mpd_session.proofs.audit.is_apart.Goals as goal

pub loop-receipt-init : goal.loop-receipt-init
loop-receipt-init c = walk_begins c.args.receipts.now c.args.others.now

pub next_from-next-requires-clause-within : goal.next_from-next-requires-clause-within
next_from-next-requires-clause-within c = c.loop-receipt.invariant.within

pub next_from-next-requires-clause-below : goal.next_from-next-requires-clause-below
next_from-next-requires-clause-below c = walk_below c.args.receipts.now c.args.others.now c.loop-receipt.receipt-index c.loop-receipt.next c.receipt-item.result c.loop-receipt-test.true c.receipt-item.is c.loop-receipt.invariant

pub returns-then-not-is_free : goal.returns-then-not-is_free
returns-then-not-is_free c = some_fails (λ r. All (λ s. r.entry ≢ s.entry) c.args.others.now) c.args.receipts.now c.loop-receipt.receipt-index c.receipt-item.result c.is_free.result c.loop-receipt-test.true c.receipt-item.is c.is_free.ensures (search rules)

pub loop-receipt-preserved : goal.loop-receipt-preserved
loop-receipt-preserved c =
    walk_more c.args.receipts.now c.args.others.now c.loop-receipt.receipt-index c.loop-receipt.next c.next_from-next.result c.receipt-item.result c.is_free.result c.requires.rising c.loop-receipt-test.true c.receipt-item.is c.loop-receipt.invariant
    c.next_from-next.ensures.within c.next_from-next.ensures.below c.is_free.ensures (search rules)

pub returns : goal.returns
returns c = walk_ends c.args.receipts.now c.args.others.now c.loop-receipt.receipt-index c.loop-receipt.next c.loop-receipt-test.false c.loop-receipt.invariant
