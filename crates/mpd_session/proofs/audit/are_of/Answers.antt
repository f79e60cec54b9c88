use Rattle.std.proofs.Common.{rules}
use Rattle.mpd_session.specs.Audit.{IsOf}
use Rattle.mpd_session.proofs.AuditLemmas.{some_fails, one_more, all_hold}
use Rattle.mpd_session.proofs.audit.are_of.Goals as goal

pub returns-then-not-is_of : goal.returns-then-not-is_of
returns-then-not-is_of c =
    some_fails (IsOf c.args.history.now c.args.client) c.args.receipts.now c.loop-receipt.receipt-index c.receipt-item.result c.is_of.result c.loop-receipt-test.true c.receipt-item.is c.is_of.ensures
    (search rules)

pub loop-receipt-preserved : goal.loop-receipt-preserved
loop-receipt-preserved c =
    one_more (IsOf c.args.history.now c.args.client) c.args.receipts.now c.loop-receipt.receipt-index c.receipt-item.result c.is_of.result c.loop-receipt-test.true c.receipt-item.is c.is_of.ensures
    (search rules) c.loop-receipt.invariant

pub returns : goal.returns
returns c = all_hold (IsOf c.args.history.now c.args.client) c.args.receipts.now c.loop-receipt.receipt-index c.loop-receipt-test.false c.loop-receipt.invariant
