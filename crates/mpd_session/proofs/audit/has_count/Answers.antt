use Rattle.std.proofs.Common.{ap, length, arith}
use Rattle.mpd_session.specs.History.{Noted}
use Rattle.mpd_session.proofs.AuditLemmas.{too_many, fewer_left, all_counted}
use Rattle.mpd_session.proofs.audit.has_count.Goals as goal

pub returns-then-len-left : goal.returns-then-len-left
returns-then-len-left g c =
    too_many g.T.Logged.logged c.args.logs.now c.loop-kept.kept-index c.len.result c.loop-kept.left c.args.count c.kept-item.result c.loop-kept-test.true c.kept-item.is
    (let a = c.len.ensures in let b = ap (λ (n : Noted). length n.receipts) c.log.ensures in omega (arith, a, b)) c.loop-kept.invariant c.if-len-left.true

pub loop-kept-preserved : goal.loop-kept-preserved
loop-kept-preserved g c =
    fewer_left g.T.Logged.logged c.args.logs.now c.loop-kept.kept-index c.len-left.result c.loop-kept.left c.args.count c.kept-item.result c.loop-kept-test.true c.kept-item.is
    (let a = c.len-left.ensures in let b = ap (λ (n : Noted). length n.receipts) c.log.ensures in omega (arith, a, b)) c.loop-kept.invariant (let a = c.len.ensures in let b = c.len-left.ensures in let le = c.if-len-left.false in omega (arith, a, b, le))

pub returns : goal.returns
returns g c = all_counted g.T.Logged.logged c.args.logs.now c.loop-kept.kept-index c.loop-kept.left c.args.count c.loop-kept-test.false c.loop-kept.invariant
