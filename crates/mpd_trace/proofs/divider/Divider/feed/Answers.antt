use Rattle.std.proofs.Common.{arith, drop, get_or, ◌+◌}
use Rattle.mpd_trace.proofs.DividedLaws.{brings_more, brings_here, brings_long, drop_next}
use Rattle.mpd_trace.proofs.divider.Divider.feed.Goals as goal

pub loop-index-preserved : goal.loop-index-preserved
loop-index-preserved c =
    let h = rw c.in-Open.is at c.take.ensures.brings in
    record {
      going = brings_more c.loop-index.self c.args.self.now c.take.new.self (drop c.loop-index.index c.args.piece.now) c.args.piece.now (drop (c.loop-index.index + 1) c.args.piece.now)
          (get_or c.args.piece.now c.loop-index.index 0) c.loop-index.invariant.going (drop_next c.args.piece.now c.loop-index.index c.loop-index-test.true) h.0;
      short = h.1;
      held = c.take.ensures.held;
    }

pub returns-in-Here-clause-brings : goal.returns-in-Here-clause-brings
returns-in-Here-clause-brings c =
    let h = rw c.in-Here.is at c.take.ensures.brings in (
      brings_here c.loop-index.self c.args.self.now c.take.new.self (drop c.loop-index.index c.args.piece.now) c.args.piece.now (drop (c.loop-index.index + 1) c.args.piece.now)
          (get_or c.args.piece.now c.loop-index.index 0) c.loop-index.invariant.going (drop_next c.args.piece.now c.loop-index.index c.loop-index-test.true) h.0,
      (let lt = c.loop-index-test.true in omega (arith, lt)),
      h.1,
    )

pub returns-in-TooLong-clause-brings : goal.returns-in-TooLong-clause-brings
returns-in-TooLong-clause-brings c =
    let h = rw c.in-TooLong.is at c.take.ensures.brings in (
      brings_long c.loop-index.self c.args.self.now c.take.new.self (drop c.loop-index.index c.args.piece.now) c.args.piece.now (drop (c.loop-index.index + 1) c.args.piece.now)
          (get_or c.args.piece.now c.loop-index.index 0) c.loop-index.invariant.going (drop_next c.args.piece.now c.loop-index.index c.loop-index-test.true) h.0,
      h.1,
    )
