use Rattle.std.proofs.Common.{rules, arith, refl, ◌≡◌, ◌<◌, ◌≤◌, [], length, take}
use Rattle.mpd_trace.proofs.CollectLaws.{follows_more, collected_end, collected_behind, collected_long, collected_failed, collected_turns}
use Rattle.mpd_trace.proofs.plain_trace.collect.Goals as goal

-- a read failed
pub returns-in_default-read-clause-collected : goal.returns-in_default-read-clause-collected
returns-in_default-read-clause-collected g c =
    collected_failed (g.S.Source.seen c.args.source.now) (g.S.Source.seen c.loop-turn.source) (g.S.Source.seen c.read.new.self) c.loop-turn.turn c.loop-turn.divider c.loop-turn.invariant.follows
    c.in_default-read.ensures.bytes (let e = c.in_default-read.ensures.ended in omega (arith, e))

pub returns-then-count-eq0-clause-collected : goal.returns-then-count-eq0-clause-collected
returns-then-count-eq0-clause-collected g c =
    let some : 0 < length c.read.new.buffer = search rules in
    let none : [] ≡ take c.in-Ok-read.count c.read.new.buffer = rw c.if-count-eq0.true refl in
    collected_end (g.S.Source.seen c.args.source.now) (g.S.Source.seen c.loop-turn.source) (g.S.Source.seen c.read.new.self) c.loop-turn.turn c.in-Ok-read.count c.loop-turn.divider
    (take c.in-Ok-read.count c.read.new.buffer) c.finish.result.items c.new-then-count-eq0.result.items c.loop-turn.invariant.follows c.in-Ok-read.ensures.bytes.0 none
    (c.in-Ok-read.ensures.bytes.1 c.if-count-eq0.true some) c.in-Ok-read.ensures.counted c.in-Ok-read.ensures.ended c.if-count-eq0.true c.loop-turn-test.true c.finish.ensures c.new-then-count-eq0.ensures.items

pub returns-in-Here-clause-collected : goal.returns-in-Here-clause-collected
returns-in-Here-clause-collected g c =
    let piece = c.split_at.result.0.now in
    let some : 0 < length piece = search rules in
    let few : length piece ≤ 4096 = search rules in
    let h = c.in-Here.ensures.brings in
    collected_behind c.head_behind.result (g.S.Source.seen c.args.source.now) (g.S.Source.seen c.loop-turn.source) (g.S.Source.seen c.read.new.self) c.loop-turn.turn c.in-Ok-read.count c.in-Here.used
    c.loop-turn.divider piece (take c.in-Ok-read.count c.read.new.buffer) c.split_at-in-Here.result.1.now c.feed.new.self.known c.loop-turn.invariant.follows
    c.in-Ok-read.ensures.bytes.0 c.split_at.ensures.front some few c.in-Ok-read.ensures.counted c.in-Ok-read.ensures.ended c.if-count-eq0.false c.loop-turn-test.true
    h.0 c.split_at-in-Here.ensures.back c.head_behind.ensures.ok c.head_behind.ensures.fault

pub returns-in-TooLong-clause-collected : goal.returns-in-TooLong-clause-collected
returns-in-TooLong-clause-collected g c =
    let piece = c.split_at.result.0.now in
    let few : length piece ≤ 4096 = search rules in
    let h = c.in-TooLong.ensures.brings in
    collected_long (g.S.Source.seen c.args.source.now) (g.S.Source.seen c.loop-turn.source) (g.S.Source.seen c.read.new.self) c.loop-turn.turn c.in-Ok-read.count
    c.loop-turn.divider piece (take c.in-Ok-read.count c.read.new.buffer) c.feed.new.self.known c.into_script.result.items c.new-in-TooLong.result.items c.loop-turn.invariant.follows
    c.in-Ok-read.ensures.bytes.0 c.split_at.ensures.front few c.in-Ok-read.ensures.counted c.in-Ok-read.ensures.ended c.if-count-eq0.false c.loop-turn-test.true
    h.0 h.1 c.into_script.ensures

pub loop-turn-preserved : goal.loop-turn-preserved
loop-turn-preserved g c =
    let piece = c.split_at.result.0.now in
    let some : 0 < length piece = search rules in
    let h = c.in-Open.ensures.brings in
    record {
      follows = follows_more (g.S.Source.seen c.args.source.now) (g.S.Source.seen c.loop-turn.source) (g.S.Source.seen c.read.new.self) c.loop-turn.turn c.in-Ok-read.count
          c.loop-turn.divider c.feed.new.self piece (take c.in-Ok-read.count c.read.new.buffer) c.loop-turn.invariant.follows c.in-Ok-read.ensures.bytes.0 c.split_at.ensures.front some
          h.0 h.1 c.feed.ensures.held c.in-Ok-read.ensures.counted c.in-Ok-read.ensures.ok c.in-Ok-read.ensures.ended c.if-count-eq0.false;
    }

pub returns-clause-collected : goal.returns-clause-collected
returns-clause-collected g c =
    let last : c.loop-turn.turn ≡ 1000000 = search rules in
    collected_turns (g.S.Source.seen c.args.source.now) (g.S.Source.seen c.loop-turn.source) c.loop-turn.turn c.loop-turn.divider c.loop-turn.invariant.follows last
