use Rattle.std.proofs.Common.{rules, ◌<◌, ◌≤◌, ◌+◌, length}
use Rattle.mpd_lines.proofs.UpToLaws.{gathered_more, read_long}
use Rattle.mpd_lines.proofs.up_to.read_up_to.Goals as goal

pub returns-then-len-max-clause-ok : goal.returns-then-len-max-clause-ok
returns-then-len-max-clause-ok g c =
    let all = c.push_all.new.out.items in
    let long : c.args.max < length all = search rules in
    let most : length all ≤ c.args.max + 1 = search rules in
    read_long c.args.max (g.S.Source.seen c.args.source.now) (g.S.Source.seen c.loop-turn.source) (g.S.Source.seen c.read.new.self) c.loop-turn.turn c.in-Ok-read.count c.loop-turn.text.items
    c.split_at.result.0.now all c.loop-turn.invariant.gathered (rw c.split_at.ensures.front c.in-Ok-read.ensures.bytes.0) c.push_all.ensures.items long most
    c.in-Ok-read.ensures.counted c.in-Ok-read.ensures.ok c.in-Ok-read.ensures.ended c.if-count-eq0.false

pub loop-turn-preserved : goal.loop-turn-preserved
loop-turn-preserved g c =
    let all = c.push_all.new.out.items in
    let some : 0 < length c.split_at.result.0.now = search rules in
    let short : length all ≤ c.args.max = search rules in
    record {
      gathered = gathered_more c.args.max (g.S.Source.seen c.args.source.now) (g.S.Source.seen c.loop-turn.source) (g.S.Source.seen c.read.new.self) c.loop-turn.turn c.in-Ok-read.count c.loop-turn.text.items
          c.split_at.result.0.now all c.loop-turn.invariant.gathered (rw c.split_at.ensures.front c.in-Ok-read.ensures.bytes.0) c.push_all.ensures.items some short
          c.in-Ok-read.ensures.counted c.in-Ok-read.ensures.ok c.in-Ok-read.ensures.ended c.if-count-eq0.false;
      room = search rules;
    }
