use Rattle.std.proofs.Common.{◌≡◌, [], ◌∷◌, ◌++◌, arith, rules}
use Rattle.mpd_trail.proofs.RunLemmas.{run_begins, given_begins, run_kept_more, given_more, same_trans, same_stays}
use Rattle.mpd_trail.proofs.run.follow_with_room.Goals as goal

pub loop-command-init : goal.loop-command-init
loop-command-init c =
    let none : c.in_ok-answered.answered.items ≡ [] = search rules in
    record {
      run = run_begins c.args.debugger.now c.keep_room.new.self _ none c.keep_room.ensures.as_found.trail c.keep_room.ensures.writes;
      given = given_begins _ none;
      some = c.in_ok-keep_room.ensures.room;
      script = same_stays _ _ c.keep_room.ensures.as_found.trail;
      reached = c.keep_room.ensures.as_found.reached;
      counted = search rules;
      room = search rules;
    }

pub loop-command-preserved : goal.loop-command-preserved
loop-command-preserved c =
    let i = c.loop-command.invariant in
    let pushed : c.push_reserved.new.self.items ≡ c.loop-command.answered.items ++ c.answer-reply.result ∷ [] = c.push_reserved.ensures.items in
    record {
      run = rw pushed (run_kept_more c.args.debugger.now.trail c.args.debugger.now.writes c.loop-command.debugger c.answer-reply.new.debugger c.keep_room-in-loop-command.new.self c.args.commands.now _ c.loop-command.command-index _ _ c.loop-command-test.true i.run
          c.answer-reply.ensures.answers c.answer-reply.ensures.writes c.answer-reply.ensures.memory c.answer-reply.ensures.room_left c.keep_room-in-loop-command.ensures.as_found.trail c.keep_room-in-loop-command.ensures.writes c.keep_room-in-loop-command.ensures.never_less);
      given = rw pushed (given_more _ _ _ i.given c.answer-reply.ensures.memory i.some);
      some = c.in_ok-keep_room-2.ensures.room;
      script = rw c.keep_room-in-loop-command.ensures.as_found.trail (same_trans _ _ _ i.script c.answer-reply.ensures.script);
      reached = c.keep_room-in-loop-command.ensures.as_found.reached;
      counted = omega (arith, c.push_reserved.ensures.len, i.counted);
      room = omega (arith, c.push_reserved.ensures.capacity, i.room);
    }
