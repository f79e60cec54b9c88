use Rattle.std.proofs.Common.{◌≡◌, [], ◌∷◌, ◌++◌, arith}
use Rattle.mpd_trail.specs.DebuggerViews.{place_of}
use Rattle.mpd_trail.proofs.RunLemmas.{run_more, same_trans}
use Rattle.mpd_trail.proofs.run.follow.Goals as goal

pub loop-command-preserved : goal.loop-command-preserved
loop-command-preserved c =
    let i = c.loop-command.invariant in
    let pushed : c.push_reserved.new.self.items ≡ c.loop-command.replies.items ++ c.answer.result ∷ [] = c.push_reserved.ensures.items in
    record {
      run = rw pushed (run_more (place_of c.args.debugger.now) (place_of c.loop-command.debugger) (place_of c.answer.new.debugger) c.args.commands.now _ c.loop-command.command-index _ _ c.loop-command-test.true i.run c.answer.ensures.answers c.answer.ensures.writes c.answer.ensures.memory c.answer.ensures.room_left);
      script = same_trans _ _ _ i.script c.answer.ensures.script;
      reached = c.answer.ensures.reached;
      counted = omega (arith, c.push_reserved.ensures.len, i.counted);
      room = omega (arith, c.push_reserved.ensures.capacity, i.room);
    }
