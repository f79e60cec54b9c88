use Rattle.std.proofs.Common.{◌+◌, ◌∷◌, reverse, refl, ap, ◌∙◌, arith, List, add-one}
use Rattle.mpd_model.specs.runs.Trail.{Trail}
use Rattle.mpd_trail.specs.Run.{first_of}
use Rattle.mpd_trail.specs.DebuggerViews.{standing_of}
use Rattle.mpd_explore.specs.declared.search.Open.{Open}
use Rattle.mpd_explore.specs.Search.{Search, search_by, At, after, states_left}
use Rattle.mpd_explore.proofs.ListLemmas.{reverse_pushed}
use Rattle.mpd_explore.proofs.SearchLemmas.{Came, Went, safe_then, at_popped, safe_popped, safe_pushed, safe_same, next_enabled, retaken, exhausted, tried_some, tried_none}
use Rattle.mpd_explore.proofs.search.advance.Goals as goal

pub returns-in_err-taken-clause-safe : goal.returns-in_err-taken-clause-safe
returns-in_err-taken-clause-safe g c =
    let i = c.loop-top.invariant in
    let begun = standing_of c.args.debugger.now in
    let d = standing_of c.loop-top.debugger in
    let e = standing_of c.go_back.new.debugger in
    let s : Search = search_by g.S.Schedule.decides g.S.Schedule.same g.S.Schedule.keeps c.args.bounds (first_of begun.trail) in
    let top : Open = c.in-Some.top in
    let fs : List Open = reverse c.pop.new.self.items in
    let at : At s (top ∷ fs) d = rw (reverse_pushed c.pop.new.self.items c.loop-top.frontier.stack.items top c.in-Some.ensures.items) at i.at in
    let came : Came d top.depth e = record { done_steps_are = c.go_back.ensures.steps; depth = ap (λ (t : Trail). t.depth) c.go_back.ensures.trail; program = ap (λ (t : Trail). t.program) c.go_back.ensures.trail; mode = ap (λ (t : Trail). t.mode) c.go_back.ensures.trail; reached = c.go_back.ensures.reached } in
    safe_then s.base begun d e i.safe (safe_popped s top fs d e at came)

pub forward-requires-clause-enabled : goal.forward-requires-clause-enabled
forward-requires-clause-enabled g c =
    let i = c.loop-top.invariant in
    let begun = standing_of c.args.debugger.now in
    let d = standing_of c.loop-top.debugger in
    let e = standing_of c.go_back.new.debugger in
    let s : Search = search_by g.S.Schedule.decides g.S.Schedule.same g.S.Schedule.keeps c.args.bounds (first_of begun.trail) in
    let top : Open = c.in-Some.top in
    let fs : List Open = reverse c.pop.new.self.items in
    let at : At s (top ∷ fs) d = rw (reverse_pushed c.pop.new.self.items c.loop-top.frontier.stack.items top c.in-Some.ensures.items) at i.at in
    let came : Came d top.depth e = record { done_steps_are = c.go_back.ensures.steps; depth = ap (λ (t : Trail). t.depth) c.go_back.ensures.trail; program = ap (λ (t : Trail). t.program) c.go_back.ensures.trail; mode = ap (λ (t : Trail). t.mode) c.go_back.ensures.trail; reached = c.go_back.ensures.reached } in
    let h = tried_some s e.world _ c.in_ok-taken.taken c.in-Some-taken.step _ _ c.in-Some-taken.is c.in_ok-taken.ensures in
    next_enabled s top fs d e c.in-Some-taken.step h.0 at came h.1

pub returns-in_err-forward-clause-safe : goal.returns-in_err-forward-clause-safe
returns-in_err-forward-clause-safe g c =
    let i = c.loop-top.invariant in
    let begun = standing_of c.args.debugger.now in
    let d = standing_of c.loop-top.debugger in
    let e = standing_of c.go_back.new.debugger in
    let n = standing_of c.forward.new.self in
    let s : Search = search_by g.S.Schedule.decides g.S.Schedule.same g.S.Schedule.keeps c.args.bounds (first_of begun.trail) in
    let top : Open = c.in-Some.top in
    let fs : List Open = reverse c.pop.new.self.items in
    let at : At s (top ∷ fs) d = rw (reverse_pushed c.pop.new.self.items c.loop-top.frontier.stack.items top c.in-Some.ensures.items) at i.at in
    let came : Came d top.depth e = record { done_steps_are = c.go_back.ensures.steps; depth = ap (λ (t : Trail). t.depth) c.go_back.ensures.trail; program = ap (λ (t : Trail). t.program) c.go_back.ensures.trail; mode = ap (λ (t : Trail). t.mode) c.go_back.ensures.trail; reached = c.go_back.ensures.reached } in
    safe_then s.base begun e n (safe_then s.base begun d e i.safe (safe_popped s top fs d e at came)) (safe_same s.base e n c.in_err-forward.ensures.taken.moved.err c.in_err-forward.ensures.taken.moved.reached)

pub returns-in-Some-taken-clause-advanced : goal.returns-in-Some-taken-clause-advanced
returns-in-Some-taken-clause-advanced g c =
    let i = c.loop-top.invariant in
    let begun = standing_of c.args.debugger.now in
    let d = standing_of c.loop-top.debugger in
    let e = standing_of c.go_back.new.debugger in
    let n = standing_of c.forward.new.self in
    let s : Search = search_by g.S.Schedule.decides g.S.Schedule.same g.S.Schedule.keeps c.args.bounds (first_of begun.trail) in
    let top : Open = c.in-Some.top in
    let fs : List Open = reverse c.pop.new.self.items in
    let popped = reverse_pushed c.pop.new.self.items c.loop-top.frontier.stack.items top c.in-Some.ensures.items in
    let at : At s (top ∷ fs) d = rw popped at i.at in
    let came : Came d top.depth e = record { done_steps_are = c.go_back.ensures.steps; depth = ap (λ (t : Trail). t.depth) c.go_back.ensures.trail; program = ap (λ (t : Trail). t.program) c.go_back.ensures.trail; mode = ap (λ (t : Trail). t.mode) c.go_back.ensures.trail; reached = c.go_back.ensures.reached } in
    let went : Went e c.in-Some-taken.step n = record { done_steps_are = c.in_ok-forward.ensures.taken.steps; world = c.in_ok-forward.ensures.taken.world; depth = ap (λ (t : Trail). t.depth) c.in_ok-forward.ensures.taken.moved.ok; program = c.in_ok-forward.ensures.taken.moved.program; mode = c.in_ok-forward.ensures.taken.moved.mode; reached = c.in_ok-forward.ensures.taken.moved.reached } in
    let h = tried_some s e.world _ c.in_ok-taken.taken c.in-Some-taken.step _ _ c.in-Some-taken.is c.in_ok-taken.ensures in
    retaken s top (reverse c.args.frontier.now.stack.items) fs c.open_choice.new.frontier _ begun d e n c.in-Some-taken.step (top.index + 1) h.0 at came (add-one top.index) refl h.1 h.2 went
    (i.same ∙ ap (λ xs. after s xs d) popped) (let few = i.fewer in let left = ap (λ xs. states_left s xs d) popped in omega (arith, few, left))

pub returns-in-Some-taken-clause-safe : goal.returns-in-Some-taken-clause-safe
returns-in-Some-taken-clause-safe g c =
    let i = c.loop-top.invariant in
    let begun = standing_of c.args.debugger.now in
    let d = standing_of c.loop-top.debugger in
    let e = standing_of c.go_back.new.debugger in
    let n = standing_of c.forward.new.self in
    let s : Search = search_by g.S.Schedule.decides g.S.Schedule.same g.S.Schedule.keeps c.args.bounds (first_of begun.trail) in
    let top : Open = c.in-Some.top in
    let fs : List Open = reverse c.pop.new.self.items in
    let at : At s (top ∷ fs) d = rw (reverse_pushed c.pop.new.self.items c.loop-top.frontier.stack.items top c.in-Some.ensures.items) at i.at in
    let came : Came d top.depth e = record { done_steps_are = c.go_back.ensures.steps; depth = ap (λ (t : Trail). t.depth) c.go_back.ensures.trail; program = ap (λ (t : Trail). t.program) c.go_back.ensures.trail; mode = ap (λ (t : Trail). t.mode) c.go_back.ensures.trail; reached = c.go_back.ensures.reached } in
    let went : Went e c.in-Some-taken.step n = record { done_steps_are = c.in_ok-forward.ensures.taken.steps; world = c.in_ok-forward.ensures.taken.world; depth = ap (λ (t : Trail). t.depth) c.in_ok-forward.ensures.taken.moved.ok; program = c.in_ok-forward.ensures.taken.moved.program; mode = c.in_ok-forward.ensures.taken.moved.mode; reached = c.in_ok-forward.ensures.taken.moved.reached } in
    safe_then s.base begun e n (safe_then s.base begun d e i.safe (safe_popped s top fs d e at came)) (safe_pushed s fs e n c.in-Some-taken.step (at_popped s top fs d e at came) went)

pub loop-top-preserved : goal.loop-top-preserved
loop-top-preserved g c =
    let i = c.loop-top.invariant in
    let begun = standing_of c.args.debugger.now in
    let d = standing_of c.loop-top.debugger in
    let e = standing_of c.go_back.new.debugger in
    let s : Search = search_by g.S.Schedule.decides g.S.Schedule.same g.S.Schedule.keeps c.args.bounds (first_of begun.trail) in
    let top : Open = c.in-Some.top in
    let fs : List Open = reverse c.pop.new.self.items in
    let popped = reverse_pushed c.pop.new.self.items c.loop-top.frontier.stack.items top c.in-Some.ensures.items in
    let at : At s (top ∷ fs) d = rw popped at i.at in
    let came : Came d top.depth e = record { done_steps_are = c.go_back.ensures.steps; depth = ap (λ (t : Trail). t.depth) c.go_back.ensures.trail; program = ap (λ (t : Trail). t.program) c.go_back.ensures.trail; mode = ap (λ (t : Trail). t.mode) c.go_back.ensures.trail; reached = c.go_back.ensures.reached } in
    let h = tried_none s e.world _ c.in_ok-taken.taken _ c.open_choice.new.frontier c.in_default-taken.not-Some c.in_ok-taken.ensures in
    let t = exhausted s top fs c.open_choice.new.frontier _ d e (top.index + 1) at came (add-one top.index) refl h in
    record {
      at = t.0;
      same = i.same ∙ ap (λ xs. after s xs d) popped ∙ t.1;
      fewer = (let few = i.fewer in let left = ap (λ xs. states_left s xs d) popped in let less = t.2 in omega (arith, few, left, less));
      safe = safe_then s.base begun d e i.safe (safe_popped s top fs d e at came);
    }
