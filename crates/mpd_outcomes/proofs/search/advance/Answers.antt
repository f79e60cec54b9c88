use Rattle.std.proofs.Common.{◌≡◌, ◌≤◌, ◌+◌, ◌-◌, suc, List, ◌∷◌, length, reverse, slice_get, refl, sym, ap, subst, ◌∙◌, arith, add-one}
use Rattle.mpd_trail.specs.DebuggerViews.{standing_of}
use Rattle.mpd_model.specs.runs.Trail.{done_steps}
use Rattle.mpd_explore.proofs.ListLemmas.{reverse_pushed}
use Rattle.mpd_explore.proofs.SearchLemmas.{safe_same, safe_then}
use Rattle.mpd_explore.specs.declared.report.SearchLeaf.{SearchLeaf}
use Rattle.mpd_outcomes.specs.declared.table.Found.{Found}
use Rattle.mpd_outcomes.specs.declared.search.Open.{Open}
use Rattle.mpd_outcomes.specs.Front.{Search, search_of, before, come_to, After}
use Rattle.mpd_outcomes.proofs.AnswerLemmas.{popped_after, popped_come, pushed_before, can_take, came_back, went_on}
use Rattle.mpd_outcomes.proofs.StackLemmas.{low_enough, back_at, choice_back, safe_came, safe_went, next_before, next_come, closed_after, closed_come, closed_found, table_kept_by}
use Rattle.mpd_outcomes.proofs.search.advance.Goals as goal

pub go_back-requires : goal.go_back-requires
go_back-requires c =
    let r = c.requires.stands in
    let s : Search = search_of c.args.bounds c.args.debugger.now.trail r.0 in
    let d = standing_of c.loop-top.debugger in
    let top : Open = c.in-Some.top in
    let h = popped_after s c.pop.new.self.items c.loop-top.front.stack.items top c.loop-top.front.ways.items c.loop-top.front.sums c.loop-top.front.table d c.in-Some.ensures.items (c.loop-top.invariant.stands r.0 r.1) in
    low_enough s top (reverse c.pop.new.self.items) d h.at

pub forward-requires-clause-enabled : goal.forward-requires-clause-enabled
forward-requires-clause-enabled c =
    let r = c.requires.stands in
    let s : Search = search_of c.args.bounds c.args.debugger.now.trail r.0 in
    let d = standing_of c.loop-top.debugger in
    let e = standing_of c.go_back.new.debugger in
    let top : Open = c.in-Some.top in
    let h = popped_after s c.pop.new.self.items c.loop-top.front.stack.items top c.loop-top.front.ways.items c.loop-top.front.sums c.loop-top.front.table d c.in-Some.ensures.items (c.loop-top.invariant.stands r.0 r.1) in
    let came = came_back d e top.depth c.go_back.ensures.trail c.go_back.ensures.steps c.go_back.ensures.reached in
    can_take e.world top.candidates (top.index + 1) c.in-Some-candidate_after.step (c.wide_decisions_can_be_followed.ensures e.world) (choice_back s top (reverse c.pop.new.self.items) d e h.at came) c.in-Some-candidate_after.ensures.some.1

pub forward-requires-clause-few : goal.forward-requires-clause-few
forward-requires-clause-few c =
    let r = c.requires.stands in
    let s : Search = search_of c.args.bounds c.args.debugger.now.trail r.0 in
    let d = standing_of c.loop-top.debugger in
    let top : Open = c.in-Some.top in
    let h = popped_after s c.pop.new.self.items c.loop-top.front.stack.items top c.loop-top.front.ways.items c.loop-top.front.sums c.loop-top.front.table d c.in-Some.ensures.items (c.loop-top.invariant.stands r.0 r.1) in
    let room = h.at.stands.2.fuel in
    let few = c.requires.few in
    let deep = ap (λ t. t.depth) c.go_back.ensures.trail in
    omega (arith, room, few, deep)

pub returns-in_err-forward-clause-safe : goal.returns-in_err-forward-clause-safe
returns-in_err-forward-clause-safe c =
    let r = c.requires.stands in
    let s : Search = search_of c.args.bounds c.args.debugger.now.trail r.0 in
    let begun = standing_of c.args.debugger.now in
    let d = standing_of c.loop-top.debugger in
    let e = standing_of c.go_back.new.debugger in
    let top : Open = c.in-Some.top in
    let fs : List Open = reverse c.pop.new.self.items in
    let h = popped_after s c.pop.new.self.items c.loop-top.front.stack.items top c.loop-top.front.ways.items c.loop-top.front.sums c.loop-top.front.table d c.in-Some.ensures.items (c.loop-top.invariant.stands r.0 r.1) in
    let came = came_back d e top.depth c.go_back.ensures.trail c.go_back.ensures.steps c.go_back.ensures.reached in
    let n = standing_of c.forward.new.self in
    safe_then s.base begun e n (safe_then s.base begun d e c.loop-top.invariant.safe (safe_came s top fs d e h.at came)) (safe_same s.base e n c.in_err-forward.ensures.taken.moved.err c.in_err-forward.ensures.taken.moved.reached)

pub returns-in-Some-candidate_after-clause-turned : goal.returns-in-Some-candidate_after-clause-turned
returns-in-Some-candidate_after-clause-turned c = λ root g.
    let s : Search = search_of c.args.bounds c.args.debugger.now.trail root in
    let d = standing_of c.loop-top.debugger in
    let e = standing_of c.go_back.new.debugger in
    let n = standing_of c.forward.new.self in
    let top : Open = c.in-Some.top in
    let fs : List Open = reverse c.pop.new.self.items in
    let h = popped_after s c.pop.new.self.items c.loop-top.front.stack.items top c.loop-top.front.ways.items c.loop-top.front.sums c.loop-top.front.table d c.in-Some.ensures.items (c.loop-top.invariant.stands root g) in
    let came = came_back d e top.depth c.go_back.ensures.trail c.go_back.ensures.steps c.go_back.ensures.reached in
    let f = c.in_ok-forward.ensures.taken in
    let went = went_on e n c.in-Some-candidate_after.step f.moved.ok f.steps f.world f.moved.program f.moved.mode f.moved.reached in
    let number : c.in-Some-candidate_after.next ≡ suc top.index = c.in-Some-candidate_after.ensures.some.0 ∙ add-one top.index in
    let there = ap (slice_get top.candidates) (sym (add-one top.index)) ∙ c.in-Some-candidate_after.ensures.some.1 in
    pushed_before s c.pop.new.self.items c.push.new.self.items (record { depth = top.depth; candidates = top.candidates; index = c.in-Some-candidate_after.next; key = top.key; outer = top.outer }) c.loop-top.front.ways.items c.loop-top.front.sums
    c.loop-top.front.table n c.in_ok-push.ensures.items
    (next_before s top (record { depth = top.depth; candidates = top.candidates; index = c.in-Some-candidate_after.next; key = top.key; outer = top.outer }) fs c.loop-top.front.ways.items c.loop-top.front.sums c.loop-top.front.table d e n
    c.in-Some-candidate_after.step h came (λ j. record { depth = top.depth; candidates = top.candidates; index = number j; key = top.key; outer = top.outer }) there went)

pub returns-in-Some-candidate_after-clause-come : goal.returns-in-Some-candidate_after-clause-come
returns-in-Some-candidate_after-clause-come c = λ root g.
    let s : Search = search_of c.args.bounds c.args.debugger.now.trail root in
    let d = standing_of c.loop-top.debugger in
    let e = standing_of c.go_back.new.debugger in
    let n = standing_of c.forward.new.self in
    let top : Open = c.in-Some.top in
    let fs : List Open = reverse c.pop.new.self.items in
    let h = popped_after s c.pop.new.self.items c.loop-top.front.stack.items top c.loop-top.front.ways.items c.loop-top.front.sums c.loop-top.front.table d c.in-Some.ensures.items (c.loop-top.invariant.stands root g) in
    let came = came_back d e top.depth c.go_back.ensures.trail c.go_back.ensures.steps c.go_back.ensures.reached in
    let f = c.in_ok-forward.ensures.taken in
    let went = went_on e n c.in-Some-candidate_after.step f.moved.ok f.steps f.world f.moved.program f.moved.mode f.moved.reached in
    let number : c.in-Some-candidate_after.next ≡ suc top.index = c.in-Some-candidate_after.ensures.some.0 ∙ add-one top.index in
    let pushed : Open = record { depth = top.depth; candidates = top.candidates; index = c.in-Some-candidate_after.next; key = top.key; outer = top.outer } in
    ap (λ (os : List Open). before s os (done_steps n.trail)) (reverse_pushed c.pop.new.self.items c.push.new.self.items pushed c.in_ok-push.ensures.items)
    ∙ (λ j. before s (record { depth = top.depth; candidates = top.candidates; index = number j; key = top.key; outer = top.outer } ∷ fs) (done_steps n.trail))
    ∙ next_come s top fs d e n c.in-Some-candidate_after.step h.at came went
    ∙ popped_come s c.pop.new.self.items c.loop-top.front.stack.items top (done_steps d.trail) c.in-Some.ensures.items
    ∙ c.loop-top.invariant.come root g

pub returns-in-Some-candidate_after-clause-safe : goal.returns-in-Some-candidate_after-clause-safe
returns-in-Some-candidate_after-clause-safe c =
    let r = c.requires.stands in
    let s : Search = search_of c.args.bounds c.args.debugger.now.trail r.0 in
    let begun = standing_of c.args.debugger.now in
    let d = standing_of c.loop-top.debugger in
    let e = standing_of c.go_back.new.debugger in
    let top : Open = c.in-Some.top in
    let fs : List Open = reverse c.pop.new.self.items in
    let h = popped_after s c.pop.new.self.items c.loop-top.front.stack.items top c.loop-top.front.ways.items c.loop-top.front.sums c.loop-top.front.table d c.in-Some.ensures.items (c.loop-top.invariant.stands r.0 r.1) in
    let came = came_back d e top.depth c.go_back.ensures.trail c.go_back.ensures.steps c.go_back.ensures.reached in
    let n = standing_of c.forward.new.self in
    let f = c.in_ok-forward.ensures.taken in
    let went = went_on e n c.in-Some-candidate_after.step f.moved.ok f.steps f.world f.moved.program f.moved.mode f.moved.reached in
    safe_then s.base begun e n (safe_then s.base begun d e c.loop-top.invariant.safe (safe_came s top fs d e h.at came)) (safe_went s fs e n c.in-Some-candidate_after.step (back_at s top fs d e h.at came) went)

pub loop-top-preserved : goal.loop-top-preserved
loop-top-preserved c =
    let r = c.requires.stands in
    let s : Search = search_of c.args.bounds c.args.debugger.now.trail r.0 in
    let begun = standing_of c.args.debugger.now in
    let d = standing_of c.loop-top.debugger in
    let e = standing_of c.go_back.new.debugger in
    let top : Open = c.in-Some.top in
    let fs : List Open = reverse c.pop.new.self.items in
    let h = popped_after s c.pop.new.self.items c.loop-top.front.stack.items top c.loop-top.front.ways.items c.loop-top.front.sums c.loop-top.front.table d c.in-Some.ensures.items (c.loop-top.invariant.stands r.0 r.1) in
    let came = came_back d e top.depth c.go_back.ensures.trail c.go_back.ensures.steps c.go_back.ensures.reached in
    record {
      stands = λ root g.
          let z : Search = search_of c.args.bounds c.args.debugger.now.trail root in
          let k = popped_after z c.pop.new.self.items c.loop-top.front.stack.items top c.loop-top.front.ways.items c.loop-top.front.sums c.loop-top.front.table d c.in-Some.ensures.items (c.loop-top.invariant.stands root g) in
          let closed = c.in_ok-close.ensures in
          let last : length top.candidates ≤ suc top.index = (let none = c.in_default-candidate_after.ensures.none in omega (arith, none)) in
          let found : Found = record { fuel = c.args.bounds.limit - top.depth; height = c.loop-top.front.sums.deepest - top.depth; tally = c.loop-top.front.sums.tally } in
          let table =
          table_kept_by z c.loop-top.front.ways.items c.loop-top.front.table c.close.new.front.table top.key found k.table
          (λ q is. closed_found z top fs c.loop-top.front.ways.items c.loop-top.front.sums c.loop-top.front.table d k last q is found refl refl refl) closed.table
          in
          let after =
          closed_after z top fs c.loop-top.front.ways.items c.loop-top.front.sums c.loop-top.front.table d k last c.close.new.front.sums c.close.new.front.table e came closed.counts closed.total closed.deepest table
          in
          subst (λ (os : List Open). After z os c.close.new.front.ways.items c.close.new.front.sums c.close.new.front.table e) (ap reverse (sym closed.stack))
          (subst (λ (ws : List SearchLeaf). After z fs ws c.close.new.front.sums c.close.new.front.table e) (sym closed.ways_are) after);
      come = λ root g.
          let z : Search = search_of c.args.bounds c.args.debugger.now.trail root in
          let k = popped_after z c.pop.new.self.items c.loop-top.front.stack.items top c.loop-top.front.ways.items c.loop-top.front.sums c.loop-top.front.table d c.in-Some.ensures.items (c.loop-top.invariant.stands root g) in
          let last : length top.candidates ≤ suc top.index = (let none = c.in_default-candidate_after.ensures.none in omega (arith, none)) in
          ap (λ (os : List Open). come_to z (reverse os) (done_steps e.trail)) c.in_ok-close.ensures.stack
          ∙ sym (closed_come z top fs c.loop-top.front.ways.items c.loop-top.front.sums c.loop-top.front.table d k last e came)
          ∙ popped_come z c.pop.new.self.items c.loop-top.front.stack.items top (done_steps d.trail) c.in-Some.ensures.items
          ∙ c.loop-top.invariant.come root g;
      ways = c.in_ok-close.ensures.ways_are ∙ c.loop-top.invariant.ways;
      safe = safe_then s.base begun d e c.loop-top.invariant.safe (safe_came s top fs d e h.at came);
    }

pub returns-in_err-close-clause-safe : goal.returns-in_err-close-clause-safe
returns-in_err-close-clause-safe c =
    let r = c.requires.stands in
    let s : Search = search_of c.args.bounds c.args.debugger.now.trail r.0 in
    let begun = standing_of c.args.debugger.now in
    let d = standing_of c.loop-top.debugger in
    let e = standing_of c.go_back.new.debugger in
    let top : Open = c.in-Some.top in
    let fs : List Open = reverse c.pop.new.self.items in
    let h = popped_after s c.pop.new.self.items c.loop-top.front.stack.items top c.loop-top.front.ways.items c.loop-top.front.sums c.loop-top.front.table d c.in-Some.ensures.items (c.loop-top.invariant.stands r.0 r.1) in
    let came = came_back d e top.depth c.go_back.ensures.trail c.go_back.ensures.steps c.go_back.ensures.reached in
    safe_then s.base begun d e c.loop-top.invariant.safe (safe_came s top fs d e h.at came)
