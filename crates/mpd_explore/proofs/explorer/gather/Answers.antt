use Rattle.std.proofs.Common.{◌≡◌, ◌+◌, ◌≤◌, [], length, map, reverse, string_bytes, List, refl, sym, ap, subst, arith}
use Rattle.mpd_model.specs.steps.World.{World}
use Rattle.mpd_trail.specs.Run.{first_of}
use Rattle.mpd_trail.specs.DebuggerViews.{standing_of}
use Rattle.mpd_policy.specs.Walk.{Run}
use Rattle.mpd_explore.specs.declared.report.SearchLeaf.{SearchLeaf}
use Rattle.mpd_explore.specs.declared.search.Open.{Open}
use Rattle.mpd_explore.specs.Report.{any_bad}
use Rattle.mpd_explore.specs.Search.{Search, search_by, At, come, after}
use Rattle.mpd_explore.proofs.SearchLemmas.{safe_same, safe_then}
use Rattle.mpd_explore.proofs.GatherLemmas.{gathered_none, still_good, one_longer, lists_all, gathered_leaf, goes_on, goes_nowhere, lists_none, lists_last, lists_asked, leaf_found, no_leaf, more_of}
use Rattle.mpd_explore.proofs.explorer.gather.Goals as goal

pub loop-turn-init : goal.loop-turn-init
loop-turn-init g c =
    let d = standing_of c.args.debugger.now in
    let s : Search = search_by g.S.Schedule.decides g.S.Schedule.same g.S.Schedule.keeps c.args.bounds (first_of d.trail) in
    let f = c.args.frontier.now in
    let none : f.stack.items ≡ [] = c.requires.none_open in
    record {
      at = subst (λ (xs : List Open). At s (reverse xs) d) (sym none) c.requires.at;
      gathered = gathered_none c.args.limits.witnesses (come s [] f.asleep d) _ _ _ (ap (λ (xs : List Open). come s (reverse xs) f.asleep d) none) c.requires.none_told (ap (map string_bytes) c.requires.none_written);
      counted = ap length c.requires.none_told;
      good = λ h. ap any_bad c.requires.none_told;
      safe = safe_same c.args.bounds.base d d refl c.requires.at.reached;
    }

pub returns-in_default-clause-lists : goal.returns-in_default-clause-lists
returns-in_default-clause-lists g c =
    let i = c.loop-turn.invariant in
    let by : World → Search = search_by g.S.Schedule.decides g.S.Schedule.same g.S.Schedule.keeps c.args.bounds in
    let begun = standing_of c.args.debugger.now in
    let s : Search = by (first_of begun.trail) in
    let d = standing_of c.loop-turn.debugger in
    let f = c.loop-turn.frontier in
    let fs : List Open = reverse f.stack.items in
    let all : List Run = come s [] c.args.frontier.now.asleep begun in
    let m = standing_of c.next_leaf.new.debugger in
    let gs : List Open = reverse c.next_leaf.new.frontier.stack.items in
    let none : come s fs f.asleep d ≡ [] = no_leaf s (by (first_of d.trail)) fs gs f.asleep d m _ (ap by i.at.first_is) c.in_default.is c.in_ok-leaf.ensures.found in
    let few : length c.loop-turn.report.leaves.items ≤ c.args.limits.runs = omega (arith, i.counted, c.loop-turn-test.true) in
    lists_none c.args.limits all (come s fs f.asleep d) c.loop-turn.report.leaves.items _ i.gathered none i.good few

pub returns-then-not-has_next-clause-lists : goal.returns-then-not-has_next-clause-lists
returns-then-not-has_next-clause-lists g c =
    let i = c.loop-turn.invariant in
    let by : World → Search = search_by g.S.Schedule.decides g.S.Schedule.same g.S.Schedule.keeps c.args.bounds in
    let begun = standing_of c.args.debugger.now in
    let s : Search = by (first_of begun.trail) in
    let d = standing_of c.loop-turn.debugger in
    let f = c.loop-turn.frontier in
    let fs : List Open = reverse f.stack.items in
    let all : List Run = come s [] c.args.frontier.now.asleep begun in
    let m = standing_of c.next_leaf.new.debugger in
    let e = standing_of c.advance.new.debugger in
    let gs : List Open = reverse c.next_leaf.new.frontier.stack.items in
    let hs : List Open = reverse c.advance.new.frontier.stack.items in
    let x : SearchLeaf = c.in-Some.leaf in
    let l = leaf_found s (by (first_of d.trail)) fs gs f.asleep d m _ x (ap by i.at.first_is) c.in-Some.is c.in_ok-leaf.ensures.found in
    let own : by (first_of m.trail) ≡ s = ap by l.0.first_is in
    let none : after s gs m ≡ [] = goes_nowhere s (by (first_of m.trail)) gs hs c.advance.new.frontier.asleep m e c.in_ok-has_next.has_next own c.if-not-has_next.true c.in_ok-has_next.ensures.advanced in
    let found = gathered_leaf c.args.limits.witnesses s gs m x all (come s fs f.asleep d) [] c.loop-turn.report.leaves.items _ _ _ i.gathered l.1 l.2 c.in_ok-list_leaf.ensures.leaves c.in_ok-list_leaf.ensures.texts none in
    let long : length c.list_leaf.new.report.leaves.items ≡ c.loop-turn.turn + 1 = one_longer c.loop-turn.report.leaves.items _ x c.loop-turn.turn c.in_ok-list_leaf.ensures.leaves i.counted in
    let few : length c.list_leaf.new.report.leaves.items ≤ c.args.limits.runs = omega (arith, long, c.loop-turn-test.true) in
    lists_all c.args.limits all [] c.loop-turn.report.leaves.items _ x _ found refl c.in_ok-list_leaf.ensures.leaves i.good few

pub returns-then-is_last-clause-lists : goal.returns-then-is_last-clause-lists
returns-then-is_last-clause-lists g c =
    let i = c.loop-turn.invariant in
    let by : World → Search = search_by g.S.Schedule.decides g.S.Schedule.same g.S.Schedule.keeps c.args.bounds in
    let begun = standing_of c.args.debugger.now in
    let s : Search = by (first_of begun.trail) in
    let d = standing_of c.loop-turn.debugger in
    let f = c.loop-turn.frontier in
    let fs : List Open = reverse f.stack.items in
    let all : List Run = come s [] c.args.frontier.now.asleep begun in
    let m = standing_of c.next_leaf.new.debugger in
    let e = standing_of c.advance.new.debugger in
    let gs : List Open = reverse c.next_leaf.new.frontier.stack.items in
    let h = c.advance.new.frontier in
    let hs : List Open = reverse h.stack.items in
    let x : SearchLeaf = c.in-Some.leaf in
    let l = leaf_found s (by (first_of d.trail)) fs gs f.asleep d m _ x (ap by i.at.first_is) c.in-Some.is c.in_ok-leaf.ensures.found in
    let own : by (first_of m.trail) ≡ s = ap by l.0.first_is in
    let rest : List Run = come s hs h.asleep e in
    let on = goes_on s (by (first_of m.trail)) gs hs h.asleep m e c.in_ok-has_next.has_next own c.if-not-has_next.false c.in_ok-has_next.ensures.advanced in
    let found = gathered_leaf c.args.limits.witnesses s gs m x all (come s fs f.asleep d) rest c.loop-turn.report.leaves.items _ _ _ i.gathered l.1 l.2 c.in_ok-list_leaf.ensures.leaves c.in_ok-list_leaf.ensures.texts on.1 in
    let long : length c.list_leaf.new.report.leaves.items ≡ c.loop-turn.turn + 1 = one_longer c.loop-turn.report.leaves.items _ x c.loop-turn.turn c.in_ok-list_leaf.ensures.leaves i.counted in
    let few : length c.list_leaf.new.report.leaves.items ≤ c.args.limits.runs = omega (arith, long, c.loop-turn-test.true) in
    let more = more_of s (by (first_of e.trail)) hs h.asleep e c.in_ok-is_left.is_left (ap by on.0.first_is) c.in_ok-is_left.ensures.more in
    lists_last c.args.limits all rest c.loop-turn.report.leaves.items _ x _ c.ends_with-is_last.result c.in_ok-is_left.is_left found more c.in_ok-list_leaf.ensures.leaves i.good few c.ends_with-is_last.ensures c.if-is_last.true

pub loop-turn-preserved : goal.loop-turn-preserved
loop-turn-preserved g c =
    let i = c.loop-turn.invariant in
    let by : World → Search = search_by g.S.Schedule.decides g.S.Schedule.same g.S.Schedule.keeps c.args.bounds in
    let begun = standing_of c.args.debugger.now in
    let s : Search = by (first_of begun.trail) in
    let d = standing_of c.loop-turn.debugger in
    let f = c.loop-turn.frontier in
    let fs : List Open = reverse f.stack.items in
    let all : List Run = come s [] c.args.frontier.now.asleep begun in
    let m = standing_of c.next_leaf.new.debugger in
    let e = standing_of c.advance.new.debugger in
    let gs : List Open = reverse c.next_leaf.new.frontier.stack.items in
    let h = c.advance.new.frontier in
    let hs : List Open = reverse h.stack.items in
    let x : SearchLeaf = c.in-Some.leaf in
    let l = leaf_found s (by (first_of d.trail)) fs gs f.asleep d m _ x (ap by i.at.first_is) c.in-Some.is c.in_ok-leaf.ensures.found in
    let own : by (first_of m.trail) ≡ s = ap by l.0.first_is in
    let on = goes_on s (by (first_of m.trail)) gs hs h.asleep m e c.in_ok-has_next.has_next own c.if-not-has_next.false c.in_ok-has_next.ensures.advanced in
    record {
      at = on.0;
      gathered = gathered_leaf c.args.limits.witnesses s gs m x all (come s fs f.asleep d) (come s hs h.asleep e) c.loop-turn.report.leaves.items _ _ _ i.gathered l.1 l.2 c.in_ok-list_leaf.ensures.leaves c.in_ok-list_leaf.ensures.texts on.1;
      counted = one_longer c.loop-turn.report.leaves.items _ x c.loop-turn.turn c.in_ok-list_leaf.ensures.leaves i.counted;
      good = still_good c.args.limits.until_bad c.ends_with-is_last.result c.loop-turn.report.leaves.items _ x c.in_ok-list_leaf.ensures.leaves c.ends_with-is_last.ensures c.if-is_last.false i.good;
      safe = safe_then s.base begun m e (safe_then s.base begun d m i.safe c.in_ok-leaf.ensures.safe) c.in_ok-has_next.ensures.safe;
    }

pub returns-clause-lists : goal.returns-clause-lists
returns-clause-lists g c =
    let i = c.loop-turn.invariant in
    let by : World → Search = search_by g.S.Schedule.decides g.S.Schedule.same g.S.Schedule.keeps c.args.bounds in
    let begun = standing_of c.args.debugger.now in
    let s : Search = by (first_of begun.trail) in
    let d = standing_of c.loop-turn.debugger in
    let f = c.loop-turn.frontier in
    let fs : List Open = reverse f.stack.items in
    let all : List Run = come s [] c.args.frontier.now.asleep begun in
    let rest : List Run = come s fs f.asleep d in
    let long : length c.loop-turn.report.leaves.items ≡ c.args.limits.runs = omega (arith, i.counted) in
    let more = more_of s (by (first_of d.trail)) fs f.asleep d c.in_ok-is_left-2.is_left (ap by i.at.first_is) c.in_ok-is_left-2.ensures.more in
    lists_asked c.args.limits all rest c.loop-turn.report.leaves.items _ c.in_ok-is_left-2.is_left i.gathered more long i.good
