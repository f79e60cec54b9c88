use Rattle.std.proofs.Common.{◌≡◌, sym, ap, subst, ◌∙◌}
use Rattle.mpd_trail.specs.DebuggerViews.{standing_of}
use Rattle.mpd_outcomes.specs.declared.search.Front.{Front}
use Rattle.mpd_outcomes.specs.Front.{Search, search_of, open_in, BeforeIn, Opened, Recalled}
use Rattle.mpd_outcomes.proofs.AlongLemmas.{told_states, opened_states}
use Rattle.mpd_outcomes.proofs.AnswerLemmas.{went_on, recalled_after, opened_in}
use Rattle.mpd_outcomes.proofs.StackLemmas.{safe_went, less_before}
use Rattle.mpd_outcomes.proofs.search.meet.Goals as goal

pub returns-then-branch-clause-met : goal.returns-then-branch-clause-met
returns-then-branch-clause-met c = λ root g.
    let s : Search = search_of c.args.bounds c.args.debugger.now.trail root in
    let d = standing_of c.args.debugger.now in
    let f : Front = record c.args.front.now { table = c.key_here-key.new.table } in
    let less : BeforeIn s f d = less_before s (open_in c.args.front.now) c.args.front.now.ways.items c.args.front.now.sums c.args.front.now.table c.key_here-key.new.table d c.key_here-key.ensures.less g in
    let told = subst (λ b. Recalled c.key_here-key.result c.args.bounds.limit c.depth-depth.result b f c.recall.new.front) c.if-branch.true c.in_ok-recall.ensures in
    recalled_after s f c.recall.new.front d c.key_here-key.result c.depth-depth.result less c.depth-depth.ensures.value c.key_here-key.ensures.key told

pub returns-clause-met : goal.returns-clause-met
returns-clause-met c = λ root g.
    let s : Search = search_of c.args.bounds c.args.debugger.now.trail root in
    let d = standing_of c.args.debugger.now in
    let e = standing_of c.forward.new.self in
    let f : Front = record c.args.front.now { table = c.key_here-key.new.table } in
    let less : BeforeIn s f d = less_before s (open_in c.args.front.now) c.args.front.now.ways.items c.args.front.now.sums c.args.front.now.table c.key_here-key.new.table d c.key_here-key.ensures.less g in
    let same : c.recall.new.front ≡ f = subst (λ b. Recalled c.key_here-key.result c.args.bounds.limit c.depth-depth.result b f c.recall.new.front) c.if-branch.false c.in_ok-recall.ensures in
    let t = c.in_ok-forward.ensures.taken in
    opened_in s c.recall.new.front c.push_choice.new.front d e c.key_here-key.result c.depth-depth.result c.args.candidates c.in-Some.step (subst (λ (x : Front). BeforeIn s x d) (sym same) less) c.depth-depth.ensures.value
    c.key_here-key.ensures.key c.requires.choice c.requires.fuel (sym c.in-Some.ensures) c.in_ok-push_choice.ensures (went_on d e c.in-Some.step t.moved.ok t.steps t.world t.moved.program t.moved.mode t.moved.reached)

pub returns-then-branch-clause-states : goal.returns-then-branch-clause-states
returns-then-branch-clause-states c = λ root g.
    let s : Search = search_of c.args.bounds c.args.debugger.now.trail root in
    let f : Front = record c.args.front.now { table = c.key_here-key.new.table } in
    let told = subst (λ b. Recalled c.key_here-key.result c.args.bounds.limit c.depth-depth.result b f c.recall.new.front) c.if-branch.true c.in_ok-recall.ensures in
    told_states s f c.recall.new.front (standing_of c.args.debugger.now) c.wide_decisions_can_be_followed.ensures g.at told.5.stack

pub returns-clause-states : goal.returns-clause-states
returns-clause-states c = λ root g.
    let s : Search = search_of c.args.bounds c.args.debugger.now.trail root in
    let d = standing_of c.args.debugger.now in
    let e = standing_of c.forward.new.self in
    let f : Front = record c.args.front.now { table = c.key_here-key.new.table } in
    let same : c.recall.new.front ≡ f = subst (λ b. Recalled c.key_here-key.result c.args.bounds.limit c.depth-depth.result b f c.recall.new.front) c.if-branch.false c.in_ok-recall.ensures in
    let t = c.in_ok-forward.ensures.taken in
    let opened = subst (λ (x : Front). Opened c.depth-depth.result c.args.candidates c.key_here-key.result x c.push_choice.new.front) same c.in_ok-push_choice.ensures in
    opened_states s f c.push_choice.new.front d e c.key_here-key.result c.depth-depth.result c.args.candidates c.in-Some.step g.at c.depth-depth.ensures.value opened
    (went_on d e c.in-Some.step t.moved.ok t.steps t.world t.moved.program t.moved.mode t.moved.reached)

pub returns-then-branch-clause-ways : goal.returns-then-branch-clause-ways
returns-then-branch-clause-ways c =
    let f : Front = record c.args.front.now { table = c.key_here-key.new.table } in
    (subst (λ b. Recalled c.key_here-key.result c.args.bounds.limit c.depth-depth.result b f c.recall.new.front) c.if-branch.true c.in_ok-recall.ensures).5.ways_are

pub returns-clause-ways : goal.returns-clause-ways
returns-clause-ways c =
    let f : Front = record c.args.front.now { table = c.key_here-key.new.table } in
    let same : c.recall.new.front ≡ f = subst (λ b. Recalled c.key_here-key.result c.args.bounds.limit c.depth-depth.result b f c.recall.new.front) c.if-branch.false c.in_ok-recall.ensures in
    c.in_ok-push_choice.ensures.ways_are ∙ ap (λ (x : Front). x.ways.items) same

pub returns-clause-safe : goal.returns-clause-safe
returns-clause-safe c =
    let r = c.requires.stands in
    let s : Search = search_of c.args.bounds c.args.debugger.now.trail r.0 in
    let f = c.in_ok-forward.ensures.taken in
    safe_went s (open_in c.args.front.now) (standing_of c.args.debugger.now) (standing_of c.forward.new.self) c.in-Some.step r.1.at
    (went_on (standing_of c.args.debugger.now) (standing_of c.forward.new.self) c.in-Some.step f.moved.ok f.steps f.world f.moved.program f.moved.mode f.moved.reached)
