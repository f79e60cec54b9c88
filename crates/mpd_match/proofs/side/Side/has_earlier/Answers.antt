use Rattle.std.proofs.Common.{◌≡◌, ◌<◌, ◌≤◌, ℕ, Bool, Option, Some, is_none, List, length, sym, ap, subst, ◌∙◌}
use Rattle.mpd_model.specs.declared.call.CallKind.{CallKind}
use Rattle.mpd_queue.specs.InOrder.{places_in}
use Rattle.mpd_match.specs.Lines.{line_of, kind_in, mark_in, waits, waiting, fitting_either}
use Rattle.mpd_match.proofs.InLines.{stands_at_most_once}
use Rattle.mpd_match.proofs.Walks.{Walking, rest, stands_tells, rising_passed, walk_steps, walk_falls, walk_finds, walk_passes, walk_ends, looks_found, looks_passed, looks_ended}
use Rattle.mpd_match.proofs.side.Side.has_earlier.Goals as goal

pub returns-then-index-item-clause-found : goal.returns-then-index-item-clause-found
returns-then-index-item-clause-found c =
    let xs : List ℕ = waiting c.args.self.now.calls (mark_in c.args.self.now.marks) c.args.line in
    let test : ℕ → Bool = λ i. fitting_either (kind_in c.args.self.now.calls i) c.args.other c.args.sender c.args.receiver in
    let w = subst (λ (o : Option ℕ). Walking test c.args.index xs c.args.looks.now c.walk.looks o) c.in-Some.is c.walk.invariant in
    walk_passes test c.args.index xs c.args.looks.now c.walk.looks c.in-Some.item (rising_passed (waits c.args.self.now.calls (mark_in c.args.self.now.marks) c.args.line) 0 (length c.args.self.now.calls)) w c.if-index-item.true

pub returns-then-is_fitting_either-clause-found : goal.returns-then-is_fitting_either-clause-found
returns-then-is_fitting_either-clause-found c =
    let xs : List ℕ = waiting c.args.self.now.calls (mark_in c.args.self.now.marks) c.args.line in
    let test : ℕ → Bool = λ i. fitting_either (kind_in c.args.self.now.calls i) c.args.other c.args.sender c.args.receiver in
    let w = subst (λ (o : Option ℕ). Walking test c.args.index xs c.args.looks.now c.walk.looks o) c.in-Some.is c.walk.invariant in
    let once : (z : ℕ) → places_in xs z ≤ 1 = stands_at_most_once c.args.self.now.calls (mark_in c.args.self.now.marks) c.args.line in
    let tested : c.is_fitting_either.result ≡ test c.in-Some.item = c.is_fitting_either.ensures ∙ ap (λ (k : Option CallKind). fitting_either k c.args.other c.args.sender c.args.receiver) c.kind.ensures in
    walk_finds test c.args.index xs c.args.looks.now c.walk.looks c.in-Some.item once w c.if-index-item.false (sym tested ∙ c.if-is_fitting_either.true)

pub next-here-requires-clause-line : goal.next-here-requires-clause-line
next-here-requires-clause-line c =
    let xs : List ℕ = waiting c.args.self.now.calls (mark_in c.args.self.now.marks) c.args.line in
    let test : ℕ → Bool = λ i. fitting_either (kind_in c.args.self.now.calls i) c.args.other c.args.sender c.args.receiver in
    let w = subst (λ (o : Option ℕ). Walking test c.args.index xs c.args.looks.now c.walk.looks o) c.in-Some.is c.walk.invariant in
    ap (λ (o : Option ℕ). is_none o) (stands_tells c.args.self.now.calls (mark_in c.args.self.now.marks) c.args.line c.in-Some.item w.stands).1

pub next-here-requires-clause-free : goal.next-here-requires-clause-free
next-here-requires-clause-free c =
    let xs : List ℕ = waiting c.args.self.now.calls (mark_in c.args.self.now.marks) c.args.line in
    let test : ℕ → Bool = λ i. fitting_either (kind_in c.args.self.now.calls i) c.args.other c.args.sender c.args.receiver in
    let w = subst (λ (o : Option ℕ). Walking test c.args.index xs c.args.looks.now c.walk.looks o) c.in-Some.is c.walk.invariant in
    (stands_tells c.args.self.now.calls (mark_in c.args.self.now.marks) c.args.line c.in-Some.item w.stands).0

pub walk-smaller : goal.walk-smaller
walk-smaller c =
    let xs : List ℕ = waiting c.args.self.now.calls (mark_in c.args.self.now.marks) c.args.line in
    let test : ℕ → Bool = λ i. fitting_either (kind_in c.args.self.now.calls i) c.args.other c.args.sender c.args.receiver in
    let w = subst (λ (o : Option ℕ). Walking test c.args.index xs c.args.looks.now c.walk.looks o) c.in-Some.is c.walk.invariant in
    let once : (z : ℕ) → places_in xs z ≤ 1 = stands_at_most_once c.args.self.now.calls (mark_in c.args.self.now.marks) c.args.line in
    let at : line_of (kind_in c.args.self.now.calls c.in-Some.item) ≡ Some c.args.line = (stands_tells c.args.self.now.calls (mark_in c.args.self.now.marks) c.args.line c.in-Some.item w.stands).1 in
    subst (λ (o : Option ℕ). length (rest c.next-here.result xs) < length (rest o xs)) (sym c.in-Some.is)
    (walk_falls c.in-Some.item xs c.next-here.result once w.stands (c.next-here.ensures.next c.args.line at))

pub walk-preserved : goal.walk-preserved
walk-preserved c =
    let xs : List ℕ = waiting c.args.self.now.calls (mark_in c.args.self.now.marks) c.args.line in
    let test : ℕ → Bool = λ i. fitting_either (kind_in c.args.self.now.calls i) c.args.other c.args.sender c.args.receiver in
    let w = subst (λ (o : Option ℕ). Walking test c.args.index xs c.args.looks.now c.walk.looks o) c.in-Some.is c.walk.invariant in
    let once : (z : ℕ) → places_in xs z ≤ 1 = stands_at_most_once c.args.self.now.calls (mark_in c.args.self.now.marks) c.args.line in
    let tested : c.is_fitting_either.result ≡ test c.in-Some.item = c.is_fitting_either.ensures ∙ ap (λ (k : Option CallKind). fitting_either k c.args.other c.args.sender c.args.receiver) c.kind.ensures in
    let at : line_of (kind_in c.args.self.now.calls c.in-Some.item) ≡ Some c.args.line = (stands_tells c.args.self.now.calls (mark_in c.args.self.now.marks) c.args.line c.in-Some.item w.stands).1 in
    walk_steps test c.args.index xs c.args.looks.now c.walk.looks c.next-here.new.looks c.in-Some.item c.next-here.result once w c.if-index-item.false
    (sym tested ∙ c.if-is_fitting_either.false) (c.next-here.ensures.next c.args.line at) c.next-here.ensures.looks

pub returns-clause-found : goal.returns-clause-found
returns-clause-found c =
    let xs : List ℕ = waiting c.args.self.now.calls (mark_in c.args.self.now.marks) c.args.line in
    let test : ℕ → Bool = λ i. fitting_either (kind_in c.args.self.now.calls i) c.args.other c.args.sender c.args.receiver in
    let w = subst (λ (o : Option ℕ). Walking test c.args.index xs c.args.looks.now c.walk.looks o) c.in_default.is c.walk.invariant in
    walk_ends test c.args.index xs c.args.looks.now c.walk.looks w

pub returns-then-index-item-clause-looks : goal.returns-then-index-item-clause-looks
returns-then-index-item-clause-looks c =
    let xs : List ℕ = waiting c.args.self.now.calls (mark_in c.args.self.now.marks) c.args.line in
    let test : ℕ → Bool = λ i. fitting_either (kind_in c.args.self.now.calls i) c.args.other c.args.sender c.args.receiver in
    let w = subst (λ (o : Option ℕ). Walking test c.args.index xs c.args.looks.now c.walk.looks o) c.in-Some.is c.walk.invariant in
    let once : (z : ℕ) → places_in xs z ≤ 1 = stands_at_most_once c.args.self.now.calls (mark_in c.args.self.now.marks) c.args.line in
    looks_passed test c.args.index xs c.args.looks.now c.walk.looks c.in-Some.item once w c.if-index-item.true

pub returns-then-is_fitting_either-clause-looks : goal.returns-then-is_fitting_either-clause-looks
returns-then-is_fitting_either-clause-looks c =
    let xs : List ℕ = waiting c.args.self.now.calls (mark_in c.args.self.now.marks) c.args.line in
    let test : ℕ → Bool = λ i. fitting_either (kind_in c.args.self.now.calls i) c.args.other c.args.sender c.args.receiver in
    let w = subst (λ (o : Option ℕ). Walking test c.args.index xs c.args.looks.now c.walk.looks o) c.in-Some.is c.walk.invariant in
    let once : (z : ℕ) → places_in xs z ≤ 1 = stands_at_most_once c.args.self.now.calls (mark_in c.args.self.now.marks) c.args.line in
    let tested : c.is_fitting_either.result ≡ test c.in-Some.item = c.is_fitting_either.ensures ∙ ap (λ (k : Option CallKind). fitting_either k c.args.other c.args.sender c.args.receiver) c.kind.ensures in
    looks_found test c.args.index xs c.args.looks.now c.walk.looks c.in-Some.item once w (sym tested ∙ c.if-is_fitting_either.true)

pub returns-clause-looks : goal.returns-clause-looks
returns-clause-looks c =
    let xs : List ℕ = waiting c.args.self.now.calls (mark_in c.args.self.now.marks) c.args.line in
    let test : ℕ → Bool = λ i. fitting_either (kind_in c.args.self.now.calls i) c.args.other c.args.sender c.args.receiver in
    let w = subst (λ (o : Option ℕ). Walking test c.args.index xs c.args.looks.now c.walk.looks o) c.in_default.is c.walk.invariant in
    looks_ended test c.args.index xs c.args.looks.now c.walk.looks w
