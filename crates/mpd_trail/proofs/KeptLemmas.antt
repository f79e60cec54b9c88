-- The records lead from the first world to the last.
use Rattle.std.proofs.Common.{◌≡◌, ℕ, ◌<◌, ◌≤◌, ◌+◌, Bool, true, false, List, [], ◌∷◌, ◌++◌, length, take, drop, reverse, get_or, slice_get, Option, Some, None, IfSome, IsSome, Ok, refl, sym, ap, subst, ◌∙◌, arith, cond}
use Rattle.std.specs.Option.{option_and_then, option_map}
use Rattle.std.proofs.lemmas.List.{reverse-append, reverse-reverse, length-append, length-reverse, take_more, take_all, take-take, take-append-drop, length-take}
use Rattle.std.proofs.lemmas.Option.{get_or_from_slice_get, slice_get_within}
use Rattle.mpd_model.specs.declared.limits.TheConstants.{STEPS_MAX}
use Rattle.mpd_model.specs.declared.step.Step.{Step}
use Rattle.mpd_model.specs.declared.step.Step.TheVariants.{Local, Match, Wake, WakeAny, Release}
use Rattle.mpd_model.specs.script.Program.{Program}
use Rattle.mpd_model.specs.steps.World.{World, start}
use Rattle.mpd_model.specs.steps.Next.{next, fold, wake_writes, wake_clears, any_writes, any_handle}
use Rattle.mpd_model.specs.runs.Trail.{Trail, Standing, IsReached, done_steps, is_step, noted, applied, redone, forgotten}
use Rattle.mpd_rank.specs.Undone.{LocalDone}
use Rattle.mpd_core.specs.declared.record.OtherRecord.{OtherRecord}
use Rattle.mpd_core.specs.declared.record.Record.{Record}
use Rattle.mpd_core.specs.declared.record.Record.TheVariants as kind
use Rattle.mpd_core.specs.declared.step.AnyStep.{AnyStep}
use Rattle.mpd_core.specs.declared.step.AnyStep.TheVariants as any
use Rattle.mpd_core.specs.declared.step.OtherStep.{OtherStep}
use Rattle.mpd_core.specs.declared.step.OtherStep.TheVariants as other
use Rattle.mpd_core.specs.Steps.{other_step, any_step}
use Rattle.mpd_core.specs.Records.{record_of, woken_at, local_record_at, wake_record_at}
use Rattle.mpd_core.specs.Undone.{undone, CanUndo}
use Rattle.mpd_core.specs.Writes.{most_writes, most_writes_back}
use Rattle.mpd_trail.specs.DebuggerViews.{DebuggerView}
use Rattle.mpd_trail.specs.Moved.{StepApplied, NextRedone}
use Rattle.mpd_trail.specs.Kept.{local_rank, Drawn, drawn, TakesBack, LeadsBy, IsStart, LeadsTo, Keeps}
use Rattle.mpd_trail.proofs.TrailLemmas.{is_step-true, noted_there}

pub fold-append : (w : World) (xs ys : List Step) → fold w (xs ++ ys) ≡ option_and_then (λ v. fold v ys) (fold w xs)
fold-append w [] ys = refl
fold-append w (x ∷ xs) ys =
    elim (next w x) as (λ o. option_and_then (λ v. fold v (xs ++ ys)) o ≡ option_and_then (λ v. fold v ys) (option_and_then (λ v. fold v xs) o))
    [ None ↦ refl | Some v ↦ fold-append v xs ys ]

-- one step more leads on from where the others do
fold_behind : (first old last : World) (a : Step) (steps : List Step) → fold first (reverse steps) ≡ Some old → next old a ≡ Some last → fold first (reverse (a ∷ steps)) ≡ Some last
fold_behind first old last a steps before e =
    let split : fold first (reverse steps ++ a ∷ []) ≡ option_and_then (λ v. fold v (a ∷ [])) (fold first (reverse steps)) = fold-append first (reverse steps) (a ∷ []) in
    ap (fold first) (reverse-append (a ∷ []) steps) ∙ split ∙ ap (option_and_then (λ v. fold v (a ∷ []))) before ∙ ap (option_and_then (λ v. fold v [])) e

-- where what is left leads, the step leads on from there
led_by : (s : Program) (first : World) (steps : List Step) (a : Step) (last : World) → ((l : List LocalDone) (o : List OtherRecord) (w : World) → LeadsTo s first l o steps w → fold first (reverse steps) ≡ Some w)
    → (d : Option Drawn) → LeadsBy (λ l o w. LeadsTo s first l o steps w) s a last d → fold first (reverse (a ∷ steps)) ≡ Some last
led_by s first steps a last before (Some d) h =
    fold_behind first (undone s last d.newest) last a steps (before d.locals d.others (undone s last d.newest) h.1) h.0.led
led_by s first steps a last before None h = absurd h

at_start : (locals : List LocalDone) (others : List OtherRecord) (first last : World) → IsStart locals others first last → last ≡ first
at_start [] [] first last h = h
at_start [] (u ∷ others) first last h = absurd h
at_start (u ∷ locals) others first last h = absurd h

-- the last world is the fold of the steps
pub leads_fold : (s : Program) (first : World) (locals : List LocalDone) (others : List OtherRecord) (steps : List Step) (last : World) → LeadsTo s first locals others steps last → fold first (reverse steps) ≡ Some last
leads_fold s first locals others [] last h = ap Some (sym (at_start locals others first last h))
leads_fold s first locals others (a ∷ steps) last h = led_by s first steps a last (λ l o w k. leads_fold s first l o steps w k) (drawn (local_rank a) locals others) h

-- ---- steps told apart

pub is_local : (t : AnyStep) (a : Step) (p : ℕ) → any_step t ≡ a → t ≡ any.Local p → a ≡ Local p
is_local t a p e is = sym e ∙ ap any_step is

pub is_other : (t : AnyStep) (a : Step) (o : OtherStep) → any_step t ≡ a → t ≡ any.Other o → a ≡ other_step o
is_other t a o e is = sym e ∙ ap any_step is

no_rank : (o : OtherStep) → local_rank (other_step o) ≡ None
no_rank (other.Match s r) = refl
no_rank (other.Wake p) = refl
no_rank (other.WakeAny p i) = refl
no_rank other.Release = refl

pub is_apart : (t : AnyStep) (a : Step) (o : OtherStep) → any_step t ≡ a → t ≡ any.Other o → local_rank a ≡ None
is_apart t a o e is = ap local_rank (is_other t a o e is) ∙ no_rank o

-- what a record of a step that isn't local takes back, and what is left
abbrev OtherLeads : Program → World → List LocalDone → OtherRecord → List OtherRecord → Step → List Step → World → Type 0
OtherLeads s first locals u others a steps last = TakesBack s a last (kind.Other u) × LeadsTo s first locals others steps (undone s last (kind.Other u))

other_leads : (s : Program) (first : World) (locals : List LocalDone) (others : List OtherRecord) (steps : List Step) (last : World) (u : OtherRecord) (a : Step) → local_rank a ≡ None → OtherLeads s first locals u others a steps last
    → LeadsTo s first locals (u ∷ others) (a ∷ steps) last
other_leads s first locals others steps last u a e h = subst (λ (o : Option ℕ). LeadsBy (λ l o w. LeadsTo s first l o steps w) s a last (drawn o locals (u ∷ others))) (sym e) h

other_led : (s : Program) (first : World) (locals : List LocalDone) (others : List OtherRecord) (steps : List Step) (last : World) (u : OtherRecord) (a : Step) → local_rank a ≡ None → LeadsTo s first locals (u ∷ others) (a ∷ steps) last
    → OtherLeads s first locals u others a steps last
other_led s first locals others steps last u a e h = subst (λ (o : Option ℕ). LeadsBy (λ l o w. LeadsTo s first l o steps w) s a last (drawn o locals (u ∷ others))) e h

-- the record of a step that was taken takes it back
takes_back : (s : Program) (last now : World) (a : Step) (done : Record) → next last a ≡ Some now → undone s now done ≡ last → CanUndo now done → record_of last a ≡ Some done → TakesBack s a now done
takes_back s last now a done e back can recorded = record { led = ap (λ w. next w a) back ∙ e; can = can; recorded = ap (λ w. record_of w a) back ∙ recorded }

-- ---- the writes of an undo are those of its step

writes_joined : {A : Type 0} (n : ℕ) (make : A → Record) (done : Record) (o : Option A) → ((x : A) → most_writes_back n (make x) ≡ 16) → option_map make o ≡ Some done → most_writes_back n done ≡ 16
writes_joined n make done None few e = absurd (cc)
writes_joined n make done (Some x) few e = subst (λ (o : Option Record). IfSome o (λ d. most_writes_back n d ≡ 16)) e (few x)

pub writes_back : (n : ℕ) (w : World) (a : Step) (done : Record) → record_of w a ≡ Some done → most_writes_back n done ≡ most_writes n a
writes_back n w (Local p) done e = writes_joined n (kind.Local p) done (local_record_at w.ranks p) (λ x. refl) e
writes_back n w (Match s r) done e = subst (λ (o : Option Record). IfSome o (λ d. most_writes_back n d ≡ 16)) e refl
writes_back n w (Wake p) done e = writes_joined n (woken_at p) done (wake_record_at w.ranks p (wake_writes w.board p) (wake_clears w.board p)) (λ x. refl) e
writes_back n w (WakeAny p i) done e = writes_joined n (woken_at p) done (wake_record_at w.ranks p (any_writes w p i) (any_handle w p i)) (λ x. refl) e
writes_back n w Release done e = subst (λ (o : Option Record). IfSome o (λ d. most_writes_back n d ≡ most_writes n Release)) e refl

take_by : (b : Bool) (steps : List Step) (n : ℕ) (a : Step) → n ≤ length steps → is_step (slice_get steps n) a ≡ b → take (n + 1) (cond b steps (take n steps ++ a ∷ [])) ≡ take n steps ++ a ∷ []
take_by true steps n a h e =
    let at : slice_get steps n ≡ Some a = is_step-true (slice_get steps n) a e in
    take_more steps n a (slice_get_within steps n a at) ∙ ap (λ x. take n steps ++ x ∷ []) (get_or_from_slice_get steps n a a at)
take_by false steps n a h e = take_all (n + 1) (take n steps ++ a ∷ []) (omega (arith, length-append (take n steps) (a ∷ []), length-take n steps))

-- the steps up to the depth, with one more noted there
pub take_noted : (steps : List Step) (n : ℕ) (a : Step) → n ≤ length steps → take (n + 1) (noted steps n a) ≡ take n steps ++ a ∷ []
take_noted steps n a h = take_by (is_step (slice_get steps n) a) steps n a h refl

few_by : (b : Bool) (steps : List Step) (n most : ℕ) (a : Step) → n < most → length steps ≤ most → length (cond b steps (take n steps ++ a ∷ [])) ≤ most
few_by true steps n most a h few = few
few_by false steps n most a h few = omega (arith, length-append (take n steps) (a ∷ []), length-take n steps)

-- where the steps not undone lead
pub keeps_world : (s : Program) (first : World) (locals : List LocalDone) (others : List OtherRecord) (steps : List Step) (last : World) → Keeps s first locals others steps last → fold first (take (length locals + length others) steps) ≡ Some last
keeps_world s first locals others steps last k =
    let here : List Step = take (length locals + length others) steps in
    ap (fold first) (sym (reverse-reverse here)) ∙ leads_fold s first (reverse locals) (reverse others) (reverse here) last k.leads

pub keeps_reached : (s : Standing) (locals : List LocalDone) (others : List OtherRecord) → length locals + length others ≡ s.trail.depth → Keeps s.trail.program (start s.trail.program s.trail.mode) locals others s.trail.steps s.world → IsReached s
keeps_reached s locals others e k =
    record {
      world = ap (λ n. fold (start s.trail.program s.trail.mode) (take n s.trail.steps)) (sym e) ∙ keeps_world s.trail.program (start s.trail.program s.trail.mode) locals others s.trail.steps s.world k;
      within = omega (arith, k.within);
      run = record { leads = k.whole; few = k.few };
    }

-- ---- all steps kept lead somewhere

single : (w : World) (a : Step) → fold w (a ∷ []) ≡ next w a
single w a = elim (next w a) as (λ o. option_and_then (λ v. fold v []) o ≡ o) [ None ↦ refl | Some v ↦ refl ]

-- one step more leads where the next world is
pub fold_on : (first last : World) (steps : List Step) (a : Step) → fold first steps ≡ Some last → fold first (steps ++ a ∷ []) ≡ next last a
fold_on first last steps a e = fold-append first steps (a ∷ []) ∙ ap (option_and_then (λ v. fold v (a ∷ []))) e ∙ single last a

some_before : {A B : Type 0} (f : A → Option B) (o : Option A) → IsSome (option_and_then f o) → IsSome o
some_before f None h = h
some_before f (Some x) h = refl

whole_by : (b : Bool) (first last : World) (steps : List Step) (n : ℕ) (a : Step) → IsSome (fold first steps) → fold first (take n steps) ≡ Some last → IsSome (next last a) → IsSome (fold first (cond b steps (take n steps ++ a ∷ [])))
whole_by true first last steps n a whole there some = whole
whole_by false first last steps n a whole there some = rw (fold_on first last (take n steps) a there) some

-- The first step that is undone is enabled.
pub keeps_next : (s : Program) (first : World) (locals : List LocalDone) (others : List OtherRecord) (steps : List Step) (last : World) (a : Step) → Keeps s first locals others steps last → length locals + length others < length steps
    → a ≡ get_or steps (length locals + length others) a → IsSome (next last a)
keeps_next s first locals others steps last a k more read =
    let n : ℕ = length locals + length others in
    let front : take (n + 1) steps ≡ take n steps ++ a ∷ [] = take_more steps n a more ∙ ap (λ b. take n steps ++ b ∷ []) (sym read) in
    let split : fold first steps ≡ option_and_then (λ v. fold v (drop (n + 1) steps)) (fold first (take (n + 1) steps)) =
    ap (fold first) (sym (take-append-drop (n + 1) steps)) ∙ fold-append first (take (n + 1) steps) (drop (n + 1) steps) in
    let there : fold first (take (n + 1) steps) ≡ next last a = ap (fold first) front ∙ fold_on first last (take n steps) a (keeps_world s first locals others steps last k) in
    let some : IsSome (fold first (take (n + 1) steps)) = some_before (λ (v : World). fold v (drop (n + 1) steps)) (fold first (take (n + 1) steps)) (rw split at k.whole) in
    rw there at some

-- What stands at the depth is taken again.
pub applied_next : (t n : Trail) (a : Step) → slice_get t.steps t.depth ≡ Some a → n ≡ applied t a → n ≡ redone t
applied_next t n a there e = e ∙ ap (λ (steps : List Step). let u : Trail = record t { steps = steps; depth = t.depth + 1 } in u) (noted_there t.steps t.depth a there)

same_some : (o : Option Step) (a b : Step) → o ≡ Some a → o ≡ Some b → a ≡ b
same_some None a b e f = cc
same_some (Some c) a b e f = cc

-- what holds of the step that stands there holds of whatever stands there
pub of_next : (P : Step → Type 0) (o : Option Step) (a : Step) → o ≡ Some a → P a → (b : Step) → o ≡ Some b → P b
of_next P o a e holds b f = subst P (same_some o a b e f) holds

-- the step that stands next, taken as the one at the depth, is taken again
pub next_redone : {T U E F : Type 0} (s n : DebuggerView) (a : Step) (t : T) (u : U) → slice_get s.trail.steps s.trail.depth ≡ Some a → StepApplied {T = T} {E = E} a s n (Ok t) → NextRedone {T = U} {E = F} s n (Ok u)
next_redone s n a t u there h =
    let o : Option Step = slice_get s.trail.steps s.trail.depth in
    record {
      moved = record {
        ok = applied_next s.trail n.trail a there h.moved.ok;
        reached = h.moved.reached;
        err = tt;
        err_world = tt;
        program = h.moved.program;
        mode = h.moved.mode;
        rises = h.moved.rises;
        unwritten = tt;
      };
      world = of_next (λ b. next s.world b ≡ Some n.world) o a there h.world;
      steps = of_next (λ b. done_steps n.trail ≡ done_steps s.trail ++ b ∷ []) o a there h.steps;
      few = of_next (λ b. n.writes ≤ s.writes + most_writes s.trail.program.ranks b) o a there h.few;
      room = record { room_left = h.room.room_left; err_room = tt };
    }

-- ---- other steps behind the depth

pub keeps_other : (s : Program) (first : World) (locals : List LocalDone) (others : List OtherRecord) (steps changed : List Step) (last : World) → Keeps s first locals others steps last
    → take (length locals + length others) changed ≡ take (length locals + length others) steps → IsSome (fold first changed) → length changed ≤ STEPS_MAX → Keeps s first locals others changed last
keeps_other s first locals others steps changed last k begins whole few =
    let n : ℕ = length locals + length others in
    record { within = omega (arith, ap length begins, length-take n changed, length-take n steps, k.within); few = few; leads = rw begins k.leads; whole = whole }

pub keeps_forgotten : (s : Program) (first : World) (locals : List LocalDone) (others : List OtherRecord) (steps : List Step) (last : World) → Keeps s first locals others steps last
    → Keeps s first locals others (take (length locals + length others) steps) last
keeps_forgotten s first locals others steps last k =
    let n : ℕ = length locals + length others in
    keeps_other s first locals others steps (take n steps) last k (take-take n n steps (omega arith)) (rw (keeps_world s first locals others steps last k) refl) (omega (arith, length-take n steps, k.few))

pub done_steps_forgotten : (t : Trail) → done_steps (forgotten t) ≡ done_steps t
done_steps_forgotten t = take-take t.depth t.depth t.steps (omega arith)

-- ---- one step more

keeps_more : (s : Program) (first : World) (locals : List LocalDone) (others : List OtherRecord) (locals2 : List LocalDone) (others2 : List OtherRecord) (steps : List Step) (last now : World) (a : Step) → Keeps s first locals others steps last
    → length locals + length others < STEPS_MAX → next last a ≡ Some now → length locals2 + length others2 ≡ length locals + length others + 1
    → LeadsTo s first (reverse locals2) (reverse others2) (a ∷ reverse (take (length locals + length others) steps)) now → Keeps s first locals2 others2 (noted steps (length locals + length others) a) now
keeps_more s first locals others locals2 others2 steps last now a k room e long there =
    let n : ℕ = length locals + length others in
    let front : take (n + 1) (noted steps n a) ≡ take n steps ++ a ∷ [] = take_noted steps n a k.within in
    record {
      within = omega (arith, long, ap length front, length-take (n + 1) (noted steps n a), length-append (take n steps) (a ∷ []), length-take n steps, k.within);
      few = few_by (is_step (slice_get steps n) a) steps n STEPS_MAX a room k.few;
      leads = rw (long, front, reverse-append (take n steps) (a ∷ [])) there;
      whole = whole_by (is_step (slice_get steps n) a) first last steps n a k.whole (keeps_world s first locals others steps last k) (rw e refl);
    }

pub keeps_local : (s : Program) (first : World) (locals : List LocalDone) (others : List OtherRecord) (steps : List Step) (last now : World) (u : LocalDone) (p : ℕ) → Keeps s first locals others steps last
    → length locals + length others < STEPS_MAX → next last (Local p) ≡ Some now → undone s now (kind.Local p u) ≡ last → CanUndo now (kind.Local p u) → record_of last (Local p) ≡ Some (kind.Local p u)
    → Keeps s first (locals ++ u ∷ []) others (noted steps (length locals + length others) (Local p)) now
keeps_local s first locals others steps last now u p k room e back can recorded =
    let front : List Step = reverse (take (length locals + length others) steps) in
    let there : LeadsTo s first (u ∷ reverse locals) (reverse others) (Local p ∷ front) now =
    (takes_back s last now (Local p) (kind.Local p u) e back can recorded, subst (LeadsTo s first (reverse locals) (reverse others) front) (sym back) k.leads) in
    keeps_more s first locals others (locals ++ u ∷ []) others steps last now (Local p) k room e (omega (arith, length-append locals (u ∷ []))) (rw (reverse-append locals (u ∷ [])) there)

pub keeps_apart : (s : Program) (first : World) (locals : List LocalDone) (others : List OtherRecord) (steps : List Step) (last now : World) (u : OtherRecord) (o : OtherStep) → Keeps s first locals others steps last
    → length locals + length others < STEPS_MAX → next last (other_step o) ≡ Some now → undone s now (kind.Other u) ≡ last → CanUndo now (kind.Other u) → record_of last (other_step o) ≡ Some (kind.Other u)
    → Keeps s first locals (others ++ u ∷ []) (noted steps (length locals + length others) (other_step o)) now
keeps_apart s first locals others steps last now u o k room e back can recorded =
    let a : Step = other_step o in
    let front : List Step = reverse (take (length locals + length others) steps) in
    let there : LeadsTo s first (reverse locals) (u ∷ reverse others) (a ∷ front) now =
    other_leads s first (reverse locals) (reverse others) front now u a (no_rank o) (takes_back s last now a (kind.Other u) e back can recorded, subst (LeadsTo s first (reverse locals) (reverse others) front) (sym back) k.leads) in
    keeps_more s first locals others locals (others ++ u ∷ []) steps last now a k room e (omega (arith, length-append others (u ∷ []))) (rw (reverse-append others (u ∷ [])) there)

-- ---- The newest step: it can be taken back, and without it the others are kept.

-- All records are those before the last, and that one.
to_last : {A : Type 0} (records : List A) (n : ℕ) (u : A) → length records ≡ n + 1 → u ≡ get_or records n u → records ≡ take n records ++ u ∷ []
to_last records n u long is = sym (take_all (n + 1) records (omega (arith, long))) ∙ take_more records n u (omega (arith, long)) ∙ ap (λ x. take n records ++ x ∷ []) (sym is)

newest_first : {A : Type 0} (records : List A) (n : ℕ) (u : A) → length records ≡ n + 1 → u ≡ get_or records n u → reverse records ≡ u ∷ reverse (take n records)
newest_first records n u long is = ap reverse (to_last records n u long is) ∙ reverse-append (take n records) (u ∷ [])

leads_last : (s : Program) (first : World) (locals : List LocalDone) (others : List OtherRecord) (steps : List Step) (last : World) (n : ℕ) (a : Step) → length locals + length others ≡ n + 1 → a ≡ get_or steps n a
    → Keeps s first locals others steps last → LeadsTo s first (reverse locals) (reverse others) (a ∷ reverse (take n steps)) last
leads_last s first locals others steps last n a long read k =
    let front : take (n + 1) steps ≡ take n steps ++ a ∷ [] = take_more steps n a (omega (arith, long, k.within)) ∙ ap (λ b. take n steps ++ b ∷ []) (sym read) in
    rw (long, front, reverse-append (take n steps) (a ∷ [])) at k.leads

-- a step of a kind has a record of that kind
some_local : (s : Program) (first : World) (locals : List LocalDone) (others : List OtherRecord) (p : ℕ) (steps : List Step) (last : World) → LeadsTo s first locals others (Local p ∷ steps) last → 0 < length locals
some_local s first [] others p steps last h = absurd h
some_local s first (u ∷ locals) others p steps last h = omega arith

some_other : (s : Program) (first : World) (locals : List LocalDone) (others : List OtherRecord) (a : Step) (steps : List Step) (last : World) → local_rank a ≡ None → LeadsTo s first locals others (a ∷ steps) last → 0 < length others
some_other s first locals (u ∷ others) a steps last e h = omega arith
some_other s first locals [] a steps last e h = absurd (subst (λ (o : Option ℕ). LeadsBy (λ l o w. LeadsTo s first l o steps w) s a last (drawn o locals [])) e h)

pub local_there : (s : Program) (first : World) (locals : List LocalDone) (others : List OtherRecord) (steps : List Step) (last : World) (n p : ℕ) (a : Step) → length locals + length others ≡ n + 1 → a ≡ get_or steps n a → a ≡ Local p
    → Keeps s first locals others steps last → 0 < length locals
local_there s first locals others steps last n p a long read e k =
    let front : List Step = reverse (take n steps) in
    let there : LeadsTo s first (reverse locals) (reverse others) (Local p ∷ front) last =
    subst (λ (b : Step). LeadsTo s first (reverse locals) (reverse others) (b ∷ front) last) e (leads_last s first locals others steps last n a long read k) in
    let some : 0 < length (reverse locals) = some_local s first (reverse locals) (reverse others) p front last there in
    rw (length-reverse locals) at some

pub other_there : (s : Program) (first : World) (locals : List LocalDone) (others : List OtherRecord) (steps : List Step) (last : World) (n : ℕ) (a : Step) → length locals + length others ≡ n + 1 → a ≡ get_or steps n a → local_rank a ≡ None
    → Keeps s first locals others steps last → 0 < length others
other_there s first locals others steps last n a long read e k =
    let some : 0 < length (reverse others) = some_other s first (reverse locals) (reverse others) a (reverse (take n steps)) last e (leads_last s first locals others steps last n a long read k) in
    rw (length-reverse others) at some

local_last : (s : Program) (first : World) (locals : List LocalDone) (others : List OtherRecord) (steps : List Step) (last : World) (n m p : ℕ) (u : LocalDone) (a : Step) → length locals + length others ≡ n + 1 → length locals ≡ m + 1
    → u ≡ get_or locals m u → a ≡ get_or steps n a → a ≡ Local p → Keeps s first locals others steps last → LeadsTo s first (u ∷ reverse (take m locals)) (reverse others) (Local p ∷ reverse (take n steps)) last
local_last s first locals others steps last n m p u a long own is read e k =
    subst (λ (b : Step). LeadsTo s first (u ∷ reverse (take m locals)) (reverse others) (b ∷ reverse (take n steps)) last) e
    (subst (λ (us : List LocalDone). LeadsTo s first us (reverse others) (a ∷ reverse (take n steps)) last) (newest_first locals m u own is) (leads_last s first locals others steps last n a long read k))

pub local_can : (s : Program) (first : World) (locals : List LocalDone) (others : List OtherRecord) (steps : List Step) (last : World) (n m p : ℕ) (u : LocalDone) (a : Step) → length locals + length others ≡ n + 1 → length locals ≡ m + 1
    → u ≡ get_or locals m u → a ≡ get_or steps n a → a ≡ Local p → Keeps s first locals others steps last → CanUndo last (kind.Local p u)
local_can s first locals others steps last n m p u a long own is read e k = (local_last s first locals others steps last n m p u a long own is read e k).0.can

pub local_pop : (s : Program) (first : World) (locals : List LocalDone) (others : List OtherRecord) (steps : List Step) (last : World) (n m p : ℕ) (u : LocalDone) (a : Step) → length locals + length others ≡ n + 1 → length locals ≡ m + 1
    → u ≡ get_or locals m u → a ≡ get_or steps n a → a ≡ Local p → Keeps s first locals others steps last → Keeps s first (take m locals) others steps (undone s last (kind.Local p u))
local_pop s first locals others steps last n m p u a long own is read e k =
    let short : length (take m locals) + length others ≡ n = omega (arith, length-take m locals, long, own) in
    record { within = omega (arith, short, long, k.within); few = k.few; leads = rw short (local_last s first locals others steps last n m p u a long own is read e k).1; whole = k.whole }

other_last : (s : Program) (first : World) (locals : List LocalDone) (others : List OtherRecord) (steps : List Step) (last : World) (n m : ℕ) (u : OtherRecord) (a : Step) → length locals + length others ≡ n + 1 → length others ≡ m + 1
    → u ≡ get_or others m u → a ≡ get_or steps n a → local_rank a ≡ None → Keeps s first locals others steps last → OtherLeads s first (reverse locals) u (reverse (take m others)) a (reverse (take n steps)) last
other_last s first locals others steps last n m u a long own is read e k =
    other_led s first (reverse locals) (reverse (take m others)) (reverse (take n steps)) last u a e
    (subst (λ (us : List OtherRecord). LeadsTo s first (reverse locals) us (a ∷ reverse (take n steps)) last) (newest_first others m u own is) (leads_last s first locals others steps last n a long read k))

pub other_can : (s : Program) (first : World) (locals : List LocalDone) (others : List OtherRecord) (steps : List Step) (last : World) (n m : ℕ) (u : OtherRecord) (a : Step) → length locals + length others ≡ n + 1 → length others ≡ m + 1
    → u ≡ get_or others m u → a ≡ get_or steps n a → local_rank a ≡ None → Keeps s first locals others steps last → CanUndo last (kind.Other u)
other_can s first locals others steps last n m u a long own is read e k = (other_last s first locals others steps last n m u a long own is read e k).0.can

pub other_pop : (s : Program) (first : World) (locals : List LocalDone) (others : List OtherRecord) (steps : List Step) (last : World) (n m : ℕ) (u : OtherRecord) (a : Step) → length locals + length others ≡ n + 1 → length others ≡ m + 1
    → u ≡ get_or others m u → a ≡ get_or steps n a → local_rank a ≡ None → Keeps s first locals others steps last → Keeps s first locals (take m others) steps (undone s last (kind.Other u))
other_pop s first locals others steps last n m u a long own is read e k =
    let short : length locals + length (take m others) ≡ n = omega (arith, length-take m others, long, own) in
    record { within = omega (arith, short, long, k.within); few = k.few; leads = rw short (other_last s first locals others steps last n m u a long own is read e k).1; whole = k.whole }

-- and takes as many writes as that step
pub other_few : (s : Program) (first : World) (locals : List LocalDone) (others : List OtherRecord) (steps : List Step) (last : World) (n m ranks : ℕ) (u : OtherRecord) (a : Step) → length locals + length others ≡ n + 1 → length others ≡ m + 1
    → u ≡ get_or others m u → a ≡ get_or steps n a → local_rank a ≡ None → Keeps s first locals others steps last → most_writes_back ranks (kind.Other u) ≡ most_writes ranks a
other_few s first locals others steps last n m ranks u a long own is read e k =
    writes_back ranks (undone s last (kind.Other u)) a (kind.Other u) (other_last s first locals others steps last n m u a long own is read e k).0.recorded

pub ruleset keeping = (is_local, is_other, is_apart, keeps_world, keeps_reached, local_there, other_there, local_can, other_can, local_pop, other_pop, other_few, keeps_next, keeps_other, keeps_forgotten, done_steps_forgotten, take_noted)
