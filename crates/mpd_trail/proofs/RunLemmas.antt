-- One command, and a run that goes on by one.
use Rattle.std.proofs.Common.{◌≡◌, ℕ, ◌<◌, ◌≤◌, ◌+◌, ◌-◌, List, [], ◌∷◌, ◌++◌, length, get_or, take, drop, Some, None, IsSome, refl, sym, ap, subst, ◌∙◌, arith, slice_get}
use Rattle.std.proofs.lemmas.List.{take_more, take_all, length-take, drop_more, get_or-take}
use Rattle.std.proofs.lemmas.Option.{slice_get-get_or}
use Rattle.mpd_model.specs.declared.limits.TheConstants.{STEPS_MAX}
use Rattle.mpd_model.specs.declared.step.Step.{Step}
use Rattle.mpd_model.specs.declared.step.Step.TheVariants.{Release}
use Rattle.std.specs.List.{AllByRecursion}
use Rattle.mpd_model.specs.declared.call.Mode.{Mode}
use Rattle.mpd_model.specs.script.Program.{Program}
use Rattle.mpd_model.specs.steps.World.{start}
use Rattle.mpd_model.specs.steps.Next.{next, fold}
use Rattle.mpd_model.specs.runs.Trail.{Trail, Standing, IsReached, opening, first_standing, done_steps, applied, taken_back, redone, gone_back}
use Rattle.mpd_core.specs.Writes.{most_writes}
use Rattle.mpd_trail.specs.DebuggerWrites.{most_writes_of}
use Rattle.mpd_trail.specs.declared.run.TrailCommand.{TrailCommand}
use Rattle.mpd_trail.specs.declared.run.TrailCommand.TheVariants.{Apply, Undo, Redo, UndoTo}
use Rattle.mpd_trail.specs.declared.run.Reply.{Reply}
use Rattle.mpd_trail.specs.declared.run.Reply.TheVariants.{Done, NotEnabled, Full, AtStart, NoRedo, NotBefore, Memory}
use Rattle.mpd_trail.specs.Run.{first_of, Takes, Answers, taken, Run, RunFrom, steps_in, IsGiven, SameScript, Written}
use Rattle.mpd_trail.specs.DebuggerViews.{DebuggerView, Place, place_of, standing_of}
use Rattle.mpd_trail.proofs.KeptLemmas.{fold_on}

-- one step more leads where the next world is
fold_more : (s : DebuggerView) (a : Step) → IsReached (standing_of s) → fold (first_of s.trail) (done_steps s.trail ++ a ∷ []) ≡ next s.world a
fold_more s a h = fold_on (first_of s.trail) s.world (done_steps s.trail) a h.world

length-done_steps : (s : DebuggerView) → IsReached (standing_of s) → length (done_steps s.trail) ≡ s.trail.depth
length-done_steps s h = omega (arith, length-take s.trail.depth s.trail.steps, h.within)

-- the trail after a step of the same script leads somewhere
takes : (s n : DebuggerView) (a : Step) → IsReached (standing_of n) → first_of n.trail ≡ first_of s.trail → done_steps n.trail ≡ done_steps s.trail ++ a ∷ [] → Takes s.trail a n.trail
takes s n a h first steps =
    let there : fold (first_of s.trail) (done_steps n.trail) ≡ Some n.world = ap (λ w. fold w (done_steps n.trail)) (sym first) ∙ h.world in
    record { leads = rw there refl; steps = steps }

pub applied_done : (s n : DebuggerView) (a : Step) → IsReached (standing_of s) → IsReached (standing_of n) → n.trail ≡ applied s.trail a → done_steps n.trail ≡ done_steps s.trail ++ a ∷ [] → s.trail.depth < STEPS_MAX → Answers s.trail (Apply a) Done n.trail
applied_done s n a h reached trail steps room = (takes s n a reached (ap first_of trail) steps, omega (arith, length-done_steps s h), trail)

-- a refused step: the relation of steps has none, the trail is full, or memory is refused
pub applied_none : (s n : DebuggerView) (a : Step) → IsReached (standing_of s) → n.trail ≡ s.trail → next s.world a ≡ None → Answers s.trail (Apply a) NotEnabled n.trail
applied_none s n a h trail step = (fold_more s a h ∙ step, trail)

enabled_more : (s : DebuggerView) (a : Step) → IsReached (standing_of s) → IsSome (next s.world a) → IsSome (fold (first_of s.trail) (done_steps s.trail ++ a ∷ []))
enabled_more s a h some = rw (fold_more s a h) some

pub applied_full : (s n : DebuggerView) (a : Step) → IsReached (standing_of s) → n.trail ≡ s.trail → IsSome (next s.world a) → s.trail.depth ≡ STEPS_MAX → Answers s.trail (Apply a) Full n.trail
applied_full s n a h trail some full = (enabled_more s a h some, length-done_steps s h ∙ full, trail)

pub applied_memory : (s n : DebuggerView) (a : Step) → IsReached (standing_of s) → n.trail ≡ s.trail → IsSome (next s.world a) → s.trail.depth < STEPS_MAX → Answers s.trail (Apply a) Memory n.trail
applied_memory s n a h trail some room = (enabled_more s a h some, omega (arith, length-done_steps s h), trail)

pub undone_done : (s n : DebuggerView) → IsReached (standing_of s) → 0 < s.trail.depth → n.trail ≡ taken_back s.trail → Answers s.trail Undo Done n.trail
undone_done s n h some trail =
    let d : ℕ = s.trail.depth - 1 in
    let last : Step = get_or s.trail.steps d Release in
    let more : take (d + 1) s.trail.steps ≡ take d s.trail.steps ++ last ∷ [] = take_more s.trail.steps d Release (omega (arith, h.within)) in
    let same : d + 1 ≡ s.trail.depth = omega arith in
    (last, ap (λ n. take n s.trail.steps) (sym same) ∙ more ∙ ap (λ ss. ss ++ last ∷ []) (sym (ap done_steps trail)), trail)

pub undone_none : (s n : DebuggerView) → (0 < s.trail.depth → ⊥) → n.trail ≡ s.trail → Answers s.trail Undo AtStart n.trail
undone_none s n none trail =
    let zero : s.trail.depth ≡ 0 = omega (arith, none) in
    let front : done_steps s.trail ≡ [] = ap (λ n. take n s.trail.steps) zero in
    (front, trail)

-- the step at the depth is taken again, or there is none
pub redone_done : (s n : DebuggerView) → IsReached (standing_of s) → IsReached (standing_of n) → s.trail.depth < length s.trail.steps → n.trail ≡ redone s.trail → Answers s.trail Redo Done n.trail
redone_done s n h reached more trail =
    let a : Step = get_or s.trail.steps s.trail.depth Release in
    let there : slice_get s.trail.steps s.trail.depth ≡ Some a = slice_get-get_or s.trail.steps s.trail.depth Release more in
    let steps : done_steps n.trail ≡ done_steps s.trail ++ a ∷ [] = ap done_steps trail ∙ take_more s.trail.steps s.trail.depth Release more in
    (a, ap (slice_get s.trail.steps) (length-done_steps s h) ∙ there, takes s n a reached (ap first_of trail) steps, trail)

pub redone_none : (s n : DebuggerView) → s.trail.depth ≡ length s.trail.steps → n.trail ≡ s.trail → Answers s.trail Redo NoRedo n.trail
redone_none s n all trail = (take_all s.trail.depth s.trail.steps (omega (arith, all)), trail)

pub redone_memory : (s n : DebuggerView) → IsReached (standing_of s) → s.trail.depth < length s.trail.steps → n.trail ≡ s.trail → Answers s.trail Redo Memory n.trail
redone_memory s n h more trail = (omega (arith, length-done_steps s h), trail)

-- steps are taken back, or there are not so many
pub gone_done : (s n : DebuggerView) (depth : ℕ) → IsReached (standing_of s) → depth ≤ s.trail.depth → done_steps n.trail ≡ take depth (done_steps s.trail) → n.trail ≡ gone_back s.trail depth → Answers s.trail (UndoTo depth) Done n.trail
gone_done s n depth h before steps trail = (omega (arith, length-done_steps s h), steps, trail)

pub gone_none : (s n : DebuggerView) (depth : ℕ) → IsReached (standing_of s) → (depth ≤ s.trail.depth → ⊥) → n.trail ≡ s.trail → Answers s.trail (UndoTo depth) NotBefore n.trail
gone_none s n depth h none trail = (omega (arith, length-done_steps s h, none), trail)

pub stays_reached : (s n : DebuggerView) → IsReached (standing_of s) → n.trail ≡ s.trail → n.world ≡ s.world → IsReached (standing_of n)
stays_reached s n h trail world =
    record { world = ap (λ (t : Trail). fold (start t.program t.mode) (done_steps t)) trail ∙ h.world ∙ ap Some (sym world); within = rw trail h.within; run = rw trail h.run }

pub same_applied : (s n : Trail) (a : Step) → n ≡ applied s a → SameScript s n
same_applied s n a e = record { program = ap (λ (t : Trail). t.program) e; mode = ap (λ (t : Trail). t.mode) e }

pub same_taken_back : (s n : Trail) → n ≡ taken_back s → SameScript s n
same_taken_back s n e = record { program = ap (λ (t : Trail). t.program) e; mode = ap (λ (t : Trail). t.mode) e }

pub same_stays : (s n : Trail) → n ≡ s → SameScript s n
same_stays s n e = record { program = ap (λ (t : Trail). t.program) e; mode = ap (λ (t : Trail). t.mode) e }

pub same_redone : (s n : Trail) → n ≡ redone s → SameScript s n
same_redone s n e = record { program = ap (λ (t : Trail). t.program) e; mode = ap (λ (t : Trail). t.mode) e }

pub same_gone_back : (s n : Trail) (depth : ℕ) → n ≡ gone_back s depth → SameScript s n
same_gone_back s n depth e = record { program = ap (λ (t : Trail). t.program) e; mode = ap (λ (t : Trail). t.mode) e }

pub ruleset answering = (applied_done, applied_none, applied_full, applied_memory, stays_reached, undone_done, undone_none, redone_done, redone_none, redone_memory, gone_done, gone_none, same_applied, same_taken_back, same_stays, same_redone, same_gone_back)

-- ---- lists of commands

run_on : (old mid new : Place) (cs : List TrailCommand) (rs : List Reply) (c : TrailCommand) (r : Reply) → Run old cs rs mid
    → Answers mid.trail c r new.trail → Written mid.trail.program.ranks (done_steps mid.trail) c r (done_steps new.trail) mid.writes new.writes → (r ≡ Memory → mid.room ≡ 0) → mid.room ≤ new.room + taken c r
    → Run old (cs ++ c ∷ []) (rs ++ r ∷ []) new
run_on old mid new [] [] c r same h writes memory room =
    let first : Answers old.trail c r new.trail × Written old.trail.program.ranks (done_steps old.trail) c r (done_steps new.trail) old.writes new.writes × (r ≡ Memory → old.room ≡ 0) × (old.room ≤ new.room + taken c r) =
    subst (λ (p : Place). Answers p.trail c r new.trail × Written p.trail.program.ranks (done_steps p.trail) c r (done_steps new.trail) p.writes new.writes × (r ≡ Memory → p.room ≡ 0) × (p.room ≤ new.room + taken c r)) same (h, writes, memory, room) in
    (new, first.0, first.1, first.2, first.3, refl)
run_on old mid new (d ∷ ds) (t ∷ ts) c r run h writes memory room =
    (run.0, run.1, run.2, run.3, run.4, run_on run.0 mid new ds ts c r run.5 h writes memory room)
run_on old mid new [] (t ∷ ts) c r run h writes memory room = absurd run
run_on old mid new (d ∷ ds) [] c r run h writes memory room = absurd run

-- the next command of a list
pub run_more : (old mid new : Place) (cs : List TrailCommand) (rs : List Reply) (i : ℕ) (d : TrailCommand) (r : Reply) → i < length cs
    → Run old (take i cs) rs mid → Answers mid.trail (get_or cs i d) r new.trail → Written mid.trail.program.ranks (done_steps mid.trail) (get_or cs i d) r (done_steps new.trail) mid.writes new.writes
    → (r ≡ Memory → mid.room ≡ 0) → mid.room ≤ new.room + taken (get_or cs i d) r → Run old (take (i + 1) cs) (rs ++ r ∷ []) new
run_more old mid new cs rs i d r h run step writes memory room =
    rw (take_more cs i d h) (run_on old mid new (take i cs) rs (get_or cs i d) r run step writes memory room)

-- ---- the room that a list takes

taken_few : (c : TrailCommand) (r : Reply) → taken c r ≤ taken c Done
taken_few (Apply a) Done = omega arith
taken_few (Apply a) r = omega arith
taken_few Undo r = omega arith
taken_few Redo Done = omega arith
taken_few Redo r = omega arith
taken_few (UndoTo depth) r = omega arith

pub run_room : (old new : Place) (cs : List TrailCommand) (rs : List Reply) → Run old cs rs new → old.room ≤ new.room + steps_in cs
run_room old new [] [] run = omega (arith, ap (λ (p : Place). p.room) run)
run_room old new (c ∷ cs) (r ∷ rs) run = omega (arith, run.4, taken_few c r, run_room run.0 new cs rs run.5)
run_room old new [] (r ∷ rs) run = absurd run
run_room old new (c ∷ cs) [] run = absurd run

-- only what takes a step is refused memory
no_memory : (old new : Place) (c : TrailCommand) (r : Reply) → Answers old.trail c r new.trail → (r ≡ Memory → old.room ≡ 0) → taken c Done ≤ old.room → r ≡ Memory → ⊥
no_memory old new (Apply a) r h memory some is = absurd (omega (arith, some, memory is))
no_memory old new Redo r h memory some is = absurd (omega (arith, some, memory is))
no_memory old new Undo r h memory some is = absurd (subst (λ q. Answers old.trail Undo q new.trail) is h)
no_memory old new (UndoTo depth) r h memory some is = absurd (subst (λ q. Answers old.trail (UndoTo depth) q new.trail) is h)

-- behind room for all steps of a list nothing is refused memory
pub run_given : (old new : Place) (cs : List TrailCommand) (rs : List Reply) → Run old cs rs new → steps_in cs ≤ old.room → AllByRecursion IsGiven rs
run_given old new [] [] run enough = tt
run_given old new (c ∷ cs) (r ∷ rs) run enough =
    (no_memory old run.0 c r run.1 run.3 (omega (arith, enough)), run_given run.0 new cs rs run.5 (omega (arith, enough, run.4, taken_few c r)))
run_given old new [] (r ∷ rs) run enough = absurd run
run_given old new (c ∷ cs) [] run enough = absurd run

-- the same once all commands are done
pub room_in_all : (v n : DebuggerView) (cs : List TrailCommand) (rs : List Reply) (i : ℕ) → Run (place_of v) (take i cs) rs (place_of n) → length cs ≤ i → v.room ≤ n.room + steps_in cs
room_in_all v n cs rs i run all = run_room (place_of v) (place_of n) cs rs (subst (λ xs. Run (place_of v) xs rs (place_of n)) (take_all i cs all) run)

pub given_in_all : (v n : DebuggerView) (cs : List TrailCommand) (rs : List Reply) (i : ℕ) → Run (place_of v) (take i cs) rs (place_of n) → length cs ≤ i → steps_in cs ≤ v.room → AllByRecursion IsGiven rs
given_in_all v n cs rs i run all enough = run_given (place_of v) (place_of n) cs rs (subst (λ xs. Run (place_of v) xs rs (place_of n)) (take_all i cs all) run) enough

-- ---- a run that keeps room for a step before each command

pub run_begins : (v n : DebuggerView) (rs : List Reply) → rs ≡ [] → n.trail ≡ v.trail → n.writes ≡ v.writes → RunFrom v.trail v.writes [] rs (place_of n)
run_begins v n rs none trail writes = rw none (n.room, (λ i. record { trail = trail i; room = n.room; writes = writes i }))

pub given_begins : (rs : List Reply) → rs ≡ [] → AllByRecursion IsGiven rs
given_begins rs none = rw none tt

-- the next command, behind which room is kept
pub run_kept_more : (old : Trail) (writes : ℕ) (v m k : DebuggerView) (cs : List TrailCommand) (rs : List Reply) (i : ℕ) (d : TrailCommand) (r : Reply) → i < length cs → RunFrom old writes (take i cs) rs (place_of v)
    → Answers v.trail (get_or cs i d) r m.trail → Written v.trail.program.ranks (done_steps v.trail) (get_or cs i d) r (done_steps m.trail) v.writes m.writes → (r ≡ Memory → v.room ≡ 0) → v.room ≤ m.room + taken (get_or cs i d) r
    → k.trail ≡ m.trail → k.writes ≡ m.writes → m.room ≤ k.room → RunFrom old writes (take (i + 1) cs) (rs ++ r ∷ []) (place_of k)
run_kept_more old writes v m k cs rs i d r h run step written memory room trail count more =
    let c : TrailCommand = get_or cs i d in
    let there : Written v.trail.program.ranks (done_steps v.trail) c r (done_steps k.trail) v.writes m.writes = subst (λ (t : Trail). Written v.trail.program.ranks (done_steps v.trail) c r (done_steps t) v.writes m.writes) (sym trail) written in (
      run.0,
      run_more (record { trail = old; room = run.0; writes = writes }) (place_of v) (place_of k) cs rs i d r h run.1
          (subst (λ (t : Trail). Answers v.trail c r t) (sym trail) step)
          (subst (λ (n : ℕ). Written v.trail.program.ranks (done_steps v.trail) c r (done_steps k.trail) v.writes n) (sym count) there)
          memory (omega (arith, room, more)),
    )

pub given_more : (rs : List Reply) (r : Reply) (n : ℕ) → AllByRecursion IsGiven rs → (r ≡ Memory → n ≡ 0) → 1 ≤ n → AllByRecursion IsGiven (rs ++ r ∷ [])
given_more [] r n all memory some = ((λ is. absurd (omega (arith, memory is, some))), tt)
given_more (x ∷ rs) r n all memory some = (all.0, given_more rs r n all.1 memory some)

-- once all commands are done
pub run_ends : (old : Trail) (writes : ℕ) (n : DebuggerView) (cs : List TrailCommand) (rs : List Reply) (i : ℕ) → RunFrom old writes (take i cs) rs (place_of n) → length cs ≤ i → RunFrom old writes cs rs (place_of n)
run_ends old writes n cs rs i run all = subst (λ xs. RunFrom old writes xs rs (place_of n)) (take_all i cs all) run

-- a run from the start of a script
pub run_of : (p : Program) (mode : Mode) (v : DebuggerView) (cs : List TrailCommand) (rs : List Reply) (new : Place) → standing_of v ≡ first_standing p mode → v.writes ≡ 0 → RunFrom v.trail v.writes cs rs new → RunFrom (opening p mode) 0 cs rs new
run_of p mode v cs rs new first none run =
    let from : record { trail = v.trail; room = run.0; writes = v.writes } ≡ record { trail = opening p mode; room = run.0; writes = 0 } = (λ i. record { trail = ap (λ (x : Standing). x.trail) first i; room = run.0; writes = none i }) in
    (run.0, subst (λ (q : Place). Run q cs rs new) from run.1)

pub ruleset spending = (room_in_all, given_in_all)

pub ruleset keeping_room = (run_begins, given_begins, run_ends, same_stays)

pub ruleset replaying = (run_of)

pub same_trans : (a b c : Trail) → SameScript a b → SameScript b c → SameScript a c
same_trans a b c x y = record { program = y.program ∙ x.program; mode = y.mode ∙ x.mode }

-- ---- steps taken back, one after the other

pub back_more : (s m n : Trail) → m ≡ gone_back s m.depth → n ≡ taken_back m → n ≡ gone_back s n.depth
back_more s m n h e = e ∙ ap taken_back h ∙ ap (gone_back s) (sym (ap (λ (t : Trail). t.depth) e))

pub back_few : (s m n : DebuggerView) → IsReached (standing_of s) → m.trail ≡ gone_back s.trail m.trail.depth → n.trail ≡ taken_back m.trail → 0 < m.trail.depth → m.trail.depth ≤ s.trail.depth
    → ((step : Step) → done_steps m.trail ≡ done_steps n.trail ++ step ∷ [] → n.writes ≤ m.writes + most_writes m.trail.program.ranks step)
    → m.writes ≤ s.writes + most_writes_of s.trail.program.ranks (drop m.trail.depth (done_steps s.trail))
    → n.writes ≤ s.writes + most_writes_of s.trail.program.ranks (drop n.trail.depth (done_steps s.trail))
back_few s m n h there back some within few so_far =
    let k : ℕ = m.trail.depth - 1 in
    let ranks : ℕ = s.trail.program.ranks in
    let a : Step = get_or s.trail.steps k Release in
    let same : k + 1 ≡ m.trail.depth = omega arith in
    let deep : n.trail.depth ≡ k = ap (λ (t : Trail). t.depth) back in
    let whole : done_steps m.trail ≡ take (k + 1) s.trail.steps = ap done_steps there ∙ ap (λ d. take d s.trail.steps) (sym same) in
    let left : done_steps n.trail ≡ take k s.trail.steps = ap done_steps (back ∙ ap taken_back there) in
    let last : done_steps m.trail ≡ done_steps n.trail ++ a ∷ [] = whole ∙ take_more s.trail.steps k Release (omega (arith, h.within)) ∙ ap (λ xs. xs ++ a ∷ []) (sym left) in
    let step : n.writes ≤ m.writes + most_writes ranks a = rw (ap (λ (t : Trail). t.program) there) at few a last in
    let split : drop k (done_steps s.trail) ≡ a ∷ drop m.trail.depth (done_steps s.trail) =
    drop_more (done_steps s.trail) k Release (omega (arith, length-done_steps s h)) ∙ ap (λ x. x ∷ drop (k + 1) (done_steps s.trail)) (get_or-take s.trail.depth s.trail.steps k Release (omega arith)) ∙ ap (λ d. a ∷ drop d (done_steps s.trail)) same in
    rw deep (rw split (omega (arith, step, so_far)))
