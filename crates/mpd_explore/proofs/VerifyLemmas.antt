-- What `verify` finds is so.
use Rattle.std.proofs.Common.{◌≡◌, ◌≢◌, ℕ, zero, suc, ◌<◌, ◌+◌, ◌==◌, ◌&&◌, Bool, true, false, eq-eqb, List, [], ◌∷◌, ◌++◌, length, take, get_or, Option, Some, None, IsSome, Result, Ok, Err, IfErr, OnOk, refl, sym, ap, subst, ◌∙◌, arith, add-one}
use Rattle.std.proofs.lemmas.List.{take_more, take_all}
use Rattle.std.proofs.lemmas.Option.{slice_get-get_or, slice_get_past}
use Rattle.std.proofs.lemmas.Bool.{eqb-true}
use Rattle.std.specs.Bool.{Decides}
use Rattle.std.specs.Option.{option_and_then}
use Rattle.mpd_model.specs.declared.step.CallId.{CallId}
use Rattle.mpd_model.specs.declared.call.Mode.{Mode}
use Rattle.mpd_model.specs.declared.decision.Decision.{Decision}
use Rattle.mpd_model.specs.declared.outcome.IssuedCall.{IssuedCall}
use Rattle.mpd_model.specs.declared.outcome.Outcome.{Outcome}
use Rattle.mpd_model.specs.declared.outcome.Outcome.TheVariants as outcome_is
use Rattle.mpd_model.specs.script.Program.{Program}
use Rattle.mpd_model.specs.declared.step.Step.{Step}
use Rattle.mpd_model.specs.steps.World.{World, start}
use Rattle.mpd_model.specs.steps.Next.{next, fold}
use Rattle.mpd_model.specs.steps.Outcomes.{ids_of, outcome}
use Rattle.mpd_core.specs.Listed.{listed}
use Rattle.mpd_trail.proofs.KeptLemmas.{fold-append}
use Rattle.mpd_explore.specs.declared.report.RankTrap.{RankTrap}
use Rattle.mpd_explore.specs.declared.report.WitnessEnd.{WitnessEnd}
use Rattle.mpd_explore.specs.declared.report.WitnessEnd.TheVariants.{Deadlock, Trap}
use Rattle.mpd_explore.specs.declared.report.EndWitness.{EndWitness}
use Rattle.mpd_explore.specs.declared.report.Witness.{Witness}
use Rattle.mpd_explore.specs.declared.report.SearchLeaf.{SearchLeaf}
use Rattle.mpd_policy.specs.declared.ending.Ending.TheVariants.{Ended}
use Rattle.mpd_policy.specs.Walk.{run_by, steps_by}
use Rattle.mpd_explore.specs.declared.verifier.WitnessFault.{WitnessFault}
use Rattle.mpd_explore.specs.declared.verifier.WitnessFault.TheVariants.{NoSuchStep, NotStuck, WrongBlocked, Memory}
use Rattle.mpd_explore.specs.Stops.{StopsAt, IsLeft, WantsMemory}
use Rattle.mpd_explore.specs.Witness.{end_in, IsEndWitnessFrom, IsWitness, WitnessBy, HasWitness, HasFault, FaultAtEnd, FaultBy}

-- ---- calls that are one

both : (x y : Bool) → (x && y) ≡ true → (x ≡ true) × (y ≡ true)
both true true e = (refl, refl)
both true false e = cc
both false y e = cc

joined : (x y : Bool) → x ≡ true → y ≡ true → (x && y) ≡ true
joined true true e f = refl
joined true false e f = cc
joined false y e f = cc

one_call : (a b : CallId) → (a.rank == b.rank) ≡ true → (a.index == b.index) ≡ true → a ≡ b
one_call a b e f = λ i. record { rank = eqb-true a.rank b.rank e i; index = eqb-true a.index b.index f i }

pub same_call : (a b : CallId) → Decides (a.rank == b.rank && a.index == b.index) (a ≡ b)
same_call a b = (
  λ e. let h = both (a.rank == b.rank) (a.index == b.index) e in one_call a b h.0 h.1,
  λ e. joined (a.rank == b.rank) (a.index == b.index) (eq-eqb a.rank b.rank (ap (λ (c : CallId). c.rank) e)) (eq-eqb a.index b.index (ap (λ (c : CallId). c.index) e)),
)

-- ---- one step of it

and_then_some : (o : Option World) → option_and_then (λ v. Some v) o ≡ o
and_then_some None = refl
and_then_some (Some v) = refl

-- one step more is taken or not as it is enabled
fold_more : (first w : World) (i : ℕ) (steps : List Step) (d : Step) → i < length steps → fold first (take i steps) ≡ Some w → fold first (take (i + 1) steps) ≡ next w (get_or steps i d)
fold_more first w i steps d within there =
    let a : Step = get_or steps i d in
    ap (fold first) (take_more steps i d within) ∙ fold-append first (take i steps) (a ∷ []) ∙ ap (option_and_then (λ u. fold u (a ∷ []))) there ∙ and_then_some (next w a)

pub leads_more : (first w v : World) (i : ℕ) (steps : List Step) (d : Step) → i < length steps → fold first (take i steps) ≡ Some w → next w (get_or steps i d) ≡ Some v → fold first (take (i + 1) steps) ≡ Some v
leads_more first w v i steps d within there is = fold_more first w i steps d within there ∙ is

pub stops_here : (first w : World) (i : ℕ) (steps : List Step) (d : Step) (e : WitnessFault) → i < length steps → fold first (take i steps) ≡ Some w → (e ≡ NoSuchStep i) × (next w (get_or steps i d) ≡ None) → StopsAt first steps e
stops_here first w i steps d e within there h =
    record { place = i; is = h.0; before = rw there refl; refused = rw (← add-one) (fold_more first w i steps d within there ∙ h.1) }

-- ---- where memory was refused

pub wants_here : (first w v : World) (i : ℕ) (steps : List Step) (d : Step) → i < length steps → fold first (take i steps) ≡ Some w → IsSome (next w (get_or steps i d)) → v ≡ w → WantsMemory first steps v
wants_here first w v i steps d within there some same = record {
  place = i;
  before = there ∙ ap Some (sym same);
  wants = rw (slice_get-get_or steps i d within) (subst (λ (u : World). IsSome (next u (get_or steps i d))) (sym same) some);
}

pub wants_at_end : (first v : World) (steps : List Step) → fold first steps ≡ Some v → 0 < listed (outcome v) → WantsMemory first steps v
wants_at_end first v steps leads some = record {
  place = length steps;
  before = ap (fold first) (take_all (length steps) steps (omega arith)) ∙ leads;
  wants = rw (slice_get_past steps (length steps) (omega arith)) some;
}

-- ---- where it is left

same_place : (i j : ℕ) → NoSuchStep i ≡ NoSuchStep j → i ≡ j
same_place i j e = cc

pub left_here : (first w v : World) (i : ℕ) (steps : List Step) (e : WitnessFault) → fold first (take i steps) ≡ Some w → v ≡ w → (e ≢ Memory → e ≡ NoSuchStep i) → IsLeft first steps v e
left_here first w v i steps (NoSuchStep j) there same is = rw (same_place j i (is (λ k. cc))) (there ∙ ap Some (sym same))
left_here first w v i steps NotStuck there same is = let e : NotStuck ≡ NoSuchStep i = is (λ k. cc) in cc
left_here first w v i steps WrongBlocked there same is = let e : WrongBlocked ≡ NoSuchStep i = is (λ k. cc) in cc
left_here first w v i steps Memory there same is = tt

no_place_at_end : (o : Option WitnessEnd) (end : WitnessEnd) (i : ℕ) → FaultAtEnd o end (NoSuchStep i) → ⊥
no_place_at_end None end i h = cc
no_place_at_end (Some (Deadlock calls)) (Deadlock blocked) i h = let e : NoSuchStep i ≡ WrongBlocked = h.0 in cc
no_place_at_end (Some (Deadlock calls)) (Trap ranks) i h = cc
no_place_at_end (Some (Trap traps)) (Deadlock blocked) i h = cc
no_place_at_end (Some (Trap traps)) (Trap ranks) i h = let e : NoSuchStep i ≡ WrongBlocked = h.0 in cc

pub left_at_end : (w last : World) (steps given : List Step) (end : WitnessEnd) (r : Result Unit WitnessFault) → given ≡ steps → fold w given ≡ Some last
    → IfErr r (λ e. e ≢ Memory → FaultAtEnd (end_in (outcome last)) end e) → IfErr r (IsLeft w steps last)
left_at_end w last steps given end (Ok u) same leads h = tt
left_at_end w last steps given end (Err (NoSuchStep i)) same leads h = absurd (no_place_at_end (end_in (outcome last)) end i (h (λ k. cc)))
left_at_end w last steps given end (Err NotStuck) same leads h = rw (← same) leads
left_at_end w last steps given end (Err WrongBlocked) same leads h = rw (← same) leads
left_at_end w last steps given end (Err Memory) same leads h = tt

-- ---- where it stops is its fault

fault_now : (o : Option World) (i : ℕ) (more : List Step) (end : WitnessEnd) → option_and_then (λ v. Some v) o ≡ None → FaultBy (λ v f. HasFault v (suc i) more end f) i o (NoSuchStep (i + 0))
fault_now None i more end refused = ap NoSuchStep (omega arith)
fault_now (Some v) i more end refused = cc

fault_behind : (o : Option World) (i n : ℕ) (more : List Step) (end : WitnessEnd)
    → ((v : World) → IsSome (fold v (take n more)) → fold v (take (suc n) more) ≡ None → HasFault v (suc i) more end (NoSuchStep (suc i + n)))
    → IsSome (option_and_then (λ v. fold v (take n more)) o) → option_and_then (λ v. fold v (take (suc n) more)) o ≡ None
    → FaultBy (λ v f. HasFault v (suc i) more end f) i o (NoSuchStep (i + suc n))
fault_behind None i n more end rest before refused = cc
fault_behind (Some v) i n more end rest before refused = let e : i + suc n ≡ suc i + n = omega arith in rw e (rest v before refused)

stops_fault : (w : World) (i n : ℕ) (steps : List Step) (end : WitnessEnd) → IsSome (fold w (take n steps)) → fold w (take (suc n) steps) ≡ None → HasFault w i steps end (NoSuchStep (i + n))
stops_fault w i n [] end before refused = cc
stops_fault w i zero (a ∷ more) end before refused = fault_now (next w a) i more end refused
stops_fault w i (suc n) (a ∷ more) end before refused = fault_behind (next w a) i n more end (λ v there then. stops_fault v (suc i) n more end there then) before refused

pub fault_of_stop : (w : World) (steps : List Step) (end : WitnessEnd) (e : WitnessFault) → StopsAt w steps e → HasFault w 0 steps end e
fault_of_stop w steps end e h =
    let n : 0 + h.place ≡ h.place = omega arith in
    rw (h.is, ← n) (stops_fault w 0 h.place steps end h.before h.refused)

some_world : (v w : World) → Some v ≡ Some w → v ≡ w
some_world v w e = cc

end_by : (o : Option World) (i : ℕ) (more : List Step) (end : WitnessEnd) (last : World) (e : WitnessFault) → option_and_then (λ v. fold v more) o ≡ Some last
    → ((v : World) → fold v more ≡ Some last → HasFault v (suc i) more end e) → FaultBy (λ v f. HasFault v (suc i) more end f) i o e
end_by None i more end last e leads rest = cc
end_by (Some v) i more end last e leads rest = rest v leads

-- a fault at the end is one of the whole
pub fault_of_end : (w last : World) (i : ℕ) (steps : List Step) (end : WitnessEnd) (e : WitnessFault) → fold w steps ≡ Some last → FaultAtEnd (end_in (outcome last)) end e → HasFault w i steps end e
fault_of_end w last i [] end e leads h = rw (some_world w last leads) h
fault_of_end w last i (a ∷ more) end e leads h = end_by (next w a) i more end last e leads (λ v there. fault_of_end v last (suc i) more end e there h)

-- ---- a witness has no fault

same_end : (x y : WitnessEnd) → Some x ≡ Some y → x ≡ y
same_end x y e = cc

same_calls : (x y : List CallId) → Some (Deadlock x) ≡ Some (Deadlock y) → x ≡ y
same_calls x y e = let h : Deadlock x ≡ Deadlock y = same_end (Deadlock x) (Deadlock y) e in cc

same_traps : (x y : List RankTrap) → Some (Trap x) ≡ Some (Trap y) → x ≡ y
same_traps x y e = let h : Trap x ≡ Trap y = same_end (Trap x) (Trap y) e in cc

no_fault_at_end : (o : Option WitnessEnd) (end : WitnessEnd) (e : WitnessFault) → o ≡ Some end → FaultAtEnd o end e → ⊥
no_fault_at_end None end e is h = cc
no_fault_at_end (Some (Deadlock calls)) (Deadlock blocked) e is h = h.1 (same_calls calls blocked is)
no_fault_at_end (Some (Deadlock calls)) (Trap ranks) e is h = let k : Deadlock calls ≡ Trap ranks = same_end (Deadlock calls) (Trap ranks) is in cc
no_fault_at_end (Some (Trap traps)) (Deadlock blocked) e is h = let k : Trap traps ≡ Deadlock blocked = same_end (Trap traps) (Deadlock blocked) is in cc
no_fault_at_end (Some (Trap traps)) (Trap ranks) e is h = h.1 (same_traps traps ranks is)

no_fault_by : (o : Option World) (i : ℕ) (more : List Step) (end : WitnessEnd) (last : World) (e : WitnessFault) → option_and_then (λ v. fold v more) o ≡ Some last
    → ((v : World) → fold v more ≡ Some last → HasFault v (suc i) more end e → ⊥) → FaultBy (λ v f. HasFault v (suc i) more end f) i o e → ⊥
no_fault_by None i more end last e leads rest h = cc
no_fault_by (Some v) i more end last e leads rest h = rest v leads h

no_fault : (w : World) (i : ℕ) (steps : List Step) (end : WitnessEnd) (last : World) (e : WitnessFault) → fold w steps ≡ Some last → end_in (outcome last) ≡ Some end → HasFault w i steps end e → ⊥
no_fault w i [] end last e leads ends h = no_fault_at_end (end_in (outcome w)) end e (ap (λ v. end_in (outcome v)) (some_world w last leads) ∙ ends) h
no_fault w i (a ∷ more) end last e leads ends h = no_fault_by (next w a) i more end last e leads (λ v there k. no_fault v (suc i) more end last e there ends k) h

-- ---- what is found of a witness

pub only_memory : (w : World) (x : EndWitness) (e : WitnessFault) → IsEndWitnessFrom w x → (e ≢ Memory → HasFault w 0 x.steps x.end e) → e ≡ Memory
only_memory w x (NoSuchStep i) h f = absurd (no_fault w 0 x.steps x.end h.last (NoSuchStep i) h.leads h.ends (f (λ same. cc)))
only_memory w x NotStuck h f = absurd (no_fault w 0 x.steps x.end h.last NotStuck h.leads h.ends (f (λ same. cc)))
only_memory w x WrongBlocked h f = absurd (no_fault w 0 x.steps x.end h.last WrongBlocked h.leads h.ends (f (λ same. cc)))
only_memory w x Memory h f = refl

-- a witness is refused for want of memory alone
pub accepted_by : (w : World) (x : EndWitness) (r : Result Unit WitnessFault) → IfErr r (λ e. e ≢ Memory → HasFault w 0 x.steps x.end e) → IsEndWitnessFrom w x → IfErr r (λ e. e ≡ Memory)
accepted_by w x (Ok u) f h = tt
accepted_by w x (Err e) f h = only_memory w x e h f

-- and what is accepted is one
pub witnessed : (w last : World) (x : EndWitness) (r : Result Unit WitnessFault) → OnOk r ((fold w x.steps ≡ Some last) × (end_in (outcome last) ≡ Some x.end)) → OnOk r (IsEndWitnessFrom w x)
witnessed w last x (Ok u) h = record { last = last; leads = h.0; ends = h.1 }
witnessed w last x (Err e) h = tt

-- ---- the same of a list that is read through a reference

pub stop_fault : (w : World) (steps given : List Step) (end : WitnessEnd) (e : WitnessFault) → given ≡ steps → StopsAt w given e → HasFault w 0 steps end e
stop_fault w steps given end e same h = subst (λ (xs : List Step). HasFault w 0 xs end e) same (fault_of_stop w given end e h)

pub end_fault : (w last : World) (steps given : List Step) (end : WitnessEnd) (r : Result Unit WitnessFault) → given ≡ steps → fold w given ≡ Some last → IfErr r (λ e. e ≢ Memory → FaultAtEnd (end_in (outcome last)) end e)
    → IfErr r (λ e. e ≢ Memory → HasFault w 0 steps end e)
end_fault w last steps given end (Ok u) same leads h = tt
end_fault w last steps given end (Err e) same leads h = λ k. subst (λ (xs : List Step). HasFault w 0 xs end e) same (fault_of_end w last 0 given end e leads (h k))

pub wants_last : (w last : World) (steps given : List Step) → given ≡ steps → fold w given ≡ Some last → 0 < listed (outcome last) → WantsMemory w steps last
wants_last w last steps given same leads some = subst (λ (xs : List Step). WantsMemory w xs last) same (wants_at_end w last given leads some)

-- ---- a witness of a deadlock

-- the calls of that deadlock, with their statements
deadlock_at : (o : Option Outcome) (blocked : List CallId) → end_in o ≡ Some (Deadlock blocked) → (calls : List IssuedCall) × (o ≡ Some (outcome_is.Deadlock calls)) × (ids_of calls ≡ blocked)
deadlock_at None blocked e = cc
deadlock_at (Some outcome_is.Done) blocked e = cc
deadlock_at (Some (outcome_is.Leftovers calls)) blocked e = cc
deadlock_at (Some (outcome_is.Deadlock calls)) blocked e = (calls, refl, same_calls (ids_of calls) blocked e)
deadlock_at (Some (outcome_is.Trap ranks)) blocked e = absurd (no_fault_at_end (end_in (Some (outcome_is.Trap ranks))) (Deadlock blocked) NotStuck e refl)

-- what leads to a deadlock and says so is one
pub deadlock_witnessed : (s : Program) (mode : Mode) (x : Witness) (last : World) → fold (start s mode) x.steps ≡ Some last → end_in (outcome last) ≡ Some (Deadlock x.blocked) → IsWitness s mode x
deadlock_witnessed s mode x last leads ends =
    let there = deadlock_at (outcome last) x.blocked ends in
    record { last = last; calls = there.0; leads = leads; stuck = there.1; are_blocked = there.2 }

-- and has no fault
as_end : (s : Program) (mode : Mode) (x : Witness) → IsWitness s mode x → IsEndWitnessFrom (start s mode) (record { steps = x.steps; end = Deadlock x.blocked })
as_end s mode x h = record { last = h.last; leads = h.leads; ends = ap end_in h.stuck ∙ ap (λ calls. Some (Deadlock calls)) h.are_blocked }

pub deadlock_checked : (s : Program) (mode : Mode) (x : Witness) (w last : World) (r : Result Unit WitnessFault) → w ≡ start s mode → OnOk r ((fold w x.steps ≡ Some last) × (end_in (outcome last) ≡ Some (Deadlock x.blocked))) → OnOk r (IsWitness s mode x)
deadlock_checked s mode x w last (Ok u) at h = deadlock_witnessed s mode x last (ap (λ (v : World). fold v x.steps) (sym at) ∙ h.0) h.1
deadlock_checked s mode x w last (Err e) at h = tt

pub deadlock_accepted : (s : Program) (mode : Mode) (x : Witness) (r : Result Unit WitnessFault) → IfErr r (λ e. e ≢ Memory → HasFault (start s mode) 0 x.steps (Deadlock x.blocked) e) → IsWitness s mode x → IfErr r (λ e. e ≡ Memory)
deadlock_accepted s mode x r f h = accepted_by (start s mode) (record { steps = x.steps; end = Deadlock x.blocked }) r f (as_end s mode x h)

-- what a report has of a deadlock is one
pub deadlock_has : (decide : World → Decision) (s : Program) (mode : Mode) (before : List Step) (n : ℕ) (w : World) (l : SearchLeaf) (calls : List IssuedCall) → HasWitness decide s mode before n w l → l.ending ≡ Ended (outcome_is.Deadlock calls)
    → IsWitness s mode (record { steps = before ++ steps_by (run_by decide n l.choices w); blocked = ids_of calls })
deadlock_has decide s mode before n w l calls h is =
    let wide : WitnessBy s mode (before ++ h.run.steps) (Ended (outcome_is.Deadlock calls)) = subst (WitnessBy s mode (before ++ h.run.steps)) is h.witness in
    let own : IsWitness s mode (record { steps = before ++ h.run.steps; blocked = ids_of calls }) = deadlock_witnessed s mode (record { steps = before ++ h.run.steps; blocked = ids_of calls }) wide.last wide.leads wide.ends in
    subst (λ (xs : List Step). IsWitness s mode (record { steps = before ++ xs; blocked = ids_of calls })) (sym (ap steps_by h.by)) own
