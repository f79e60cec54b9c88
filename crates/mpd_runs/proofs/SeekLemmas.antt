-- Runs that lie ahead of a trail. Their choices are those of the wide walk.
use Rattle.std.proofs.Common.{◌≡◌, ℕ, zero, suc, ◌+◌, ◌-◌, ◌<◌, ◌≤◌, Bool, true, false, List, [], ◌∷◌, ◌++◌, length, take, if◌then◌else◌, Option, Some, None, IsSome, refl, ap, sym, ◌∙◌, arith, subst}
use Rattle.std.specs.Prelude.{option_map, option_and_then, slice_get, IfSome, Result, Ok}
use Rattle.std.specs.List.{AllByRecursion}
use Rattle.std.proofs.lemmas.List.{length-append}
use Rattle.mpd_model.specs.declared.call.Mode.{Mode}
use Rattle.mpd_model.specs.declared.step.Step.{Step}
use Rattle.mpd_model.specs.script.Program.{Program}
use Rattle.mpd_model.specs.steps.World.{World, start}
use Rattle.mpd_model.specs.steps.Next.{fold}
use Rattle.mpd_policy.specs.Wide.{wide_decision}
use Rattle.mpd_policy.proofs.WideLemmas.{wide_leaf}
use Rattle.mpd_model.specs.runs.Decisions.{CanFollow}
use Rattle.mpd_model.specs.runs.Trail.{Trail, done_steps, forgotten, IsReached}
use Rattle.mpd_trail.proofs.KeptLemmas.{fold-append}
use Rattle.mpd_policy.specs.declared.ending.Ending.{Ending}
use Rattle.mpd_explore.specs.declared.report.SearchLeaf as leaf
use Rattle.mpd_policy.specs.Walk.{run_by, steps_by}
use Rattle.mpd_explore.specs.Witness.{WitnessBy, HasWitness}
use Rattle.mpd_runs.specs.declared.fault.WordsFault.{WordsFault}
use Rattle.mpd_runs.specs.Led.{Led}
use Rattle.mpd_runs.specs.declared.search.WholeRun.{WholeRun}
use Rattle.mpd_runs.specs.declared.way.Way.{Way}
use Rattle.mpd_runs.specs.Ways.{ends_in, first_in}
use Rattle.mpd_explore.specs.Report.{ended_by}
use Rattle.mpd_runs.specs.declared.counts.WayCounts.{WayCounts}
use Rattle.mpd_runs.specs.declared.search.Search.{Search}
use Rattle.mpd_runs.specs.declared.search.Scope.{Scope}
use Rattle.mpd_runs.specs.declared.search.Scope.TheVariants.{WideWalk, Listed}
use Rattle.mpd_runs.specs.declared.search.Sought.{Sought}
use Rattle.mpd_runs.specs.declared.search.Sought.TheVariants.{Found, Nothing}
use Rattle.mpd_runs.specs.declared.states.ByStates.{ByStates}
use Rattle.mpd_runs.specs.Counts.{counts_of}
use Rattle.mpd_runs.specs.Runs.{fuel_at, all_runs, first_runs, is_number}
use Rattle.mpd_runs.specs.declared.states.TheConstants.{STATES_VISITED}
use Rattle.mpd_runs.specs.Seek.{LeadsTo, LiesAhead, Looked, whole_run, found_in, counts_in, numbered_run, IsSoughtFrom, IsSearch, FoundLies, StatesTell, TooMany}
use Rattle.mpd_runs.proofs.EndLemmas.{few_steps, run_leads}
use Rattle.mpd_runs.proofs.StateLemmas.{unmapped}

-- ---- the steps of a run

pub led_steps : (n : ℕ) (cs : List ℕ) (w : World) (found : Result (List Step) WordsFault) (steps : List Step) → Led wide_decision n cs w found → found ≡ Ok steps → steps ≡ steps_by (run_by wide_decision n cs w)
led_steps n cs w found steps h e = told (subst (Led wide_decision n cs w) e h)
  where
    told : Led wide_decision n cs w (Ok steps) → steps ≡ steps_by (run_by wide_decision n cs w)
    told (r, by, is) = is ∙ ap steps_by (sym by)

pub ruleset leading = (led_steps)

-- ---- it lies ahead

take_front : (xs ys : List Step) → take (length xs) (xs ++ ys) ≡ xs
take_front [] ys = refl
take_front (x ∷ xs) ys = ap (λ zs. x ∷ zs) (take_front xs ys)

all_kept : (n : ℕ) (xs : List Step) → length xs ≡ n → take n xs ≡ xs
all_kept zero [] e = refl
all_kept zero (x ∷ xs) e = absurd cc
all_kept (suc n) [] e = absurd cc
all_kept (suc n) (x ∷ xs) e = ap (λ zs. x ∷ zs) (all_kept n xs (let k : suc (length xs) ≡ suc n = e in omega arith))

some_of : {o : Option World} {w : World} → o ≡ Some w → IsSome o
some_of e = cc

lies_by : (t : Trail) (w : World) (n : ℕ) (more : List Step) (e : Ending) → IsReached (record { trail = t; world = w }) → length t.steps ≡ t.depth → t.depth + n ≤ 1000000 → length more ≤ n
    → LeadsTo w more e → WitnessBy t.program t.mode (done_steps t ++ more) e → LiesAhead t (record { steps = done_steps t ++ more; ending = e })
lies_by t w n more e reached clean fits few leads witness =
    let deep : length (done_steps t) ≡ t.depth = ap length (all_kept t.depth t.steps clean) ∙ clean in
    let on : fold (start t.program t.mode) (done_steps t ++ more) ≡ Some leads.last = fold-append (start t.program t.mode) (done_steps t) more ∙ ap (option_and_then (λ v. fold v more)) reached.world ∙ leads.leads in
    record {
      begins = ap (λ k. take k (done_steps t ++ more)) (sym deep) ∙ take_front (done_steps t) more;
      run = record {
        leads = some_of on;
        few = let k : length (done_steps t ++ more) ≡ length (done_steps t) + length more = length-append (done_steps t) more in omega arith;
      };
      ends = record { last = leads.last; leads = on; ends = leads.ends };
      witness = witness;
    }

pub lies_ahead : (t : Trail) (w : World) (n : ℕ) (l : leaf.SearchLeaf) (r : WholeRun) → ((v : World) → CanFollow v (wide_decision v)) → IsReached (record { trail = t; world = w })
    → length t.steps ≡ t.depth → t.depth + n ≤ 1000000 → HasWitness wide_decision t.program t.mode (done_steps t) n w l → r.steps ≡ done_steps t ++ steps_by (run_by wide_decision n l.choices w) → r.ending ≡ l.ending → LiesAhead t r
lies_ahead t w n l r can reached clean fits h is e =
    let by : steps_by (run_by wide_decision n l.choices w) ≡ h.run.steps = ap steps_by h.by in
    let leads : LeadsTo w h.run.steps l.ending = subst (LeadsTo w h.run.steps) h.ending (run_leads wide_decision can wide_leaf n l.choices w h.run h.by) in
    let here : LiesAhead t (record { steps = done_steps t ++ h.run.steps; ending = l.ending }) = lies_by t w n h.run.steps l.ending reached clean fits (few_steps wide_decision n l.choices w h.run h.by) leads h.witness in
    let same : (let x : WholeRun = record { steps = done_steps t ++ h.run.steps; ending = l.ending } in x) ≡ r = λ i. record { steps = sym (is ∙ ap (λ more. done_steps t ++ more) by) i; ending = sym e i } in
    subst (LiesAhead t) same here

pub ruleset lying = (lies_ahead, led_steps)

-- ---- what holds of each run holds of the first that ends in a way

found_by : (P : leaf.SearchLeaf → Type 0) (x : Way) (b : Bool) (l m : leaf.SearchLeaf) (ls : List leaf.SearchLeaf) → P l → ((first_in x ls ≡ Some m) → P m) → (if b then Some l else first_in x ls) ≡ Some m → P m
found_by P x true l m ls h more e = let is : l ≡ m = cc in subst P is h
found_by P x false l m ls h more e = more e

found_all : (P : leaf.SearchLeaf → Type 0) (x : Way) (ls : List leaf.SearchLeaf) (m : leaf.SearchLeaf) → AllByRecursion P ls → first_in x ls ≡ Some m → P m
found_all P x [] m h e = absurd cc
found_all P x (l ∷ ls) m h e = found_by P x (ends_in x l) l m ls h.0 (found_all P x ls m h.1) e

pub found_has : (s : Program) (mode : Mode) (before : List Step) (n : ℕ) (w : World) (x : Way) (ls : List leaf.SearchLeaf) (l : leaf.SearchLeaf) → AllByRecursion (HasWitness wide_decision s mode before n w) ls → first_in x ls ≡ Some l → HasWitness wide_decision s mode before n w l
found_has s mode before n w x ls l h e = found_all (HasWitness wide_decision s mode before n w) x ls l h e

run_is : (before : List Step) (n : ℕ) (w : World) (l : leaf.SearchLeaf) (r : WholeRun) → r.steps ≡ before ++ steps_by (run_by wide_decision n l.choices w) → r.ending ≡ l.ending → r ≡ whole_run before n w l
run_is before n w l r is e = λ i. record { steps = is i; ending = e i }

pub found_value : (before : List Step) (n : ℕ) (w : World) (o : Option leaf.SearchLeaf) (l : leaf.SearchLeaf) (r : WholeRun) → o ≡ Some l → r.steps ≡ before ++ steps_by (run_by wide_decision n l.choices w) → r.ending ≡ l.ending
    → Some r ≡ option_map (whole_run before n w) o
found_value before n w o l r some is e = ap Some (run_is before n w l r is e) ∙ ap (option_map (whole_run before n w)) (sym some)

pub none_value : (before : List Step) (n : ℕ) (w : World) (o : Option leaf.SearchLeaf) → o ≡ None → None ≡ option_map (whole_run before n w) o
none_value before n w o none = ap (option_map (whole_run before n w)) (sym none)

pub ruleset finding = (found_has, found_value, none_value)

-- ---- from a debugger

-- a copy has no undone step
copy_lies : (t u : Trail) (r : WholeRun) → u ≡ forgotten t → done_steps u ≡ done_steps t → LiesAhead u r → LiesAhead t r
copy_lies t u r e k h =
    let at : LiesAhead (forgotten t) r = subst (λ (x : Trail). LiesAhead x r) e h in
    record { begins = at.begins ∙ ap done_steps (sym e) ∙ k; run = at.run; ends = at.ends; witness = at.witness }

pub copied_lies : (t u : Trail) (o : Option WholeRun) → u ≡ forgotten t → done_steps u ≡ done_steps t → IfSome o (LiesAhead u) → IfSome o (LiesAhead t)
copied_lies t u None e k h = tt
copied_lies t u (Some r) e k h = copy_lies t u r e k h

pub copied_found : (t u : Trail) (q : Sought) → u ≡ forgotten t → done_steps u ≡ done_steps t → FoundLies u q → FoundLies t q
copied_found t u (Found r) e k h = copy_lies t u r e k h
copied_found t u (Nothing counts) e k h = tt

pub sought_on : (x : Way) (t u : Trail) (v w : World) (n : ℕ) (s : Search) → done_steps u ≡ done_steps t → v ≡ w → n ≡ fuel_at t.depth → IsSoughtFrom s.scope x (done_steps u) n v s.sought → (s.scope ≡ Listed → (s.states ≡ STATES_VISITED) × TooMany x n v)
    → IsSearch x t w s
sought_on x t u v w n s k same fuel h stopped =
    let one = subst (λ before. IsSoughtFrom s.scope x before n v s.sought) k h in
    let two = subst (λ m. IsSoughtFrom s.scope x (done_steps t) m v s.sought) fuel one in
    (subst (λ z. IsSoughtFrom s.scope x (done_steps t) (fuel_at t.depth) z s.sought) same two, λ e. ((stopped e).0, subst (λ z. TooMany x (fuel_at t.depth) z) same (subst (λ m. TooMany x m v) fuel (stopped e).1)))

-- ---- among the runs that are listed

pub listed_found : (x : Way) (before : List Step) (n : ℕ) (w : World) (leaves : List leaf.SearchLeaf) (others : Bool) (o : Option WholeRun) (r : WholeRun) → Looked x n w leaves others
    → o ≡ option_map (whole_run before n w) (first_in x leaves) → o ≡ Some r → found_in Listed x before n w ≡ Some r
listed_found x before n w leaves others o r h is e = ap (option_map (whole_run before n w)) (sym h.first) ∙ sym is ∙ e

pub listed_none : (x : Way) (before : List Step) (n : ℕ) (w : World) (leaves : List leaf.SearchLeaf) (others : Bool) (o : Option WholeRun) (counts : WayCounts) → Looked x n w leaves others
    → o ≡ option_map (whole_run before n w) (first_in x leaves) → o ≡ None → counts ≡ counts_of leaves others → (found_in Listed x before n w ≡ None) × (counts ≡ counts_in Listed n w)
listed_none x before n w leaves others o counts h is e told =
    let first : first_in x leaves ≡ None = unmapped (whole_run before n w) (first_in x leaves) (sym is ∙ e) in
    (ap (option_map (whole_run before n w)) (sym h.first ∙ first), told ∙ (λ i. counts_of (h.all first i) (h.rest first i)))

pub ruleset listing = (listed_found, listed_none)

-- ---- by states first

pub states_found : (x : Way) (before : List Step) (n : ℕ) (w : World) (b : ByStates) (r : WholeRun) → StatesTell x before n w b → b.found ≡ Some r → found_in WideWalk x before n w ≡ Some r
states_found x before n w b r h e = h.first r e

pub states_none : (x : Way) (before : List Step) (n : ℕ) (w : World) (b : ByStates) → StatesTell x before n w b → b.found ≡ None → b.counts.more ≡ false → (found_in WideWalk x before n w ≡ None) × (b.counts ≡ counts_in WideWalk n w)
states_none x before n w b h none last = h.all none last

pub states_stopped : (x : Way) (before : List Step) (n : ℕ) (w : World) (b : ByStates) → StatesTell x before n w b → b.found ≡ None → b.counts.more ≡ true → (b.states ≡ STATES_VISITED) × TooMany x n w
states_stopped x before n w b h none more = h.stopped none more

pub found_lies : (t : Trail) (o : Option WholeRun) (r : WholeRun) → IfSome o (LiesAhead t) → o ≡ Some r → LiesAhead t r
found_lies t o r h e = subst (λ (p : Option WholeRun). IfSome p (LiesAhead t)) e h

pub sought_after : (k : Scope) (x : Way) (t u : Trail) (n : ℕ) (v w : World) (q : Sought) → u ≡ t → v ≡ w → IsSoughtFrom k x (done_steps u) n v q → IsSoughtFrom k x (done_steps t) n w q
sought_after k x t u n v w q same here h = subst (λ z. IsSoughtFrom k x (done_steps t) n z q) here (subst (λ y. IsSoughtFrom k x (done_steps y) n v q) same h)

pub lies_after : (t u : Trail) (q : Sought) → u ≡ t → FoundLies u q → FoundLies t q
lies_after t u q same h = subst (λ y. FoundLies y q) same h

pub ruleset seeking = (states_found, states_none, states_stopped, found_lies, sought_after, lies_after, sought_on, copied_found)

-- ---- the run of a number

all_at : (P : leaf.SearchLeaf → Type 0) (ls : List leaf.SearchLeaf) (i : ℕ) (l : leaf.SearchLeaf) → AllByRecursion P ls → slice_get ls i ≡ Some l → P l
all_at P [] i l h e = absurd cc
all_at P (m ∷ ls) zero l h e = let is : m ≡ l = cc in subst P is h.0
all_at P (m ∷ ls) (suc i) l h e = all_at P ls i l h.1 e

pub number_has : (s : Program) (mode : Mode) (before : List Step) (n i : ℕ) (w : World) (ls : List leaf.SearchLeaf) (l : leaf.SearchLeaf) → AllByRecursion (HasWitness wide_decision s mode before n w) ls → slice_get ls i ≡ Some l → HasWitness wide_decision s mode before n w l
number_has s mode before n i w ls l h e = all_at (HasWitness wide_decision s mode before n w) ls i l h e

pub last_taken : (n : ℕ) (xs : List leaf.SearchLeaf) → 0 < n → slice_get (take n xs) (n - 1) ≡ slice_get xs (n - 1)
last_taken n xs some = taken n xs (n - 1) (omega (arith, some))
  where
    taken : (n : ℕ) (xs : List leaf.SearchLeaf) (i : ℕ) → i < n → slice_get (take n xs) i ≡ slice_get xs i
    taken zero xs i lt = absurd (omega (arith, lt))
    taken (suc n) [] i lt = refl
    taken (suc n) (x ∷ xs) zero lt = refl
    taken (suc n) (x ∷ xs) (suc i) lt = taken n xs i (omega (arith, lt))

pub ruleset placing = (number_has, found_value, none_value)

pub number_some : (n : ℕ) → is_number n ≡ true → 0 < n
number_some zero e = absurd cc
number_some (suc n) e = omega arith

pub not_numbered : (n : ℕ) (t : Trail) (w : World) → is_number n ≡ false → None ≡ numbered_run n t w
not_numbered n t w e = sym (ap (λ (b : Bool). if b then option_map (whole_run (done_steps t) (fuel_at t.depth) w) (slice_get (all_runs (fuel_at t.depth) w) (n - 1)) else None) e)

pub numbered_is : (n : ℕ) (t u : Trail) (v w : World) (fuel : ℕ) (leaves : List leaf.SearchLeaf) (o : Option WholeRun) → is_number n ≡ true → done_steps u ≡ done_steps t → v ≡ w → fuel ≡ fuel_at t.depth
    → leaves ≡ ended_by false (first_runs n fuel v) → o ≡ option_map (whole_run (done_steps u) fuel v) (slice_get leaves (n - 1)) → o ≡ numbered_run n t w
numbered_is n t u v w fuel leaves o number k same enough is e =
    e ∙ ap (λ ls. option_map (whole_run (done_steps u) fuel v) (slice_get ls (n - 1))) is
    ∙ ap (option_map (whole_run (done_steps u) fuel v)) (last_taken n (all_runs fuel v) (number_some n number))
    ∙ ap (λ before. option_map (whole_run before fuel v) (slice_get (all_runs fuel v) (n - 1))) k
    ∙ ap (λ m. option_map (whole_run (done_steps t) m v) (slice_get (all_runs m v) (n - 1))) enough
    ∙ ap (λ z. option_map (whole_run (done_steps t) (fuel_at t.depth) z) (slice_get (all_runs (fuel_at t.depth) z) (n - 1))) same
    ∙ sym (ap (λ (b : Bool). if b then option_map (whole_run (done_steps t) (fuel_at t.depth) w) (slice_get (all_runs (fuel_at t.depth) w) (n - 1)) else None) number)

pub ruleset numbering = (copied_lies, number_some, not_numbered, numbered_is)
