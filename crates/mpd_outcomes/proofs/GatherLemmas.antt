-- What is told where a search has stopped.
use Rattle.std.proofs.Common.{◌≡◌, ℕ, ◌≤◌, ◌-◌, nat_lt, Bool, true, false, cond, None, Option, List, [], ◌∷◌, ◌++◌, map, length, replicate, reverse, take, Some, append-nil, append_assoc, sym, ap, subst, ◌∙◌, arith}
use Rattle.std.specs.List.{AllByRecursion, filter}
use Rattle.std.proofs.lemmas.Bool.{lt-ltb, le-ltb}
use Rattle.std.proofs.lemmas.List.{length-append, length-map, length-take}
use Rattle.std.proofs.Math.Seq.{take-append_seam}
use Rattle.mpd_model.specs.declared.step.Step.{Step}
use Rattle.mpd_model.specs.steps.World.{World, start}
use Rattle.mpd_model.specs.steps.Next.{fold}
use Rattle.mpd_model.specs.runs.Decisions.{CanFollow}
use Rattle.mpd_model.specs.runs.Trail.{Standing, IsReached, done_steps, gone_back, forgotten, step_eq}
use Rattle.mpd_trail.specs.DebuggerViews.{AsFound}
use Rattle.mpd_policy.specs.Wide.{wide_decision, sleeps_on}
use Rattle.mpd_policy.specs.Walk.{wide_walk}
use Rattle.mpd_explore.specs.declared.report.SearchLeaf.{SearchLeaf}
use Rattle.mpd_explore.specs.Report.{shown}
use Rattle.mpd_explore.specs.Search.{Safe}
use Rattle.mpd_explore.specs.Witness.{HasWitness}
use Rattle.mpd_explore.proofs.AwakeLemmas.{no_wide_sleeps}
use Rattle.mpd_explore.proofs.CollectLemmas.{as_found, world_found}
use Rattle.mpd_explore.proofs.WitnessLemmas.{awake_witnessed}
use Rattle.mpd_policy.proofs.WalkLemmas.{length-done_steps}
use Rattle.mpd_outcomes.specs.declared.report.Count.{Count}
use Rattle.mpd_outcomes.specs.declared.report.Count.TheVariants.{Exactly}
use Rattle.mpd_outcomes.specs.declared.report.Outcomes.{Outcomes}
use Rattle.mpd_outcomes.specs.declared.sums.Sums.{Sums}
use Rattle.mpd_outcomes.specs.declared.search.Open.{Open}
use Rattle.mpd_outcomes.specs.declared.search.Front.{Front}
use Rattle.mpd_explore.specs.Ends.{firsts, times}
use Rattle.mpd_outcomes.specs.Outcomes.{counted, plus, leaves_from, TellsRuns}
use Rattle.mpd_outcomes.specs.Sums.{added, TellsCounts}
use Rattle.mpd_outcomes.specs.Gathered.{gathered, gathered_total}
use Rattle.mpd_outcomes.specs.Front.{Search, put, picked, TellsAt, AllTold, tried_at, before, open_in, Turned, come_now}
use Rattle.mpd_outcomes.proofs.TellLemmas.{tells_none, tells_joined, tells_put, all_counted}
use Rattle.mpd_outcomes.proofs.WalkLemmas.{some_leaves}
use Rattle.mpd_outcomes.proofs.StackLemmas.{left_over}

-- of each open choice the leaves by the candidates that were tried, and those after them
gathered_tells : (s : Search) (ways : List SearchLeaf) (fs : List Open) (path : List Step) (sums : Sums) (cs : List Count) (c : Count) (rest : List SearchLeaf) → AllTold s ways fs path sums → TellsCounts ways cs c rest
    → TellsCounts ways (gathered fs sums.tally.counts.items cs) (gathered_total fs sums.tally.total c) (before s fs path ++ rest)
gathered_tells s ways [] path sums cs c rest told h = tells_joined ways sums.tally.counts.items cs sums.tally.total c [] rest told h
gathered_tells s ways (f ∷ fs) path sums cs c rest told h =
    subst (λ (ls : List SearchLeaf). TellsCounts ways (gathered fs f.outer.tally.counts.items (added sums.tally.counts.items cs)) (gathered_total fs f.outer.tally.total (plus sums.tally.total c)) ls)
    (sym (append_assoc (before s fs (take f.depth path)) (map (put (picked fs)) here) rest))
    (gathered_tells s ways fs (take f.depth path) f.outer (added sums.tally.counts.items cs) (plus sums.tally.total c) (map (put (picked fs)) here ++ rest) told.1
    (tells_joined ways sums.tally.counts.items cs sums.tally.total c (map (put (picked fs)) here) rest (tells_put ways sums.tally.counts.items sums.tally.total (picked fs) here (at (fold (start s.program s.mode) (take f.depth path)) told.0)) h))
  where
    here : List SearchLeaf
    here = tried_at s f (fold (start s.program s.mode) (take f.depth path))

    at : (o : Option World) → TellsAt s ways f o sums → TellsCounts ways sums.tally.counts.items sums.tally.total (tried_at s f o)
    at None k = absurd k
    at (Some w) k = k.counts

-- what is told of the first runs
told_runs : (fuel : ℕ) (w : World) (o : Outcomes) (ls rest : List SearchLeaf) (ways : List SearchLeaf) (cs : List Count) → leaves_from fuel w ≡ ls ++ rest → ways ≡ firsts ls → TellsCounts ways cs o.total ls
    → o.firsts.leaves.items ≡ ways → o.counts.items ≡ cs ++ replicate (length ways - length cs) (Exactly 0) → o.firsts.more ≡ nat_lt (length ls) (length (ls ++ rest)) → (t : TellsRuns fuel w o) × (take t.runs (leaves_from fuel w) ≡ ls)
told_runs fuel w o ls rest ways cs whole ways_are tells leaves counts more =
    let long : length (wide_walk fuel w) ≡ length (ls ++ rest) = sym (length-map (wide_walk fuel w) shown) ∙ ap (λ (l : List SearchLeaf). length l) whole in
    let many = length-append ls rest in
    let front : take (length ls) (leaves_from fuel w) ≡ ls = ap (take (length ls)) whole ∙ take-append_seam ls rest in (
      record {
        runs = length ls;
        few = omega (arith, long, many);
        firsts_are = leaves ∙ ways_are ∙ ap firsts (sym front);
        counts_are = counts ∙ all_counted (λ l. counted (times ls l)) cs ways tells.few tells.counts ∙ (λ j. map (λ (l : SearchLeaf). counted (times (sym front j) l)) ((ways_are ∙ ap firsts (sym front)) j));
        total_is = tells.total_is;
        more_is = more ∙ ap (nat_lt (length ls)) (sym long);
      },
      front,
    )

-- where it was stopped there are runs from where it stands, and where all are come to there are no others
pub stopped_tells : (s : Search) (f : Front) (d : Standing) (more : Bool) (o : Outcomes) → ((v : World) → CanFollow v (wide_decision v)) → Turned s more f d → o.firsts.leaves.items ≡ f.ways.items → o.firsts.more ≡ more
    → o.counts.items ≡ gathered (reverse f.stack.items) f.sums.tally.counts.items [] ++ replicate (length f.ways.items - length (gathered (reverse f.stack.items) f.sums.tally.counts.items [])) (Exactly 0)
    → o.total ≡ gathered_total (reverse f.stack.items) f.sums.tally.total (Exactly 0) → (t : TellsRuns (s.limit - s.base) s.root o) × (take t.runs (leaves_from (s.limit - s.base) s.root) ≡ come_now s more f d)
stopped_tells s f d true o law h leaves more counts total =
    let path = done_steps d.trail in
    let ls = before s (open_in f) path in
    let here = map (put (picked (open_in f))) (leaves_from (s.limit - d.trail.depth) d.world) in
    let left = left_over s (open_in f) path d.trail.depth d.world h.at.stands in
    let tells = gathered_tells s f.ways.items (open_in f) path f.sums [] (Exactly 0) [] h.told (tells_none f.ways.items) in
    let told = subst (λ (c : Count). TellsCounts f.ways.items (gathered (open_in f) f.sums.tally.counts.items []) c ls) (sym total) (subst (λ (xs : List SearchLeaf). TellsCounts f.ways.items (gathered (open_in f) f.sums.tally.counts.items []) (gathered_total (open_in f) f.sums.tally.total (Exactly 0)) xs) (append-nil ls) tells) in
    let some = some_leaves law (s.limit - d.trail.depth) d.world in
    let as_many = length-map (leaves_from (s.limit - d.trail.depth) d.world) (put (picked (open_in f))) in
    let one = length-append ls (here ++ left.0) in
    let two = length-append here left.0 in
    told_runs (s.limit - s.base) s.root o ls (here ++ left.0) f.ways.items (gathered (open_in f) f.sums.tally.counts.items []) left.1 h.ways_are told leaves counts
    (more ∙ sym (lt-ltb (length ls) (length (ls ++ (here ++ left.0))) (omega (arith, some, as_many, one, two))))
stopped_tells s f d false o law h leaves more counts total =
    let all = leaves_from (s.limit - s.base) s.root in
    let none = h.none_open in
    let cs = f.sums.tally.counts.items in
    let is : gathered (reverse f.stack.items) cs [] ≡ added cs [] = ap (λ (os : List Open). gathered (reverse os) cs []) none in
    let sum : gathered_total (reverse f.stack.items) f.sums.tally.total (Exactly 0) ≡ plus f.sums.tally.total (Exactly 0) = ap (λ (os : List Open). gathered_total (reverse os) f.sums.tally.total (Exactly 0)) none in
    let tells = tells_joined f.ways.items cs [] f.sums.tally.total (Exactly 0) all [] h.told.counts (tells_none f.ways.items) in
    let whole = subst (λ (xs : List SearchLeaf). TellsCounts f.ways.items (added cs []) (plus f.sums.tally.total (Exactly 0)) xs) (append-nil all) tells in
    let told = subst (λ (c : Count). TellsCounts f.ways.items (added cs []) c all) (sym (total ∙ sum)) whole in
    let none_more = length-append all [] in
    told_runs (s.limit - s.base) s.root o all [] f.ways.items (added cs []) (sym (append-nil all)) h.ways_are told leaves
    (counts ∙ (λ j. is j ++ replicate (length f.ways.items - length (is j)) (Exactly 0)))
    (more ∙ sym (le-ltb (length all) (length (all ++ [])) (omega (arith, none_more))))

-- ---- the firsts of some leaves are some of them

each_filtered : {A : Type 0} (P : A → Type 0) (q : A → Bool) (xs : List A) → AllByRecursion P xs → AllByRecursion P (filter q xs)
each_filtered P q [] h = tt
each_filtered P q (x ∷ xs) h = one (q x) (each_filtered P q xs h.1)
  where
    one : (b : Bool) → AllByRecursion P (filter q xs) → AllByRecursion P (cond b (x ∷ filter q xs) (filter q xs))
    one true more = (h.0, more)
    one false more = more

pub each_first : (P : SearchLeaf → Type 0) (ls : List SearchLeaf) → AllByRecursion P ls → AllByRecursion P (firsts ls)
each_first P [] h = tt
each_first P (l ∷ ls) h = (h.0, each_filtered P _ (firsts ls) (each_first P ls h.1))

-- each first has a run, and each deadlock a witness
pub witnessed : (d : Standing) (fuel : ℕ) (o : Outcomes) → ((v : World) → CanFollow v (wide_decision v)) → IsReached d → TellsRuns fuel d.world o
    → AllByRecursion (HasWitness wide_decision d.trail.program d.trail.mode (done_steps d.trail) fuel d.world) o.firsts.leaves.items
witnessed d fuel o law reached t =
    let items : List SearchLeaf = take t.runs (leaves_from fuel d.world) in
    let all =
    awake_witnessed wide_decision step_eq sleeps_on false [] d.trail.program d.trail.mode (done_steps d.trail) fuel t.runs d.world items law reached.world (ap (λ rs. take t.runs (map shown rs)) (sym (no_wide_sleeps fuel d.world)))
    in
    subst (λ (ls : List SearchLeaf). AllByRecursion (HasWitness wide_decision d.trail.program d.trail.mode (done_steps d.trail) fuel d.world) ls) (sym t.firsts_are)
    (each_first (HasWitness wide_decision d.trail.program d.trail.mode (done_steps d.trail) fuel d.world) items all)

-- ---- a debugger that is put back

pub safe_deep : (base : ℕ) (d m : Standing) → IsReached d → Safe base d m → base ≡ d.trail.depth → base ≤ m.trail.depth
safe_deep base d m reached h at =
    let a = ap (λ (l : List Step). length l) h.below in
    let l = length-take base (done_steps m.trail) in
    let r = length-take base (done_steps d.trail) in
    let x = length-done_steps m h.reached in
    let y = length-done_steps d reached in
    omega (arith, a, l, r, x, y, at)

trail_back : (base : ℕ) (d m e : Standing) → IsReached d → length d.trail.steps ≡ d.trail.depth → Safe base d m → base ≡ d.trail.depth → e.trail ≡ forgotten (gone_back m.trail base) → e.trail ≡ d.trail
trail_back base d m e reached clean h at is =
    as_found d.trail m.trail e.trail clean (let deep = safe_deep base d m reached h at in omega (arith, deep, at)) h.program h.mode (subst (λ (n : ℕ). take n (done_steps m.trail) ≡ take n (done_steps d.trail)) at h.below)
    (is ∙ ap (λ (n : ℕ). forgotten (gone_back m.trail n)) at)

pub all_back : (base : ℕ) (d m e : Standing) → IsReached d → IsReached e → length d.trail.steps ≡ d.trail.depth → Safe base d m → base ≡ d.trail.depth → e.trail ≡ forgotten (gone_back m.trail base) → AsFound d e
all_back base d m e reached back clean h at is =
    let same : e.trail ≡ d.trail = trail_back base d m e reached clean h at is in
    record { trail = same; world = world_found d e reached back same; reached = back }
