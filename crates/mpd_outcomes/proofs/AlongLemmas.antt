-- How many states stand along the leaves that a search has come to.
use Rattle.std.proofs.Common.{◌≡◌, ℕ, zero, suc, ◌<◌, ◌≤◌, ◌+◌, ◌-◌, Bool, true, false, List, [], ◌∷◌, ◌++◌, map, length, replicate, reverse, take, ℤ, Vec, Option, refl, sym, ap, subst, ◌∙◌, arith}
use Rattle.std.specs.Prelude.{Result, Ok, Err, IfOk, OnOk}
use Rattle.std.proofs.lemmas.List.{length-append, length-map, length-take}
use Rattle.mpd_model.specs.declared.step.Step.{Step}
use Rattle.mpd_model.specs.steps.World.{World}
use Rattle.mpd_model.specs.runs.Decisions.{CanFollow}
use Rattle.mpd_model.specs.runs.Trail.{Standing, done_steps}
use Rattle.mpd_policy.specs.Wide.{wide_decision}
use Rattle.mpd_explore.specs.declared.report.SearchLeaf.{SearchLeaf}
use Rattle.mpd_explore.proofs.ListLemmas.{reverse_pushed}
use Rattle.mpd_explore.proofs.SearchLemmas.{Went}
use Rattle.mpd_outcomes.specs.declared.search.Open.{Open}
use Rattle.mpd_outcomes.specs.declared.search.Front.{Front}
use Rattle.std.specs.declared.alloc.Global.{Global}
use Rattle.mpd_outcomes.specs.Outcomes.{leaves_from}
use Rattle.mpd_outcomes.specs.declared.report.Count.TheVariants.{Exactly}
use Rattle.mpd_outcomes.specs.declared.report.Goal.{Goal}
use Rattle.mpd_outcomes.specs.declared.report.Outcomes.{Outcomes}
use Rattle.mpd_outcomes.specs.declared.search.Reach.{Reach}
use Rattle.mpd_outcomes.specs.Gathered.{gathered, gathered_total}
use Rattle.mpd_outcomes.specs.Goals.{states_along, StopsAt, StopsRuns}
use Rattle.mpd_outcomes.specs.Front.{Search, put, picked, At, Opened, Turned, before, come_to, come_now, open_in, states_now, states_met, Grows, Stopped, WentOn}
use Rattle.mpd_outcomes.proofs.FrontLemmas.{come_is}
use Rattle.mpd_outcomes.proofs.WalkLemmas.{some_leaves}
use Rattle.mpd_outcomes.proofs.StackLemmas.{left_over, opened_come}
use Rattle.mpd_core.proofs.RangeLemmas.{if_ok}
use Rattle.mpd_model.specs.runs.Trail.{Trail}
use Rattle.mpd_policy.specs.Walks.{Beyond}
use Rattle.mpd_outcomes.specs.declared.search.Arrived.{Arrived}
use Rattle.mpd_outcomes.specs.declared.search.Bounds.{Bounds}
use Rattle.mpd_outcomes.specs.Front.{search_of, BeforeIn, Down}
use Rattle.mpd_outcomes.proofs.MoveLemmas.{gone_down, down_come, same_search}
use Rattle.mpd_outcomes.proofs.GatherLemmas.{stopped_tells}
use Rattle.mpd_outcomes.proofs.GoalLemmas.{grown_then}
use Rattle.mpd_policy.specs.Walk.{wide_walk}
use Rattle.mpd_explore.specs.Report.{shown}

-- ---- of leaves

pub along_joined : (xs ys : List SearchLeaf) → states_along (xs ++ ys) ≡ states_along xs + states_along ys
along_joined [] ys = omega arith
along_joined (x ∷ xs) ys = let more = along_joined xs ys in omega (arith, more)

picked_length : (fs : List Open) → length (picked fs) ≡ length fs
picked_length [] = refl
picked_length (f ∷ fs) =
    let long = length-append (picked fs) (f.index ∷ []) in
    let more = picked_length fs in
    omega (arith, long, more)

-- the first of some leaves with choices before them
first_put : (cs : List ℕ) (ls : List SearchLeaf) (n : ℕ) → 0 < length ls → length cs < states_along (take (suc n) (map (put cs) ls))
first_put cs [] n some = absurd (omega (arith, some))
first_put cs (l ∷ ls) n some = let long = length-append cs l.choices in omega (arith, long)

put_some : (cs : List ℕ) (ls : List SearchLeaf) → 0 < length ls → length cs < states_along (map (put cs) ls)
put_some cs [] some = absurd (omega (arith, some))
put_some cs (l ∷ ls) some = let long = length-append cs l.choices in omega (arith, long)

-- ---- where a search stands

pub now_least : (s : Search) (b : Bool) (g : Front) (e : Standing) → states_along (come_now s b g e) ≤ states_now s b g e
now_least s true g e = omega arith
now_least s false g e = omega arith

-- along the leaves of where it stands there is one state more than at the open choices
pub come_more : (s : Search) (fs : List Open) (d : Standing) → ((v : World) → CanFollow v (wide_decision v)) → At s fs d
    → states_along (before s fs (done_steps d.trail)) + length fs < states_along (come_to s fs (done_steps d.trail))
come_more s fs d law at =
    let path = done_steps d.trail in
    let here = leaves_from (s.limit - d.trail.depth) d.world in
    let is = ap states_along (come_is s fs path d.trail.depth d.world at.stands) in
    let parts = along_joined (before s fs path) (map (put (picked fs)) here) in
    let more = put_some (picked fs) here (some_leaves law (s.limit - d.trail.depth) d.world) in
    let many = picked_length fs in
    omega (arith, is, parts, more, many)

-- those leaves are told
pub told_states : (s : Search) (f g : Front) (d : Standing) → ((v : World) → CanFollow v (wide_decision v)) → At s (open_in f) d → g.stack.items ≡ f.stack.items → states_now s true f d < states_met s false g d
told_states s f g d law at stack =
    subst (λ (os : List Open). states_now s true f d < states_along (come_to s (reverse os) (done_steps d.trail))) (sym stack) (come_more s (open_in f) d law at)

-- or a choice is opened
pub opened_states : (s : Search) (f g : Front) (d e : Standing) (key : Option (Vec ℤ Global)) (depth : ℕ) (candidates : List Step) (a : Step) → At s (open_in f) d → depth ≡ d.trail.depth → Opened depth candidates key f g → Went d a e
    → states_now s true f d < states_now s true g e
opened_states s f g d e key depth candidates a at here o went =
    let opened : Open = o.stack.0 in
    let is = o.stack.2 in
    let order : open_in g ≡ opened ∷ open_in f = reverse_pushed f.stack.items g.stack.items opened o.stack.1 in
    let come : before s (open_in g) (done_steps e.trail) ≡ before s (open_in f) (done_steps d.trail) =
    ap (λ (fs : List Open). before s fs (done_steps e.trail)) order ∙ opened_come s opened (open_in f) d e a at (ap (λ (z : Open). z.depth) is ∙ here) (ap (λ (z : Open). z.index) is) went
    in
    let along = ap states_along come in
    let many = ap (λ (fs : List Open). length fs) order in
    omega (arith, along, many)

-- ---- a search goes on

-- from leaves that are told
pub advanced : {E : Type 0} (r : Result Bool E) (s : Search) (f mid g : Front) (d m e : Standing) → states_now s true f d < states_along (come_to s (open_in mid) (done_steps m.trail))
    → Grows f.ways.items mid.ways.items (before s (open_in f) (done_steps d.trail)) (come_to s (open_in mid) (done_steps m.trail))
    → IfOk r (λ b. Turned s b g e) → OnOk r (g.ways.items ≡ mid.ways.items) → IfOk r (λ b. come_now s b g e ≡ come_to s (open_in mid) (done_steps m.trail))
    → IfOk r (λ b. WentOn s f d b g e)
advanced (Ok b) s f mid g d m e more grows turned ways come =
    let along = ap states_along come in
    let least = now_least s b g e in
    record {
      turned = turned;
      grows = grown_then f.ways.items mid.ways.items g.ways.items (before s (open_in f) (done_steps d.trail)) (come_to s (open_in mid) (done_steps m.trail)) (come_now s b g e) grows ways come;
      states = omega (arith, more, along, least);
    }
advanced (Err fault) s f mid g d m e more grows turned ways come = tt

-- from below, where as many leaves were come to
pub went_from : (s : Search) (f : Front) (d e : Standing) (b : Bool) (g : Front) (n : Standing) → before s (open_in f) (done_steps e.trail) ≡ before s (open_in f) (done_steps d.trail) → WentOn s f e b g n → WentOn s f d b g n
went_from s f d e b g n same w = record {
  turned = w.turned;
  grows = subst (λ (ls : List SearchLeaf). Grows f.ways.items g.ways.items ls (come_now s b g n)) same w.grows;
  states = subst (λ (ls : List SearchLeaf). states_along ls + length (open_in f) < states_now s b g n) same w.states;
}

pub went_down : {E : Type 0} (r : Result Bool E) (b : Bounds) (t : Trail) (root : World) (f : Front) (d e : Standing) (a : Arrived) (g : Front) (n : Standing) → BeforeIn (search_of b t root) f d → Down b.limit d a e → Beyond d e
    → (BeforeIn (search_of b e.trail root) f e → IfOk r (λ x. WentOn (search_of b e.trail root) f e x g n)) → IfOk r (λ x. WentOn (search_of b t root) f d x g n)
went_down r b t root f d e a g n h down beyond from =
    let s : Search = search_of b t root in
    let here : BeforeIn s f e = gone_down s (open_in f) f.ways.items f.sums f.table d e h beyond down.same down.deeper down.within in
    let same = same_search b t root (open_in f) e here.at in
    if_ok r (λ x. went_from s f d e x g n (down_come s (open_in f) d e h.at beyond)) (subst (λ (z : Search). IfOk r (λ x. WentOn z f e x g n)) same (from (subst (λ (z : Search). BeforeIn z f e) (sym same) here)))

-- ---- what is told of it

-- no more states than stand along the leaves that were come to and the next one
pub along_next : (visited : ℕ) (cs : List ℕ) (all ls here rest : List SearchLeaf) → 0 < length here → all ≡ ls ++ (map (put cs) here ++ rest) → visited ≤ states_along ls + length cs → visited ≤ states_along (take (suc (length ls)) all)
along_next visited cs all ls [] rest some whole few = absurd (omega (arith, some))
along_next visited cs all ls (l ∷ here) rest some whole few =
    let next : List SearchLeaf = put cs l ∷ [] in
    let more : List SearchLeaf = map (put cs) here ++ rest in
    let is : take (suc (length ls)) all ≡ ls ++ next = ap (take (suc (length ls))) whole ∙ seam ls (put cs l) more in
    let along = ap states_along is in
    let parts = along_joined ls next in
    let long = length-append cs l.choices in
    omega (arith, along, parts, long, few)
  where
    seam : (xs : List SearchLeaf) (x : SearchLeaf) (ys : List SearchLeaf) → take (suc (length xs)) (xs ++ x ∷ ys) ≡ xs ++ x ∷ []
    seam [] x ys = refl
    seam (y ∷ xs) x ys = ap (λ (zs : List SearchLeaf). y ∷ zs) (seam xs x ys)

-- one leaf more
along_more : (n : ℕ) (ls : List SearchLeaf) → states_along (take n ls) ≤ states_along (take (suc n) ls)
along_more zero ls = omega arith
along_more (suc n) [] = omega arith
along_more (suc n) (l ∷ ls) = let more = along_more n ls in omega (arith, more)

few_along : (s : Search) (f : Front) (d : Standing) (more : Bool) (visited runs : ℕ) → ((v : World) → CanFollow v (wide_decision v)) → Turned s more f d → runs ≤ length (leaves_from (s.limit - s.base) s.root)
    → take runs (leaves_from (s.limit - s.base) s.root) ≡ come_now s more f d → visited ≤ states_now s more f d → visited ≤ states_along (take (suc runs) (leaves_from (s.limit - s.base) s.root))
few_along s f d true visited runs law h within come few =
    let all = leaves_from (s.limit - s.base) s.root in
    let fs = open_in f in
    let ls = before s fs (done_steps d.trail) in
    let left = left_over s fs (done_steps d.trail) d.trail.depth d.world h.at.stands in
    let as_many = ap (λ (xs : List SearchLeaf). length xs) come in
    let cut = length-take runs all in
    let many = picked_length fs in
    let is : runs ≡ length ls = omega (arith, within, as_many, cut) in
    subst (λ (n : ℕ). visited ≤ states_along (take (suc n) all)) (sym is)
    (along_next visited (picked fs) all ls (leaves_from (s.limit - d.trail.depth) d.world) left.0 (some_leaves law (s.limit - d.trail.depth) d.world) left.1 (omega (arith, few, many)))
few_along s f d false visited runs law h within come few =
    let along = ap states_along come in
    let more = along_more runs (leaves_from (s.limit - s.base) s.root) in
    omega (arith, along, more, few)

pub stopped_runs : (s : Search) (until : Option Goal) (f : Front) (d : Standing) (reach : Reach) (o : Outcomes) → ((v : World) → CanFollow v (wide_decision v)) → Stopped s until reach f d → o.firsts.leaves.items ≡ f.ways.items → o.firsts.more ≡ reach.more
    → o.counts.items ≡ gathered (reverse f.stack.items) f.sums.tally.counts.items [] ++ replicate (length f.ways.items - length (gathered (reverse f.stack.items) f.sums.tally.counts.items [])) (Exactly 0)
    → o.total ≡ gathered_total (reverse f.stack.items) f.sums.tally.total (Exactly 0) → o.visited ≡ reach.visited → StopsRuns until (s.limit - s.base) s.root o
stopped_runs s until f d reach o law h leaves more counts total visited =
    let told = stopped_tells s f d reach.more o law h.turned leaves more counts total in
    let long = length-map (wide_walk (s.limit - s.base) s.root) shown in
    let few = told.0.few in
    record {
      told = told.0;
      stops = subst (StopsAt until) (sym told.1) h.stops;
      few = subst (λ (n : ℕ). n ≤ states_along (take (suc told.0.runs) (leaves_from (s.limit - s.base) s.root))) (sym visited)
          (few_along s f d reach.more reach.visited told.0.runs law h.turned (omega (arith, few, long)) told.1 h.few);
    }
