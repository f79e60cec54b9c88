-- Choices that are opened, gone on at, and closed; the beginning of a search and its end.
use Rattle.std.proofs.Common.{◌≡◌, ℕ, ℤ, Vec, zero, suc, ◌<◌, ◌≤◌, ◌+◌, ◌-◌, max, true, Option, Some, None, List, [], ◌∷◌, ◌++◌, map, length, take, drop, slice_get, inl, inr, append-nil, append_assoc, refl, sym, ap, subst, ◌∙◌, arith, IfSome}
use Rattle.std.proofs.lemmas.List.{take-append-le}
use Rattle.std.proofs.lemmas.Option.{slice_get_within}
use Rattle.std.proofs.Math.Seq.{take-append_seam}
use Rattle.std.specs.declared.alloc.Global.{Global}
use Rattle.mpd_laws.proofs.buffered.SlotsHeld.{mode_stays}
use Rattle.mpd_model.specs.declared.step.Step.{Step}
use Rattle.mpd_model.specs.declared.decision.Decision.TheVariants.{Choice}
use Rattle.mpd_model.specs.steps.World.{World, start}
use Rattle.mpd_model.specs.steps.Next.{fold}
use Rattle.mpd_model.specs.runs.Trail.{Standing, IsReached, done_steps}
use Rattle.mpd_policy.specs.Wide.{wide_decision}
use Rattle.mpd_explore.specs.declared.report.SearchLeaf.{SearchLeaf}
use Rattle.mpd_explore.specs.Search.{Safe}
use Rattle.mpd_explore.proofs.SearchLemmas.{Went, Came}
use Rattle.mpd_outcomes.specs.Height.{height, highest}
use Rattle.mpd_outcomes.specs.StateLaws.{IsRunTo}
use Rattle.mpd_outcomes.proofs.Laws.{one_walk}
use Rattle.mpd_policy.specs.Walks.{Beyond}
use Rattle.mpd_policy.proofs.WalkLemmas.{length-done_steps}
use Rattle.mpd_explore.specs.Report.{shown}
use Rattle.mpd_outcomes.specs.declared.report.Count.{Count}
use Rattle.mpd_outcomes.specs.declared.report.Count.TheVariants.{Exactly}
use Rattle.mpd_outcomes.specs.declared.table.Found.{Found}
use Rattle.mpd_outcomes.specs.declared.table.Table.{Table}
use Rattle.mpd_outcomes.specs.declared.sums.Tally.{Tally}
use Rattle.mpd_outcomes.specs.declared.sums.Sums.{Sums}
use Rattle.mpd_outcomes.specs.declared.search.Open.{Open}
use Rattle.mpd_explore.specs.Ends.{firsts}
use Rattle.mpd_outcomes.specs.Outcomes.{plus, leaves_from}
use Rattle.mpd_outcomes.specs.Sums.{added, Tells, TellsCounts}
use Rattle.mpd_outcomes.specs.Table.{found_at, key_eq, KeepsAPart, KeepsLess}
use Rattle.mpd_outcomes.specs.Keys.{IsKey}
use Rattle.mpd_outcomes.specs.Front.{Search, put, picked, leaves_by, tried, next_one, SameRuns, IsOpen, Stands, TellsTried, TellsAt, AllTold, tried_at, before, IsFound, IsTrueTable, KeptBy, At, Before, After, come_to, AllToldAfter}
use Rattle.mpd_outcomes.proofs.TellLemmas.{tells_none, all_taken as taken_all}
use Rattle.mpd_outcomes.proofs.FrontLemmas.{put_none, put_joined, leaves_at, height_at, come_is, told_after}
use Rattle.mpd_outcomes.proofs.KeyLemmas.{one_key_one_future}
use Rattle.mpd_outcomes.proofs.WalkLemmas.{by_parts}
use Rattle.std.proofs.lemmas.Slice.Eq.{slice_eq-Decides}
use Rattle.std.proofs.lemmas.Bool.Decides.{Decides-int_eq}

-- ---- of a debugger

at_length : (s : Search) (fs : List Open) (d : Standing) → At s fs d → length (done_steps d.trail) ≡ d.trail.depth
at_length s fs d at = length-done_steps d at.reached

leads_there : (s : Search) (fs : List Open) (d : Standing) → At s fs d → fold (start s.program s.mode) (done_steps d.trail) ≡ Some d.world
leads_there s fs d at = (λ j. fold (start (sym at.program j) (sym at.mode j)) (done_steps d.trail)) ∙ at.reached.world

-- the open choices stand above the base
base_within : (s : Search) (fs : List Open) (path : List Step) (depth : ℕ) (v : World) → Stands s fs path depth v → s.base ≤ depth
base_within s [] path depth v h = h.0
base_within s (f ∷ fs) path depth v h = let low = base_within s fs (take f.depth path) f.depth h.0 h.3 in let lt = h.2.above in omega (arith, low, lt)

take_lower : (m n : ℕ) (xs : List Step) → m ≤ n → take m (take n xs) ≡ take m xs
take_lower zero n xs h = refl
take_lower (suc m) zero xs h = absurd (omega (arith, h))
take_lower (suc m) (suc n) [] h = refl
take_lower (suc m) (suc n) (x ∷ xs) h = ap (λ ys. x ∷ ys) (take_lower m n xs (omega (arith, h)))

pub safe_went : (s : Search) (fs : List Open) (d e : Standing) (a : Step) → At s fs d → Went d a e → Safe s.base d e
safe_went s fs d e a at went =
    let low = base_within s fs (done_steps d.trail) d.trail.depth d.world at.stands in
    let long = at_length s fs d at in
    record { program = went.program; mode = went.mode; reached = went.reached; below = ap (take s.base) went.done_steps_are ∙ take-append-le s.base (done_steps d.trail) (a ∷ []) (omega (arith, low, long)) }

pub safe_came : (s : Search) (f : Open) (fs : List Open) (d e : Standing) → At s (f ∷ fs) d → Came d f.depth e → Safe s.base d e
safe_came s f fs d e at came =
    let low = base_within s fs (take f.depth (done_steps d.trail)) f.depth at.stands.0 at.stands.3 in
    record { program = came.program; mode = came.mode; reached = came.reached; below = ap (take s.base) came.done_steps_are ∙ take_lower s.base f.depth (done_steps d.trail) low }

pub safe_down : (s : Search) (fs : List Open) (d e : Standing) → At s fs d → Beyond d e → Safe s.base d e
safe_down s fs d e at beyond =
    let low = base_within s fs (done_steps d.trail) d.trail.depth d.world at.stands in
    let long = at_length s fs d at in
    record { program = beyond.program; mode = beyond.mode; reached = beyond.reached; below = ap (take s.base) beyond.done_steps_are ∙ take-append-le s.base (done_steps d.trail) beyond.path (omega (arith, low, long)) }

pub low_enough : (s : Search) (f : Open) (fs : List Open) (d : Standing) → At s (f ∷ fs) d → f.depth ≤ d.trail.depth
low_enough s f fs d at = let lt = at.stands.2.above in omega (arith, lt)

-- ---- a choice is opened

-- a search goes on from a state by a candidate of an open choice that stands there
at_candidate : (s : Search) (f : Open) (fs : List Open) (d e : Standing) (a : Step) → At s fs d → f.depth ≡ d.trail.depth → wide_decision d.world ≡ Choice f.candidates → IfSome f.key (λ k. IsKey s.program d.world k.items)
    → d.trail.depth < s.limit → slice_get f.candidates f.index ≡ Some a → Went d a e → At s (f ∷ fs) e
at_candidate s f fs d e a at here choice key room taken went =
    let long = at_length s fs d at in
    let path = done_steps d.trail in
    let cut : take f.depth (path ++ a ∷ []) ≡ path = ap (λ (n : ℕ). take n (path ++ a ∷ [])) (here ∙ sym long) ∙ take-append_seam path (a ∷ []) in
    record {
      program = went.program ∙ at.program;
      mode = went.mode ∙ at.mode;
      reached = went.reached;
      within = (let deep = went.depth in omega (arith, deep, room));
      stands = subst (λ (p : List Step). Stands s (f ∷ fs) p e.trail.depth e.world) (sym went.done_steps_are) (
        d.world,
        ap (fold (start s.program s.mode)) cut ∙ leads_there s fs d at,
        record {
          choice = choice;
          key = key;
          above = (let deep = went.depth in omega (arith, deep, here));
          fuel = (let r = room in omega (arith, r, here));
          step = a;
          taken = taken;
          world = e.world;
          leads = went.world;
          same = subst (λ (n : ℕ). SameRuns s.limit (suc f.depth) e.world n e.world) (let deep = went.depth in omega (arith, deep, here)) (record { leaves = refl; deepest = refl });
        },
        subst (λ (p : List Step). Stands s fs p f.depth d.world) (sym cut) (subst (λ (n : ℕ). Stands s fs path n d.world) (sym here) at.stands),
      );
    }

path_cut : (d e : Standing) (f : Open) (a : Step) → length (done_steps d.trail) ≡ d.trail.depth → f.depth ≡ d.trail.depth → Went d a e → take f.depth (done_steps e.trail) ≡ done_steps d.trail
path_cut d e f a long here went =
    ap (take f.depth) went.done_steps_are ∙ ap (λ (n : ℕ). take n (done_steps d.trail ++ a ∷ [])) (here ∙ sym long) ∙ take-append_seam (done_steps d.trail) (a ∷ [])

-- nothing is tried at it yet
nothing_tried : (s : Search) (f : Open) (w : World) → f.index ≡ 0 → tried s w f ≡ []
nothing_tried s f w first = ap (λ (n : ℕ). leaves_by (s.limit - suc f.depth) w 0 (take n f.candidates)) first

pub opened_come : (s : Search) (f : Open) (fs : List Open) (d e : Standing) (a : Step) → At s fs d → f.depth ≡ d.trail.depth → f.index ≡ 0 → Went d a e → before s (f ∷ fs) (done_steps e.trail) ≡ before s fs (done_steps d.trail)
opened_come s f fs d e a at here first went =
    let cut = path_cut d e f a (at_length s fs d at) here went in
    let there : fold (start s.program s.mode) (take f.depth (done_steps e.trail)) ≡ Some d.world = ap (fold (start s.program s.mode)) cut ∙ leads_there s fs d at in
    (λ j. before s fs (cut j) ++ map (put (picked fs)) (tried_at s f (there j)))
    ∙ ap (λ (ls : List SearchLeaf). before s fs (done_steps d.trail) ++ map (put (picked fs)) ls) (nothing_tried s f d.world first)
    ∙ append-nil (before s fs (done_steps d.trail))

-- at its first candidate
pub opened_before : (s : Search) (f : Open) (fs : List Open) (ways : List SearchLeaf) (sums new : Sums) (t : Table) (d e : Standing) (a : Step) → Before s fs ways sums t d → f.depth ≡ d.trail.depth → f.index ≡ 0 → f.outer ≡ sums
    → wide_decision d.world ≡ Choice f.candidates → IfSome f.key (λ k. IsKey s.program d.world k.items) → d.trail.depth < s.limit → slice_get f.candidates 0 ≡ Some a → Went d a e
    → new.tally.counts.items ≡ [] → new.tally.total ≡ Exactly 0 → new.deepest ≡ suc d.trail.depth → Before s (f ∷ fs) ways new t e
opened_before s f fs ways sums new t d e a h here first outer choice key room taken went counts total deepest =
    let at = h.at in
    let cut = path_cut d e f a (at_length s fs d at) here went in
    let there : fold (start s.program s.mode) (take f.depth (done_steps e.trail)) ≡ Some d.world = ap (fold (start s.program s.mode)) cut ∙ leads_there s fs d at in
    record {
      at = at_candidate s f fs d e a at here choice key room (ap (slice_get f.candidates) first ∙ taken) went;
      ways_are = h.ways_are ∙ sym (ap firsts (opened_come s f fs d e a at here first went));
      told = (
        subst (λ (o : Option World). TellsAt s ways f o new) (sym there) (record {
          counts = subst (λ (ls : List SearchLeaf). Tells ways new.tally ls) (sym (nothing_tried s f d.world first))
              (subst (λ (cs : List Count). TellsCounts ways cs new.tally.total []) (sym counts) (subst (λ (c : Count). TellsCounts ways [] c []) (sym total) (tells_none ways)));
          deepest = (let none = ap (λ (n : ℕ). highest (height (s.limit - suc f.depth)) d.world (take n f.candidates)) first in omega (arith, deepest, here, none));
        }),
        subst (λ (p : List Step). AllTold s ways fs p f.outer) (sym cut) (subst (AllTold s ways fs (done_steps d.trail)) (sym outer) h.told),
      );
      table = h.table;
    }

-- ---- back at an open choice

-- the debugger stands where it is
pub back_world : (s : Search) (f : Open) (fs : List Open) (d e : Standing) → (at : At s (f ∷ fs) d) → Came d f.depth e → e.world ≡ at.stands.0
back_world s f fs d e at came =
    let leads : fold (start s.program s.mode) (take f.depth (done_steps d.trail)) ≡ Some e.world =
    ap (fold (start s.program s.mode)) (sym came.done_steps_are) ∙ (λ j. fold (start (sym (came.program ∙ at.program) j) (sym (came.mode ∙ at.mode) j)) (done_steps e.trail)) ∙ came.reached.world
    in
    let both : Some e.world ≡ Some at.stands.0 = sym leads ∙ at.stands.1 in
    cc

pub back_at : (s : Search) (f : Open) (fs : List Open) (d e : Standing) → (at : At s (f ∷ fs) d) → Came d f.depth e → At s fs e
back_at s f fs d e at came = record {
  program = came.program ∙ at.program;
  mode = came.mode ∙ at.mode;
  reached = came.reached;
  within = (let deep = came.depth in let room = at.stands.2.fuel in omega (arith, deep, room));
  stands = subst (λ (p : List Step). Stands s fs p e.trail.depth e.world) (sym came.done_steps_are)
      (subst (λ (n : ℕ). Stands s fs (take f.depth (done_steps d.trail)) n e.world) (sym came.depth)
      (subst (λ (w : World). Stands s fs (take f.depth (done_steps d.trail)) f.depth w) (sym (back_world s f fs d e at came)) at.stands.3));
}

pub choice_back : (s : Search) (f : Open) (fs : List Open) (d e : Standing) → (at : At s (f ∷ fs) d) → Came d f.depth e → wide_decision e.world ≡ Choice f.candidates
choice_back s f fs d e at came = ap wide_decision (back_world s f fs d e at came) ∙ at.stands.2.choice

-- the leaves that were come to are the same where the next candidate is taken
pub next_come : (s : Search) (f : Open) (fs : List Open) (d e k : Standing) (a : Step) → At s (f ∷ fs) d → Came d f.depth e → Went e a k → before s (next_one f ∷ fs) (done_steps k.trail) ≡ come_to s (f ∷ fs) (done_steps d.trail)
next_come s f fs d e k a at came went =
    let cut : take f.depth (done_steps k.trail) ≡ take f.depth (done_steps d.trail) = path_cut e k f a (at_length s fs e (back_at s f fs d e at came)) (sym came.depth) went ∙ came.done_steps_are in
    λ j. before s fs (cut j) ++ map (put (picked fs)) (tried_at s (next_one f) (fold (start s.program s.mode) (cut j)))

-- the next candidate is taken
pub next_before : (s : Search) (f g : Open) (fs : List Open) (ways : List SearchLeaf) (sums : Sums) (t : Table) (d e k : Standing) (a : Step) → (h : After s (f ∷ fs) ways sums t d) → Came d f.depth e → g ≡ next_one f
    → slice_get f.candidates (suc f.index) ≡ Some a → Went e a k → Before s (g ∷ fs) ways sums t k
next_before s f g fs ways sums t d e k a h came is taken went =
    let at = h.at in
    let e_at = back_at s f fs d e at came in
    let same = back_world s f fs d e at came in
    let o = at.stands.2 in
    let cut : take f.depth (done_steps k.trail) ≡ take f.depth (done_steps d.trail) = path_cut e k f a (at_length s fs e e_at) (sym came.depth) went ∙ came.done_steps_are in
    subst (λ (z : Open). Before s (z ∷ fs) ways sums t k) (sym is) (record {
      at = at_candidate s (next_one f) fs e k a e_at (sym came.depth) (ap wide_decision same ∙ o.choice) (subst (λ (w : World). IfSome f.key (λ k. IsKey s.program w k.items)) (sym same) o.key)
          (let deep = came.depth in let room = o.fuel in omega (arith, deep, room)) taken went;
      ways_are = h.ways_are ∙ ap firsts (sym (next_come s f fs d e k a at came went));
      told = subst (λ (p : List Step). TellsAt s ways (next_one f) (fold (start s.program s.mode) p) sums × AllTold s ways fs p f.outer) (sym cut) h.told;
      table = h.table;
    })

-- ---- a choice is closed

module _ (s : Search) (f : Open) (fs : List Open) (ways : List SearchLeaf) (sums : Sums) (t : Table) (d : Standing) (h : After s (f ∷ fs) ways sums t d) (last : length f.candidates ≤ suc f.index) where
  abbrev pub closed_world : World
  closed_world = h.at.stands.0

  pub is_open : IsOpen s f closed_world d.trail.depth d.world
  is_open = h.at.stands.2

  all_taken : take (suc f.index) f.candidates ≡ f.candidates
  all_taken = taken_all f.candidates (suc f.index) last

  told_here : TellsTried s ways (next_one f) closed_world sums
  told_here = subst (λ (o : Option World). TellsAt s ways (next_one f) o sums) h.at.stands.1 h.told.0

  -- all runs from there are told
  pub closed_tells : Tells ways sums.tally (leaves_from (s.limit - f.depth) closed_world)
  closed_tells =
      subst (λ (ls : List SearchLeaf). Tells ways sums.tally ls) (ap (λ (cs : List Step). leaves_by (s.limit - suc f.depth) closed_world 0 cs) all_taken ∙ sym (leaves_at s closed_world f.candidates f.depth is_open.fuel is_open.choice)) told_here.counts

  pub closed_deep : sums.deepest ≡ f.depth + height (s.limit - f.depth) closed_world
  closed_deep =
      let deep = told_here.deepest in
      let all = ap (highest (height (s.limit - suc f.depth)) closed_world) all_taken in
      let high = height_at s closed_world f.candidates f.depth is_open.fuel is_open.choice in
      omega (arith, deep, all, high)

  -- what is kept of it is true of each state of its key
  pub closed_found : (k : Vec ℤ Global) → f.key ≡ Some k → (found : Found) → found.fuel ≡ s.limit - f.depth → found.height ≡ sums.deepest - f.depth → found.tally ≡ sums.tally → (v : World) → IsRunTo s.program s.mode v → IsKey s.program v k.items → IsFound s ways found v
  closed_found k k_is found fuel_is height_is tally_is v run key =
      let w_run : IsRunTo s.program s.mode closed_world = (take f.depth (done_steps d.trail), h.at.stands.1) in
      let future = one_key_one_future s.program closed_world v (mode_stays s.program s.mode w_run.0 closed_world w_run.1 ∙ sym (mode_stays s.program s.mode run.0 v run.1)) k.items (subst (λ (o : Option (Vec ℤ Global)). IfSome o (λ q. IsKey s.program closed_world q.items)) k_is is_open.key) key in
      let one = one_walk s.program s.mode closed_world v w_run run future (s.limit - f.depth) in
      let deep = closed_deep in
      record {
        counts = subst (λ (ls : List SearchLeaf). Tells ways found.tally ls) (ap (map shown) one.walk_same ∙ ap (λ (n : ℕ). leaves_from n v) (sym fuel_is)) (subst (λ (y : Tally). Tells ways y (leaves_from (s.limit - f.depth) closed_world)) (sym tally_is) closed_tells);
        height_is = height_is ∙ (omega (arith, deep)) ∙ one.height_same ∙ ap (λ (n : ℕ). height n v) (sym fuel_is);
      }

  -- closing it comes to no other leaf
  pub closed_come : (e : Standing) → Came d f.depth e → come_to s (f ∷ fs) (done_steps d.trail) ≡ come_to s fs (done_steps e.trail)
  closed_come e came =
      let path = take f.depth (done_steps d.trail) in
      ap (λ (o : Option World). before s fs path ++ map (put (picked fs)) (tried_at s (next_one f) o)) h.at.stands.1
      ∙ ap (λ (cs : List Step). before s fs path ++ map (put (picked fs)) (leaves_by (s.limit - suc f.depth) closed_world 0 cs)) all_taken
      ∙ ap (λ (ls : List SearchLeaf). before s fs path ++ map (put (picked fs)) ls) (sym (leaves_at s closed_world f.candidates f.depth is_open.fuel is_open.choice))
      ∙ sym (come_is s fs path f.depth closed_world h.at.stands.3)
      ∙ ap (come_to s fs) (sym came.done_steps_are)

  -- after it is closed the runs of the choice round it are told with these
  pub closed_after : (new : Sums) (u : Table) (e : Standing) → Came d f.depth e
      → new.tally.counts.items ≡ added f.outer.tally.counts.items sums.tally.counts.items → new.tally.total ≡ plus f.outer.tally.total sums.tally.total → new.deepest ≡ max f.outer.deepest sums.deepest
      → IsTrueTable s ways u → After s fs ways new u e
  closed_after new u e came counts total deepest table =
      let path = take f.depth (done_steps d.trail) in
      let e_at = back_at s f fs d e h.at came in
      let told = told_after s ways fs path f.depth closed_world f.outer new sums.tally.counts.items sums.tally.total sums.deepest h.at.stands.3 h.told.1 closed_tells closed_deep counts total deepest in
      record {
        at = e_at;
        ways_are = h.ways_are ∙ ap firsts (closed_come e came);
        told = subst (λ (p : List Step). AllToldAfter s ways fs p new) (sym came.done_steps_are) told;
        table = table;
      }

  -- its depth is within the fuel, and none of its runs ends above it
  pub closed_above : f.depth ≤ s.limit
  closed_above = let room = is_open.fuel in omega (arith, room)

  pub closed_below : f.depth ≤ sums.deepest
  closed_below = let deep = closed_deep in omega (arith, deep)

-- what is kept, and what was found now
pub table_kept : (s : Search) (ways : List SearchLeaf) (t u : Table) (key : Vec ℤ Global) (found : Found) → IsTrueTable s ways t → ((v : World) → IsRunTo s.program s.mode v → IsKey s.program v key.items → IsFound s ways found v)
    → KeepsAPart t key found u → IsTrueTable s ways u
table_kept s ways t u key found old new kept = λ q f at v run is.
    elim (kept q f at) [
      | inl there ↦ old q f there v run is
      | inr now ↦ subst (λ (x : Found). IsFound s ways x v) (sym now.1) (new v run (subst (λ (ks : List ℤ). IsKey s.program v ks) (sym (items_same key q now.0)) is))
    ]
  where
    items_same : (k q : Vec ℤ Global) → key_eq k q ≡ true → k.items ≡ q.items
    items_same k q e = (slice_eq-Decides Decides-int_eq k.items q.items (key_eq k q) refl).0 e

-- where there is a key
pub table_kept_by : (s : Search) (ways : List SearchLeaf) (t u : Table) (key : Option (Vec ℤ Global)) (found : Found) → IsTrueTable s ways t → ((k : Vec ℤ Global) → key ≡ Some k → (v : World) → IsRunTo s.program s.mode v → IsKey s.program v k.items → IsFound s ways found v)
    → KeptBy t key found u → IsTrueTable s ways u
table_kept_by s ways t u None found old new kept = subst (IsTrueTable s ways) (sym kept) old
table_kept_by s ways t u (Some key) found old new kept = table_kept s ways t u key found old (new key refl) kept

-- a table that keeps less
pub less_before : (s : Search) (fs : List Open) (ways : List SearchLeaf) (sums : Sums) (t u : Table) (d : Standing) → KeepsLess t u → Before s fs ways sums t d → Before s fs ways sums u d
less_before s fs ways sums t u d less h = record { at = h.at; ways_are = h.ways_are; told = h.told; table = λ key found at. h.table key found (less key found at) }

-- ---- the beginning

pub begun : (s : Search) (ways : List SearchLeaf) (sums : Sums) (t : Table) (d : Standing) → d.trail.program ≡ s.program → d.trail.mode ≡ s.mode → IsReached d → d.world ≡ s.root → s.base ≡ d.trail.depth → d.trail.depth ≤ s.limit
    → ways ≡ [] → sums.tally.counts.items ≡ [] → sums.tally.total ≡ Exactly 0 → ((key : Vec ℤ Global) → found_at t key ≡ None) → Before s [] ways sums t d
begun s ways sums t d program mode reached world base within none counts total empty = record {
  at = record {
    program = program;
    mode = mode;
    reached = reached;
    within = within;
    stands = (omega (arith, base), subst (λ (n : ℕ). SameRuns s.limit s.base s.root n d.world) base (subst (λ (w : World). SameRuns s.limit s.base s.root s.base w) (sym world) (record { leaves = refl; deepest = refl })));
  };
  ways_are = none;
  told = subst (λ (cs : List Count). TellsCounts ways cs sums.tally.total []) (sym counts) (subst (λ (c : Count). TellsCounts ways [] c []) (sym total) (tells_none ways));
  table = λ key found at. absurd (clash (sym (empty key) ∙ at));
}
  where
    clash : {A : Type 0} {x : A} → None ≡ Some x → ⊥
    clash e = cc

-- ---- what is left

pub left_over : (s : Search) (fs : List Open) (path : List Step) (depth : ℕ) (v : World) → Stands s fs path depth v
    → (rest : List SearchLeaf) × (leaves_from (s.limit - s.base) s.root ≡ before s fs path ++ (map (put (picked fs)) (leaves_from (s.limit - depth) v) ++ rest))
left_over s [] path depth v h = ([], h.1.leaves ∙ sym (append-nil (map (put []) (leaves_from (s.limit - depth) v)) ∙ put_none (leaves_from (s.limit - depth) v)))
left_over s (f ∷ fs) path depth v h =
    let w = h.0 in
    let o = h.2 in
    let up = left_over s fs (take f.depth path) f.depth w h.3 in
    let others = leaves_by (s.limit - suc f.depth) w (suc f.index) (drop (suc f.index) f.candidates) in
    let whole : leaves_from (s.limit - f.depth) w ≡ tried s w (next_one f) ++ others =
    leaves_at s w f.candidates f.depth o.fuel o.choice ∙ by_parts (s.limit - suc f.depth) w (suc f.index) f.candidates (let lt = slice_get_within f.candidates f.index o.step o.taken in omega (arith, lt))
    in (
      map (put (picked fs)) others ++ up.0,
      up.1
          ∙ ap (λ (ls : List SearchLeaf). before s fs (take f.depth path) ++ (map (put (picked fs)) ls ++ up.0)) whole
          ∙ ap (λ (ls : List SearchLeaf). before s fs (take f.depth path) ++ (ls ++ up.0)) (put_joined (picked fs) (tried s w (next_one f)) others)
          ∙ ap (λ (ls : List SearchLeaf). before s fs (take f.depth path) ++ ls) (append_assoc (map (put (picked fs)) (tried s w (next_one f))) (map (put (picked fs)) others) up.0)
          ∙ sym (append_assoc (before s fs (take f.depth path)) (map (put (picked fs)) (tried s w (next_one f))) (map (put (picked fs)) others ++ up.0))
          ∙ ap (λ (o : Option World). (before s fs (take f.depth path) ++ map (put (picked fs)) (tried_at s (next_one f) o)) ++ (map (put (picked fs)) others ++ up.0)) (sym h.1)
          ∙ ap (λ (ls : List SearchLeaf). ls ++ (map (put (picked fs)) others ++ up.0)) (come_is s (f ∷ fs) path depth v h)
          ∙ append_assoc (before s (f ∷ fs) path) (map (put (picked (f ∷ fs))) (leaves_from (s.limit - depth) v)) (map (put (picked fs)) others ++ up.0),
    )
