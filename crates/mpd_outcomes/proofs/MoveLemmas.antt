-- Where a search stands after each of its moves.
use Rattle.std.proofs.Common.{◌≡◌, ℕ, suc, ◌<◌, ◌≤◌, ◌+◌, ◌-◌, ◌==◌, nat_le, max, Bool, true, false, cond, ◌&&◌, Some, List, [], ◌∷◌, ◌++◌, map, length, take, inl, inr, append-nil, append_assoc, refl, sym, ap, subst, ◌∙◌, arith}
use Rattle.std.specs.List.{list_all}
use Rattle.std.proofs.lemmas.Bool.{and_parts, or_cases, eqb-true, leb-true}
use Rattle.std.proofs.lemmas.List.{take-append-le}
use Rattle.mpd_model.specs.declared.step.Step.{Step}
use Rattle.mpd_model.specs.declared.decision.Decision.TheVariants.{Forced}
use Rattle.mpd_model.specs.steps.World.{World, start}
use Rattle.mpd_model.specs.steps.Next.{next, fold}
use Rattle.mpd_model.specs.runs.Trail.{Trail, Standing, IsReached, done_steps}
use Rattle.mpd_policy.specs.Wide.{wide_decision}
use Rattle.mpd_policy.specs.declared.ending.Ending.{Ending}
use Rattle.mpd_policy.specs.Walks.{Beyond}
use Rattle.mpd_policy.proofs.WalkLemmas.{length-done_steps}
use Rattle.mpd_explore.specs.declared.report.SearchLeaf.{SearchLeaf}
use Rattle.mpd_explore.specs.Report.{shown}
use Rattle.mpd_outcomes.specs.Height.{height}
use Rattle.mpd_outcomes.specs.StateLaws.{IsRunTo}
use Rattle.mpd_outcomes.proofs.Heights.{enough_for}
use Rattle.mpd_outcomes.specs.declared.report.Count.{Count}
use Rattle.mpd_outcomes.specs.declared.table.Found.{Found}
use Rattle.mpd_outcomes.specs.declared.table.Table.{Table}
use Rattle.mpd_outcomes.specs.declared.sums.Tally.{Tally}
use Rattle.mpd_outcomes.specs.declared.sums.Sums.{Sums}
use Rattle.mpd_outcomes.specs.declared.search.Bounds.{Bounds}
use Rattle.mpd_outcomes.specs.declared.search.Open.{Open}
use Rattle.mpd_explore.specs.Ends.{firsts, has_end}
use Rattle.mpd_outcomes.specs.Outcomes.{plus, leaves_from}
use Rattle.mpd_outcomes.specs.Sums.{added, Tells, TellsCounts}
use Rattle.mpd_outcomes.specs.Table.{serves}
use Rattle.mpd_outcomes.specs.Front.{Search, search_of, put, picked, SameRuns, IsOpen, Stands, TellsAt, AllTold, tried_at, before, IsFound, IsTrueTable, At, Before, After, come_to, only_leaf, ways_with}
use Rattle.mpd_explore.proofs.FirstLemmas.{firsts_known, firsts_new, firsts_ends, firsts_apart, AllApart}
use Rattle.mpd_outcomes.proofs.WalkLemmas.{leaves_forced, height_forced}
use Rattle.mpd_outcomes.proofs.FrontLemmas.{come_is, told_after, told_grown, table_grown}

-- ---- of a debugger

at_length : (s : Search) (fs : List Open) (d : Standing) → At s fs d → length (done_steps d.trail) ≡ d.trail.depth
at_length s fs d at = length-done_steps d at.reached

-- its steps lead there
leads_there : (s : Search) (fs : List Open) (d : Standing) → At s fs d → fold (start s.program s.mode) (done_steps d.trail) ≡ Some d.world
leads_there s fs d at = (λ j. fold (start (sym at.program j) (sym at.mode j)) (done_steps d.trail)) ∙ at.reached.world

pub run_to : (s : Search) (fs : List Open) (d : Standing) → At s fs d → IsRunTo s.program s.mode d.world
run_to s fs d at = (done_steps d.trail, leads_there s fs d at)

-- a search stands for the debugger that it has
pub same_search : (b : Bounds) (t : Trail) (root : World) (fs : List Open) (e : Standing) → At (search_of b t root) fs e → search_of b e.trail root ≡ search_of b t root
same_search b t root fs e at = λ j. record { program = at.program j; mode = at.mode j; root = root; base = b.base; limit = b.limit }

-- ---- a longer path

runs_then : (limit l m n : ℕ) (u v w : World) → SameRuns limit l u m v → SameRuns limit m v n w → SameRuns limit l u n w
runs_then limit l m n u v w h k = record { leaves = h.leaves ∙ k.leaves; deepest = h.deepest ∙ k.deepest }

opened_on : (s : Search) (f : Open) (w : World) (m n : ℕ) (u v : World) → SameRuns s.limit m u n v → m ≤ n → IsOpen s f w m u → IsOpen s f w n v
opened_on s f w m n u v same le h = record {
  choice = h.choice;
  key = h.key;
  above = (let lt = h.above in omega (arith, lt, le));
  fuel = h.fuel;
  step = h.step;
  taken = h.taken;
  world = h.world;
  leads = h.leads;
  same = runs_then s.limit (suc f.depth) m n h.world u v h.same same;
}

take_on : (n : ℕ) (path more : List Step) → n < length path → take n (path ++ more) ≡ take n path
take_on n path more lt = take-append-le n path more (omega (arith, lt))

stands_on : (s : Search) (fs : List Open) (path more : List Step) (m n : ℕ) (u v : World) → length path ≡ m → SameRuns s.limit m u n v → m ≤ n → Stands s fs path m u → Stands s fs (path ++ more) n v
stands_on s [] path more m n u v long same le h = ((let low = h.0 in omega (arith, low, le)), runs_then s.limit s.base m n s.root u v h.1 same)
stands_on s (f ∷ fs) path more m n u v long same le h =
    let e : take f.depth (path ++ more) ≡ take f.depth path = take_on f.depth path more (let lt = h.2.above in omega (arith, lt, long)) in
    (h.0, ap (fold (start s.program s.mode)) e ∙ h.1, opened_on s f h.0 m n u v same le h.2, subst (λ (p : List Step). Stands s fs p f.depth h.0) (sym e) h.3)

before_on : (s : Search) (fs : List Open) (path more : List Step) (m : ℕ) (u : World) → length path ≡ m → Stands s fs path m u → before s fs (path ++ more) ≡ before s fs path
before_on s [] path more m u long h = refl
before_on s (f ∷ fs) path more m u long h =
    ap (λ (p : List Step). before s fs p ++ map (put (picked fs)) (tried_at s f (fold (start s.program s.mode) p))) (take_on f.depth path more (let lt = h.2.above in omega (arith, lt, long)))

told_on : (s : Search) (ways : List SearchLeaf) (fs : List Open) (path more : List Step) (m : ℕ) (u : World) (sums : Sums) → length path ≡ m → Stands s fs path m u → AllTold s ways fs path sums → AllTold s ways fs (path ++ more) sums
told_on s ways [] path more m u sums long h told = told
told_on s ways (f ∷ fs) path more m u sums long h told =
    subst (λ (p : List Step). TellsAt s ways f (fold (start s.program s.mode) p) sums × AllTold s ways fs p f.outer) (sym (take_on f.depth path more (let lt = h.2.above in omega (arith, lt, long)))) told

-- one forced step of the way down
pub one_down : (limit : ℕ) (b d e : Standing) (a : Step) → SameRuns limit b.trail.depth b.world d.trail.depth d.world → d.trail.depth < limit → wide_decision d.world ≡ Forced a → next d.world a ≡ Some e.world
    → e.trail.depth ≡ d.trail.depth + 1 → SameRuns limit b.trail.depth b.world e.trail.depth e.world
one_down limit b d e a h room forced step deep =
    let n : ℕ = limit - suc d.trail.depth in
    let here : limit - d.trail.depth ≡ suc n = omega (arith, room) in
    let there : n ≡ limit - e.trail.depth = omega (arith, deep) in
    record {
      leaves = h.leaves ∙ ap (λ (k : ℕ). leaves_from k d.world) here ∙ leaves_forced n d.world e.world a forced step ∙ ap (λ (k : ℕ). leaves_from k e.world) there;
      deepest = (
          let one = height_forced n d.world e.world a forced step in
          let was = h.deepest in
          let left = ap (λ (k : ℕ). height k d.world) here in
          let right = ap (λ (k : ℕ). height k e.world) there in
          omega (arith, one, was, left, right, deep)
          );
    }

pub on_beyond : (b d e : Standing) (a : Step) → Beyond b d → done_steps e.trail ≡ done_steps d.trail ++ a ∷ [] → e.trail.program ≡ d.trail.program → e.trail.mode ≡ d.trail.mode → IsReached e → Beyond b e
on_beyond b d e a h steps program mode reached = record {
  program = program ∙ h.program;
  mode = mode ∙ h.mode;
  reached = reached;
  path = h.path ++ a ∷ [];
  done_steps_are = steps ∙ ap (λ (p : List Step). p ++ a ∷ []) h.done_steps_are ∙ append_assoc (done_steps b.trail) h.path (a ∷ []);
}

-- on the way down no leaf is come to
pub down_come : (s : Search) (fs : List Open) (d e : Standing) → At s fs d → Beyond d e → before s fs (done_steps e.trail) ≡ before s fs (done_steps d.trail)
down_come s fs d e at beyond = ap (before s fs) beyond.done_steps_are ∙ before_on s fs (done_steps d.trail) beyond.path d.trail.depth d.world (at_length s fs d at) at.stands

-- the way down
pub gone_down : (s : Search) (fs : List Open) (ways : List SearchLeaf) (sums : Sums) (t : Table) (d e : Standing) → Before s fs ways sums t d → Beyond d e
    → SameRuns s.limit d.trail.depth d.world e.trail.depth e.world → d.trail.depth ≤ e.trail.depth → e.trail.depth ≤ s.limit → Before s fs ways sums t e
gone_down s fs ways sums t d e h beyond same le within =
    let at = h.at in
    let long = at_length s fs d at in
    let path = done_steps d.trail in
    record {
      at = record {
        program = beyond.program ∙ at.program;
        mode = beyond.mode ∙ at.mode;
        reached = beyond.reached;
        within = within;
        stands = subst (λ (p : List Step). Stands s fs p e.trail.depth e.world) (sym beyond.done_steps_are)
            (stands_on s fs path beyond.path d.trail.depth e.trail.depth d.world e.world long same le at.stands);
      };
      ways_are = h.ways_are ∙ ap firsts (sym (down_come s fs d e at beyond));
      told = subst (λ (p : List Step). AllTold s ways fs p sums) (sym beyond.done_steps_are) (told_on s ways fs path beyond.path d.trail.depth d.world sums long at.stands h.told);
      table = h.table;
    }

-- ---- a state whose runs are told

within_before : (s : Search) (fs : List Open) (path : List Step) (ways ls : List SearchLeaf) → ways ≡ firsts (before s fs path) → list_all (λ (m : SearchLeaf). has_end ways m.ending) ls ≡ true
    → list_all (λ (m : SearchLeaf). has_end (before s fs path) m.ending) ls ≡ true
within_before s fs path ways ls is h =
    (λ j. list_all (λ (m : SearchLeaf). sym (ap (λ (ws : List SearchLeaf). has_end ws m.ending) is ∙ firsts_ends (before s fs path) m.ending) j) ls) ∙ h

within_put : (ws : List SearchLeaf) (cs : List ℕ) (ls : List SearchLeaf) → list_all (λ (m : SearchLeaf). has_end ws m.ending) (map (put cs) ls) ≡ list_all (λ (m : SearchLeaf). has_end ws m.ending) ls
within_put ws cs [] = refl
within_put ws cs (l ∷ ls) = ap (λ (b : Bool). has_end ws l.ending && b) (within_put ws cs ls)

-- by what was found of its key
pub found_after : (s : Search) (fs : List Open) (ways : List SearchLeaf) (sums new : Sums) (t : Table) (d : Standing) (tally : Tally) (deep : ℕ) → Before s fs ways sums t d
    → Tells ways tally (leaves_from (s.limit - d.trail.depth) d.world) → deep ≡ d.trail.depth + height (s.limit - d.trail.depth) d.world
    → new.tally.counts.items ≡ added sums.tally.counts.items tally.counts.items → new.tally.total ≡ plus sums.tally.total tally.total → new.deepest ≡ max sums.deepest deep
    → After s fs ways new t d
found_after s fs ways sums new t d tally deep h tells at counts total deepest =
    let path = done_steps d.trail in
    let here = leaves_from (s.limit - d.trail.depth) d.world in
    record {
      at = h.at;
      ways_are = h.ways_are
          ∙ sym (ap firsts (come_is s fs path d.trail.depth d.world h.at.stands)
          ∙ firsts_known (before s fs path) (map (put (picked fs)) here) (within_put (before s fs path) (picked fs) here ∙ within_before s fs path ways here h.ways_are tells.within));
      told = told_after s ways fs path d.trail.depth d.world sums new tally.counts.items tally.total deep h.at.stands h.told tells at counts total deepest;
      table = h.table;
    }

-- what is kept serves
pub serves_here : (s : Search) (ways : List SearchLeaf) (found : Found) (w : World) (fuel : ℕ) → IsFound s ways found w → serves found fuel ≡ true → Tells ways found.tally (leaves_from fuel w) × (found.height ≡ height fuel w)
serves_here s ways found w fuel h e =
    elim (or_cases ((found.fuel == fuel) && nat_le found.height (fuel + 1)) (nat_le found.height found.fuel && nat_le found.height fuel) e) [
      | inl same ↦
          let is : found.fuel ≡ fuel = eqb-true found.fuel fuel (and_parts (found.fuel == fuel) (nat_le found.height (fuel + 1)) same).0 in
          (subst (λ (n : ℕ). Tells ways found.tally (leaves_from n w)) is h.counts, h.height_is ∙ ap (λ (n : ℕ). height n w) is)
      | inr low ↦
          let parts = and_parts (nat_le found.height found.fuel) (nat_le found.height fuel) low in
          let under : found.height ≤ found.fuel = leb-true found.height found.fuel parts.0 in
          let enough : found.height ≤ fuel = leb-true found.height fuel parts.1 in
          let at = h.height_is in
          let more = enough_for found.fuel fuel w (omega (arith, under, at)) (omega (arith, enough, at)) in
          (subst (λ (ls : List SearchLeaf). Tells ways found.tally ls) (sym (ap (map shown) more.0)) h.counts, h.height_is ∙ sym more.1)
    ]

pub serves_low : (found : Found) (fuel : ℕ) → serves found fuel ≡ true → found.height ≤ fuel + 1
serves_low found fuel e =
    elim (or_cases ((found.fuel == fuel) && nat_le found.height (fuel + 1)) (nat_le found.height found.fuel && nat_le found.height fuel) e) [
      | inl same ↦ leb-true found.height (fuel + 1) (and_parts (found.fuel == fuel) (nat_le found.height (fuel + 1)) same).1
      | inr low ↦ let enough : found.height ≤ fuel = leb-true found.height fuel (and_parts (nat_le found.height found.fuel) (nat_le found.height fuel) low).1 in omega (arith, enough)
    ]

-- ---- the end of a run

ways_by : (ways : List SearchLeaf) (cs : List ℕ) (e : Ending) (b : Bool) → has_end ways e ≡ b → ways_with ways cs e ≡ cond b ways (ways ++ record { choices = cs; ending = e } ∷ [])
ways_by ways cs e b is = ap (λ (t : Bool). cond t ways (ways ++ record { choices = cs; ending = e } ∷ [])) is

pub known_ways : (ways : List SearchLeaf) (cs : List ℕ) (e : Ending) → has_end ways e ≡ true → ways ≡ ways_with ways cs e
known_ways ways cs e is = sym (ways_by ways cs e true is)

-- the leaf of a run that ends there
pub end_come : (s : Search) (fs : List Open) (d : Standing) (ending : Ending) → At s fs d → leaves_from (s.limit - d.trail.depth) d.world ≡ only_leaf ending ∷ []
    → come_to s fs (done_steps d.trail) ≡ before s fs (done_steps d.trail) ++ record { choices = picked fs; ending = ending } ∷ []
end_come s fs d ending at only =
    let path = done_steps d.trail in
    let leaf : SearchLeaf = record { choices = picked fs; ending = ending } in
    let put_leaf : map (put (picked fs)) (only_leaf ending ∷ []) ≡ leaf ∷ [] = λ j. record { choices = append-nil (picked fs) j; ending = ending } ∷ [] in
    come_is s fs path d.trail.depth d.world at.stands ∙ ap (λ (ls : List SearchLeaf). before s fs path ++ map (put (picked fs)) ls) only ∙ ap (λ (ls : List SearchLeaf). before s fs path ++ ls) put_leaf

pub end_after : (s : Search) (fs : List Open) (ways new_ways : List SearchLeaf) (sums new : Sums) (t : Table) (d : Standing) (ending : Ending) (deep : ℕ) (ones : List Count) (one : Count) → Before s fs ways sums t d
    → leaves_from (s.limit - d.trail.depth) d.world ≡ only_leaf ending ∷ [] → deep ≡ d.trail.depth + height (s.limit - d.trail.depth) d.world
    → new_ways ≡ ways_with ways (picked fs) ending → ((AllApart new_ways) → TellsCounts new_ways ones one (only_leaf ending ∷ []))
    → new.tally.counts.items ≡ added sums.tally.counts.items ones → new.tally.total ≡ plus sums.tally.total one → new.deepest ≡ max sums.deepest deep
    → After s fs new_ways new t d
end_after s fs ways new_ways sums new t d ending deep ones one h only at ways_are tells counts total deepest = by_end (has_end ways ending) refl
  where
    path : List Step
    path = done_steps d.trail

    leaf : SearchLeaf
    leaf = record { choices = picked fs; ending = ending }

    known_is : has_end (before s fs path) ending ≡ has_end ways ending
    known_is = sym (ap (λ (ws : List SearchLeaf). has_end ws ending) h.ways_are ∙ firsts_ends (before s fs path) ending)

    come : come_to s fs path ≡ before s fs path ++ leaf ∷ []
    come = end_come s fs d ending h.at only

    after_with : (ws : List SearchLeaf) → AllTold s ws fs path sums → IsTrueTable s ws t → TellsCounts ws ones one (only_leaf ending ∷ []) → ws ≡ firsts (come_to s fs path) → After s fs ws new t d
    after_with ws told table told_one are = record {
      at = h.at;
      ways_are = are;
      told = told_after s ws fs path d.trail.depth d.world sums new ones one deep h.at.stands told (subst (λ (ls : List SearchLeaf). TellsCounts ws ones one ls) (sym only) told_one) at counts total deepest;
      table = table;
    }

    apart_of : (ws : List SearchLeaf) → ws ≡ firsts (come_to s fs path) → AllApart ws
    apart_of ws are = subst AllApart (sym are) (firsts_apart (come_to s fs path))

    by_end : (b : Bool) → has_end ways ending ≡ b → After s fs new_ways new t d
    by_end true is =
        let ws : new_ways ≡ ways = ways_are ∙ ways_by ways (picked fs) ending true is in
        let are : new_ways ≡ firsts (come_to s fs path) = ws ∙ h.ways_are ∙ sym (ap firsts come ∙ firsts_known (before s fs path) (leaf ∷ []) (λ j. (known_is ∙ is) j && true)) in
        after_with new_ways (subst (λ (x : List SearchLeaf). AllTold s x fs path sums) (sym ws) h.told) (subst (λ (x : List SearchLeaf). IsTrueTable s x t) (sym ws) h.table) (tells (apart_of new_ways are)) are
    by_end false is =
        let ws : new_ways ≡ ways ++ leaf ∷ [] = ways_are ∙ ways_by ways (picked fs) ending false is in
        let are : new_ways ≡ firsts (come_to s fs path) = ws ∙ ap (λ (x : List SearchLeaf). x ++ leaf ∷ []) h.ways_are ∙ sym (ap firsts come ∙ firsts_new (before s fs path) leaf (known_is ∙ is)) in
        after_with new_ways (subst (λ (x : List SearchLeaf). AllTold s x fs path sums) (sym ws) (told_grown s ways leaf is fs path sums h.told))
        (subst (λ (x : List SearchLeaf). IsTrueTable s x t) (sym ws) (table_grown s ways leaf is t h.table)) (tells (apart_of new_ways are)) are
