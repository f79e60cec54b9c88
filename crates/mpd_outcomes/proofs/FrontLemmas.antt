-- What each move of a search makes of the leaves that it has come to, and of what is told of them.
use Rattle.std.proofs.Common.{◌≡◌, ℕ, suc, ◌<◌, ◌+◌, ◌-◌, max, false, Option, Some, None, List, [], ◌∷◌, ◌++◌, map, take, append_assoc, refl, sym, ap, subst, ◌∙◌, arith}
use Rattle.mpd_model.specs.declared.step.Step.{Step}
use Rattle.mpd_model.specs.declared.decision.Decision.TheVariants.{Choice}
use Rattle.mpd_model.specs.steps.World.{World, start}
use Rattle.mpd_model.specs.steps.Next.{next, fold}
use Rattle.mpd_policy.specs.Wide.{wide_decision}
use Rattle.mpd_explore.specs.declared.report.SearchLeaf.{SearchLeaf}
use Rattle.mpd_outcomes.specs.Height.{height, height_of, highest}
use Rattle.mpd_outcomes.specs.declared.report.Count.{Count}
use Rattle.mpd_outcomes.specs.declared.table.Table.{Table}
use Rattle.mpd_outcomes.specs.declared.sums.Sums.{Sums}
use Rattle.mpd_outcomes.specs.declared.search.Open.{Open}
use Rattle.mpd_outcomes.specs.Outcomes.{plus, leaves_from}
use Rattle.mpd_explore.specs.Ends.{has_end}
use Rattle.mpd_outcomes.specs.Sums.{added, Tells, TellsCounts}
use Rattle.mpd_outcomes.specs.Front.{Search, put, picked, leaves_by, leaves_of, tried, next_one, IsOpen, Stands, TellsTried, TellsAt, AllTold, tried_at, before, IsTrueTable, come_to, AllToldAfter}
use Rattle.mpd_outcomes.proofs.TellLemmas.{tells_joined, tells_put, tells_grown}
use Rattle.mpd_outcomes.proofs.WalkLemmas.{leaves_choice, height_choice, tried_more, highest_more}

-- ---- leaves with choices before them

pub put_none : (ls : List SearchLeaf) → map (put []) ls ≡ ls
put_none [] = refl
put_none (l ∷ ls) = ap (λ (xs : List SearchLeaf). l ∷ xs) (put_none ls)

put_twice : (cs ds : List ℕ) (ls : List SearchLeaf) → map (put cs) (map (put ds) ls) ≡ map (put (cs ++ ds)) ls
put_twice cs ds [] = refl
put_twice cs ds (l ∷ ls) = λ j. record { choices = sym (append_assoc cs ds l.choices) j; ending = l.ending } ∷ put_twice cs ds ls j

pub put_joined : (cs : List ℕ) (xs ys : List SearchLeaf) → map (put cs) (xs ++ ys) ≡ map (put cs) xs ++ map (put cs) ys
put_joined cs [] ys = refl
put_joined cs (x ∷ xs) ys = ap (λ (l : List SearchLeaf). put cs x ∷ l) (put_joined cs xs ys)

fuel_left : (limit depth : ℕ) → depth < limit → limit - depth ≡ suc (limit - suc depth)
fuel_left limit depth room = omega (arith, room)

-- the leaves of a state at which a choice is open
pub leaves_at : (s : Search) (w : World) (candidates : List Step) (depth : ℕ) → depth < s.limit → wide_decision w ≡ Choice candidates → leaves_from (s.limit - depth) w ≡ leaves_by (s.limit - suc depth) w 0 candidates
leaves_at s w candidates depth room choice = ap (λ (n : ℕ). leaves_from n w) (fuel_left s.limit depth room) ∙ leaves_choice (s.limit - suc depth) w candidates choice

pub height_at : (s : Search) (w : World) (candidates : List Step) (depth : ℕ) → depth < s.limit → wide_decision w ≡ Choice candidates → height (s.limit - depth) w ≡ 1 + highest (height (s.limit - suc depth)) w candidates
height_at s w candidates depth room choice = ap (λ (n : ℕ). height n w) (fuel_left s.limit depth room) ∙ height_choice (s.limit - suc depth) w candidates choice

-- ---- the candidate that is taken

module _ (s : Search) (f : Open) (w : World) (depth : ℕ) (v : World) (h : IsOpen s f w depth v) where
  taken_leaves : leaves_of (s.limit - suc f.depth) (next w h.step) ≡ leaves_from (s.limit - depth) v
  taken_leaves = ap (leaves_of (s.limit - suc f.depth)) h.leads ∙ h.same.leaves

  -- one candidate more
  tried_too_is : tried s w (next_one f) ≡ tried s w f ++ map (put (f.index ∷ [])) (leaves_from (s.limit - depth) v)
  tried_too_is = tried_more (s.limit - suc f.depth) w f.index f.candidates h.step h.taken ∙ ap (λ (ls : List SearchLeaf). tried s w f ++ map (put (f.index ∷ [])) ls) taken_leaves

  deepest_too : suc f.depth + highest (height (s.limit - suc f.depth)) w (take (suc f.index) f.candidates)
      ≡ max (suc f.depth + highest (height (s.limit - suc f.depth)) w (take f.index f.candidates)) (depth + height (s.limit - depth) v)
  deepest_too =
      let more = highest_more (height (s.limit - suc f.depth)) w f.index f.candidates h.step h.taken in
      let there = ap (height_of (height (s.limit - suc f.depth))) h.leads in
      let same = h.same.deepest in
      omega (arith, more, there, same)

-- ---- the leaves that are come to with those from here

come_at : (s : Search) (f : Open) (fs : List Open) (path : List Step) (w : World) (depth : ℕ) (v : World) → fold (start s.program s.mode) (take f.depth path) ≡ Some w → IsOpen s f w depth v
    → come_to s (f ∷ fs) path ≡ before s (f ∷ fs) path ++ map (put (picked (f ∷ fs))) (leaves_from (s.limit - depth) v)
come_at s f fs path w depth v at h =
    ap (λ (o : Option World). before s fs (take f.depth path) ++ map (put (picked fs)) (tried_at s (next_one f) o)) at
    ∙ ap (λ (ls : List SearchLeaf). before s fs (take f.depth path) ++ map (put (picked fs)) ls) (tried_too_is s f w depth v h)
    ∙ ap (λ (ls : List SearchLeaf). before s fs (take f.depth path) ++ ls)
    (put_joined (picked fs) (tried s w f) (map (put (f.index ∷ [])) (leaves_from (s.limit - depth) v))
    ∙ ap (λ (ls : List SearchLeaf). map (put (picked fs)) (tried s w f) ++ ls) (put_twice (picked fs) (f.index ∷ []) (leaves_from (s.limit - depth) v)))
    ∙ sym (append_assoc (before s fs (take f.depth path)) (map (put (picked fs)) (tried s w f)) (map (put (picked (f ∷ fs))) (leaves_from (s.limit - depth) v)))
    ∙ ap (λ (o : Option World). (before s fs (take f.depth path) ++ map (put (picked fs)) (tried_at s f o)) ++ map (put (picked (f ∷ fs))) (leaves_from (s.limit - depth) v)) (sym at)

pub come_is : (s : Search) (fs : List Open) (path : List Step) (depth : ℕ) (v : World) → Stands s fs path depth v → come_to s fs path ≡ before s fs path ++ map (put (picked fs)) (leaves_from (s.limit - depth) v)
come_is s [] path depth v h = h.1.leaves ∙ sym (put_none (leaves_from (s.limit - depth) v))
come_is s (f ∷ fs) path depth v h = come_at s f fs path h.0 depth v h.1 h.2

-- ---- what is told with those from here

pub told_after : (s : Search) (ways : List SearchLeaf) (fs : List Open) (path : List Step) (depth : ℕ) (v : World) (sums new : Sums) (ts : List Count) (tc : Count) (deep : ℕ)
    → Stands s fs path depth v → AllTold s ways fs path sums → TellsCounts ways ts tc (leaves_from (s.limit - depth) v) → deep ≡ depth + height (s.limit - depth) v
    → new.tally.counts.items ≡ added sums.tally.counts.items ts → new.tally.total ≡ plus sums.tally.total tc → new.deepest ≡ max sums.deepest deep
    → AllToldAfter s ways fs path new
told_after s ways [] path depth v sums new ts tc deep h told tells at counts total deepest =
    record {
      counts = subst (λ (ls : List SearchLeaf). Tells ways new.tally ls) (sym h.1.leaves)
          (rewritten ways new.tally.counts.items _ new.tally.total _ (leaves_from (s.limit - depth) v) counts total
          (tells_joined ways sums.tally.counts.items ts sums.tally.total tc [] (leaves_from (s.limit - depth) v) told tells));
    }
  where
    rewritten : (ways : List SearchLeaf) (cs ds : List Count) (c d : Count) (ls : List SearchLeaf) → cs ≡ ds → c ≡ d → TellsCounts ways ds d ls → TellsCounts ways cs c ls
    rewritten ways cs ds c d ls e g k = subst (λ (x : List Count). TellsCounts ways x c ls) (sym e) (subst (λ (x : Count). TellsCounts ways ds x ls) (sym g) k)
told_after s ways (f ∷ fs) path depth v sums new ts tc deep h told tells at counts total deepest =
    let w = h.0 in
    let is = h.2 in
    let here : TellsTried s ways f w sums = subst (λ (o : Option World). TellsAt s ways f o sums) h.1 told.0 in
    let joined =
    tells_joined ways sums.tally.counts.items ts sums.tally.total tc (tried s w f) (map (put (f.index ∷ [])) (leaves_from (s.limit - depth) v)) here.counts
    (tells_put ways ts tc (f.index ∷ []) (leaves_from (s.limit - depth) v) tells)
    in (
      subst (λ (o : Option World). TellsAt s ways (next_one f) o new) (sym h.1) (record {
        counts = subst (λ (ls : List SearchLeaf). Tells ways new.tally ls) (sym (tried_too_is s f w depth v is))
            (rewritten new.tally.counts.items (added sums.tally.counts.items ts) new.tally.total (plus sums.tally.total tc) _ counts total joined);
        deepest = (let d = here.deepest in let more = deepest_too s f w depth v is in omega (arith, deepest, d, at, more));
      }),
      told.1,
    )
  where
    rewritten : (cs ds : List Count) (c d : Count) (ls : List SearchLeaf) → cs ≡ ds → c ≡ d → TellsCounts ways ds d ls → TellsCounts ways cs c ls
    rewritten cs ds c d ls e g k = subst (λ (x : List Count). TellsCounts ways x c ls) (sym e) (subst (λ (x : Count). TellsCounts ways ds x ls) (sym g) k)

-- ---- more ways

pub told_grown : (s : Search) (ways : List SearchLeaf) (leaf : SearchLeaf) → has_end ways leaf.ending ≡ false → (fs : List Open) (path : List Step) (sums : Sums) → AllTold s ways fs path sums → AllTold s (ways ++ leaf ∷ []) fs path sums
told_grown s ways leaf new [] path sums h = tells_grown ways sums.tally.counts.items sums.tally.total [] leaf new h
told_grown s ways leaf new (f ∷ fs) path sums h = (at (fold (start s.program s.mode) (take f.depth path)) h.0, told_grown s ways leaf new fs (take f.depth path) f.outer h.1)
  where
    at : (o : Option World) → TellsAt s ways f o sums → TellsAt s (ways ++ leaf ∷ []) f o sums
    at None k = k
    at (Some w) k = record { counts = tells_grown ways sums.tally.counts.items sums.tally.total (tried s w f) leaf new k.counts; deepest = k.deepest }

pub table_grown : (s : Search) (ways : List SearchLeaf) (leaf : SearchLeaf) → has_end ways leaf.ending ≡ false → (t : Table) → IsTrueTable s ways t → IsTrueTable s (ways ++ leaf ∷ []) t
table_grown s ways leaf new t h = λ key found at w run is.
    let k = h key found at w run is in
    record { counts = tells_grown ways found.tally.counts.items found.tally.total (leaves_from found.fuel w) leaf new k.counts; height_is = k.height_is }
