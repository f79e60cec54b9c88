-- What is told of a front where a function answers.
use Rattle.std.proofs.Common.{◌≡◌, ℕ, ℤ, Vec, ◌-◌, ◌<◌, ◌+◌, suc, true, List, [], ◌∷◌, ◌++◌, length, reverse, take, slice_get, Some, IsSome, sym, ap, subst, ◌∙◌, arith, Option, IfSome}
use Rattle.std.specs.List.{All}
use Rattle.std.proofs.lemmas.Option.{slice_get_within, get_or_from_slice_get}
use Rattle.mpd_model.specs.declared.step.Step.{Step}
use Rattle.mpd_model.specs.declared.decision.Decision.TheVariants.{Choice}
use Rattle.mpd_model.specs.steps.World.{World}
use Rattle.mpd_model.specs.steps.Next.{next}
use Rattle.mpd_model.specs.runs.Decisions.{CanFollow}
use Rattle.mpd_model.specs.runs.Trail.{Trail, Standing, IsReached, done_steps, gone_back, applied}
use Rattle.mpd_policy.specs.Wide.{wide_decision}
use Rattle.mpd_explore.specs.declared.report.SearchLeaf.{SearchLeaf}
use Rattle.mpd_explore.proofs.ListLemmas.{reverse_pushed}
use Rattle.mpd_explore.proofs.SearchLemmas.{Went, Came}
use Rattle.mpd_outcomes.specs.declared.table.Table.{Table}
use Rattle.mpd_outcomes.specs.declared.sums.Sums.{Sums}
use Rattle.mpd_outcomes.specs.declared.search.Open.{Open}
use Rattle.std.specs.declared.alloc.Global.{Global}
use Rattle.mpd_model.specs.script.Program.{Program}
use Rattle.mpd_policy.specs.declared.ending.Ending.{Ending}
use Rattle.mpd_outcomes.specs.Height.{height}
use Rattle.mpd_outcomes.specs.declared.report.Count.TheVariants.{Exactly}
use Rattle.mpd_outcomes.specs.declared.table.Found.{Found}
use Rattle.mpd_outcomes.specs.declared.search.Front.{Front}
use Rattle.mpd_outcomes.specs.Outcomes.{leaves_from}
use Rattle.mpd_outcomes.specs.Table.{serves}
use Rattle.mpd_outcomes.specs.Keys.{IsKey}
use Rattle.mpd_outcomes.specs.Front.{Search, come_to, before, picked, Before, After, BeforeIn, AfterIn, open_in, only_leaf, beyond_end, Recalled, Opened, Noted}
use Rattle.mpd_outcomes.proofs.MoveLemmas.{run_to, end_come, serves_here, found_after, end_after}
use Rattle.mpd_outcomes.specs.Sums.{one_at}
use Rattle.mpd_outcomes.proofs.TellLemmas.{tells_one}
use Rattle.mpd_outcomes.proofs.StackLemmas.{opened_before}

-- the innermost open choice is taken off
pub popped_after : (s : Search) (rest all : List Open) (top : Open) (ways : List SearchLeaf) (sums : Sums) (t : Table) (d : Standing) → all ≡ rest ++ top ∷ [] → After s (reverse all) ways sums t d → After s (top ∷ reverse rest) ways sums t d
popped_after s rest all top ways sums t d items h = subst (λ (fs : List Open). After s fs ways sums t d) (reverse_pushed rest all top items) h

pub popped_come : (s : Search) (rest all : List Open) (top : Open) (path : List Step) → all ≡ rest ++ top ∷ [] → come_to s (top ∷ reverse rest) path ≡ come_to s (reverse all) path
popped_come s rest all top path items = ap (λ (fs : List Open). come_to s fs path) (sym (reverse_pushed rest all top items))

-- and put on
pub pushed_before : (s : Search) (rest all : List Open) (top : Open) (ways : List SearchLeaf) (sums : Sums) (t : Table) (d : Standing) → all ≡ rest ++ top ∷ [] → Before s (top ∷ reverse rest) ways sums t d → Before s (reverse all) ways sums t d
pushed_before s rest all top ways sums t d items h = subst (λ (fs : List Open). Before s fs ways sums t d) (sym (reverse_pushed rest all top items)) h

-- a candidate of a choice is enabled
pub can_take : (w : World) (candidates : List Step) (i : ℕ) (a : Step) → CanFollow w (wide_decision w) → wide_decision w ≡ Choice candidates → slice_get candidates i ≡ Some a → IsSome (next w a)
can_take w candidates i a follow choice at =
    let all : All (λ (b : Step). IsSome (next w b)) candidates = (subst (CanFollow w) choice follow).1 in
    subst (λ (b : Step). IsSome (next w b)) (get_or_from_slice_get candidates i a a at) (all i a (slice_get_within candidates i a at))

-- there is a first one
pub some_candidate : (w : World) (candidates : List Step) → CanFollow w (wide_decision w) → wide_decision w ≡ Choice candidates → 0 < length candidates
some_candidate w candidates follow choice = (subst (CanFollow w) choice follow).0

pub came_back : (d e : Standing) (n : ℕ) → e.trail ≡ gone_back d.trail n → done_steps e.trail ≡ take n (done_steps d.trail) → IsReached e → Came d n e
came_back d e n trail steps reached = record {
  done_steps_are = steps;
  depth = ap (λ (t : Trail). t.depth) trail;
  program = ap (λ (t : Trail). t.program) trail;
  mode = ap (λ (t : Trail). t.mode) trail;
  reached = reached;
}

pub went_on : (d e : Standing) (a : Step) → e.trail ≡ applied d.trail a → done_steps e.trail ≡ done_steps d.trail ++ a ∷ [] → next d.world a ≡ Some e.world → e.trail.program ≡ d.trail.program → e.trail.mode ≡ d.trail.mode → IsReached e → Went d a e
went_on d e a trail steps world program mode reached = record { done_steps_are = steps; world = world; depth = ap (λ (t : Trail). t.depth) trail; program = program; mode = mode; reached = reached }

-- the runs of a state are told by what was found of its key
pub recalled_after : (s : Search) (f g : Front) (d : Standing) (key : Option (Vec ℤ Global)) (depth : ℕ) → BeforeIn s f d → depth ≡ d.trail.depth → IfSome key (λ k. IsKey d.trail.program d.world k.items) → Recalled key s.limit depth true f g → AfterIn s g d
recalled_after s f g d key depth h at key_is r =
    let k : Vec ℤ Global = r.0 in
    let found : Found = r.2 in
    let here : IsKey d.trail.program d.world k.items = subst (λ (o : Option (Vec ℤ Global)). IfSome o (λ q. IsKey d.trail.program d.world q.items)) r.1 key_is in
    let truth = h.table k found r.3 d.world (run_to s (open_in f) d h.at) (subst (λ (p : Program). IsKey p d.world k.items) h.at.program here) in
    let serves_is = serves_here s f.ways.items found d.world (s.limit - d.trail.depth) truth (ap (λ (n : ℕ). serves found (s.limit - n)) (sym at) ∙ r.4) in
    let joined = r.5 in
    let deep : depth + found.height ≡ d.trail.depth + height (s.limit - d.trail.depth) d.world = (let high = serves_is.1 in omega (arith, at, high)) in
    let after = found_after s (open_in f) f.ways.items f.sums g.sums f.table d found.tally (depth + found.height) h serves_is.0 deep joined.counts joined.total joined.deepest in
    subst (λ (t : Table). After s (open_in g) g.ways.items g.sums t d) (sym r.6)
    (subst (λ (os : List Open). After s os g.ways.items g.sums f.table d) (ap reverse (sym joined.stack)) (subst (λ (ws : List SearchLeaf). After s (open_in f) ws g.sums f.table d) (sym joined.ways_are) after))

-- a choice was opened, and its first candidate taken
pub opened_in : (s : Search) (f g : Front) (d e : Standing) (key : Option (Vec ℤ Global)) (depth : ℕ) (candidates : List Step) (a : Step) → BeforeIn s f d → depth ≡ d.trail.depth → IfSome key (λ k. IsKey d.trail.program d.world k.items)
    → wide_decision d.world ≡ Choice candidates → d.trail.depth < s.limit → slice_get candidates 0 ≡ Some a → Opened depth candidates key f g → Went d a e → BeforeIn s g e
opened_in s f g d e key depth candidates a h at key_is choice room first o went =
    let opened : Open = o.stack.0 in
    let is = o.stack.2 in
    let new =
    opened_before s opened (open_in f) f.ways.items f.sums g.sums f.table d e a h (ap (λ (z : Open). z.depth) is ∙ at) (ap (λ (z : Open). z.index) is) (ap (λ (z : Open). z.outer) is) (choice ∙ ap (λ (z : Open). Choice z.candidates) (sym is))
    (subst (λ (z : Open). IfSome z.key (λ k. IsKey s.program d.world k.items)) (sym is) (subst (λ (p : Program). IfSome key (λ k. IsKey p d.world k.items)) h.at.program key_is)) room (ap (λ (z : Open). slice_get z.candidates 0) is ∙ first) went o.counts o.total
    (o.deepest ∙ ap suc at)
    in
    subst (λ (t : Table). Before s (open_in g) g.ways.items g.sums t e) (sym o.table)
    (subst (λ (ws : List SearchLeaf). Before s (open_in g) ws g.sums f.table e) (sym o.ways_are) (pushed_before s f.stack.items g.stack.items opened f.ways.items g.sums f.table e o.stack.1 new))

-- the end of a run is told
pub noted_after : (s : Search) (f g : Front) (d : Standing) (ending : Ending) (depth : ℕ) → BeforeIn s f d → depth ≡ d.trail.depth → leaves_from (s.limit - d.trail.depth) d.world ≡ only_leaf ending ∷ []
    → height (s.limit - d.trail.depth) d.world ≡ beyond_end ending → Noted ending depth f g → AfterIn s g d
noted_after s f g d ending depth h at only high n =
    let deep : depth + beyond_end ending ≡ d.trail.depth + height (s.limit - d.trail.depth) d.world = omega (arith, at, high) in
    let after =
    end_after s (open_in f) f.ways.items g.ways.items f.sums g.sums f.table d ending (depth + beyond_end ending) (one_at n.number) (Exactly 1) h only deep n.ways_are
    (λ apart. tells_one g.ways.items apart (only_leaf ending) n.number n.way) n.counts n.total n.deepest
    in
    subst (λ (t : Table). After s (open_in g) g.ways.items g.sums t d) (sym n.table) (subst (λ (os : List Open). After s os g.ways.items g.sums f.table d) (ap reverse (sym n.stack)) after)

-- and its leaf is the last that was come to
pub noted_come : (s : Search) (f g : Front) (d : Standing) (ending : Ending) (depth : ℕ) → BeforeIn s f d → leaves_from (s.limit - d.trail.depth) d.world ≡ only_leaf ending ∷ [] → Noted ending depth f g
    → come_to s (open_in g) (done_steps d.trail) ≡ before s (open_in f) (done_steps d.trail) ++ record { choices = picked (open_in f); ending = ending } ∷ []
noted_come s f g d ending depth h only n = ap (λ (os : List Open). come_to s (reverse os) (done_steps d.trail)) n.stack ∙ end_come s (open_in f) d ending h.at only
