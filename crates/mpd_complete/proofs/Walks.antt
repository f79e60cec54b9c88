-- A quiet step is brought to the front of a run. What the runs of any walk have in common.
use Rattle.std.proofs.Common.{◌≡◌, ◌⊎◌, ℕ, zero, suc, ◌+◌, ◌≤◌, true, false, Option, Some, is_some, option_and_then, List, [], ◌∷◌, ◌++◌, length, length-append, inl, inr, refl, sym, ap, subst, ◌∙◌, arith}
use Rattle.std.proofs.lemmas.Bool.{or_parts}
use Rattle.std.specs.List.{list_any}
use Rattle.mpd_model.specs.declared.step.Step.{Step}
use Rattle.mpd_model.specs.declared.call.Mode.{Mode}
use Rattle.mpd_model.specs.declared.outcome.Outcome.{Outcome}
use Rattle.mpd_model.specs.script.Program.{Program}
use Rattle.mpd_model.specs.steps.World.{World, start}
use Rattle.mpd_model.specs.steps.Next.{next, fold, enabled}
use Rattle.mpd_model.specs.steps.Outcomes.{ending}
use Rattle.mpd_policy.specs.declared.ending.Ending.TheVariants.{Ended}
use Rattle.mpd_policy.specs.Walk.{Run, here}
use Rattle.mpd_meaning.specs.Same.{Same}
use Rattle.mpd_policy.specs.Wide.{conflict, is_quiet}
use Rattle.mpd_complete.specs.CompleteLaws.{Joins, was_cut, IsWhole, IsListed, GoesOnToAnEnd}
use Rattle.mpd_laws.proofs.ordered.CallsInOrder.{joined_from}
use Rattle.mpd_meaning.proofs.moving.Worlds.{same_refl, same_sym, same_trans, ending_same, follows, follows_all}
use Rattle.mpd_meaning.proofs.listed.Members.{In, contains_in}
use Rattle.mpd_complete.proofs.Invariants.{Sound, keeps, fold_sound, start_sound}
use Rattle.mpd_complete.proofs.Diamond.{diamond, apart, stays_quiet}
use Rattle.mpd_complete.proofs.Views.{world_of, in_enabled, from_enabled, Stuck, LeafView}

-- ---- a step comes to the front

-- it was taken on the way, or can still be taken at the end
abbrev pub WasTaken : List Step → List Step → World → World → Type 0
WasTaken steps rest v end = (length steps ≡ suc (length rest)) × Same v end

pub record IsLeft (steps rest : List Step) (a : Step) (v end : World) : Type 0 where
  pub as_long : length steps ≡ length rest
  pub world : World
  pub leads : next v a ≡ Some world
  pub same : Same world end

-- steps to v, and other steps after the first one
pub record Fronted (steps : List Step) (a : Step) (u v : World) : Type 0 where
  pub rest : List Step
  pub end : World
  pub leads : fold u rest ≡ Some end
  pub either : WasTaken steps rest v end ⊎ IsLeft steps rest a v end

pub front : (steps : List Step) (a : Step) (w u v : World) → Sound w → is_quiet w a ≡ true → next w a ≡ Some u → fold w steps ≡ Some v → Fronted steps a u v
front [] a w u v h quiet e f =
    let is : w ≡ v = cc in
    record { rest = []; end = u; leads = refl; either = inr (record { as_long = refl; world = u; leads = subst (λ (z : World). next z a ≡ Some u) is e; same = same_refl u }) }
front (b ∷ steps) a w u v h quiet e f =
    let after = joined_from (λ x. fold x steps) (next w b) v f in
    elim (apart w h a b u after.0 quiet e after.1) [
      | inl same ↦
          let is : u ≡ after.0 = some_same (sym e ∙ ap (next w) same ∙ after.1) in
          record { rest = steps; end = v; leads = ap (λ (z : World). fold z steps) is ∙ after.2; either = inl (refl, same_refl v) }
      | inr off ↦
          let joins = diamond w h a b u after.0 e after.1 off in
          behind joins (front steps a after.0 joins.behind_b v ((keeps w b after.0 after.1).sound h) (stays_quiet w a b u after.0 quiet e after.1 off) joins.by_a after.2)
    ]
  where
    some_same : {x y : World} → Some x ≡ Some y → x ≡ y
    some_same p = cc

    behind : {x : World} → (joins : Joins u x a b) → Fronted steps a joins.behind_b v → Fronted (b ∷ steps) a u v
    behind joins k =
        let all = follows_all k.rest joins.behind_b joins.behind_a (same_sym joins.behind_a joins.behind_b joins.same) k.end k.leads in
        record {
          rest = b ∷ k.rest;
          end = all.world;
          leads = ap (option_and_then (λ z. fold z k.rest)) joins.by_b ∙ all.leads;
          either = elim k.either [
            | inl took ↦ inl (ap (λ (n : ℕ). suc n) took.0, same_trans v k.end all.world took.1 all.same)
            | inr left ↦ inr (record { as_long = ap (λ (n : ℕ). suc n) left.as_long; world = left.world; leads = left.leads; same = same_trans left.world k.end all.world left.same all.same })
          ];
        }

-- ---- runs of a walk

-- no run is cut
abbrev pub Whole : List Run → Type 0
Whole runs = (r : Run) → In runs r → was_cut r.ending ≡ false

pub record Found (runs : List Run) (u w : World) : Type 0 where
  pub run : Run
  pub listed : In runs run
  pub ending : run.ending ≡ Ended (ending w)
  pub end : World
  pub leads : fold u run.steps ≡ Some end
  pub same : Same w end

pub whole_each : (runs : List Run) → IsWhole runs → Whole runs
whole_each [] e r h = absurd h
whole_each (x ∷ xs) e r (inl is) = ap (λ (y : Run). was_cut y.ending) (sym is) ∙ (or_parts (was_cut x.ending) (list_any (λ y. was_cut y.ending) xs) e).0
whole_each (x ∷ xs) e r (inr h) = whole_each xs (or_parts (was_cut x.ending) (list_any (λ y. was_cut y.ending) xs) e).1 r h

-- a run that goes on from a world after one step
pub behind_step : (runs more : List Run) (a : Step) (put : Run → Run) (u x w v : World) → ((r : Run) → In more r → In runs (put r)) → ((r : Run) → (put r).steps ≡ a ∷ r.steps) → ((r : Run) → (put r).ending ≡ r.ending)
    → next u a ≡ Some x → Same w v → Found more x v → Found runs u w
behind_step runs more a put u x w v within steps ends e same k = record {
  run = put k.run;
  listed = within k.run k.listed;
  ending = ends k.run ∙ k.ending ∙ ap Ended (sym (ending_same w v same));
  end = k.end;
  leads = ap (fold u) (steps k.run) ∙ ap (option_and_then (λ z. fold z k.run.steps)) e ∙ k.leads;
  same = same_trans w v k.end same k.same;
}

pub whole_behind : (runs more : List Run) (put : Run → Run) → ((r : Run) → In more r → In runs (put r)) → ((r : Run) → (put r).ending ≡ r.ending) → Whole runs → Whole more
whole_behind runs more put within ends all r h = sym (ap was_cut (ends r)) ∙ all (put r) (within r h)

-- ---- a world where no step is enabled

pub record Complete (fuel : ℕ) (runs : List Run) (u w : World) (steps : List Step) : Type 0 where
  pub short : length steps ≤ fuel
  pub found : Stuck w → Found runs u w

pub stuck_same : (w v : World) → Same w v → Stuck w → Stuck v
stuck_same w v h all a e =
    let after = world_of (next v a) e in
    let back = follows v w (same_sym w v h) a after.0 after.1 in
    all a (ap (λ (o : Option World). is_some o) back.leads)

pub some_on : (w : World) (a : Step) (v : World) → next w a ≡ Some v → is_some (next w a) ≡ true
some_on w a v e = ap (λ (o : Option World). is_some o) e

pub at_leaf : (fuel : ℕ) (u : World) (o : Outcome) (runs : List Run) → LeafView u o → In runs (here (Ended o)) → (steps : List Step) (w : World) → fold u steps ≡ Some w → Complete fuel runs u w steps
at_leaf fuel u o runs leaf within [] w e =
    let is : u ≡ w = cc in
    record {
      short = omega arith;
      found = λ all. record { run = here (Ended o); listed = within; ending = ap Ended (leaf.is ∙ ap ending is); end = w; leads = e; same = same_refl w };
    }
at_leaf fuel u o runs leaf within (b ∷ steps) w e =
    let after = joined_from (λ x. fold x steps) (next u b) w e in
    absurd (leaf.stuck b (some_on u b after.0 after.1))

-- ---- a run goes on to an end

fold_more : (steps : List Step) (a : Step) (u w v : World) → fold u steps ≡ Some w → next w a ≡ Some v → fold u (steps ++ a ∷ []) ≡ Some v
fold_more [] a u w v e f = let is : u ≡ w = cc in ap (λ (z : World). option_and_then (λ x. Some x) (next z a)) is ∙ ap (option_and_then (λ x. Some x)) f
fold_more (b ∷ steps) a u w v e f =
    let after = joined_from (λ x. fold x steps) (next u b) w e in
    ap (option_and_then (λ x. fold x (steps ++ a ∷ []))) after.1 ∙ fold_more steps a after.0 w v after.2 f

abbrev pub Bounded : ℕ → World → Type 0
Bounded fuel u = (more : List Step) (v : World) → fold u more ≡ Some v → length more ≤ fuel

pub goes_on : (k fuel : ℕ) (u w : World) (steps : List Step) → fold u steps ≡ Some w → Bounded fuel u → fuel ≤ k + length steps → GoesOnToAnEnd w
goes_on zero fuel u w steps e bound le = by_list (enabled w) refl
  where
    by_list : (on : List Step) → enabled w ≡ on → GoesOnToAnEnd w
    by_list [] is = record { more = []; end = w; leads = refl; stuck = is }
    by_list (a ∷ on) is =
        let after = world_of (next w a) (from_enabled w a (subst (λ (xs : List Step). In xs a) (sym is) (inl refl))) in
        let long = bound (steps ++ a ∷ []) after.0 (fold_more steps a u w after.0 e after.1) in
        let count = length-append steps (a ∷ []) in
        absurd (omega (arith, long, count, le))
goes_on (suc k) fuel u w steps e bound le = by_list (enabled w) refl (λ a v f. goes_on k fuel u v (steps ++ a ∷ []) (fold_more steps a u w v e f) bound (longer a))
  where
    longer : (a : Step) → fuel ≤ k + length (steps ++ a ∷ [])
    longer a = let count = length-append steps (a ∷ []) in omega (arith, count, le)

    by_list : (on : List Step) → enabled w ≡ on → ((a : Step) (v : World) → next w a ≡ Some v → GoesOnToAnEnd v) → GoesOnToAnEnd w
    by_list [] is more = record { more = []; end = w; leads = refl; stuck = is }
    by_list (a ∷ on) is more =
        let after = world_of (next w a) (from_enabled w a (subst (λ (xs : List Step). In xs a) (sym is) (inl refl))) in
        let rest = more a after.0 after.1 in
        record { more = a ∷ rest.more; end = rest.end; leads = ap (option_and_then (λ x. fold x rest.more)) after.1 ∙ rest.leads; stuck = rest.stuck }

-- ---- from what is shown to what is said

pub stuck_from : (w : World) → Sound w → enabled w ≡ [] → Stuck w
stuck_from w h e a on = subst (λ (xs : List Step). In xs a) e (in_enabled w h a on)

pub listed_from : (runs : List Run) (u w : World) → Found runs u w → IsListed runs u w
listed_from runs u w k = record { run = k.run; listed = contains_in runs k.run k.listed; ending = k.ending; end = k.end; leads = k.leads; same = k.same }

pub commute : (s : Program) (mode : Mode) (steps : List Step) (w : World) → fold (start s mode) steps ≡ Some w
    → (a b : Step) (u v : World) → next w a ≡ Some u → next w b ≡ Some v → conflict w a b ≡ false → Joins u v a b
commute s mode steps w e = diamond w (fold_sound steps (start s mode) w e (start_sound s mode))
