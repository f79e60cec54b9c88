-- Where a script has no waitany, and buffers never run out, the wide walk that sleeps is the walk that sleeps: what wakes in the one can't
-- be taken in the other any more.
use Rattle.std.proofs.Common.{◌≡◌, ◌⊎◌, ℕ, zero, suc, Bool, true, false, ◌&&◌, not, ◌==◌, List, [], ◌∷◌, ◌++◌, map, Option, Some, None, is_some, is_none, inl, inr, refl, sym, ap, subst, ◌∙◌}
use Rattle.std.proofs.lemmas.Bool.{or_cases}
use Rattle.std.specs.List.{list_any}
use Rattle.mpd_model.specs.declared.call.Mode.{Mode}
use Rattle.mpd_model.specs.declared.step.CallId.{CallId}
use Rattle.mpd_model.specs.declared.step.Step.{Step}
use Rattle.mpd_model.specs.declared.step.Step.TheVariants.{Local, Match, Wake, WakeAny, Release}
use Rattle.mpd_model.specs.declared.decision.Decision.{Decision}
use Rattle.mpd_model.specs.declared.decision.Decision.TheVariants.{Forced, Choice, Leaf}
use Rattle.mpd_model.specs.script.Program.{Program}
use Rattle.mpd_model.specs.steps.World.{World, Board, start, id_eq, kind_at, partner, is_buffered, eligible, slots_used}
use Rattle.mpd_model.specs.steps.Next.{local_at, next, fold}
use Rattle.mpd_model.specs.runs.Decisions.{is_open_match}
use Rattle.mpd_model.specs.runs.Trail.{step_eq}
use Rattle.mpd_trail.proofs.TrailLemmas.{step_eq-same}
use Rattle.mpd_policy.specs.Wide.{lacks_slot, issues_standard, is_full, conflict, is_asleep, sleeps_on, wide_decision}
use Rattle.mpd_policy.proofs.QuietLemmas.{never_full}
use Rattle.mpd_policy.specs.Asleep.{same_match}
use Rattle.mpd_policy.specs.Walk.{stepped, chosen, runs_of, stopped}
use Rattle.mpd_explore.specs.Sleeping.{awake_runs, awake_by, sleeping_wide_walk}
use Rattle.mpd_laws.proofs.ordered.Eligible.{clash}
use Rattle.mpd_laws.proofs.ordered.Orderly.{same_id}
use Rattle.mpd_meaning.proofs.listed.Members.{In, in_filter}
use Rattle.mpd_meaning.proofs.listed.Listed.{any_in}
use Rattle.mpd_complete.specs.CompleteLaws.{HasNoWaitany, KeepsBuffers}
use Rattle.mpd_complete.specs.Sleeping.{awake_branches, followed_awake, awake_walk, sleeping_walk}
use Rattle.mpd_complete.specs.Sleeping as slept
use Rattle.mpd_complete.specs.WideWalks.{wide_branches, followed_wide, awake_wide_walk}
use Rattle.mpd_complete.proofs.Slots.{false_and}
use Rattle.mpd_complete.proofs.Pairs.{recv_free, same_recv}
use Rattle.mpd_complete.proofs.Steps.{match_step}
use Rattle.mpd_complete.proofs.Invariants.{keeps}
use Rattle.mpd_complete.proofs.PairsStay.{pair_made}
use Rattle.mpd_complete.proofs.Views.{world_of, View, view}
use Rattle.mpd_complete.proofs.Calm.{calm_none}
use Rattle.mpd_complete.proofs.IsWalk.{Plain, stays_plain, plain_decision, fold_plain, open_one}
use Rattle.mpd_complete.proofs.Complete.{Tried, tried_on, on_from, found_in}

-- ---- matches that can't be taken any more

abbrev is_match : Step → Bool
is_match (Match s r) = true
is_match a = false

-- its receive was paired
abbrev Dead : World → Step → Type 0
Dead u (Match s r) = is_some (partner u.board.sets r) ≡ true
Dead u a = ⊥

stays_dead : (w : World) (a : Step) (v : World) → next w a ≡ Some v → (z : Step) → Dead w z → Dead v z
stays_dead w a v e (Match s r) h = (keeps w a v e).later.partners r h
stays_dead w a v e z h = absurd h

dead_off : (w : World) (z : Step) → Dead w z → is_some (next w z) ≡ true → ⊥
dead_off w (Match s r) h on =
    let to = world_of (next w (Match s r)) on in
    clash_none (partner w.board.sets r) h (recv_free w.board s r (match_step w s r to.0 to.1).0)
  where
    clash_none : (o : Option CallId) → is_some o ≡ true → is_none o ≡ true → ⊥
    clash_none None e f = cc
    clash_none (Some c) e f = cc
dead_off w z h on = h

-- what conflicts with a step that is taken can't be taken after it
conflict_dead : (w : World) → Plain w → (a : Step) (x : World) → next w a ≡ Some x → (z : Step) → is_match z ≡ true → is_some (next w z) ≡ true → conflict w a z ≡ true → Dead x z
conflict_dead w h (Match t q) x e (Match s r) m on c =
    let to = world_of (next w (Match s r)) on in
    let one = match_step w t q x e in
    let two = match_step w s r to.0 to.1 in
    let recv : q ≡ r =
    elim (or_cases (id_eq t s) (id_eq q r) c) [
      | inl send ↦ same_recv w.board s q r (ap (λ (k : CallId). eligible w.board k q) (sym (same_id t s send)) ∙ one.0) two.0
      | inr is ↦ same_id q r is
    ]
    in
    subst (λ (k : CallId). is_some (partner x.board.sets k) ≡ true) recv (ap (λ (o : Option CallId). is_some o) (pair_made w t q x e))
conflict_dead w h (Local p) x e (Match s r) m on c =
    absurd (clash c (false_and (lacks_slot w p) (p == s.rank && is_buffered (kind_at w.board s))
    (inl (false_and (is_full w.board.mode (slots_used w.board p)) (issues_standard (local_at w p)) (inl (never_full w.board.mode (slots_used w.board p) h.ample))))))
conflict_dead w h (Wake p) x e (Match s r) m on c = absurd (cc)
conflict_dead w h (WakeAny p i) x e (Match s r) m on c = absurd (cc)
conflict_dead w h Release x e (Match s r) m on c = absurd (cc)
conflict_dead w h a x e z m on c = absurd (cc)

-- ---- what is asleep in the one and in the other

record Alike (asleep others : List Step) (u : World) : Type 0 where
  tried : Tried asleep u
  matches : (z : Step) → In asleep z → is_match z ≡ true
  within : (z : Step) → In asleep z → In others z
  back : (z : Step) → In others z → In asleep z ⊎ Dead u z

alike_on : (u : World) → Plain u → (a : Step) (x : World) → next u a ≡ Some x → (asleep others : List Step) → Alike asleep others u → Alike (sleeps_on u a asleep) others x
alike_on u h a x e asleep others k = record {
  tried = tried_on u h.calm.sound a x e asleep k.tried;
  matches = λ z i. k.matches z (on_from u a asleep z i).0;
  within = λ z i. k.within z (on_from u a asleep z i).0;
  back = λ z i. elim (k.back z i) [
    | inl on ↦ by_test z on (conflict u a z) refl
    | inr dead ↦ inr (stays_dead u a x e z dead)
  ];
}
  where
    by_test : (z : Step) → In asleep z → (b : Bool) → conflict u a z ≡ b → In (sleeps_on u a asleep) z ⊎ Dead x z
    by_test z i false is = inl (in_filter (λ (y : Step). not (conflict u a y)) asleep z (ap not is) i)
    by_test z i true is = inr (conflict_dead u h a x e z (k.matches z i) (k.tried z i) is)

alike_more : (u : World) (a : Step) (asleep others : List Step) → is_some (next u a) ≡ true → is_match a ≡ true → Alike asleep others u → Alike (a ∷ asleep) (a ∷ others) u
alike_more u a asleep others on m k = record {
  tried = λ z i. elim i [
    | inl is ↦ subst (λ (y : Step). is_some (next u y) ≡ true) is on
    | inr j ↦ k.tried z j
  ];
  matches = λ z i. elim i [
    | inl is ↦ subst (λ (y : Step). is_match y ≡ true) is m
    | inr j ↦ k.matches z j
  ];
  within = λ z i. elim i [
    | inl is ↦ inl is
    | inr j ↦ inr (k.within z j)
  ];
  back = λ z i. elim i [
    | inl is ↦ inl (inl is)
    | inr j ↦ elim (k.back z j) [
      | inl on ↦ inl (inr on)
      | inr dead ↦ inr dead
    ]
  ];
}

-- ---- so the same candidates are asleep

both_ways : (x y : Bool) → (x ≡ true → y ≡ true) → (y ≡ true → x ≡ true) → x ≡ y
both_ways true y f g = sym (f refl)
both_ways false true f g = g refl
both_ways false false f g = refl

same_both : (s r : CallId) (z : Step) → step_eq (Match s r) z ≡ same_match (Match s r) z
same_both s r (Match t q) = refl
same_both s r (Local p) = refl
same_both s r (Wake p) = refl
same_both s r (WakeAny p i) = refl
same_both s r Release = refl

asleep_same : (u : World) (asleep others : List Step) → Alike asleep others u → (a : Step) → is_some (next u a) ≡ true → is_match a ≡ true → is_asleep asleep a ≡ slept.is_asleep others a
asleep_same u asleep others k (Match s r) on m =
    let self : step_eq (Match s r) (Match s r) ≡ true = step_eq-same (Match s r) in
    both_ways (is_asleep asleep (Match s r)) (slept.is_asleep others (Match s r))
    (λ e. any_in (same_match (Match s r)) others (Match s r) (k.within (Match s r) (found_in (Match s r) asleep e)) self)
    (λ e. elim (k.back (Match s r) (found_in (Match s r) others (ap (λ (t : Step → Bool). list_any t others) (λ i z. same_both s r z i) ∙ e))) [
      | inl here ↦ any_in (step_eq (Match s r)) asleep (Match s r) here self
      | inr dead ↦ absurd (dead_off u (Match s r) dead on)
    ])
asleep_same u asleep others k a on m = absurd (cc)

-- ---- the walks

open_is_match : (b : Board) (a : Step) → is_open_match b a ≡ true → is_match a ≡ true
open_is_match b (Match s r) e = refl
open_is_match b a e = absurd (cc)

abbrev AllSleep : ℕ → Type 0
AllSleep n = (u : World) → Plain u → (asleep others : List Step) → Alike asleep others u → awake_wide_walk true n asleep u ≡ awake_walk true n others u

sleep_after : (n : ℕ) → AllSleep n → (u : World) → Plain u → (a : Step) (asleep others : List Step) → Alike asleep others u → (o : Option World) → next u a ≡ o
    → runs_of (awake_wide_walk true n (sleeps_on u a asleep)) o ≡ runs_of (awake_walk true n others) o
sleep_after n ih u h a asleep others k None e = refl
sleep_after n ih u h a asleep others k (Some x) e = ih x (stays_plain u a x e h) (sleeps_on u a asleep) others (alike_on u h a x e asleep others k)

sleep_here : (n : ℕ) → AllSleep n → (u : World) → Plain u → (a : Step) (asleep others : List Step) → Alike asleep others u → (b : Bool)
    → awake_runs b (awake_wide_walk true n (sleeps_on u a asleep)) (next u a) ≡ awake_runs b (awake_walk true n others) (next u a)
sleep_here n ih u h a asleep others k true = refl
sleep_here n ih u h a asleep others k false = sleep_after n ih u h a asleep others k (next u a) refl

sleep_branches : (n : ℕ) → AllSleep n → (u : World) → Plain u → (i : ℕ) (candidates asleep others : List Step) → Alike asleep others u
    → ((a : Step) → In candidates a → (is_some (next u a) ≡ true) × (is_match a ≡ true))
    → wide_branches true (awake_wide_walk true n) u asleep i candidates ≡ awake_branches true (awake_walk true n) u others i candidates
sleep_branches n ih u h i [] asleep others k on = refl
sleep_branches n ih u h i (a ∷ more) asleep others k on =
    let here = on a (inl refl) in
    let first : awake_runs (is_asleep asleep a) (awake_wide_walk true n (sleeps_on u a asleep)) (next u a) ≡ awake_runs (slept.is_asleep others a) (awake_walk true n others) (next u a) =
    sleep_here n ih u h a asleep others k (is_asleep asleep a) ∙ ap (λ (b : Bool). awake_runs b (awake_walk true n others) (next u a)) (asleep_same u asleep others k a here.0 here.1)
    in
    let rest = sleep_branches n ih u h (suc i) more (a ∷ asleep) (a ∷ others) (alike_more u a asleep others here.0 here.1 k) (λ b j. on b (inr j)) in
    λ j. map (chosen i a) (first j) ++ rest j

sleep_more : (n : ℕ) → AllSleep n → (u : World) → Plain u → (asleep others : List Step) → Alike asleep others u → (d : Decision) → View u d
    → followed_wide true (awake_wide_walk true n) asleep u d ≡ followed_awake true (awake_walk true n) others u d
sleep_more n ih u h asleep others k (Forced a) is = ap (map (stepped a)) (sleep_after n ih u h a asleep others k (next u a) refl)
sleep_more n ih u h asleep others k (Choice candidates) is =
    sleep_branches n ih u h 0 candidates asleep others k
    (λ a i. let on = is.each a i in (on, open_is_match u.board a (open_one u h.ample a on (is.loud a on) (calm_none u h.calm a on))))
sleep_more n ih u h asleep others k (Leaf o) is = refl

all_sleep : (n : ℕ) → AllSleep n
unfolding awake_by
all_sleep zero u h asleep others k = ap stopped (plain_decision u h)
all_sleep (suc n) u h asleep others k =
    sleep_more n (all_sleep n) u h asleep others k (wide_decision u) (view u h.calm.sound) ∙ ap (followed_awake true (awake_walk true n) others u) (plain_decision u h)

pub are_sleeping_walks : (s : Program) → HasNoWaitany s → (mode : Mode) → KeepsBuffers mode → (before : List Step) (u : World) → fold (start s mode) before ≡ Some u
    → (fuel : ℕ) → sleeping_wide_walk fuel u ≡ sleeping_walk fuel u
are_sleeping_walks s none mode ample before u e fuel =
    all_sleep fuel u (fold_plain s none mode ample before u e) [] [] (record { tried = λ z i. absurd i; matches = λ z i. absurd i; within = λ z i. i; back = λ z i. absurd i })
