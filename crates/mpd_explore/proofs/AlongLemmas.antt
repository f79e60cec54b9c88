-- One step along some choices, and many.
use Rattle.std.proofs.Common.{◌≡◌, ℕ, zero, suc, ◌<◌, ◌≤◌, ◌+◌, ◌-◌, Bool, true, false, if◌then◌else◌, List, [], ◌∷◌, ◌++◌, length, map, slice_get, Option, Some, None, refl, sym, ap, ◌∙◌, arith, subst, append_assoc, append-nil}
use Rattle.std.specs.List.{list_any}
use Rattle.std.specs.Option.{option_map}
use Rattle.std.proofs.lemmas.Option.{slice_get_within}
use Rattle.mpd_model.specs.declared.step.Step.{Step}
use Rattle.mpd_model.specs.declared.outcome.Outcome.{Outcome}
use Rattle.mpd_model.specs.declared.decision.Decision.{Decision}
use Rattle.mpd_model.specs.declared.decision.Decision.TheVariants.{Forced, Choice, Leaf}
use Rattle.mpd_model.specs.steps.World.{World}
use Rattle.mpd_model.specs.steps.Next.{next}
use Rattle.mpd_model.specs.runs.Trail.{Standing, IsReached, done_steps}
use Rattle.mpd_policy.specs.declared.along.WalkEnd.{WalkEnd}
use Rattle.mpd_policy.specs.declared.along.WalkEnd.TheVariants.{Ended, Fuel, Untaken}
use Rattle.mpd_policy.specs.Choosers.{NoSuch}
use Rattle.mpd_policy.specs.Walked.{Walked}
use Rattle.mpd_policy.specs.Walked.Walked.{here as way_here, forced as way_forced, chosen as way_chosen}
use Rattle.mpd_policy.specs.Walks.{Beyond, Walks}
use Rattle.mpd_policy.proofs.WayLemmas.{run_is}
use Rattle.mpd_policy.proofs.ChoiceLemmas.{within_limit}
use Rattle.mpd_policy.specs.Walk.{Run, stepped, chosen, prefixed, runs_of, run_from, run_taken, run_by}
use Rattle.mpd_explore.specs.Sleeping.{put_off, awake_runs, Rules, walk_with}
use Rattle.mpd_explore.proofs.MoveLemmas.{awake_is}
use Rattle.mpd_explore.specs.Pieces.{led_by, cut_by, pieces, runs_by, beginning, walk_from, InState, ByCandidate, BeginsSo, Reaches}
use Rattle.mpd_explore.specs.declared.sleep.Sleep.{Sleep}
use Rattle.mpd_explore.specs.Along.{lists_by, longer_by, longer, runs_on, sleeping_on, sleeping_behind, Along, Going}
use Rattle.mpd_explore.specs.Slept.{asleep_there, takes_noted, leaves_noted, passes_noted}

-- ---- runs with nothing in front, and with two things

map_same : {A : Type 0} (xs : List A) → map (λ x. x) xs ≡ xs
map_same [] = refl
map_same (x ∷ xs) = ap (λ ys. x ∷ ys) (map_same xs)

option_same : {A : Type 0} (o : Option A) → option_map (λ x. x) o ≡ o
option_same None = refl
option_same (Some x) = refl

prefixed_twice : (cs ds : List ℕ) (p q : List Step) (r : Run) → prefixed cs p (prefixed ds q r) ≡ prefixed (cs ++ ds) (p ++ q) r
prefixed_twice cs ds p q r = λ i. record { choices = sym (append_assoc cs ds r.choices) i; steps = sym (append_assoc p q r.steps) i; ending = r.ending }

map_twice : (cs ds : List ℕ) (p q : List Step) (rs : List Run) → map (prefixed cs p) (map (prefixed ds q) rs) ≡ map (prefixed (cs ++ ds) (p ++ q)) rs
map_twice cs ds p q [] = refl
map_twice cs ds p q (r ∷ rs) = λ i. prefixed_twice cs ds p q r i ∷ map_twice cs ds p q rs i

option_twice : (cs ds : List ℕ) (p q : List Step) (o : Option Run) → option_map (prefixed cs p) (option_map (prefixed ds q) o) ≡ option_map (prefixed (cs ++ ds) (p ++ q)) o
option_twice cs ds p q None = refl
option_twice cs ds p q (Some r) = ap Some (prefixed_twice cs ds p q r)

lists_twice : (cs ds : List ℕ) (xs : List (List ℕ)) → map (λ x. cs ++ x) (map (λ x. ds ++ x) xs) ≡ map (λ x. (cs ++ ds) ++ x) xs
lists_twice cs ds [] = refl
lists_twice cs ds (x ∷ xs) = λ i. sym (append_assoc cs ds x) i ∷ lists_twice cs ds xs i

-- ---- pieces, and what they become by one choice more

module _ (decide : World → Decision) where
  pub longer_none : (n : ℕ) (w : World) → longer decide n [] w ≡ pieces decide 1 n w
  unfolding longer
  longer_none zero w = refl
  longer_none (suc n) w = refl

  pub pieces_is : (k n : ℕ) (w : World) (d : Decision) → decide w ≡ d → pieces decide (suc k) (suc n) w ≡ cut_by (pieces decide (suc k) n) (pieces decide k n) w d
  unfolding pieces
  pieces_is k n w d e = ap (cut_by (pieces decide (suc k) n) (pieces decide k n) w) e

  pub pieces_forced : (k n : ℕ) (w v : World) (a : Step) → decide w ≡ Forced a → next w a ≡ Some v → pieces decide (suc k) (suc n) w ≡ pieces decide (suc k) n v
  pieces_forced k n w v a forced step = pieces_is k n w (Forced a) forced ∙ ap (runs_of (pieces decide (suc k) n)) step

  pub longer_forced : (n : ℕ) (x : List ℕ) (w v : World) (a : Step) → decide w ≡ Forced a → next w a ≡ Some v → longer decide (suc n) x w ≡ longer decide n x v
  unfolding longer
  longer_forced n [] w v a forced step = pieces_forced 0 n w v a forced step ∙ sym (longer_none n v)
  longer_forced n (c ∷ cs) w v a forced step = ap (longer_by (longer decide n) w c cs) forced ∙ ap (runs_of (longer decide n (c ∷ cs))) step

  pub longer_chosen : (n c : ℕ) (x : List ℕ) (w v : World) (candidates : List Step) (a : Step) → decide w ≡ Choice candidates → slice_get candidates c ≡ Some a → next w a ≡ Some v → longer decide (suc n) (c ∷ x) w ≡ led_by c (longer decide n x v)
  unfolding longer
  longer_chosen n c x w v candidates a choice read step =
      ap (longer_by (longer decide n) w c x) choice ∙ ap (lists_by (longer decide n x) w c) read ∙ ap (λ o. led_by c (runs_of (longer decide n x) o)) step

-- ---- some run begins so

by_state : (P : World → Type 0) (o : Option World) (v : World) → o ≡ Some v → InState P o → P v
by_state P o v e h = rw e at h

by_candidate : (P : World → Type 0) (w : World) (o : Option Step) (a : Step) → o ≡ Some a → ByCandidate P w o → InState P (next w a)
by_candidate P w o a e h = rw e at h

begins_by : (reaches : List ℕ → World → Type 0) (w : World) (c : ℕ) (cs : List ℕ) (d e : Decision) → d ≡ e → BeginsSo reaches w c cs d → BeginsSo reaches w c cs e
begins_by reaches w c cs d e is h = rw is at h

candidate_within : (P : World → Type 0) (w : World) (c : ℕ) (candidates : List Step) (o : Option Step) → slice_get candidates c ≡ o → ByCandidate P w o → c < length candidates
candidate_within P w c candidates None e h = absurd h
candidate_within P w c candidates (Some a) e h = slice_get_within candidates c a e

module _ (decide : World → Decision) where
  reaches_is : (n c : ℕ) (cs : List ℕ) (w : World) (d : Decision) → decide w ≡ d → Reaches decide (suc n) (c ∷ cs) w → BeginsSo (Reaches decide n) w c cs d
  unfolding Reaches
  reaches_is n c cs w d is h = begins_by (Reaches decide n) w c cs (decide w) d is h

  pub reaches_none : (n : ℕ) (w : World) → Reaches decide n [] w
  unfolding Reaches
  reaches_none zero w = tt
  reaches_none (suc n) w = tt

  reaches_forced : (n : ℕ) (cs : List ℕ) (w v : World) (a : Step) → decide w ≡ Forced a → next w a ≡ Some v → Reaches decide (suc n) cs w → Reaches decide n cs v
  reaches_forced n [] w v a forced step h = reaches_none n v
  reaches_forced n (c ∷ cs) w v a forced step h = by_state (Reaches decide n (c ∷ cs)) (next w a) v step (reaches_is n c cs w (Forced a) forced h)

  reaches_chosen : (n c : ℕ) (cs : List ℕ) (w v : World) (candidates : List Step) (a : Step) → decide w ≡ Choice candidates → slice_get candidates c ≡ Some a → next w a ≡ Some v → Reaches decide (suc n) (c ∷ cs) w → Reaches decide n cs v
  reaches_chosen n c cs w v candidates a choice read step h =
      by_state (Reaches decide n cs) (next w a) v step (by_candidate (Reaches decide n cs) w (slice_get candidates c) a read (reaches_is n c cs w (Choice candidates) choice h))

  -- ---- where no choice is left

  -- no fuel is left
  none_left : (n : ℕ) (left : List ℕ) (w : World) → n ≡ 0 → Reaches decide n left w → left ≡ []
  unfolding Reaches
  none_left n [] w e h = refl
  none_left zero (c ∷ cs) w e h = absurd h
  none_left (suc n) (c ∷ cs) w e h = absurd (omega (arith, e))

  -- the run has ended
  leaf_left : (n : ℕ) (left : List ℕ) (w : World) (o : Outcome) → decide w ≡ Leaf o → Reaches decide n left w → left ≡ []
  unfolding Reaches
  leaf_left n [] w o leaf h = refl
  leaf_left zero (c ∷ cs) w o leaf h = absurd h
  leaf_left (suc n) (c ∷ cs) w o leaf h = absurd (begins_by (Reaches decide n) w c cs (decide w) (Leaf o) leaf h)

  -- none of the candidates of a choice is named
  untaken_left : (n : ℕ) (left : List ℕ) (w : World) (candidates : List Step) → decide w ≡ Choice candidates → NoSuch left candidates → Reaches decide n left w → left ≡ []
  unfolding Reaches
  untaken_left n [] w candidates choice none h = refl
  untaken_left zero (c ∷ cs) w candidates choice none h = absurd h
  untaken_left (suc n) (c ∷ cs) w candidates choice none h =
      absurd (omega (arith, none, candidate_within (Reaches decide n cs) w c candidates (slice_get candidates c) refl (begins_by (Reaches decide n) w c cs (decide w) (Choice candidates) choice h)))

pub none_of_none : (choices : List ℕ) → length choices ≡ 0 → choices ≡ []
none_of_none [] h = refl
none_of_none (c ∷ cs) h = absurd (omega (arith, h))

module _ (r : Rules) where
  -- ---- without choices

  pub walk_whole : (n : ℕ) (asleep : List Step) (w : World) → walk_from r n [] asleep w ≡ walk_with r n asleep w
  unfolding walk_from
  walk_whole zero asleep w = refl
  walk_whole (suc n) asleep w = refl

  -- ---- a forced step

  pub walk_forced : (n : ℕ) (x : List ℕ) (asleep : List Step) (w v : World) (a : Step) → r.decides w ≡ Forced a → next w a ≡ Some v → walk_from r (suc n) x asleep w ≡ map (stepped a) (walk_from r n x (r.keeps w a asleep) v)
  unfolding walk_from
  walk_forced n [] asleep w v a forced step =
      awake_is r.decides r.same r.keeps r.sleeps n asleep w (Forced a) forced
      ∙ ap (λ o. map (stepped a) (runs_of (walk_with r n (r.keeps w a asleep)) o)) step
      ∙ ap (map (stepped a)) (sym (walk_whole n (r.keeps w a asleep) v))
  walk_forced n (c ∷ cs) asleep w v a forced step =
      ap (beginning r (walk_from r n) asleep w c cs) forced ∙ ap (λ o. map (stepped a) (runs_of (walk_from r n (c ∷ cs) (r.keeps w a asleep)) o)) step

  on_forced : (n : ℕ) (s : Option (List Step)) (x : List ℕ) (w v : World) (a : Step) → r.decides w ≡ Forced a → next w a ≡ Some v → runs_on r (suc n) s x w ≡ map (stepped a) (runs_on r n (sleeping_on r w a s) x v)
  on_forced n None x w v a forced step = refl
  on_forced n (Some asleep) x w v a forced step = walk_forced n x asleep w v a forced step

  run_forced : (n : ℕ) (x : List ℕ) (w v : World) (a : Step) → r.decides w ≡ Forced a → next w a ≡ Some v → run_by r.decides (suc n) x w ≡ option_map (stepped a) (run_by r.decides n x v)
  run_forced n x w v a forced step = run_is r.decides n x w (Forced a) forced ∙ ap (λ o. option_map (stepped a) (run_from (run_by r.decides n x) o)) step

  along_forced : (n : ℕ) (s : Option (List Step)) (w v : World) (a : Step) → r.decides w ≡ Forced a → next w a ≡ Some v → Along r (suc n) s w [] (a ∷ []) n (sleeping_on r w a s) v
  along_forced n s w v a forced step =
      record {
        walks = λ x. on_forced n s x w v a forced step;
        runs = λ x. run_forced n x w v a forced step;
        lists = λ x. longer_forced r.decides n x w v a forced step ∙ sym (map_same (longer r.decides n x v));
      }

  -- ---- a choice

  chosen_on : (n : ℕ) (x : List ℕ) (b : Bool) (asleep : List Step) (o : Option World) (v : World) → o ≡ Some v → awake_runs b (walk_from r n x asleep) o ≡ runs_on r n (if b then None else Some asleep) x v
  chosen_on n x true asleep o v step = refl
  chosen_on n x false asleep o v step = ap (runs_of (walk_from r n x asleep)) step

  pub walk_chosen : (n c : ℕ) (x : List ℕ) (asleep : List Step) (w v : World) (candidates : List Step) (a : Step) → r.decides w ≡ Choice candidates → slice_get candidates c ≡ Some a → next w a ≡ Some v
      → walk_from r (suc n) (c ∷ x) asleep w ≡ map (chosen c a) (runs_on r n (sleeping_behind r w candidates c a (Some asleep)) x v)
  unfolding walk_from
  walk_chosen n c x asleep w v candidates a choice read step =
      let s : List Step = put_off r.sleeps c candidates asleep in
      ap (beginning r (walk_from r n) asleep w c x) choice ∙ ap (runs_by r (walk_from r n x) asleep w candidates c) read ∙ ap (map (chosen c a)) (chosen_on n x (list_any (r.same a) s) (r.keeps w a s) (next w a) v step)

  on_chosen : (n c : ℕ) (s : Option (List Step)) (x : List ℕ) (w v : World) (candidates : List Step) (a : Step) → r.decides w ≡ Choice candidates → slice_get candidates c ≡ Some a → next w a ≡ Some v
      → runs_on r (suc n) s (c ∷ x) w ≡ map (chosen c a) (runs_on r n (sleeping_behind r w candidates c a s) x v)
  on_chosen n c None x w v candidates a choice read step = refl
  on_chosen n c (Some asleep) x w v candidates a choice read step = walk_chosen n c x asleep w v candidates a choice read step

  run_chosen : (n c : ℕ) (x : List ℕ) (w v : World) (candidates : List Step) (a : Step) → r.decides w ≡ Choice candidates → slice_get candidates c ≡ Some a → next w a ≡ Some v → run_by r.decides (suc n) (c ∷ x) w ≡ option_map (chosen c a) (run_by r.decides n x v)
  run_chosen n c x w v candidates a choice read step =
      run_is r.decides n (c ∷ x) w (Choice candidates) choice ∙ ap (run_taken (run_by r.decides n x) w c) read ∙ ap (λ o. option_map (chosen c a) (run_from (run_by r.decides n x) o)) step

  along_chosen : (n c : ℕ) (s : Option (List Step)) (w v : World) (candidates : List Step) (a : Step) → r.decides w ≡ Choice candidates → slice_get candidates c ≡ Some a → next w a ≡ Some v
      → Along r (suc n) s w (c ∷ []) (a ∷ []) n (sleeping_behind r w candidates c a s) v
  along_chosen n c s w v candidates a choice read step =
      record {
        walks = λ x. on_chosen n c s x w v candidates a choice read step;
        runs = λ x. run_chosen n c x w v candidates a choice read step;
        lists = λ x. longer_chosen r.decides n c x w v candidates a choice read step;
      }

  -- ---- no step, and one way after another

  along_none : (n : ℕ) (s : Option (List Step)) (w : World) → Along r n s w [] [] n s w
  along_none n s w =
      record {
        walks = λ x. sym (map_same (runs_on r n s x w));
        runs = λ x. sym (option_same (run_by r.decides n x w));
        lists = λ x. sym (map_same (longer r.decides n x w));
      }

  along_then : (fuel m n : ℕ) (o s t : Option (List Step)) (w v u : World) (cs ds : List ℕ) (p q : List Step) → Along r fuel o w cs p m s v → Along r m s v ds q n t u → Along r fuel o w (cs ++ ds) (p ++ q) n t u
  along_then fuel m n o s t w v u cs ds p q a b =
      record {
        walks = λ x. ap (λ y. runs_on r fuel o y w) (append_assoc cs ds x) ∙ a.walks (ds ++ x) ∙ ap (map (prefixed cs p)) (b.walks x) ∙ map_twice cs ds p q (runs_on r n t x u);
        runs = λ x. ap (λ y. run_by r.decides fuel y w) (append_assoc cs ds x) ∙ a.runs (ds ++ x) ∙ ap (option_map (prefixed cs p)) (b.runs x) ∙ option_twice cs ds p q (run_by r.decides n x u);
        lists = λ x. ap (λ y. longer r.decides fuel y w) (append_assoc cs ds x) ∙ a.lists (ds ++ x) ∙ ap (map (λ y. cs ++ y)) (b.lists x) ∙ lists_twice cs ds (longer r.decides n x u);
      }

  -- ---- and one that goes along choices

  pub going_none : (s : Option (List Step)) (fuel : ℕ) (choices : List ℕ) (d : Standing) → IsReached d → choices ≡ [] → Going r fuel choices s d [] s d
  going_none s fuel choices d reached none =
      record {
        beyond = record { program = refl; mode = refl; reached = reached; path = []; done_steps_are = sym (append-nil (done_steps d.trail)) };
        taken = [];
        joined = sym none;
        rest = fuel;
        spent = refl;
        along = along_none fuel s d.world;
        reaches = reaches_none r.decides fuel d.world;
      }

-- Along a chooser that notes what is asleep: by which rules, which of these are in force, and where it has that, the choices left, and what it notes.
module _ (rules : Bool → Rules) (on : Bool) {C : Type 0} (sleeps : C → Bool) (left : C → List ℕ) (sleep : C → Sleep) where
  abbrev r : Rules
  r = rules on

  abbrev there : C → Option (List Step)
  there c = asleep_there (sleep c)

  abbrev Takes : C → ℕ → World → List Step → ℕ → C → Type 0
  Takes = takes_noted rules sleeps left sleep

  abbrev Leaves : C → ℕ → World → List Step → C → Type 0
  Leaves = leaves_noted left

  abbrev Passes : C → ℕ → World → Step → C → Type 0
  Passes = passes_noted rules sleeps left sleep

  -- what begins where a way by choices begins is what begins where it leads, with the way in front; these are the choices that are left there
  record Noted (c e : C) (k m : ℕ) (w v : World) (cs : List ℕ) (path : List Step) : Type 0 where
    pub along : Along r k (there c) w cs path m (there e) v
    pub joined : cs ++ left e ≡ left c
    pub reaches : Reaches r.decides m (left e) v

  noted_forced : (c d e : C) (j n m : ℕ) (w u v : World) (a : Step) (cs : List ℕ) (path : List Step) → sleeps c ≡ on → r.decides w ≡ Forced a → Passes c j w a d → next w a ≡ Some u → Noted d e n m u v cs path → Noted c e (suc n) m w v cs (a ∷ path)
  noted_forced c d e j n m w u v a cs path same is passed step h =
      let kept : sleeping_on r w a (there c) ≡ there d = sym (passed.1 ∙ ap (λ b. sleeping_on (rules b) w a (there c)) same) in
      let first : Along r (suc n) (there c) w [] (a ∷ []) n (there d) u = subst (λ (z : Option (List Step)). Along r (suc n) (there c) w [] (a ∷ []) n z u) kept (along_forced r n (there c) w u a is step) in
      record {
        along = along_then r (suc n) n m (there c) (there d) (there e) w u v [] cs (a ∷ []) path first h.along;
        joined = h.joined ∙ passed.0;
        reaches = h.reaches;
      }

  noted_chosen : (c d e : C) (j n m i : ℕ) (w u v : World) (a : Step) (candidates : List Step) (cs : List ℕ) (path : List Step) → sleeps c ≡ on → r.decides w ≡ Choice candidates → slice_get candidates i ≡ Some a → Takes c j w candidates i d → next w a ≡ Some u
      → Noted d e n m u v cs path → Noted c e (suc n) m w v (i ∷ cs) (a ∷ path)
  noted_chosen c d e j n m i w u v a candidates cs path same is read taken step h =
      let kept : sleeping_behind r w candidates i a (there c) ≡ there d = sym (taken.1 a read ∙ ap (λ b. sleeping_behind (rules b) w candidates i a (there c)) same) in
      let first : Along r (suc n) (there c) w (i ∷ []) (a ∷ []) n (there d) u =
      subst (λ (z : Option (List Step)). Along r (suc n) (there c) w (i ∷ []) (a ∷ []) n z u) kept (along_chosen r n i (there c) w u candidates a is read step) in
      record {
        along = along_then r (suc n) n m (there c) (there d) (there e) w u v (i ∷ []) cs (a ∷ []) path first h.along;
        joined = ap (λ l. i ∷ l) h.joined ∙ sym taken.0;
        reaches = h.reaches;
      }

  noted_along : (c e : C) (n k m : ℕ) (w v : World) (cs : List ℕ) (path : List Step) → sleeps c ≡ on → k ≡ length path + m → Reaches r.decides k (left c) w → Walked r.decides Takes Passes c n w cs path v e → Noted c e k m w v cs path
  noted_along c e n k m w v cs path same fuel h (way_here _ _ _) =
      let all : k ≡ m = omega (arith, fuel) in
      subst (λ j. Noted c c k j w w [] []) all (record { along = along_none r k (there c) w; joined = refl; reaches = h })
  noted_along c e n k m w v cs path same fuel h (way_forced _ d _ _ _ u _ a _ rest is passed step x) =
      let more : k ≡ suc (length rest + m) = omega (arith, fuel) in
      let here_left : Reaches r.decides (length rest + m) (left c) u = reaches_forced r.decides (length rest + m) (left c) w u a is step (subst (λ j. Reaches r.decides j (left c) w) more h) in
      let far_left : Reaches r.decides (length rest + m) (left d) u = subst (λ l. Reaches r.decides (length rest + m) l u) (sym passed.0) here_left in
      subst (λ j. Noted c e j m w v cs (a ∷ rest)) (sym more)
      (noted_forced c d e n (length rest + m) m w u v a cs rest same is passed step (noted_along d e (suc n) (length rest + m) m u v cs rest (passed.2 ∙ same) refl far_left x))
  noted_along c e n k m w v cs path same fuel h (way_chosen _ d _ _ i _ u _ a candidates bs rest is read taken step x) =
      let more : k ≡ suc (length rest + m) = omega (arith, fuel) in
      let here_left : Reaches r.decides (suc (length rest + m)) (i ∷ left d) w = subst (λ l. Reaches r.decides (suc (length rest + m)) l w) taken.0 (subst (λ j. Reaches r.decides j (left c) w) more h) in
      let far_left : Reaches r.decides (length rest + m) (left d) u = reaches_chosen r.decides (length rest + m) i (left d) w u candidates a is read step here_left in
      subst (λ j. Noted c e j m w v (i ∷ bs) (a ∷ rest)) (sym more)
      (noted_chosen c d e n (length rest + m) m i w u v a candidates bs rest same is read taken step (noted_along d e (suc n) (length rest + m) m u v bs rest (taken.2 ∙ same) refl far_left x))

  abbrev Following : ℕ → Standing → C → WalkEnd → Standing → C → Type 0
  Following limit d c stop e f = Walks r.decides Takes Leaves Passes limit d c stop e f

  walk_noted : (limit : ℕ) (d e : Standing) (c f : C) (stop : WalkEnd) → sleeps c ≡ on → Reaches r.decides (limit - d.trail.depth) (left c) d.world → (h : Following limit d c stop e f)
      → Noted c h.middle (limit - d.trail.depth) (limit - e.trail.depth) d.world e.world h.gone.choices h.gone.path
  walk_noted limit d e c f stop same reaches h =
      let deep = h.gone.depth in
      let most = within_limit r.decides Takes Leaves Passes limit d e c f stop h in
      noted_along c h.middle d.trail.depth (limit - d.trail.depth) (limit - e.trail.depth) d.world e.world h.gone.choices h.gone.path same (omega (arith, deep, most)) reaches h.gone.walked

  -- all choices are made where it stops
  made : (limit : ℕ) (d e : Standing) (c f : C) (stop : WalkEnd) → (h : Following limit d c stop e f) → Reaches r.decides (limit - e.trail.depth) (left h.middle) e.world → (left h.middle ≡ []) × (f ≡ h.middle)
  made limit d e c f (Ended o) h reaches = (leaf_left r.decides (limit - e.trail.depth) (left h.middle) e.world o h.stops.1 reaches, h.stops.0)
  made limit d e c f Fuel h reaches = let spent = h.stops.1 in (none_left r.decides (limit - e.trail.depth) (left h.middle) e.world (omega (arith, spent)) reaches, h.stops.0)
  made limit d e c f Untaken h reaches = let u = h.stops.0 in (untaken_left r.decides (limit - e.trail.depth) (left h.middle) e.world u.candidates u.choice u.left.0 reaches, u.left.1)

  pub going_all : (limit : ℕ) (d e : Standing) (c f : C) (stop : WalkEnd) → sleeps c ≡ on → d.trail.depth ≤ limit → Reaches r.decides (limit - d.trail.depth) (left c) d.world → Beyond d e → Following limit d c stop e f
      → Going r (limit - d.trail.depth) (left c) (there c) d [] (there f) e
  going_all limit d e c f stop same within reaches b h =
      let n = walk_noted limit d e c f stop same reaches h in
      let last = made limit d e c f stop h n.reaches in
      let most = within_limit r.decides Takes Leaves Passes limit d e c f stop h in
      subst (λ (x : C). Going r (limit - d.trail.depth) (left c) (there c) d [] (there x) e) (sym last.1)
      (record {
        beyond = record { program = b.program; mode = b.mode; reached = b.reached; path = h.gone.path; done_steps_are = h.gone.done_steps_are };
        taken = h.gone.choices;
        joined = ap (λ l. h.gone.choices ++ l) (sym last.0) ∙ n.joined;
        rest = limit - e.trail.depth;
        spent = omega (arith, most, within);
        along = n.along;
        reaches = reaches_none r.decides (limit - e.trail.depth) e.world;
      })

-- so much fuel is left
pub rest_is : (r : Rules) (s t : Option (List Step)) (limit : ℕ) (choices left : List ℕ) (d e : Standing) (h : Going r (limit - d.trail.depth) choices s d left t e) → d.trail.depth ≤ limit → h.rest ≡ limit - e.trail.depth
rest_is r s t limit choices left d e h within = let spent = h.spent in omega (arith, spent, within)
