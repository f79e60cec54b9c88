-- The pieces of a walk: one choice more, all of them joined, and how many there are.
use Rattle.std.proofs.Common.{◌≡◌, ℕ, zero, suc, ◌<◌, ◌≤◌, ◌+◌, ◌-◌, nat_lt, Bool, true, false, ◌||◌, if◌then◌else◌, List, [], ◌∷◌, ◌++◌, length, take, drop, map, slice_get, Option, Some, None, IsSome, refl, sym, ap, ◌∙◌, arith, add-one, append_assoc, append-nil}
use Rattle.std.specs.List.{AllByRecursion, flat_map, list_any, range_with_len}
use Rattle.std.proofs.lemmas.List.{length-append, length-map, take_all}
use Rattle.std.proofs.lemmas.Grind.{flat_map-append}
use Rattle.std.proofs.lemmas.List.Folds.{flat_map-map}
use Rattle.mpd_model.specs.declared.step.Step.{Step}
use Rattle.mpd_model.specs.declared.outcome.Outcome.{Outcome}
use Rattle.mpd_model.specs.declared.decision.Decision.{Decision}
use Rattle.mpd_model.specs.declared.decision.Decision.TheVariants.{Forced, Choice, Leaf}
use Rattle.mpd_model.specs.steps.World.{World}
use Rattle.mpd_model.specs.steps.Next.{next}
use Rattle.mpd_model.specs.runs.Decisions.{CanFollow}
use Rattle.mpd_explore.specs.declared.report.SearchLeaf as leaf
use Rattle.mpd_explore.specs.declared.report.SearchLimits.{SearchLimits}
use Rattle.mpd_explore.specs.declared.report.Witnesses.{Witnesses}
use Rattle.mpd_policy.specs.Walk.{Run, stepped, chosen, runs_of}
use Rattle.mpd_explore.specs.Sleeping.{put_off, put_to_sleep, awake_runs, branches_by, followed_by, Rules, rules_by, decides_by, walk_with, walk_of}
use Rattle.mpd_explore.specs.Search.{AllEnabled}
use Rattle.mpd_explore.specs.Report.{shown, up_to_bad, ended_by, listed, left_out}
use Rattle.mpd_explore.proofs.AsleepLemmas.{put_off_more}
use Rattle.mpd_explore.proofs.AwakeLemmas.{walk_by_is}
use Rattle.mpd_explore.proofs.MoveLemmas.{awake_is}
use Rattle.mpd_explore.proofs.ListedLemmas.{neither, not_less, up_few, up_whole, listed_few, listed_whole, ended_twice}
use Rattle.mpd_explore.specs.Pieces.{led_by, branched, cut_by, pieces, numbered, walk_from, walk_at, InState, ByCandidate, BeginsSo, Reaches, part, split_report, split_more}
use Rattle.mpd_explore.specs.Along.{counted, longer, runs_on, sleeping_behind, Adds, choices_of}
use Rattle.mpd_explore.specs.declared.splitter.Piece.{Piece}
use Rattle.mpd_explore.proofs.AlongLemmas.{walk_whole, walk_forced, walk_chosen, longer_none, longer_forced, longer_chosen, pieces_is, reaches_none}

-- ---- lists

map_all : {A B C : Type 0} (h : B → C) (f : A → List B) (xs : List A) → flat_map (λ x. map h (f x)) xs ≡ map h (flat_map f xs)
map_all h f [] = refl
map_all h f (x ∷ xs) = ap (λ zs. map h (f x) ++ zs) (map_all h f xs) ∙ sym (map_joined h (f x) (flat_map f xs)) where
  map_joined : {B C : Type 0} (g : B → C) (xs ys : List B) → map g (xs ++ ys) ≡ map g xs ++ map g ys
  map_joined g [] ys = refl
  map_joined g (y ∷ xs) ys = ap (λ zs. g y ∷ zs) (map_joined g xs ys)

-- the candidate at a place of the list
drop_next : (xs ys : List Step) (i : ℕ) (a : Step) → drop i xs ≡ a ∷ ys → drop (suc i) xs ≡ ys
drop_next [] ys zero a e = cc
drop_next [] ys (suc i) a e = cc
drop_next (x ∷ xs) ys zero a e = cc
drop_next (x ∷ xs) ys (suc i) a e = drop_next xs ys i a e

drop_read : (xs ys : List Step) (i : ℕ) (a : Step) → drop i xs ≡ a ∷ ys → slice_get xs i ≡ Some a
drop_read [] ys zero a e = cc
drop_read [] ys (suc i) a e = cc
drop_read (x ∷ xs) ys zero a e = cc
drop_read (x ∷ xs) ys (suc i) a e = drop_read xs ys i a e

one_list : {A : Type 0} (f : List ℕ → List A) → flat_map f ([] ∷ []) ≡ f []
one_list f = append-nil (f [])

module _ (decide : World → Decision) where
  pub pieces_none : (n : ℕ) (w : World) → pieces decide 0 n w ≡ [] ∷ []
  unfolding pieces
  pieces_none zero w = refl
  pieces_none (suc n) w = refl

  -- ---- one choice more

  longer_state : (k n : ℕ) (w : World) (a : Step) (o : Option World) → decide w ≡ Forced a → next w a ≡ o → ((v : World) → flat_map (λ cs. longer decide n cs v) (pieces decide (suc k) n v) ≡ pieces decide (suc (suc k)) n v)
      → flat_map (λ cs. longer decide (suc n) cs w) (runs_of (pieces decide (suc k) n) o) ≡ runs_of (pieces decide (suc (suc k)) n) o
  longer_state k n w a None forced e all = refl
  longer_state k n w a (Some v) forced e all = (λ i. flat_map (λ cs. longer_forced decide n cs w v a forced e i) (pieces decide (suc k) n v)) ∙ all v

  longer_candidate : (k n c : ℕ) (w : World) (candidates : List Step) (a : Step) (o : Option World) → decide w ≡ Choice candidates → slice_get candidates c ≡ Some a → next w a ≡ o → ((v : World) → flat_map (λ cs. longer decide n cs v) (pieces decide k n v) ≡ pieces decide (suc k) n v)
      → flat_map (λ cs. longer decide (suc n) cs w) (led_by c (runs_of (pieces decide k n) o)) ≡ led_by c (runs_of (pieces decide (suc k) n) o)
  longer_candidate k n c w candidates a None choice read e all = refl
  longer_candidate k n c w candidates a (Some v) choice read e all =
      flat_map-map (λ cs. longer decide (suc n) cs w) (λ cs. c ∷ cs) (pieces decide k n v)
      ∙ (λ i. flat_map (λ cs. longer_chosen decide n c cs w v candidates a choice read e i) (pieces decide k n v))
      ∙ map_all (λ cs. c ∷ cs) (λ cs. longer decide n cs v) (pieces decide k n v)
      ∙ ap (led_by c) (all v)

  longer_branched : (k n i : ℕ) (w : World) (candidates more : List Step) → decide w ≡ Choice candidates → drop i candidates ≡ more → ((v : World) → flat_map (λ cs. longer decide n cs v) (pieces decide k n v) ≡ pieces decide (suc k) n v)
      → flat_map (λ cs. longer decide (suc n) cs w) (branched (pieces decide k n) w i more) ≡ branched (pieces decide (suc k) n) w i more
  longer_branched k n i w candidates [] choice e all = refl
  longer_branched k n i w candidates (a ∷ more) choice e all =
      flat_map-append (λ cs. longer decide (suc n) cs w) (led_by i (runs_of (pieces decide k n) (next w a))) (branched (pieces decide k n) w (suc i) more)
      ∙ ap (λ xs. xs ++ flat_map (λ cs. longer decide (suc n) cs w) (branched (pieces decide k n) w (suc i) more)) (longer_candidate k n i w candidates a (next w a) choice (drop_read candidates more i a e) refl all)
      ∙ ap (λ xs. led_by i (runs_of (pieces decide (suc k) n) (next w a)) ++ xs) (longer_branched k n (suc i) w candidates more choice (drop_next candidates more i a e) all)

  longer_cut : (k n : ℕ) (w : World) (d : Decision) → decide w ≡ d → ((v : World) → flat_map (λ cs. longer decide n cs v) (pieces decide (suc k) n v) ≡ pieces decide (suc (suc k)) n v) → ((v : World) → flat_map (λ cs. longer decide n cs v) (pieces decide k n v) ≡ pieces decide (suc k) n v)
      → flat_map (λ cs. longer decide (suc n) cs w) (cut_by (pieces decide (suc k) n) (pieces decide k n) w d) ≡ cut_by (pieces decide (suc (suc k)) n) (pieces decide (suc k) n) w d
  longer_cut k n w (Forced a) e same less = longer_state k n w a (next w a) e refl same
  longer_cut k n w (Choice candidates) e same less = longer_branched k n 0 w candidates candidates e refl less
  longer_cut k n w (Leaf o) e same less = one_list (λ cs. longer decide (suc n) cs w) ∙ longer_none decide (suc n) w ∙ pieces_is decide 0 n w (Leaf o) e

  -- the pieces of one choice more are what each piece becomes
  pub all_longer_are : (n k : ℕ) (w : World) → flat_map (λ cs. longer decide n cs w) (pieces decide k n w) ≡ pieces decide (suc k) n w
  unfolding pieces longer
  all_longer_are zero zero w = refl
  all_longer_are zero (suc k) w = refl
  all_longer_are (suc n) zero w = one_list (λ cs. longer decide (suc n) cs w)
  all_longer_are (suc n) (suc k) w = longer_cut k n w (decide w) refl (λ v. all_longer_are n (suc k) v) (λ v. all_longer_are n k v)

  -- where a choice more makes no difference, none does
  pub never_longer : (fuel k j : ℕ) (w : World) → pieces decide (suc k) fuel w ≡ pieces decide k fuel w → pieces decide (k + j) fuel w ≡ pieces decide k fuel w
  never_longer fuel k zero w e = ap (λ m. pieces decide m fuel w) (omega arith)
  never_longer fuel k (suc j) w e =
      let more : k + suc j ≡ suc (k + j) = omega arith in
      ap (λ m. pieces decide m fuel w) more ∙ sym (all_longer_are fuel (k + j) w) ∙ ap (flat_map (λ cs. longer decide fuel cs w)) (never_longer fuel k j w e) ∙ all_longer_are fuel k w ∙ e

-- ---- all pieces joined

none_all : {A : Type 0} (xs : List A) → ◌≡◌ {A = List Run} (flat_map (λ (x : A). []) xs) []
none_all [] = refl
none_all (x ∷ xs) = none_all xs

none_by : (c : ℕ) (a : Step) (b : Bool) (runs : World → List Run) → [] ≡ map (chosen c a) (awake_runs b runs None)
none_by c a true runs = refl
none_by c a false runs = refl

module _ (r : Rules) where
  abbrev cuts : ℕ → ℕ → World → List (List ℕ)
  cuts k n w = pieces r.decides k n w

  abbrev AllJoin : ℕ → ℕ → Type 0
  AllJoin k n = (asleep : List Step) (v : World) → flat_map (λ cs. walk_from r n cs asleep v) (cuts k n v) ≡ walk_with r n asleep v

  walk_state : (k n : ℕ) (asleep : List Step) (w : World) (a : Step) (o : Option World) → r.decides w ≡ Forced a → next w a ≡ o → AllJoin (suc k) n
      → flat_map (λ cs. walk_from r (suc n) cs asleep w) (runs_of (cuts (suc k) n) o) ≡ map (stepped a) (runs_of (walk_with r n (r.keeps w a asleep)) o)
  walk_state k n asleep w a None forced e all = refl
  walk_state k n asleep w a (Some v) forced e all =
      let kept : List Step = r.keeps w a asleep in
      (λ i. flat_map (λ cs. walk_forced r n cs asleep w v a forced e i) (cuts (suc k) n v)) ∙ map_all (stepped a) (λ cs. walk_from r n cs kept v) (cuts (suc k) n v) ∙ ap (map (stepped a)) (all kept v)

  walks_behind : (k n : ℕ) (b : Bool) (s : List Step) (v : World) → AllJoin k n → flat_map (λ cs. runs_on r n (if b then None else Some s) cs v) (cuts k n v) ≡ awake_runs b (walk_with r n s) (Some v)
  walks_behind k n true s v all = none_all (cuts k n v)
  walks_behind k n false s v all = all s v

  walk_candidate : (k n c : ℕ) (asleep : List Step) (w : World) (candidates : List Step) (a : Step) (o : Option World) → r.decides w ≡ Choice candidates → slice_get candidates c ≡ Some a → next w a ≡ o → AllJoin k n
      → flat_map (λ cs. walk_from r (suc n) cs asleep w) (led_by c (runs_of (cuts k n) o))
      ≡ map (chosen c a) (awake_runs (list_any (r.same a) (put_off r.sleeps c candidates asleep)) (walk_with r n (r.keeps w a (put_off r.sleeps c candidates asleep))) o)
  walk_candidate k n c asleep w candidates a None choice read e all =
      let s : List Step = put_off r.sleeps c candidates asleep in
      none_by c a (list_any (r.same a) s) (walk_with r n (r.keeps w a s))
  walk_candidate k n c asleep w candidates a (Some v) choice read e all =
      let s : List Step = put_off r.sleeps c candidates asleep in
      flat_map-map (λ cs. walk_from r (suc n) cs asleep w) (λ cs. c ∷ cs) (cuts k n v)
      ∙ (λ i. flat_map (λ cs. walk_chosen r n c cs asleep w v candidates a choice read e i) (cuts k n v))
      ∙ map_all (chosen c a) (λ cs. runs_on r n (sleeping_behind r w candidates c a (Some asleep)) cs v) (cuts k n v)
      ∙ ap (map (chosen c a)) (walks_behind k n (list_any (r.same a) s) (r.keeps w a s) v all)

  walk_branched : (k n i : ℕ) (asleep : List Step) (w : World) (candidates more : List Step) → r.decides w ≡ Choice candidates → drop i candidates ≡ more → AllJoin k n
      → flat_map (λ cs. walk_from r (suc n) cs asleep w) (branched (cuts k n) w i more) ≡ branches_by r.same r.keeps r.sleeps (walk_with r n) w (put_off r.sleeps i candidates asleep) i more
  walk_branched k n i asleep w candidates [] choice e all = refl
  walk_branched k n i asleep w candidates (a ∷ more) choice e all =
      let s : List Step = put_off r.sleeps i candidates asleep in
      let rest : drop (suc i) candidates ≡ more = drop_next candidates more i a e in
      let fallen : put_off r.sleeps (suc i) candidates asleep ≡ put_to_sleep r.sleeps a s = put_off_more r.sleeps i candidates asleep a (e ∙ ap (λ xs. a ∷ xs) (sym rest)) in
      flat_map-append (λ cs. walk_from r (suc n) cs asleep w) (led_by i (runs_of (cuts k n) (next w a))) (branched (cuts k n) w (suc i) more)
      ∙ ap (λ xs. xs ++ flat_map (λ cs. walk_from r (suc n) cs asleep w) (branched (cuts k n) w (suc i) more)) (walk_candidate k n i asleep w candidates a (next w a) choice (drop_read candidates more i a e) refl all)
      ∙ ap (λ xs. map (chosen i a) (awake_runs (list_any (r.same a) s) (walk_with r n (r.keeps w a s)) (next w a)) ++ xs)
      (walk_branched k n (suc i) asleep w candidates more choice rest all ∙ ap (λ z. branches_by r.same r.keeps r.sleeps (walk_with r n) w z (suc i) more) fallen)

  walk_cut : (k n : ℕ) (asleep : List Step) (w : World) (d : Decision) → r.decides w ≡ d → AllJoin (suc k) n → AllJoin k n
      → flat_map (λ cs. walk_from r (suc n) cs asleep w) (cut_by (cuts (suc k) n) (cuts k n) w d) ≡ followed_by r.same r.keeps r.sleeps (walk_with r n) asleep w d
  walk_cut k n asleep w (Forced a) e same less = walk_state k n asleep w a (next w a) e refl same
  walk_cut k n asleep w (Choice candidates) e same less = walk_branched k n 0 asleep w candidates candidates e refl less
  walk_cut k n asleep w (Leaf o) e same less = one_list (λ cs. walk_from r (suc n) cs asleep w) ∙ walk_whole r (suc n) asleep w ∙ awake_is r.decides r.same r.keeps r.sleeps n asleep w (Leaf o) e

  walks_joined : (n k : ℕ) → AllJoin k n
  unfolding pieces
  walks_joined zero zero = λ asleep w. one_list (λ cs. walk_from r 0 cs asleep w) ∙ walk_whole r 0 asleep w
  walks_joined zero (suc k) = λ asleep w. one_list (λ cs. walk_from r 0 cs asleep w) ∙ walk_whole r 0 asleep w
  walks_joined (suc n) zero = λ asleep w. one_list (λ cs. walk_from r (suc n) cs asleep w) ∙ walk_whole r (suc n) asleep w
  walks_joined (suc n) (suc k) = λ asleep w. walk_cut k n asleep w (r.decides w) refl (walks_joined n (suc k)) (walks_joined n k) ∙ sym (awake_is r.decides r.same r.keeps r.sleeps n asleep w (r.decides w) refl)

-- of the walk that is asked for
pub whole_at : (l : SearchLimits) (w : World) → walk_at l [] w ≡ walk_of l w
whole_at l w = walk_whole (rules_by l.ends) l.fuel [] w ∙ walk_by_is l.ends l.fuel w

pub pieces_join : (k : ℕ) (l : SearchLimits) (w : World) → flat_map (λ cs. walk_at l cs w) (pieces (decides_by l.ends) k l.fuel w) ≡ walk_of l w
pieces_join k l w = walks_joined (rules_by l.ends) l.fuel k [] w ∙ walk_by_is l.ends l.fuel w

-- ---- some run begins with the choices of each

into_state : (P : World → Type 0) (o : Option World) (v : World) → o ≡ Some v → P v → InState P o
into_state P o v e h = rw e h

into_candidate : (P : World → Type 0) (w : World) (o : Option Step) (a : Step) → o ≡ Some a → InState P (next w a) → ByCandidate P w o
into_candidate P w o a e h = rw e h

all_by : {A : Type 0} (P Q : A → Type 0) (xs : List A) → ((x : A) → P x → Q x) → AllByRecursion P xs → AllByRecursion Q xs
all_by P Q [] f h = tt
all_by P Q (x ∷ xs) f h = (f x h.0, all_by P Q xs f h.1)

all_led : (P Q : List ℕ → Type 0) (c : ℕ) (xs : List (List ℕ)) → ((x : List ℕ) → P x → Q (c ∷ x)) → AllByRecursion P xs → AllByRecursion Q (led_by c xs)
all_led P Q c [] f h = tt
all_led P Q c (x ∷ xs) f h = (f x h.0, all_led P Q c xs f h.1)

all_join : {A : Type 0} (P : A → Type 0) (xs ys : List A) → AllByRecursion P xs → AllByRecursion P ys → AllByRecursion P (xs ++ ys)
all_join P [] ys h k = k
all_join P (x ∷ xs) ys h k = (h.0, all_join P xs ys h.1 k)

module _ (decide : World → Decision) where
  into_reaches : (n c : ℕ) (cs : List ℕ) (w : World) (d : Decision) → decide w ≡ d → BeginsSo (Reaches decide n) w c cs d → Reaches decide (suc n) (c ∷ cs) w
  unfolding Reaches
  into_reaches n c cs w d is h = rw is h

  reached_forced : (n : ℕ) (cs : List ℕ) (w v : World) (a : Step) → decide w ≡ Forced a → next w a ≡ Some v → Reaches decide n cs v → Reaches decide (suc n) cs w
  reached_forced n [] w v a forced step h = reaches_none decide (suc n) w
  reached_forced n (c ∷ cs) w v a forced step h = into_reaches n c cs w (Forced a) forced (into_state (Reaches decide n (c ∷ cs)) (next w a) v step h)

  reached_chosen : (n c : ℕ) (cs : List ℕ) (w v : World) (candidates : List Step) (a : Step) → decide w ≡ Choice candidates → slice_get candidates c ≡ Some a → next w a ≡ Some v → Reaches decide n cs v → Reaches decide (suc n) (c ∷ cs) w
  reached_chosen n c cs w v candidates a choice read step h =
      into_reaches n c cs w (Choice candidates) choice (into_candidate (Reaches decide n cs) w (slice_get candidates c) a read (into_state (Reaches decide n cs) (next w a) v step h))

  AllReached : ℕ → ℕ → World → Type 0
  AllReached k n w = AllByRecursion (λ cs. Reaches decide n cs w) (pieces decide k n w)

  reach_state : (k n : ℕ) (w : World) (a : Step) (o : Option World) → decide w ≡ Forced a → next w a ≡ o → ((v : World) → AllReached (suc k) n v) → AllByRecursion (λ cs. Reaches decide (suc n) cs w) (runs_of (pieces decide (suc k) n) o)
  unfolding AllReached
  reach_state k n w a None forced e all = tt
  reach_state k n w a (Some v) forced e all = all_by (λ cs. Reaches decide n cs v) (λ cs. Reaches decide (suc n) cs w) (pieces decide (suc k) n v) (λ cs h. reached_forced n cs w v a forced e h) (all v)

  reach_candidate : (k n c : ℕ) (w : World) (candidates : List Step) (a : Step) (o : Option World) → decide w ≡ Choice candidates → slice_get candidates c ≡ Some a → next w a ≡ o → ((v : World) → AllReached k n v)
      → AllByRecursion (λ cs. Reaches decide (suc n) cs w) (led_by c (runs_of (pieces decide k n) o))
  unfolding AllReached
  reach_candidate k n c w candidates a None choice read e all = tt
  reach_candidate k n c w candidates a (Some v) choice read e all =
      all_led (λ cs. Reaches decide n cs v) (λ cs. Reaches decide (suc n) cs w) c (pieces decide k n v) (λ cs h. reached_chosen n c cs w v candidates a choice read e h) (all v)

  reach_branched : (k n i : ℕ) (w : World) (candidates more : List Step) → decide w ≡ Choice candidates → drop i candidates ≡ more → ((v : World) → AllReached k n v) → AllByRecursion (λ cs. Reaches decide (suc n) cs w) (branched (pieces decide k n) w i more)
  reach_branched k n i w candidates [] choice e all = tt
  reach_branched k n i w candidates (a ∷ more) choice e all =
      all_join (λ cs. Reaches decide (suc n) cs w) (led_by i (runs_of (pieces decide k n) (next w a))) (branched (pieces decide k n) w (suc i) more)
      (reach_candidate k n i w candidates a (next w a) choice (drop_read candidates more i a e) refl all)
      (reach_branched k n (suc i) w candidates more choice (drop_next candidates more i a e) all)

  reach_cut : (k n : ℕ) (w : World) (d : Decision) → decide w ≡ d → ((v : World) → AllReached (suc k) n v) → ((v : World) → AllReached k n v) → AllByRecursion (λ cs. Reaches decide (suc n) cs w) (cut_by (pieces decide (suc k) n) (pieces decide k n) w d)
  reach_cut k n w (Forced a) e same less = reach_state k n w a (next w a) e refl same
  reach_cut k n w (Choice candidates) e same less = reach_branched k n 0 w candidates candidates e refl less
  reach_cut k n w (Leaf o) e same less = (reaches_none decide (suc n) w, tt)

  all_reached : (n k : ℕ) (w : World) → AllReached k n w
  unfolding pieces AllReached
  all_reached zero zero w = (reaches_none decide 0 w, tt)
  all_reached zero (suc k) w = (reaches_none decide 0 w, tt)
  all_reached (suc n) zero w = (reaches_none decide (suc n) w, tt)
  all_reached (suc n) (suc k) w = reach_cut k n w (decide w) refl (λ v. all_reached n (suc k) v) (λ v. all_reached n k v)

  pub pieces_reached : (k fuel : ℕ) (w : World) → AllByRecursion (λ cs. Reaches decide fuel cs w) (pieces decide k fuel w)
  unfolding AllReached
  pieces_reached k fuel w = all_reached fuel k w

-- ---- there is one, and never fewer by a choice more

first_enabled : (w : World) (a : Step) (more : List Step) → AllEnabled w (a ∷ more) → IsSome (next w a)
first_enabled w a more h = h 0 a (omega arith)

split_sum : (k m : ℕ) → k ≤ m → k + (m - k) ≡ m
split_sum k m h = omega arith

module _ (decide : World → Decision) where
  Some_of : ℕ → ℕ → Type 0
  Some_of k n = (w : World) → 0 < length (pieces decide k n w)

  some_state : (k n : ℕ) (o : Option World) → Some_of k n → IsSome o → 0 < length (runs_of (pieces decide k n) o)
  unfolding Some_of
  some_state k n None all h = cc
  some_state k n (Some v) all h = all v

  some_cut : (k n : ℕ) (w : World) (d : Decision) → CanFollow w d → Some_of (suc k) n → Some_of k n → 0 < length (cut_by (pieces decide (suc k) n) (pieces decide k n) w d)
  some_cut k n w (Forced a) h same less = some_state (suc k) n (next w a) same h
  some_cut k n w (Choice []) h same less = absurd (omega (arith, h.0))
  some_cut k n w (Choice (a ∷ more)) h same less =
      omega (arith, length-append (led_by 0 (runs_of (pieces decide k n) (next w a))) (branched (pieces decide k n) w 1 more), length-map (runs_of (pieces decide k n) (next w a)) (λ cs. 0 ∷ cs), some_state k n (next w a) less (first_enabled w a more h.1))
  some_cut k n w (Leaf o) h same less = omega arith

  pieces_some : (n k : ℕ) → ((v : World) → CanFollow v (decide v)) → Some_of k n
  unfolding pieces Some_of
  pieces_some zero zero law w = omega arith
  pieces_some zero (suc k) law w = omega arith
  pieces_some (suc n) zero law w = omega arith
  pieces_some (suc n) (suc k) law w = some_cut k n w (decide w) (law w) (pieces_some n (suc k) law) (pieces_some n k law)

  some_piece : (n k : ℕ) (w : World) → ((v : World) → CanFollow v (decide v)) → 0 < length (pieces decide k n w)
  unfolding Some_of
  some_piece n k w law = pieces_some n k law w

  Rises : ℕ → ℕ → Type 0
  Rises k n = (w : World) → length (pieces decide k n w) ≤ length (pieces decide (suc k) n w)

  rise_state : (k n : ℕ) (o : Option World) → Rises k n → length (runs_of (pieces decide k n) o) ≤ length (runs_of (pieces decide (suc k) n) o)
  unfolding Rises
  rise_state k n None all = omega arith
  rise_state k n (Some v) all = all v

  rise_branched : (k n i : ℕ) (w : World) (candidates : List Step) → Rises k n → length (branched (pieces decide k n) w i candidates) ≤ length (branched (pieces decide (suc k) n) w i candidates)
  rise_branched k n i w [] all = omega arith
  rise_branched k n i w (a ∷ more) all =
      let xs = runs_of (pieces decide k n) (next w a) in
      let ys = runs_of (pieces decide (suc k) n) (next w a) in
      omega (
        arith,
        length-append (led_by i xs) (branched (pieces decide k n) w (suc i) more),
        length-map xs (λ cs. i ∷ cs),
        length-append (led_by i ys) (branched (pieces decide (suc k) n) w (suc i) more),
        length-map ys (λ cs. i ∷ cs),
        rise_state k n (next w a) all,
        rise_branched k n (suc i) w more all,
      )

  rise_cut : (k n : ℕ) (w : World) (d : Decision) → Rises (suc k) n → Rises k n → length (cut_by (pieces decide (suc k) n) (pieces decide k n) w d) ≤ length (cut_by (pieces decide (suc (suc k)) n) (pieces decide (suc k) n) w d)
  rise_cut k n w (Forced a) same less = rise_state (suc k) n (next w a) same
  rise_cut k n w (Choice candidates) same less = rise_branched k n 0 w candidates less
  rise_cut k n w (Leaf o) same less = omega arith

  first_rise : (n : ℕ) (w : World) (m : ℕ) → 0 < m → length (pieces decide 0 n w) ≤ m
  first_rise n w m h = omega (arith, ap length (pieces_none decide n w))

  rises : (n k : ℕ) → ((v : World) → CanFollow v (decide v)) → Rises k n
  unfolding pieces Rises
  rises zero zero law w = omega arith
  rises zero (suc k) law w = omega arith
  rises (suc n) zero law w = first_rise (suc n) w (length (pieces decide 1 (suc n) w)) (some_piece (suc n) 1 w law)
  rises (suc n) (suc k) law w = rise_cut k n w (decide w) (rises n (suc k) law) (rises n k law)

  rises_by : (fuel k j : ℕ) (w : World) → ((v : World) → CanFollow v (decide v)) → length (pieces decide k fuel w) ≤ length (pieces decide (k + j) fuel w)
  unfolding Rises
  rises_by fuel k zero w law = omega (arith, ap (λ m. length (pieces decide m fuel w)) (add_none k)) where
    add_none : (m : ℕ) → m + 0 ≡ m
    add_none m = omega arith
  rises_by fuel k (suc j) w law =
      let more : k + suc j ≡ suc (k + j) = omega arith in
      omega (arith, ap (λ m. length (pieces decide m fuel w)) more, rises_by fuel k j w law, rises fuel (k + j) law w)

  pub never_fewer : (fuel k m : ℕ) (w : World) → ((v : World) → CanFollow v (decide v)) → k ≤ m → length (pieces decide k fuel w) ≤ length (pieces decide m fuel w)
  never_fewer fuel k m w law h = omega (arith, ap (λ q. length (pieces decide q fuel w)) (split_sum k m h), rises_by fuel k (m - k) w law)

  pub all_the_same : (fuel k m : ℕ) (w : World) → k ≤ m → pieces decide (suc k) fuel w ≡ pieces decide k fuel w → pieces decide m fuel w ≡ pieces decide k fuel w
  all_the_same fuel k m w h e = ap (λ q. pieces decide q fuel w) (sym (split_sum k m h)) ∙ never_longer decide fuel k (m - k) w e

-- ---- cut by no choice

or_nothing : (b : Bool) → (b || false) ≡ b
or_nothing true = refl
or_nothing false = refl

pub if_same : (b x y u v : Bool) → x ≡ u → (b ≡ false → y ≡ v) → (if b then x else y) ≡ (if b then u else v)
if_same true x y u v e f = e
if_same false x y u v e f = f refl

whole_report : (l : SearchLimits) (w : World) → split_report 0 l w ≡ listed l (map shown (walk_of l w))
whole_report l w =
    ap (λ cs. ended_by l.until_bad (flat_map (λ x. part l x w) cs)) (pieces_none (decides_by l.ends) l.fuel w)
    ∙ ap (ended_by l.until_bad) (one_list (λ x. part l x w))
    ∙ ended_twice l.until_bad (take l.runs (map shown (walk_at l [] w)))
    ∙ ap (λ rs. listed l (map shown rs)) (whole_at l w)

whole_more : (l : SearchLimits) (w : World) → split_more 0 l w ≡ left_out l (map shown (walk_of l w))
whole_more l w =
    let long : length (walk_of l w) ≡ length (map shown (walk_of l w)) = sym (length-map (walk_of l w) shown) in
    let any : list_any (λ cs. nat_lt l.runs (length (walk_at l cs w))) (pieces (decides_by l.ends) 0 l.fuel w) ≡ nat_lt l.runs (length (map shown (walk_of l w))) =
    ap (list_any (λ cs. nat_lt l.runs (length (walk_at l cs w)))) (pieces_none (decides_by l.ends) l.fuel w) ∙ or_nothing (nat_lt l.runs (length (walk_at l [] w))) ∙ ap (λ rs. nat_lt l.runs (length rs)) (whole_at l w) ∙ ap (nat_lt l.runs) long in
    if_same l.until_bad _ _ _ _ (ap (λ ls. nat_lt (length ls) (length (walk_of l w))) (whole_report l w) ∙ ap (nat_lt (length (listed l (map shown (walk_of l w))))) long) (λ h. any)

pub no_choice : (l : SearchLimits) (w : World) → (split_report 0 l w ≡ listed l (map shown (walk_of l w))) × (split_more 0 l w ≡ left_out l (map shown (walk_of l w)))
no_choice l w = (whole_report l w, whole_more l w)

-- ---- no piece has more

map_joins : (f : Run → leaf.SearchLeaf) (xs ys : List Run) → map f (xs ++ ys) ≡ map f xs ++ map f ys
map_joins f [] ys = refl
map_joins f (x ∷ xs) ys = ap (λ zs. f x ∷ zs) (map_joins f xs ys)

joined_few : (l : SearchLimits) (of : List ℕ → List Run) (xs : List (List ℕ)) → length (flat_map (λ cs. listed l (map shown (of cs))) xs) ≤ length (flat_map of xs)
joined_few l of [] = omega arith
joined_few l of (x ∷ xs) =
    omega (arith, length-append (listed l (map shown (of x))) (flat_map (λ cs. listed l (map shown (of cs))) xs), length-append (of x) (flat_map of xs), listed_few l (map shown (of x)), length-map (of x) shown, joined_few l of xs)

-- where as many are listed of all pieces, all are
joined_whole : (l : SearchLimits) (of : List ℕ → List Run) (xs : List (List ℕ)) → length (flat_map of xs) ≤ length (flat_map (λ cs. listed l (map shown (of cs))) xs) → flat_map (λ cs. listed l (map shown (of cs))) xs ≡ map shown (flat_map of xs)
joined_whole l of [] h = refl
joined_whole l of (x ∷ xs) h =
    let own : List leaf.SearchLeaf = listed l (map shown (of x)) in
    let rest : List leaf.SearchLeaf = flat_map (λ cs. listed l (map shown (of cs))) xs in
    let all : length (of x) + length (flat_map of xs) ≤ length own + length rest = omega (arith, h, length-append own rest, length-append (of x) (flat_map of xs)) in
    let long : length (map shown (of x)) ≡ length (of x) = length-map (of x) shown in
    let few : length own ≤ length (map shown (of x)) = listed_few l (map shown (of x)) in
    let others : length rest ≤ length (flat_map of xs) = joined_few l of xs in
    ap (λ ls. ls ++ rest) (listed_whole l (map shown (of x)) (omega (arith, all, long, few, others)))
    ∙ ap (λ ls. map shown (of x) ++ ls) (joined_whole l of xs (omega (arith, all, long, few, others)))
    ∙ sym (map_joins shown (of x) (flat_map of xs))

any_same : (f g : List ℕ → Bool) (xs : List (List ℕ)) → ((x : List ℕ) → f x ≡ g x) → list_any f xs ≡ list_any g xs
any_same f g [] h = refl
any_same f g (x ∷ xs) h = ap (λ b. b || list_any f xs) (h x) ∙ ap (λ b. g x || b) (any_same f g xs h)

each_taken : (runs : ℕ) (of : List ℕ → List Run) (xs : List (List ℕ)) → list_any (λ cs. nat_lt runs (length (of cs))) xs ≡ false → flat_map (λ cs. take runs (map shown (of cs))) xs ≡ map shown (flat_map of xs)
each_taken runs of [] h = refl
each_taken runs of (x ∷ xs) h =
    let both = neither (nat_lt runs (length (of x))) (list_any (λ cs. nat_lt runs (length (of cs))) xs) h in
    let few : length (map shown (of x)) ≤ runs = omega (arith, length-map (of x) shown, not_less runs (length (of x)) both.0) in
    ap (λ ls. ls ++ flat_map (λ cs. take runs (map shown (of cs))) xs) (take_all runs (map shown (of x)) few)
    ∙ ap (λ ls. map shown (of x) ++ ls) (each_taken runs of xs both.1)
    ∙ sym (map_joins shown (of x) (flat_map of xs))

up_joined : (l : SearchLimits) (of : List ℕ → List Run) (xs : List (List ℕ)) → nat_lt (length (up_to_bad (flat_map (λ cs. listed l (map shown (of cs))) xs))) (length (flat_map of xs)) ≡ false
    → up_to_bad (flat_map (λ cs. listed l (map shown (of cs))) xs) ≡ map shown (flat_map of xs)
up_joined l of xs h =
    let all : List leaf.SearchLeaf = flat_map (λ cs. listed l (map shown (of cs))) xs in
    let many : length (flat_map of xs) ≤ length (up_to_bad all) = not_less (length (up_to_bad all)) (length (flat_map of xs)) h in
    let few : length (up_to_bad all) ≤ length all = up_few all in
    let same : all ≡ map shown (flat_map of xs) = joined_whole l of xs (omega (arith, many, few)) in
    up_whole all (omega (arith, many, joined_few l of xs)) ∙ same

no_more_by : (b : Bool) (runs fuel : ℕ) (witnesses : Witnesses) (of : List ℕ → List Run) (xs : List (List ℕ))
    → (if b then nat_lt (length (ended_by b (flat_map (λ cs. ended_by b (take runs (map shown (of cs)))) xs))) (length (flat_map of xs)) else list_any (λ cs. nat_lt runs (length (of cs))) xs) ≡ false
    → ended_by b (flat_map (λ cs. ended_by b (take runs (map shown (of cs)))) xs) ≡ map shown (flat_map of xs)
no_more_by true runs fuel witnesses of xs h = up_joined (record { runs = runs; fuel = fuel; witnesses = witnesses; until_bad = true; ends = false }) of xs h
no_more_by false runs fuel witnesses of xs h = each_taken runs of xs h

pub no_more : (k : ℕ) (l : SearchLimits) (w : World) → split_more k l w ≡ false → split_report k l w ≡ map shown (walk_of l w)
no_more k l w h =
    let joined : length (walk_of l w) ≡ length (flat_map (λ cs. walk_at l cs w) (pieces (decides_by l.ends) k l.fuel w)) = sym (ap length (pieces_join k l w)) in
    let more : (if l.until_bad then nat_lt (length (split_report k l w)) (length (flat_map (λ cs. walk_at l cs w) (pieces (decides_by l.ends) k l.fuel w))) else list_any (λ cs. nat_lt l.runs (length (walk_at l cs w))) (pieces (decides_by l.ends) k l.fuel w)) ≡ false =
    sym (ap (λ n. if l.until_bad then nat_lt (length (split_report k l w)) n else list_any (λ cs. nat_lt l.runs (length (walk_at l cs w))) (pieces (decides_by l.ends) k l.fuel w)) joined) ∙ h in
    no_more_by l.until_bad l.runs l.fuel l.witnesses (λ cs. walk_at l cs w) (pieces (decides_by l.ends) k l.fuel w) more ∙ ap (map shown) (pieces_join k l w)

-- ---- the pieces of one choice

enabled_rest : (w : World) (a : Step) (more : List Step) → AllEnabled w (a ∷ more) → AllEnabled w more
enabled_rest w a more h = λ k d within. h (suc k) d (omega (arith, within))

pub counted_some : (m : ℕ) → 0 < m → counted m ≡ map (λ c. c ∷ []) (range_with_len 0 m)
counted_some zero h = absurd (omega (arith, h))
counted_some (suc m) h = refl

module _ (decide : World → Decision) where
  one_led : (n c : ℕ) (o : Option World) → IsSome o → led_by c (runs_of (pieces decide 0 n) o) ≡ (c ∷ []) ∷ []
  one_led n c None h = cc
  one_led n c (Some v) h = ap (led_by c) (pieces_none decide n v)

  each_candidate : (n i : ℕ) (w : World) (candidates : List Step) → AllEnabled w candidates → branched (pieces decide 0 n) w i candidates ≡ map (λ c. c ∷ []) (range_with_len i (length candidates))
  each_candidate n i w [] h = refl
  each_candidate n i w (a ∷ more) h =
      ap (λ xs. xs ++ branched (pieces decide 0 n) w (suc i) more) (one_led n i (next w a) (first_enabled w a more h))
      ∙ ap (λ xs. (i ∷ []) ∷ xs) (each_candidate n (suc i) w more (enabled_rest w a more h) ∙ ap (λ q. map (λ c. c ∷ []) (range_with_len q (length more))) (sym (add-one i)))

  pub choice_counted : (n : ℕ) (w : World) (candidates : List Step) → decide w ≡ Choice candidates → CanFollow w (Choice candidates) → pieces decide 1 (suc n) w ≡ counted (length candidates)
  choice_counted n w candidates choice h = pieces_is decide 0 n w (Choice candidates) choice ∙ each_candidate n 0 w candidates h.1 ∙ sym (counted_some (length candidates) h.0)

  pub leaf_counted : (n : ℕ) (w : World) (o : Outcome) → decide w ≡ Leaf o → pieces decide 1 (suc n) w ≡ counted 0
  leaf_counted n w o leaf = pieces_is decide 0 n w (Leaf o) leaf

  pub fuel_counted : (n : ℕ) (w : World) → n ≡ 0 → pieces decide 1 n w ≡ counted 0
  unfolding pieces
  fuel_counted n w e = ap (λ m. pieces decide 1 m w) e

-- ---- pieces are numbered in order

numbered_join : (i : ℕ) (xs ys : List (List ℕ)) → numbered i (xs ++ ys) ≡ numbered i xs ++ numbered (i + length xs) ys
numbered_join i [] ys = ap (λ n. numbered n ys) (omega arith)
numbered_join i (x ∷ xs) ys = ap (λ ps. record { number = i; choices = x } ∷ ps) (numbered_join (suc i) xs ys ∙ ap (λ n. numbered (suc i) xs ++ numbered n ys) (move i (length xs))) where
  move : (a b : ℕ) → suc a + b ≡ a + suc b
  move a b = omega arith

numbered_long : (i : ℕ) (xs : List (List ℕ)) → length (numbered i xs) ≡ length xs
numbered_long i [] = refl
numbered_long i (x ∷ xs) = ap suc (numbered_long (suc i) xs)

pub numbered_choices : (i : ℕ) (xs : List (List ℕ)) → choices_of (numbered i xs) ≡ xs
numbered_choices i [] = refl
numbered_choices i (x ∷ xs) = ap (λ ys. x ∷ ys) (numbered_choices (suc i) xs)

pub adds_none : (ps : List Piece) → Adds ps [] ps
adds_none ps = record { numbers = λ xs e. e ∙ ap (numbered 0) (sym (append-nil xs)); count = omega arith }

pub adds_one : (old new : List Piece) (cs : List ℕ) → new ≡ old ++ record { number = length old; choices = cs } ∷ [] → Adds old (cs ∷ []) new
adds_one old new cs is =
    record {
      numbers = λ xs e. is ∙ ap (λ ps. ps ++ record { number = length old; choices = cs } ∷ []) e ∙ ap (λ n. numbered 0 xs ++ record { number = n; choices = cs } ∷ []) (ap length e ∙ numbered_long 0 xs) ∙ sym (numbered_join 0 xs (cs ∷ []) ∙ ap (λ n. numbered 0 xs ++ numbered n (cs ∷ [])) (omega arith));
      count = ap length is ∙ length-append old (record { number = length old; choices = cs } ∷ []);
    }

pub adds_then : (old mid new : List Piece) (xs ys : List (List ℕ)) → Adds old xs mid → Adds mid ys new → Adds old (xs ++ ys) new
adds_then old mid new xs ys a b =
    record {
      numbers = λ zs e. b.numbers (zs ++ xs) (a.numbers zs e) ∙ ap (numbered 0) (append_assoc zs xs ys);
      count = omega (arith, a.count, b.count, length-append xs ys);
    }

pub adds_same : (old new : List Piece) (xs ys : List (List ℕ)) → xs ≡ ys → Adds old xs new → Adds old ys new
adds_same old new xs ys e h = rw e at h
