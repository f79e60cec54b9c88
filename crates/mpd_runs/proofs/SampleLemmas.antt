-- One run more is added to a sample, and what a sample has in the end.
use Rattle.std.proofs.Common.{◌≡◌, inl, inr, ℕ, zero, suc, ◌+◌, ◌<◌, ◌≤◌, ◌&&◌, ◌||◌, cond, if◌then◌else◌, nat_lt, Bool, true, false, List, [], ◌∷◌, ◌++◌, length, map, take, filter, Option, Some, Ordering, Less, Equal, Greater, is_eq, refl, sym, ap, ◌∙◌, arith, append_assoc, append-nil, subst}
use Rattle.std.specs.List.{AllByRecursion, list_any}
use Rattle.std.specs.List.Sorted.{IsStrictlySortedBy}
use Rattle.std.proofs.lemmas.List.Kept.{IsStrictlySortedBy-filter}
use Rattle.std.proofs.lemmas.List.{length-map, take_all}
use Rattle.rand_core.specs.Stream.{Stream}
use Rattle.mpd_model.specs.declared.call.Mode.{Mode}
use Rattle.mpd_model.specs.declared.step.Step.{Step}
use Rattle.mpd_model.specs.script.Program.{Program}
use Rattle.mpd_model.specs.steps.World.{World, start}
use Rattle.mpd_model.specs.steps.Next.{fold}
use Rattle.mpd_model.specs.runs.Decisions.{CanFollow}
use Rattle.mpd_model.specs.runs.Trail.{Standing, done_steps, step_eq}
use Rattle.mpd_policy.specs.Wide.{sleeps_on, wide_decision}
use Rattle.mpd_explore.specs.declared.report.SearchLeaf.{SearchLeaf}
use Rattle.mpd_explore.specs.declared.report.SearchLimits.{SearchLimits}
use Rattle.mpd_policy.specs.Walk.{Run, wide_walk, run_by, steps_by}
use Rattle.mpd_explore.specs.Report.{shown, is_bad}
use Rattle.mpd_explore.specs.Sleeping.{awake_by}
use Rattle.mpd_explore.specs.Witness.{HasWitness, witness_by}
use Rattle.mpd_explore.specs.WitnessTexts.{behind_number, witness_text, witness_texts}
use Rattle.mpd_explore.specs.declared.report.Witnesses.{Witnesses}
use Rattle.mpd_explore.specs.declared.report.Witnesses.TheVariants.{OfNone, OfDeadlocks, OfAll}
use Rattle.mpd_explore.specs.Asked.{are_asked, asked_text}
use Rattle.mpd_explore.proofs.ListedLemmas.{not_less}
use Rattle.mpd_explore.proofs.AwakeLemmas.{no_wide_sleeps}
use Rattle.mpd_explore.proofs.WitnessLemmas.{awake_witnessed}
use Rattle.mpd_runs.specs.Order.{order, same_choices, run_order, leaf_order, Rises, with_leaf_by, with_leaf}
use Rattle.mpd_runs.specs.Drawn.{drawn, is_bad_run, draws, is_among, sampled, is_listed}
use Rattle.mpd_runs.specs.Drawing.{Drew, TextsAre, IsEven, Adds, Sampling, Samples, TellsRun}
use Rattle.mpd_runs.proofs.OrderLemmas.{order_turned, order_itself, RunsRise, AllAbove, walk_rises}
use Rattle.mpd_runs.proofs.HasLemmas.{Has, walk_has}

-- ---- which runs are among those drawn

or_false : (a : Bool) → (a || false) ≡ a
or_false true = refl
or_false false = refl

or_true : (a : Bool) → (a || true) ≡ true
or_true true = refl
or_true false = refl

or_group : (x y z : Bool) → ((x || y) || z) ≡ (x || (y || z))
or_group true y z = refl
or_group false y z = refl

among_more : (lists : List (List ℕ)) (cs : List ℕ) (r : Run) → is_among (lists ++ cs ∷ []) r ≡ (is_among lists r || same_choices cs r.choices)
among_more [] cs r = or_false (same_choices cs r.choices)
among_more (ds ∷ lists) cs r = ap (λ b. same_choices ds r.choices || b) (among_more lists cs r) ∙ sym (or_group (same_choices ds r.choices) (is_among lists r) (same_choices cs r.choices))

-- ---- a leaf at its place among those of the walk

front_placed : (l : SearchLeaf) (ls : List SearchLeaf) → AllByRecursion (λ m. leaf_order m l ≡ Greater) ls → with_leaf l ls ≡ l ∷ ls
front_placed l [] h = refl
front_placed l (m ∷ ms) h = ap (λ o. with_leaf_by o l m ms (with_leaf l ms)) h.0

module _ (r : Run) (p q : Run → Bool) (is : (x : Run) → q x ≡ (p x || same_choices r.choices x.choices)) where
  other_number : (x : Run) (o : Ordering) → order r.choices x.choices ≡ o → is_eq o ≡ false → q x ≡ p x
  other_number x o e h = is x ∙ ap (λ b. p x || b) (ap is_eq e ∙ h) ∙ or_false (p x)

  own_number : (x : Run) → x ≡ r → q x ≡ true
  own_number x e = is x ∙ ap (λ b. p x || b) (ap (λ (y : Run). same_choices r.choices y.choices) e ∙ ap is_eq (order_itself r.choices)) ∙ or_true (p x)

  filter_case : (x : Run) (xs : List Run) (b : Bool) → q x ≡ b → p x ≡ b → filter q xs ≡ filter p xs → filter q (x ∷ xs) ≡ filter p (x ∷ xs)
  filter_case x xs b e f same = ap (λ c. cond c (x ∷ filter q xs) (filter q xs)) e ∙ ap (λ ys. cond b (x ∷ ys) ys) same ∙ ap (λ c. cond c (x ∷ filter p xs) (filter p xs)) (sym f)

  above_same : (xs : List Run) → AllAbove r xs → filter q xs ≡ filter p xs
  above_same [] h = refl
  above_same (x ∷ xs) h = filter_case x xs (p x) (other_number x Less h.0 refl) refl (above_same xs h.1)

  above_case : (x : Run) (b : Bool) (rest : List Run) → leaf_order (shown x) (shown r) ≡ Greater → AllByRecursion (λ m. leaf_order m (shown r) ≡ Greater) (map shown rest) → AllByRecursion (λ m. leaf_order m (shown r) ≡ Greater) (map shown (cond b (x ∷ rest) rest))
  above_case x true rest h all = (h, all)
  above_case x false rest h all = all

  above_shown : (xs : List Run) → AllAbove r xs → AllByRecursion (λ m. leaf_order m (shown r) ≡ Greater) (map shown (filter p xs))
  above_shown [] h = tt
  above_shown (x ∷ xs) h = above_case x (p x) (filter p xs) (order_turned r.choices x.choices h.0) (above_shown xs h.1)

  own_case : (x : Run) (xs : List Run) (b : Bool) → x ≡ r → AllAbove r xs → with_leaf (shown r) (map shown (cond b (x ∷ filter p xs) (filter p xs))) ≡ shown x ∷ map shown (filter p xs)
  own_case x xs true e above = ap (λ o. with_leaf_by o (shown r) (shown x) (map shown (filter p xs)) (with_leaf (shown r) (map shown (filter p xs)))) (ap (λ (y : Run). order y.choices r.choices) e ∙ order_itself r.choices)
  own_case x xs false e above = front_placed (shown r) (map shown (filter p xs)) (above_shown xs above) ∙ ap (λ (y : Run). shown y ∷ map shown (filter p xs)) (sym e)

  later_case : (x : Run) (rest now : List Run) (b : Bool) → order x.choices r.choices ≡ Less → with_leaf (shown r) (map shown rest) ≡ map shown now → with_leaf (shown r) (map shown (cond b (x ∷ rest) rest)) ≡ map shown (cond b (x ∷ now) now)
  later_case x rest now true h same = ap (λ o. with_leaf_by o (shown r) (shown x) (map shown rest) (with_leaf (shown r) (map shown rest))) h ∙ ap (λ ls. shown x ∷ ls) same
  later_case x rest now false h same = same

  above_has : (x : Run) (xs : List Run) → AllAbove x xs → Has r xs → order x.choices r.choices ≡ Less
  above_has x [] h k = absurd k
  above_has x (y ∷ ys) h (inl e) = ap (λ (z : Run). order x.choices z.choices) (sym e) ∙ h.0
  above_has x (y ∷ ys) h (inr k) = above_has x ys h.1 k

  pub placed : (xs : List Run) → RunsRise xs → Has r xs → with_leaf (shown r) (map shown (filter p xs)) ≡ map shown (filter q xs)
  unfolding IsStrictlySortedBy
  placed [] h k = absurd k
  placed (x ∷ xs) h (inl e) =
      let above : AllAbove r xs = rw e at h.0 in
      own_case x xs (p x) e above ∙ ap (λ ys. shown x ∷ map shown ys) (sym (above_same xs above)) ∙ ap (λ c. map shown (cond c (x ∷ filter q xs) (filter q xs))) (sym (own_number x e))
  placed (x ∷ xs) h (inr k) =
      let less : order x.choices r.choices ≡ Less = above_has x xs h.0 k in
      later_case x (filter p xs) (filter q xs) (p x) less (placed xs h.1 k) ∙ ap (λ c. map shown (cond c (x ∷ filter q xs) (filter q xs))) (sym (other_number x Greater (order_turned x.choices r.choices less) refl))

pub sampled_more : (lists : List (List ℕ)) (n : ℕ) (w : World) (r : Run) → run_by wide_decision n r.choices w ≡ Some r → with_leaf (shown r) (map shown (sampled lists n w)) ≡ map shown (sampled (lists ++ r.choices ∷ []) n w)
sampled_more lists n w r by = placed r (is_among lists) (is_among (lists ++ r.choices ∷ [])) (λ x. among_more lists r.choices x) (wide_walk n w) (walk_rises n w) (walk_has n r.choices w r by)

-- ---- what a sample has rises

above_leaves : (x : Run) (xs : List Run) → AllAbove x xs → AllByRecursion (λ m. leaf_order (shown x) m ≡ Less) (map shown xs)
above_leaves x [] h = tt
above_leaves x (y ∷ ys) h = (h.0, above_leaves x ys h.1)

rises_leaves : (xs : List Run) → RunsRise xs → Rises (map shown xs)
unfolding IsStrictlySortedBy
rises_leaves [] h = tt
rises_leaves (x ∷ xs) h = (above_leaves x xs h.0, rises_leaves xs h.1)

pub sample_rises : (lists : List (List ℕ)) (n : ℕ) (w : World) (leaves : List SearchLeaf) → leaves ≡ map shown (sampled lists n w) → Rises leaves
sample_rises lists n w leaves is = rw is (rises_leaves (sampled lists n w) (IsStrictlySortedBy-filter run_order (is_among lists) (wide_walk n w) (walk_rises n w)))

-- ---- a run that was drawn is added

-- the leaf of a run that was drawn
pub adds_leaf : (l : SearchLimits) (d e : Standing) (s t : Stream) (x : SearchLeaf) (old new : List SearchLeaf) (texts now : List (List ℕ)) (last : Bool) → Drew l.fuel d s x.choices x.ending e t → last ≡ (l.until_bad && is_bad x.ending) → new ≡ with_leaf x old
    → ((text : SearchLeaf → List ℕ) → text x ≡ asked_text l.witnesses x.ending (behind_number (witness_by (done_steps e.trail) x.ending)) → TextsAre (are_asked l.witnesses) text old texts → TextsAre (are_asked l.witnesses) text new now) → Adds l d s old texts last new now t
adds_leaf l d e s t x old new texts now last h is_last pushed told =
    record {
      run = record { choices = x.choices; steps = h.path; ending = x.ending };
      by = h.run;
      drawn_is = h.drawn_is;
      leaves_are = pushed;
      last_is = is_last;
      texts_are = told (witness_text wide_decision l.witnesses (done_steps d.trail) l.fuel d.world) (ap (λ (o : Option Run). asked_text l.witnesses x.ending (behind_number (witness_by (done_steps d.trail ++ steps_by o) x.ending))) h.run ∙ ap (λ p. asked_text l.witnesses x.ending (behind_number (witness_by p x.ending))) (sym h.done_steps_are));
    }

draws_more : (u : Bool) (n k : ℕ) (w : World) (s : Stream) → draws u n (suc k) w s ≡ (drawn n w s).0 ∷ (if u && is_bad_run (run_by wide_decision n (drawn n w s).0 w) then [] else draws u n k w (drawn n w s).1)
unfolding draws
draws_more u n k w s = refl

draws_none : (u : Bool) (n : ℕ) (w : World) (s : Stream) → draws u n zero w s ≡ []
unfolding draws
draws_none u n w s = refl

draws_next : (u : Bool) (n k : ℕ) (w : World) (s t : Stream) (r : Run) (last : Bool) → drawn n w s ≡ (r.choices, t) → run_by wide_decision n r.choices w ≡ Some r → last ≡ (u && is_bad r.ending) → draws u n (suc k) w s ≡ r.choices ∷ (if last then [] else draws u n k w t)
draws_next u n k w s t r last is by is_last =
    draws_more u n k w s
    ∙ ap (λ (p : List ℕ × Stream). p.0 ∷ (if u && is_bad_run (run_by wide_decision n p.0 w) then [] else draws u n k w p.1)) is
    ∙ ap (λ o. r.choices ∷ (if u && is_bad_run o then [] else draws u n k w t)) by
    ∙ ap (λ b. r.choices ∷ (if b then [] else draws u n k w t)) (sym is_last)

one_longer : (l m : SearchLeaf) (ms behind : List SearchLeaf) (o : Ordering) → length behind ≤ suc (length ms) → length (with_leaf_by o l m ms behind) ≤ suc (suc (length ms))
one_longer l m ms behind Less h = omega (arith, h)
one_longer l m ms behind Equal h = omega arith
one_longer l m ms behind Greater h = omega arith

longer : (l : SearchLeaf) (ls : List SearchLeaf) → length (with_leaf l ls) ≤ suc (length ls)
longer l [] = omega arith
longer l (m ∷ ms) = one_longer l m ms (with_leaf l ms) (leaf_order m l) (longer l ms)

one_some : (l m : SearchLeaf) (ms behind : List SearchLeaf) (o : Ordering) → 0 < length (with_leaf_by o l m ms behind)
one_some l m ms behind Less = omega arith
one_some l m ms behind Equal = omega arith
one_some l m ms behind Greater = omega arith

some_leaf : (l : SearchLeaf) (ls : List SearchLeaf) → 0 < length (with_leaf l ls)
some_leaf l [] = omega arith
some_leaf l (m ∷ ms) = one_some l m ms (with_leaf l ms) (leaf_order m l)

-- ---- so far

none_among : (rs : List Run) → filter (is_among []) rs ≡ []
none_among [] = refl
none_among (r ∷ rs) = none_among rs

no_texts : (asked : Bool) (text : SearchLeaf → List ℕ) (leaves : List SearchLeaf) (texts : List (List ℕ)) → leaves ≡ [] → texts ≡ [] → TextsAre asked text leaves texts
no_texts false text leaves texts none empty = empty
no_texts true text leaves texts none empty = empty ∙ ap (map text) (sym none)

pub sampling_none : (l : SearchLimits) (before : List Step) (w : World) (first : Stream) (leaves : List SearchLeaf) (texts : List (List ℕ)) → leaves ≡ [] → texts ≡ [] → Sampling l before w first 0 l.runs first leaves texts
sampling_none l before w first leaves texts none empty =
    record {
      found = [];
      joined = refl;
      runs_are = tt;
      leaves_are = none ∙ sym (ap (map shown) (none_among (wide_walk l.fuel w)));
      texts_are = no_texts (are_asked l.witnesses) (witness_text wide_decision l.witnesses before l.fuel w) leaves texts none empty;
      few = omega (arith, ap length none);
      some = λ h. absurd (omega (arith, h));
    }

more_leaves : (l : SearchLimits) (d : Standing) (s t : Stream) (found : List (List ℕ)) (old new : List SearchLeaf) (texts now : List (List ℕ)) (last : Bool) (a : Adds l d s old texts last new now t) → old ≡ map shown (sampled found l.fuel d.world) → new ≡ map shown (sampled (found ++ a.run.choices ∷ []) l.fuel d.world)
more_leaves l d s t found old new texts now last a is = a.leaves_are ∙ ap (with_leaf (shown a.run)) is ∙ sampled_more found l.fuel d.world a.run a.by

runs_more : (n : ℕ) (w : World) (lists : List (List ℕ)) (r : Run) → AllByRecursion (TellsRun n w) lists → run_by wide_decision n r.choices w ≡ Some r → AllByRecursion (TellsRun n w) (lists ++ r.choices ∷ [])
runs_more n w [] r h by = (record { run = r; by = by; same = refl }, tt)
runs_more n w (cs ∷ lists) r h by = (h.0, runs_more n w lists r h.1 by)

pub sampling_more : (l : SearchLimits) (d : Standing) (first s t : Stream) (count k : ℕ) (old new : List SearchLeaf) (texts now : List (List ℕ)) (last : Bool) → Sampling l (done_steps d.trail) d.world first count (suc k) s old texts → Adds l d s old texts last new now t → last ≡ false
    → Sampling l (done_steps d.trail) d.world first (count + 1) k t new now
sampling_more l d first s t count k old new texts now last g a off =
    let next : draws l.until_bad l.fuel (suc k) d.world s ≡ a.run.choices ∷ draws l.until_bad l.fuel k d.world t =
    draws_next l.until_bad l.fuel k d.world s t a.run last a.drawn_is a.by a.last_is ∙ ap (λ b. a.run.choices ∷ (if b then [] else draws l.until_bad l.fuel k d.world t)) off in
    record {
      found = g.found ++ a.run.choices ∷ [];
      joined = append_assoc g.found (a.run.choices ∷ []) (draws l.until_bad l.fuel k d.world t) ∙ ap (λ (xs : List (List ℕ)). g.found ++ xs) (sym next) ∙ g.joined;
      runs_are = runs_more l.fuel d.world g.found a.run g.runs_are a.by;
      leaves_are = more_leaves l d s t g.found old new texts now last a g.leaves_are;
      texts_are = a.texts_are g.texts_are;
      few = omega (arith, ap length a.leaves_are, longer (shown a.run) old, g.few);
      some = λ h. omega (arith, ap length a.leaves_are, some_leaf (shown a.run) old);
    }

-- the same, told of a debugger that stands where another stood
pub adds_at : (l : SearchLimits) (e d : Standing) (s t : Stream) (old new : List SearchLeaf) (texts now : List (List ℕ)) (last : Bool) → e.trail ≡ d.trail → e.world ≡ d.world → Adds l e s old texts last new now t → Adds l d s old texts last new now t
adds_at l e d s t old new texts now last trail world h = record { run = h.run; by = rw world at h.by; drawn_is = rw world at h.drawn_is; leaves_are = h.leaves_are; last_is = h.last_is; texts_are = rw (trail, world) at h.texts_are }

-- so many are still to be drawn
pub sampling_left : (l : SearchLimits) (before : List Step) (w : World) (first : Stream) (count k m : ℕ) (s : Stream) (leaves : List SearchLeaf) (texts : List (List ℕ)) → k ≡ m → Sampling l before w first count k s leaves texts → Sampling l before w first count m s leaves texts
sampling_left l before w first count k m s leaves texts is h = rw is at h

-- ---- in the end

pub samples_last : (l : SearchLimits) (d : Standing) (first s t : Stream) (count k : ℕ) (old new : List SearchLeaf) (texts now : List (List ℕ)) (last : Bool) → Sampling l (done_steps d.trail) d.world first count (suc k) s old texts → Adds l d s old texts last new now t → last ≡ true → count < l.runs
    → Samples l (done_steps d.trail) d.world first new now
samples_last l d first s t count k old new texts now last g a on within =
    let next : draws l.until_bad l.fuel (suc k) d.world s ≡ a.run.choices ∷ [] =
    draws_next l.until_bad l.fuel k d.world s t a.run last a.drawn_is a.by a.last_is ∙ ap (λ b. a.run.choices ∷ (if b then [] else draws l.until_bad l.fuel k d.world t)) on in
    let whole : g.found ++ a.run.choices ∷ [] ≡ draws l.until_bad l.fuel l.runs d.world first = ap (λ (xs : List (List ℕ)). g.found ++ xs) (sym next) ∙ g.joined in
    record {
      leaves_are = more_leaves l d s t g.found old new texts now last a g.leaves_are ∙ ap (λ (xs : List (List ℕ)). map shown (sampled xs l.fuel d.world)) whole;
      runs_are = subst (AllByRecursion (TellsRun l.fuel d.world)) whole (runs_more l.fuel d.world g.found a.run g.runs_are a.by);
      texts_are = a.texts_are g.texts_are;
      few = omega (arith, ap length a.leaves_are, longer (shown a.run) old, g.few, within);
      some = λ h. omega (arith, ap length a.leaves_are, some_leaf (shown a.run) old);
    }

pub samples_all : (l : SearchLimits) (before : List Step) (w : World) (first s : Stream) (count k : ℕ) (leaves : List SearchLeaf) (texts : List (List ℕ)) → k ≡ 0 → count ≡ l.runs → Sampling l before w first count k s leaves texts → Samples l before w first leaves texts
samples_all l before w first s count k leaves texts none all g =
    let whole : g.found ≡ draws l.until_bad l.fuel l.runs w first =
    sym (append-nil g.found) ∙ ap (λ (xs : List (List ℕ)). g.found ++ xs) (sym (ap (λ m. draws l.until_bad l.fuel m w s) none ∙ draws_none l.until_bad l.fuel w s)) ∙ g.joined in
    record {
      leaves_are = g.leaves_are ∙ ap (λ (xs : List (List ℕ)). map shown (sampled xs l.fuel w)) whole;
      runs_are = subst (AllByRecursion (TellsRun l.fuel w)) whole g.runs_are;
      texts_are = g.texts_are;
      few = omega (arith, g.few, all);
      some = λ h. g.some (omega (arith, h, all));
    }

pub even_of : (asked : Bool) (text : SearchLeaf → List ℕ) (leaves : List SearchLeaf) (texts : List (List ℕ)) → TextsAre asked text leaves texts → IsEven asked leaves texts
even_of false text leaves texts h = h
even_of true text leaves texts h = ap length h ∙ length-map leaves text

pub texts_told : (asked : Witnesses) (before : List Step) (n : ℕ) (w : World) (leaves : List SearchLeaf) (texts : List (List ℕ)) → TextsAre (are_asked asked) (witness_text wide_decision asked before n w) leaves texts → texts ≡ witness_texts wide_decision asked before n w leaves
texts_told OfNone before n w leaves texts h = h
texts_told OfDeadlocks before n w leaves texts h = h
texts_told OfAll before n w leaves texts h = h

-- ---- each leaf has a witness

kept_case : (P : SearchLeaf → Type 0) (x : Run) (rest : List Run) (b : Bool) → P (shown x) → AllByRecursion P (map shown rest) → AllByRecursion P (map shown (cond b (x ∷ rest) rest))
kept_case P x rest true h all = (h, all)
kept_case P x rest false h all = all

kept_all : (P : SearchLeaf → Type 0) (p : Run → Bool) (xs : List Run) → AllByRecursion P (map shown xs) → AllByRecursion P (map shown (filter p xs))
kept_all P p [] h = tt
kept_all P p (x ∷ xs) h = kept_case P x (filter p xs) (p x) h.0 (kept_all P p xs h.1)

pub sample_witnessed : (s : Program) (mode : Mode) (before : List Step) (n : ℕ) (w : World) (lists : List (List ℕ)) (items : List SearchLeaf) → ((v : World) → CanFollow v (wide_decision v)) → fold (start s mode) before ≡ Some w → items ≡ map shown (sampled lists n w) → AllByRecursion (HasWitness wide_decision s mode before n w) items
sample_witnessed s mode before n w lists items law there is =
    let all : List SearchLeaf = map shown (wide_walk n w) in
    let first : all ≡ take (length all) (map shown (awake_by wide_decision step_eq sleeps_on false n [] w)) =
    sym (take_all (length all) all (omega arith)) ∙ ap (λ rs. take (length all) (map shown rs)) (sym (no_wide_sleeps n w)) in
    let held : AllByRecursion (HasWitness wide_decision s mode before n w) all = awake_witnessed wide_decision step_eq sleeps_on false [] s mode before n (length all) w all law there first in
    rw is (kept_all (HasWitness wide_decision s mode before n w) (is_among lists) (wide_walk n w) held)

-- ---- each run that was drawn is listed

among_here : (before rest : List (List ℕ)) (cs : List ℕ) → list_any (λ ds. same_choices ds cs) (before ++ cs ∷ rest) ≡ true
among_here [] rest cs = ap (λ o. is_eq o || list_any (λ ds. same_choices ds cs) rest) (order_itself cs)
among_here (ds ∷ before) rest cs = ap (λ b. same_choices ds cs || b) (among_here before rest cs) ∙ or_true (same_choices ds cs)

has_own : (r x : Run) (rest : List Run) (b : Bool) → b ≡ true → x ≡ r → Has r (cond b (x ∷ rest) rest)
has_own r x rest true h e = inl e
has_own r x rest false h e = cc

has_later : (r x : Run) (rest : List Run) (b : Bool) → Has r rest → Has r (cond b (x ∷ rest) rest)
has_later r x rest true h = inr h
has_later r x rest false h = h

kept_has : (p : Run → Bool) (r : Run) (xs : List Run) → p r ≡ true → Has r xs → Has r (filter p xs)
kept_has p r [] h k = absurd k
kept_has p r (x ∷ xs) h (inl e) = has_own r x (filter p xs) (p x) (ap p e ∙ h) e
kept_has p r (x ∷ xs) h (inr k) = has_later r x (filter p xs) (p x) (kept_has p r xs h k)

listed_has : (r : Run) (xs : List Run) → Has r xs → is_listed (map shown xs) r.choices ≡ true
listed_has r [] h = absurd h
listed_has r (x ∷ xs) (inl e) = ap (λ (y : Run). same_choices y.choices r.choices || is_listed (map shown xs) r.choices) e ∙ ap (λ o. is_eq o || is_listed (map shown xs) r.choices) (order_itself r.choices)
listed_has r (x ∷ xs) (inr k) = ap (λ b. same_choices x.choices r.choices || b) (listed_has r xs k) ∙ or_true (same_choices x.choices r.choices)

one_listed : (lists before rest : List (List ℕ)) (n : ℕ) (w : World) (cs : List ℕ) → lists ≡ before ++ cs ∷ rest → TellsRun n w cs → is_listed (map shown (sampled lists n w)) cs ≡ true
one_listed lists before rest n w cs split h =
    let own : run_by wide_decision n h.run.choices w ≡ Some h.run = ap (λ ds. run_by wide_decision n ds w) h.same ∙ h.by in
    let among : is_among lists h.run ≡ true = ap (λ ds. list_any (λ es. same_choices es ds) lists) h.same ∙ ap (list_any (λ es. same_choices es cs)) split ∙ among_here before rest cs in
    ap (is_listed (map shown (sampled lists n w))) (sym h.same) ∙ listed_has h.run (sampled lists n w) (kept_has (is_among lists) h.run (wide_walk n w) among (walk_has n h.run.choices w h.run own))

each_listed : (lists before rest : List (List ℕ)) (n : ℕ) (w : World) → lists ≡ before ++ rest → AllByRecursion (TellsRun n w) rest → AllByRecursion (λ cs. is_listed (map shown (sampled lists n w)) cs ≡ true) rest
each_listed lists before [] n w split h = tt
each_listed lists before (cs ∷ rest) n w split h =
    (one_listed lists before rest n w cs split h.0, each_listed lists (before ++ cs ∷ []) rest n w (split ∙ sym (append_assoc before (cs ∷ []) rest)) h.1)

pub sample_has_all : (lists : List (List ℕ)) (n : ℕ) (w : World) (leaves : List SearchLeaf) → leaves ≡ map shown (sampled lists n w) → AllByRecursion (TellsRun n w) lists → AllByRecursion (λ cs. is_listed leaves cs ≡ true) lists
sample_has_all lists n w leaves is h = rw is (each_listed lists [] lists n w refl h)

-- ---- where there are no others

few_case : (x : Run) (rest xs : List Run) (b : Bool) → length rest ≤ length xs → length (cond b (x ∷ rest) rest) ≤ suc (length xs)
few_case x rest xs true h = omega (arith, h)
few_case x rest xs false h = omega (arith, h)

filter_few : (p : Run → Bool) (xs : List Run) → length (filter p xs) ≤ length xs
filter_few p [] = omega arith
filter_few p (x ∷ xs) = few_case x (filter p xs) xs (p x) (filter_few p xs)

all_case : (x : Run) (rest xs : List Run) (b : Bool) → length rest ≤ length xs → suc (length xs) ≤ length (cond b (x ∷ rest) rest) → (length xs ≤ length rest → rest ≡ xs) → cond b (x ∷ rest) rest ≡ x ∷ xs
all_case x rest xs true few h same = ap (λ ys. x ∷ ys) (same (omega (arith, h)))
all_case x rest xs false few h same = absurd (omega (arith, few, h))

filter_all : (p : Run → Bool) (xs : List Run) → length xs ≤ length (filter p xs) → filter p xs ≡ xs
filter_all p [] h = refl
filter_all p (x ∷ xs) h = all_case x (filter p xs) xs (p x) (filter_few p xs) h (filter_all p xs)

-- they are asked of the wide walk, in which nothing falls asleep
pub more_is : (count n : ℕ) (w : World) (more : Bool) → more ≡ nat_lt count (length (map shown (awake_by wide_decision step_eq sleeps_on false n [] w))) → more ≡ nat_lt count (length (wide_walk n w))
more_is count n w more h = h ∙ ap (λ rs. nat_lt count (length (map shown rs))) (no_wide_sleeps n w) ∙ ap (nat_lt count) (length-map (wide_walk n w) shown)

pub more_told : (count len n : ℕ) (w v : World) (more : Bool) → more ≡ nat_lt count (length (wide_walk n v)) → v ≡ w → count ≡ len → more ≡ nat_lt len (length (wide_walk n w))
more_told count len n w v more h world same = h ∙ ap (λ u. nat_lt count (length (wide_walk n u))) world ∙ ap (λ m. nat_lt m (length (wide_walk n w))) same

pub sample_all : (lists : List (List ℕ)) (n : ℕ) (w : World) (leaves : List SearchLeaf) (more : Bool) → leaves ≡ map shown (sampled lists n w) → more ≡ nat_lt (length leaves) (length (wide_walk n w)) → more ≡ false → leaves ≡ map shown (wide_walk n w)
sample_all lists n w leaves more is told none =
    let long : length (wide_walk n w) ≤ length leaves = not_less (length leaves) (length (wide_walk n w)) (sym told ∙ none) in
    is ∙ ap (map shown) (filter_all (is_among lists) (wide_walk n w) (omega (arith, long, ap length is, length-map (sampled lists n w) shown)))
