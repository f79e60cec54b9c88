-- What sleeps at a candidate, and the candidates that are passed.
use Rattle.std.proofs.Common.{◌≡◌, ℕ, zero, suc, ◌<◌, ◌+◌, ◌&&◌, ◌||◌, if◌then◌else◌, Bool, true, false, List, [], ◌∷◌, ◌++◌, length, take, drop, map, reverse, get_or, Some, refl, sym, ap, subst, ◌∙◌, arith, add-one, append_assoc}
use Rattle.std.specs.List.{list_any}
use Rattle.std.proofs.lemmas.List.{reverse-append}
use Rattle.mpd_model.specs.declared.step.Step.{Step}
use Rattle.mpd_model.specs.steps.World.{World}
use Rattle.mpd_model.specs.steps.Next.{next}
use Rattle.mpd_policy.specs.Walk.{Run, chosen}
use Rattle.mpd_explore.specs.Sleeping.{awake_runs, branches_by, put_to_sleep, put_off}
use Rattle.mpd_explore.specs.Asleep.{Passes, Skips}
use Rattle.mpd_explore.proofs.ListLemmas.{drop_at, or_false, or_other, or_front}

-- ---- what sleeps

put_off_any : (t : Step → Bool) (i : ℕ) (candidates asleep : List Step) → list_any t (put_off true i candidates asleep) ≡ (list_any t (take i candidates) || list_any t asleep)
put_off_any t zero candidates asleep = refl
put_off_any t (suc i) [] asleep = refl
put_off_any t (suc i) (c ∷ more) asleep = put_off_any t i more (c ∷ asleep) ∙ or_front (list_any t (take i more)) (t c) (list_any t asleep)

-- where nothing falls asleep, what sleeps is what slept above
pub put_off_none : (i : ℕ) (candidates asleep : List Step) → put_off false i candidates asleep ≡ asleep
put_off_none zero candidates asleep = refl
put_off_none (suc i) [] asleep = refl
put_off_none (suc i) (c ∷ more) asleep = put_off_none i more asleep

-- the test of the code is that of the definition
tested : (t : Step → Bool) (sleeps : Bool) (i : ℕ) (asleep candidates : List Step) → list_any t (put_off sleeps i candidates asleep) ≡ (list_any t asleep || (sleeps && list_any t (take i candidates)))
tested t false i asleep candidates = ap (list_any t) (put_off_none i candidates asleep) ∙ sym (or_false (list_any t asleep))
tested t true i asleep candidates = put_off_any t i candidates asleep ∙ or_other (list_any t (take i candidates)) (list_any t asleep)

-- what the code makes of it
pub fallen_is : (i : ℕ) (candidates asleep : List Step) → put_off true i candidates asleep ≡ reverse (take i candidates) ++ asleep
fallen_is zero candidates asleep = refl
fallen_is (suc i) [] asleep = refl
fallen_is (suc i) (a ∷ more) asleep =
    fallen_is i more (a ∷ asleep) ∙ sym (append_assoc (reverse (take i more)) (a ∷ []) asleep) ∙ ap (λ xs. xs ++ asleep) (sym (reverse-append (a ∷ []) (take i more)))

pub asleep_here : (sleeps : Bool) (i : ℕ) (candidates asleep tried items : List Step) → tried ≡ take (if sleeps then i else 0) candidates → items ≡ reverse tried ++ asleep → items ≡ put_off sleeps i candidates asleep
asleep_here true i candidates asleep tried items front made = made ∙ ap (λ xs. reverse xs ++ asleep) front ∙ sym (fallen_is i candidates asleep)
asleep_here false i candidates asleep tried items front made = made ∙ ap (λ xs. reverse xs ++ asleep) front ∙ sym (put_off_none i candidates asleep)

-- ---- one candidate more

pub put_off_more : (sleeps : Bool) (i : ℕ) (candidates asleep : List Step) (a : Step) → drop i candidates ≡ a ∷ drop (suc i) candidates → put_off sleeps (suc i) candidates asleep ≡ put_to_sleep sleeps a (put_off sleeps i candidates asleep)
put_off_more sleeps zero [] asleep a e = cc
put_off_more sleeps zero (c ∷ more) asleep a e = let h : c ≡ a = cc in ap (λ z. put_to_sleep sleeps z asleep) h
put_off_more sleeps (suc i) [] asleep a e = cc
put_off_more sleeps (suc i) (c ∷ more) asleep a e = put_off_more sleeps i more (put_to_sleep sleeps c asleep) a e

module _ (same : Step → Step → Bool) (keeps : World → Step → List Step → List Step) (sleeps : Bool) (runs : List Step → World → List Run) (w : World) (asleep candidates : List Step) (i : ℕ) where
  abbrev here : List Step
  here = put_off sleeps i candidates asleep

  abbrev rest : List Run
  rest = branches_by same keeps sleeps runs w (put_off sleeps (suc i) candidates asleep) (suc i) (drop (suc i) candidates)

  branch_is : (a : Step) → drop i candidates ≡ a ∷ drop (suc i) candidates → branches_by same keeps sleeps runs w here i (drop i candidates) ≡ map (chosen i a) (awake_runs (list_any (same a) here) (runs (keeps w a here)) (next w a)) ++ rest
  branch_is a split =
      ap (branches_by same keeps sleeps runs w here i) split
      ∙ ap (λ (z : List Step). map (chosen i a) (awake_runs (list_any (same a) here) (runs (keeps w a here)) (next w a)) ++ branches_by same keeps sleeps runs w z (suc i) (drop (suc i) candidates)) (sym (put_off_more sleeps i candidates asleep a split))

  branch_asleep : (a : Step) → drop i candidates ≡ a ∷ drop (suc i) candidates → list_any (same a) here ≡ true → branches_by same keeps sleeps runs w here i (drop i candidates) ≡ rest
  branch_asleep a split dozes = branch_is a split ∙ ap (λ b. map (chosen i a) (awake_runs b (runs (keeps w a here)) (next w a)) ++ rest) dozes

  pub branch_awake : (v : World) (a : Step) → drop i candidates ≡ a ∷ drop (suc i) candidates → list_any (same a) here ≡ false → next w a ≡ Some v → branches_by same keeps sleeps runs w here i (drop i candidates) ≡ map (chosen i a) (runs (keeps w a here) v) ++ rest
  branch_awake v a split wakes step =
      branch_is a split ∙ ap (λ b. map (chosen i a) (awake_runs b (runs (keeps w a here)) (next w a)) ++ rest) wakes ∙ ap (λ o. map (chosen i a) (awake_runs false (runs (keeps w a here)) o) ++ rest) step

-- ---- the loop that passes what is asleep

pub passes_none : (same : Step → Step → Bool) (sleeps : Bool) (asleep candidates : List Step) (from : ℕ) → Passes same sleeps asleep candidates from from
passes_none same sleeps asleep candidates from = record { low = omega arith; same_runs = λ keeps runs w. refl }

read_same : (xs : List Step) (i : ℕ) (d e : Step) → i < length xs → get_or xs i d ≡ get_or xs i e
read_same [] i d e h = absurd (omega (arith, h))
read_same (x ∷ xs) zero d e h = refl
read_same (x ∷ xs) (suc i) d e h = read_same xs i d e (omega (arith, h))

first_is : (a c : Step) (more : List Step) → ◌≡◌ {A = List Step} (a ∷ more) (c ∷ more) → a ≡ c
first_is a c more e = cc

same_read : (candidates : List Step) (i : ℕ) (a c : Step) → i < length candidates → a ≡ get_or candidates i a → c ≡ get_or candidates i c → a ≡ c
same_read candidates i a c within read other =
    first_is a c (drop (suc i) candidates) (sym (drop_at candidates i a within read) ∙ drop_at candidates i c within other)

module _ (same : Step → Step → Bool) (sleeps : Bool) (asleep candidates before : List Step) (from i : ℕ) (d : Step) (r : Bool) where
  abbrev candidate : Step
  candidate = get_or candidates i d

  test_is : before ≡ take i candidates → r ≡ (list_any (same candidate) asleep || (sleeps && list_any (same candidate) before)) → list_any (same candidate) (put_off sleeps i candidates asleep) ≡ r
  test_is front is = tested (same candidate) sleeps i asleep candidates ∙ sym (is ∙ ap (λ xs. list_any (same candidate) asleep || (sleeps && list_any (same candidate) xs)) front)

  pub passes_tested : Passes same sleeps asleep candidates from i → i < length candidates → before ≡ take i candidates → r ≡ (list_any (same candidate) asleep || (sleeps && list_any (same candidate) before)) → r ≡ true → Passes same sleeps asleep candidates from (i + 1)
  passes_tested p within front is on =
      let more : Passes same sleeps asleep candidates from (suc i) =
      record {
        low = (let low = p.low in omega (arith, low));
        same_runs = λ keeps runs w. p.same_runs keeps runs w ∙ branch_asleep same keeps sleeps runs w asleep candidates i candidate (drop_at candidates i candidate within (read_same candidates i d candidate within)) (test_is front is ∙ on);
      } in
      subst (λ m. Passes same sleeps asleep candidates from m) (sym (add-one i)) more

  pub skips_tested : Passes same sleeps asleep candidates from i → i < length candidates → before ≡ take i candidates → r ≡ (list_any (same candidate) asleep || (sleeps && list_any (same candidate) before)) → r ≡ false → Skips same sleeps asleep candidates from i
  skips_tested p within front is off =
      record {
        passes = p;
        high = omega (arith, within);
        awake = λ c less other. ap (λ (z : Step). list_any (same z) (put_off sleeps i candidates asleep)) (same_read candidates i c candidate within other (read_same candidates i d candidate within)) ∙ test_is front is ∙ off;
      }

pub skips_all : (same : Step → Step → Bool) (sleeps : Bool) (asleep candidates : List Step) (from i n : ℕ) → Passes same sleeps asleep candidates from i → i ≡ n → n ≡ length candidates → Skips same sleeps asleep candidates from n
skips_all same sleeps asleep candidates from i n p e long =
    record { passes = subst (λ m. Passes same sleeps asleep candidates from m) e p; high = omega (arith, long); awake = λ a less read. absurd (omega (arith, long, less)) }

-- the same of lists that are read through references
pub skips_same : (same : Step → Step → Bool) (sleeps : Bool) (seen asleep read candidates : List Step) (from i : ℕ) → seen ≡ asleep → read ≡ candidates → Skips same sleeps seen read from i → Skips same sleeps asleep candidates from i
skips_same same sleeps seen asleep read candidates from i e told h =
    subst (λ (xs : List Step). Skips same sleeps asleep xs from i) told (subst (λ (xs : List Step). Skips same sleeps xs read from i) e h)
