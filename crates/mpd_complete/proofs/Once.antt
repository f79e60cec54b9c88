-- No two runs of a walk that sleeps end in one world: of two branches the first has its own pair in the end, which is asleep in the second.
use Rattle.std.proofs.Common.{◌≡◌, ℕ, zero, suc, Bool, true, false, Option, Some, None, is_some, option_and_then, List, [], ◌∷◌, ◌++◌, map, inl, inr, refl, sym, ap, subst, ◌∙◌, arith}
use Rattle.mpd_meaning.proofs.listed.Listed.{any_in}
use Rattle.std.specs.Prelude.{slice_index_or}
use Rattle.std.specs.Cmp.Derive.{both_true}
use Rattle.std.specs.List.{AllPairs}
use Rattle.mpd_model.specs.declared.step.CallId.{CallId}
use Rattle.mpd_model.specs.declared.step.Step.{Step}
use Rattle.mpd_model.specs.declared.step.Step.TheVariants.{Match}
use Rattle.mpd_model.specs.declared.call.Mode.{Mode}
use Rattle.mpd_model.specs.declared.decision.Decision.{Decision}
use Rattle.mpd_model.specs.declared.decision.Decision.TheVariants.{Forced, Choice, Leaf}
use Rattle.mpd_model.specs.script.Program.{Program}
use Rattle.mpd_model.specs.steps.World.{World, start, partner}
use Rattle.mpd_model.specs.steps.Next.{next, fold}
use Rattle.mpd_model.specs.runs.Decisions.{takes_any, is_open_match, decision}
use Rattle.mpd_policy.specs.declared.ending.Ending.{Ending}
use Rattle.mpd_policy.specs.declared.ending.Ending.TheVariants.{Ended, Cut}
use Rattle.mpd_policy.specs.Walk.{Run, here, stepped, chosen, runs_of, stopped}
use Rattle.mpd_policy.specs.Asleep.{same_match, nothing_wakes}
use Rattle.mpd_explore.specs.Sleeping.{awake_runs, awake_by}
use Rattle.mpd_complete.specs.CompleteLaws.{HasNoWaitany}
use Rattle.mpd_complete.specs.Sleeping.{is_asleep, awake_branches, followed_awake, awake_walk, sleeping_walk, EndApart}
use Rattle.mpd_meaning.proofs.listed.Members.{In, in_either, map_from, in_at}
use Rattle.mpd_laws.proofs.ordered.CallsInOrder.{joined_from}
use Rattle.mpd_laws.proofs.ordered.Eligible.{clash}
use Rattle.mpd_complete.proofs.Pairs.{id_same, recv_known}
use Rattle.mpd_complete.proofs.Steps.{match_step}
use Rattle.mpd_complete.proofs.Invariants.{Sound, keeps}
use Rattle.mpd_complete.proofs.Opens.{OpensOnly, opens_only}
use Rattle.mpd_complete.proofs.Calm.{Calm, stays_calm, fold_calm, start_calm, calm_none}
use Rattle.mpd_complete.proofs.PairsStay.{fold_kept, pair_made, still_on, free_unpaired, some_call}
use Rattle.mpd_complete.proofs.Runs.{only, branch_from}

-- ---- any two of a list

abbrev EachTwo : {A : Type 0} → (A → A → Type 0) → List A → Type 0
EachTwo R [] = Unit {0}
EachTwo R (x ∷ xs) = ((y : _) → In xs y → R x y) × EachTwo R xs

-- the same as std says it
each_pairs : {A : Type 0} (R : A → A → Type 0) (xs : List A) → EachTwo R xs → AllPairs R xs
each_pairs R [] h i j d lt within = absurd (omega (arith, within))
each_pairs R (x ∷ xs) h zero zero d lt within = absurd (omega (arith, lt))
each_pairs R (x ∷ xs) h zero (suc j) d lt within = h.0 (slice_index_or xs j d) (in_at xs j d (omega (arith, within)))
each_pairs R (x ∷ xs) h (suc i) zero d lt within = absurd (omega (arith, lt))
each_pairs R (x ∷ xs) h (suc i) (suc j) d lt within = each_pairs R xs h.1 i j d (omega (arith, lt)) (omega (arith, within))

each_joined : {A : Type 0} (R : A → A → Type 0) (xs ys : List A) → EachTwo R xs → EachTwo R ys → ((x y : A) → In xs x → In ys y → R x y) → EachTwo R (xs ++ ys)
each_joined R [] ys h k cross = k
each_joined R (x ∷ xs) ys h k cross = (
  λ y m. elim (in_either xs ys y m) [
    | inl a ↦ h.0 y a
    | inr b ↦ cross x y (inl refl) b
  ],
  each_joined R xs ys h.1 k (λ a b i j. cross a b (inr i) j),
)

each_map : {A : Type 0} (R S : A → A → Type 0) (f : A → A) (xs : List A) → ((x y : A) → S x y → R (f x) (f y)) → EachTwo S xs → EachTwo R (map f xs)
each_map R S f [] go h = tt
each_map R S f (x ∷ xs) go h = (λ y m. let k = map_from f xs y m in subst (R (f x)) k.2 (go x k.0 (h.0 k.0 k.1)), each_map R S f xs go h.1)

-- ---- what is asleep is not taken

-- an awake step is no step that is asleep
not_asleep : (asleep : List Step) (a : Step) (s r : CallId) → is_asleep asleep a ≡ false → In asleep (Match s r) → a ≡ Match s r → ⊥
not_asleep asleep a s r e h same =
    clash (any_in (same_match a) asleep (Match s r) h (ap (λ (b : Step). same_match b (Match s r)) same ∙ both_true (id_same s s refl) (id_same r r refl))) e

-- a run that begins with a step
begun : (u : World) (a : Step) (steps : List Step) (w : World) → fold u (a ∷ steps) ≡ Some w → (x : World) × (next u a ≡ Some x) × (fold x steps ≡ Some w)
begun u a steps w e = joined_from (λ x. fold x steps) (next u a) w e

abbrev Never : ℕ → Type 0
Never n =
    (asleep : List Step) (u : World) → Sound u → (s r : CallId) (v : World) → next u (Match s r) ≡ Some v → is_open_match u.board (Match s r) ≡ true → In asleep (Match s r)
    → (t : Run) → In (awake_walk true n asleep u) t → (w : World) → fold u t.steps ≡ Some w → partner w.board.sets r ≡ Some s → ⊥

open_kept : (u x v : World) (a : Step) (s r : CallId) → next u a ≡ Some x → next u (Match s r) ≡ Some v → is_open_match u.board (Match s r) ≡ true → is_open_match x.board (Match s r) ≡ true
open_kept u x v a s r e f o = ap takes_any ((keeps u a x e).later.kinds r (recv_known u.board s r (match_step u s r v f).0)) ∙ o

-- behind a step that is another one
never_behind : (n : ℕ) → Never n → (asleep : List Step) (u : World) → Sound u → (s r : CallId) (v : World) → next u (Match s r) ≡ Some v → is_open_match u.board (Match s r) ≡ true → In asleep (Match s r)
    → (a : Step) → (a ≡ Match s r → ⊥) → (t : Run) → In (runs_of (awake_walk true n asleep) (next u a)) t → (w : World) → fold u (a ∷ t.steps) ≡ Some w → partner w.board.sets r ≡ Some s → ⊥
never_behind n ih asleep u h s r v on o within a ne t k w e p =
    let after = begun u a t.steps w e in
    let here : In (awake_walk true n asleep after.0) t = subst (λ (q : Option World). In (runs_of (awake_walk true n asleep) q) t) after.1 k in
    elim (still_on u s r a v after.0 on after.1) [
      | inl same ↦ ne same
      | inr more ↦ elim more [
        | inl still ↦
            ih asleep after.0 ((keeps u a after.0 after.1).sound h) s r still.behind still.leads (open_kept u after.0 v a s r after.1 on o) within t here w after.2 p
        | inr taken ↦ taken.other (some_call (sym (fold_kept t.steps after.0 w after.2 r taken.by taken.at) ∙ p))
      ]
    ]

never_branch : (n : ℕ) → Never n → (asleep : List Step) (u : World) → Sound u → (s r : CallId) (v : World) → next u (Match s r) ≡ Some v → is_open_match u.board (Match s r) ≡ true → In asleep (Match s r)
    → (i : ℕ) (candidates : List Step) (t : Run) → In (awake_branches true (awake_walk true n) u asleep i candidates) t → (w : World) → fold u t.steps ≡ Some w → partner w.board.sets r ≡ Some s → ⊥
never_branch n ih asleep u h s r v on o within i candidates t k w e p =
    let b = branch_from same_match nothing_wakes true (awake_walk true n) u asleep i candidates t k in
    never_behind n ih b.others u h s r v on o (b.more (Match s r) within) b.step (not_asleep b.others b.step s r b.awake (b.more (Match s r) within)) b.rest b.within w
    (ap (λ (y : Run). fold u y.steps) b.is ∙ e) p

never_here : (u : World) (s r : CallId) (v : World) → next u (Match s r) ≡ Some v → (o : Ending) (t : Run) → here o ≡ t → (w : World) → fold u t.steps ≡ Some w → partner w.board.sets r ≡ Some s → ⊥
never_here u s r v on o t same w e p =
    let is : Some u ≡ Some w = ap (λ (y : Run). fold u y.steps) same ∙ e in
    free_unpaired u s r v on (ap (λ (z : World). partner z.board.sets r) (some_world is) ∙ p)
  where
    some_world : {x y : World} → Some x ≡ Some y → x ≡ y
    some_world q = cc

never_none : (u : World) (s r : CallId) (v : World) → next u (Match s r) ≡ Some v → (d : Decision) (t : Run) → In (stopped d) t → (w : World) → fold u t.steps ≡ Some w → partner w.board.sets r ≡ Some s → ⊥
never_none u s r v on (Forced a) t k w e p = never_here u s r v on Cut t (only (here Cut) t k) w e p
never_none u s r v on (Choice candidates) t k w e p = never_here u s r v on Cut t (only (here Cut) t k) w e p
never_none u s r v on (Leaf o) t k w e p = never_here u s r v on (Ended o) t (only (here (Ended o)) t k) w e p

never_more : (n : ℕ) → Never n → (asleep : List Step) (u : World) → Sound u → (s r : CallId) (v : World) → next u (Match s r) ≡ Some v → is_open_match u.board (Match s r) ≡ true → In asleep (Match s r)
    → (d : Decision) → OpensOnly u d → (t : Run) → In (followed_awake true (awake_walk true n) asleep u d) t → (w : World) → fold u t.steps ≡ Some w → partner w.board.sets r ≡ Some s → ⊥
never_more n ih asleep u h s r v on o within (Forced a) is t k w e p =
    let m = map_from (stepped a) (runs_of (awake_walk true n asleep) (next u a)) t k in
    never_behind n ih asleep u h s r v on o within a (λ same. clash (ap (is_open_match u.board) same ∙ o) is) m.0 m.1 w (ap (λ (y : Run). fold u y.steps) m.2 ∙ e) p
never_more n ih asleep u h s r v on o within (Choice candidates) is t k w e p = never_branch n ih asleep u h s r v on o within 0 candidates t k w e p
never_more n ih asleep u h s r v on o within (Leaf l) is t k w e p = never_here u s r v on (Ended l) t (only (here (Ended l)) t k) w e p

never : (n : ℕ) → Never n
unfolding awake_by
never zero asleep u h s r v on o within t k w e p = never_none u s r v on (decision u) t k w e p
never (suc n) asleep u h s r v on o within t k w e p = never_more n (never n) asleep u h s r v on o within (decision u) (opens_only u) t k w e p

-- ---- no end twice

abbrev Once : ℕ → Type 0
Once n = (asleep : List Step) (u : World) → Calm u → EachTwo (EndApart u) (awake_walk true n asleep u)

alone : (u : World) (r : Run) → EachTwo (EndApart u) (r ∷ [])
alone u r = (λ y h. absurd h, tt)

-- what is so behind a step
apart_behind : (u : World) (a : Step) (put : Run → Run) → ((r : Run) → (put r).steps ≡ a ∷ r.steps) → (x : World) → next u a ≡ Some x → (r t : Run) → EndApart x r t → EndApart u (put r) (put t)
apart_behind u a put steps x e r t h v w f g same = h v w (from r v f) (from t w g) same
  where
    from : (r : Run) (v : World) → fold u (put r).steps ≡ Some v → fold x r.steps ≡ Some v
    from r v f = sym (ap (option_and_then (λ z. fold z r.steps)) e) ∙ sym (ap (fold u) (steps r)) ∙ f

once_behind : (n : ℕ) → Once n → (asleep : List Step) (u : World) → Calm u → (a : Step) (put : Run → Run) → ((r : Run) → (put r).steps ≡ a ∷ r.steps)
    → (o : Option World) → next u a ≡ o → EachTwo (EndApart u) (map put (runs_of (awake_walk true n asleep) o))
once_behind n ih asleep u h a put steps None e = tt
once_behind n ih asleep u h a put steps (Some x) e =
    each_map (EndApart u) (EndApart x) put (awake_walk true n asleep x) (apart_behind u a put steps x e) (ih asleep x (stays_calm u a x e h))

once_first : (n : ℕ) → Once n → (asleep : List Step) (u : World) → Calm u → (a : Step) (i : ℕ) (b : Bool) → EachTwo (EndApart u) (map (chosen i a) (awake_runs b (awake_walk true n asleep) (next u a)))
once_first n ih asleep u h a i true = tt
once_first n ih asleep u h a i false = once_behind n ih asleep u h a (chosen i a) (λ r. refl) (next u a) refl

-- a run of the first branch and one of a later one
cross : (n : ℕ) (asleep : List Step) (u : World) → Calm u → (i : ℕ) (a : Step) → is_some (next u a) ≡ true → is_open_match u.board a ≡ true → (more : List Step)
    → (r t : Run) → In (map (chosen i a) (awake_runs (is_asleep asleep a) (awake_walk true n asleep) (next u a))) r → In (awake_branches true (awake_walk true n) u (a ∷ asleep) (suc i) more) t
    → EndApart u r t
cross n asleep u h i (Match s q) on o more r t j k v w f g same =
    let m = map_from (chosen i (Match s q)) (awake_runs (is_asleep asleep (Match s q)) (awake_walk true n asleep) (next u (Match s q))) r j in
    let after = begun u (Match s q) m.0.steps v (ap (λ (y : Run). fold u y.steps) m.2 ∙ f) in
    let has : partner v.board.sets q ≡ Some s = fold_kept m.0.steps after.0 v after.2 q s (pair_made u s q after.0 after.1) in
    never_branch n (never n) (Match s q ∷ asleep) u h.sound s q after.0 after.1 o (inl refl) (suc i) more t k w g (sym (same.sets.partners q) ∙ has)
cross n asleep u h i a on o more r t j k v w f g same = absurd (cc)

once_branches : (n : ℕ) → Once n → (u : World) → Calm u → (i : ℕ) (candidates : List Step) (asleep : List Step) → ((a : Step) → In candidates a → is_some (next u a) ≡ true)
    → ((a : Step) → In candidates a → is_open_match u.board a ≡ true) → EachTwo (EndApart u) (awake_branches true (awake_walk true n) u asleep i candidates)
once_branches n ih u h i [] asleep on opens = tt
once_branches n ih u h i (a ∷ more) asleep on opens =
    each_joined (EndApart u) (map (chosen i a) (awake_runs (is_asleep asleep a) (awake_walk true n asleep) (next u a))) (awake_branches true (awake_walk true n) u (a ∷ asleep) (suc i) more)
    (once_first n ih asleep u h a i (is_asleep asleep a))
    (once_branches n ih u h (suc i) more (a ∷ asleep) (λ b j. on b (inr j)) (λ b j. opens b (inr j)))
    (λ r t j k. cross n asleep u h i a (on a (inl refl)) (opens a (inl refl)) more r t j k)

once_more : (n : ℕ) → Once n → (asleep : List Step) (u : World) → Calm u → (d : Decision) → OpensOnly u d → EachTwo (EndApart u) (followed_awake true (awake_walk true n) asleep u d)
once_more n ih asleep u h (Forced a) is = once_behind n ih asleep u h a (stepped a) (λ r. refl) (next u a) refl
once_more n ih asleep u h (Choice candidates) is = once_branches n ih u h 0 candidates asleep (λ a j. (is a j).0) (λ a j. (is a j).1 (calm_none u h))
once_more n ih asleep u h (Leaf o) is = alone u (here (Ended o))

once_none : (u : World) (d : Decision) → EachTwo (EndApart u) (stopped d)
once_none u (Forced a) = alone u (here Cut)
once_none u (Choice candidates) = alone u (here Cut)
once_none u (Leaf o) = alone u (here (Ended o))

once : (n : ℕ) → Once n
unfolding awake_by
once zero asleep u h = once_none u (decision u)
once (suc n) asleep u h = once_more n (once n) asleep u h (decision u) (opens_only u)

pub have_no_end_twice : (s : Program) → HasNoWaitany s → (mode : Mode) (before : List Step) (u : World) → fold (start s mode) before ≡ Some u → (fuel : ℕ) → AllPairs (EndApart u) (sleeping_walk fuel u)
have_no_end_twice s none mode before u e fuel = each_pairs (EndApart u) (awake_walk true fuel [] u) (once fuel [] u (fold_calm before (start s mode) u e (start_calm s none mode)))
