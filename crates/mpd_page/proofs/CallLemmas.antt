-- The calls of ranks after a step: those before it, and the one that it issued.
use Rattle.std.proofs.Common.{◌≡◌, ℕ, zero, suc, ◌==◌, ◌≤◌, ◌<◌, nat_lt, Bool, true, false, List, [], ◌∷◌, ◌++◌, length, map, set, slice_get, Option, Some, None, cond, refl, sym, ap, subst, ◌∙◌, arith}
use Rattle.std.specs.Option.{option_map}
use Rattle.std.proofs.lemmas.List.{length-set}
use Rattle.std.proofs.lemmas.Option.{slice_get_past}
use Rattle.std.proofs.lemmas.Bool.Decides.{Decides-eqb, nat_tests}
use Rattle.mpd_model.specs.declared.step.Step.{Step}
use Rattle.mpd_model.specs.declared.step.Step.TheVariants.{Local, Match, Wake, WakeAny, Release}
use Rattle.mpd_model.specs.declared.call.Call.{Call}
use Rattle.mpd_model.specs.script.Program.{Program}
use Rattle.mpd_model.specs.steps.World.{World, Board, calls_of, listed_calls, call_at, call_id}
use Rattle.mpd_model.specs.steps.Next as n
use Rattle.mpd_model.specs.steps.Next.{next, Ran}
use Rattle.mpd_page.specs.Applied.{with_one}
use Rattle.mpd_page.specs.declared.changes.ShownCall.{ShownCall}
use Rattle.mpd_page.specs.Changes.{call_view, new_call, issued_by}
use Rattle.mpd_page.specs.Views.{call_of}

inside : (w v : World) → Some w ≡ Some v → w ≡ v
inside w v h = cc

-- the call that a step issued, if it is one of this rank
abbrev pub issued_at : Program → World → World → Step → ℕ → Option ShownCall
issued_at s w v (Local q) p = cond (q == p) (option_map (call_view s) (call_at v.board (call_id p (length (calls_of w.board p))))) None
issued_at s w v a p = None

-- what a step does to the board, as far as calls are shown
pub record Grown (s : Program) (w v : World) (a : Step) : Type 0 where
  pub count : length v.board.calls ≡ length w.board.calls
  pub calls : (p : ℕ) → map (call_view s) (calls_of v.board p) ≡ with_one (map (call_view s) (calls_of w.board p)) (issued_at s w v a p)

-- ---- a call more

one_more : (f : Call → ShownCall) (cs : List Call) (c : Call) → map f (cs ++ c ∷ []) ≡ map f cs ++ f c ∷ []
one_more f [] c = refl
one_more f (d ∷ cs) c = ap (λ xs. f d ∷ xs) (one_more f cs c)

last_there : (cs : List Call) (c : Call) → slice_get (cs ++ c ∷ []) (length cs) ≡ Some c
last_there [] c = refl
last_there (d ∷ cs) c = last_there cs c

at_set : (xs : List (List Call)) (q : ℕ) (ys : List Call) → q < length xs → slice_get (set xs q ys) q ≡ Some ys
at_set [] q ys h = absurd (omega (arith, h))
at_set (x ∷ xs) zero ys h = refl
at_set (x ∷ xs) (suc q) ys h = at_set xs q ys (omega (arith, h))

other_set : (xs : List (List Call)) (q p : ℕ) (ys : List Call) → (q == p) ≡ false → slice_get (set xs q ys) p ≡ slice_get xs p
other_set [] q p ys h = refl
other_set (x ∷ xs) zero zero ys h = grind (arith, nat_tests)
other_set (x ∷ xs) zero (suc p) ys h = refl
other_set (x ∷ xs) (suc q) zero ys h = refl
other_set (x ∷ xs) (suc q) (suc p) ys h = other_set xs q p ys (grind (arith, nat_tests))

past_set : (xs : List (List Call)) (q : ℕ) (ys : List Call) → length xs ≤ q → set xs q ys ≡ xs
past_set [] q ys h = refl
past_set (x ∷ xs) zero ys h = absurd (omega (arith, h))
past_set (x ∷ xs) (suc q) ys h = ap (λ zs. x ∷ zs) (past_set xs q ys (omega (arith, h)))

-- ---- a local step

-- one rank's calls, by whether it is the rank of the step
module _ (s : Program) (w : World) (q : ℕ) (c : Call) where
  abbrev entered : Board
  entered = n.with_call w.board q c

  -- what is shown of the calls of a rank, and the call that is shown to be issued, if one is
  abbrev before : ℕ → List (ShownCall)
  before p = map (call_view s) (calls_of w.board p)

  abbrev issued : ℕ → Option (ShownCall)
  issued p = option_map (call_view s) (call_at entered (call_id p (length (calls_of w.board p))))

  own_calls : q < length w.board.calls → calls_of entered q ≡ calls_of w.board q ++ c ∷ []
  own_calls h = ap listed_calls (at_set w.board.calls q (calls_of w.board q ++ c ∷ []) h)

  own : (p : ℕ) → q ≡ p → q < length w.board.calls
      → map (call_view s) (calls_of entered p) ≡ with_one (map (call_view s) (calls_of w.board p)) (option_map (call_view s) (call_at entered (call_id p (length (calls_of w.board p)))))
  own p e h =
      let there : calls_of entered q ≡ calls_of w.board q ++ c ∷ [] = own_calls h in
      let last : call_at entered (call_id q (length (calls_of w.board q))) ≡ Some c = ap (λ cs. slice_get cs (length (calls_of w.board q))) there ∙ last_there (calls_of w.board q) c in
      subst (λ k. map (call_view s) (calls_of entered k) ≡ with_one (map (call_view s) (calls_of w.board k)) (option_map (call_view s) (call_at entered (call_id k (length (calls_of w.board k)))))) e
      (ap (map (call_view s)) there ∙ one_more (call_view s) (calls_of w.board q) c ∙ sym (ap (λ o. with_one (map (call_view s) (calls_of w.board q)) (option_map (call_view s) o)) last))

  past : (p : ℕ) → q ≡ p → length w.board.calls ≤ q → map (call_view s) (calls_of entered p) ≡ with_one (before p) (issued p)
  past p e h =
      let none : slice_get w.board.calls q ≡ None = slice_get_past w.board.calls q h in
      let stays : slice_get (set w.board.calls q (calls_of w.board q ++ c ∷ [])) q ≡ None = ap (λ xs. slice_get xs q) (past_set w.board.calls q (calls_of w.board q ++ c ∷ []) h) ∙ none in
      subst (λ k. map (call_view s) (calls_of entered k) ≡ with_one (before k) (issued k)) e
      (ap (λ o. map (call_view s) (listed_calls o)) stays
      ∙ sym (ap (λ o. with_one (map (call_view s) (listed_calls o)) (issued q)) none
      ∙ ap (λ o. with_one [] (option_map (call_view s) (slice_get (listed_calls o) (length (calls_of w.board q))))) stays))

  own_or_past : (b : Bool) → nat_lt q (length w.board.calls) ≡ b → (p : ℕ) → q ≡ p → map (call_view s) (calls_of entered p) ≡ with_one (before p) (issued p)
  own_or_past true h p e = own p e (grind (arith, nat_tests))
  own_or_past false h p e = past p e (grind (arith, nat_tests))

  by_rank : (b : Bool) (p : ℕ) → (q == p) ≡ b → map (call_view s) (calls_of entered p) ≡ with_one (before p) (cond b (issued p) None)
  by_rank true p h = own_or_past (nat_lt q (length w.board.calls)) refl p ((Decides-eqb q p).0 h)
  by_rank false p h = ap (λ o. map (call_view s) (listed_calls o)) (other_set w.board.calls q p (calls_of w.board q ++ c ∷ []) h)

  pub call_shown : (p : ℕ) → map (call_view s) (calls_of entered p) ≡ with_one (before p) (cond (q == p) (issued p) None)
  call_shown p = by_rank (q == p) p refl

-- no call was issued
none_shown : (f : Call → ShownCall) (cs : List Call) (b : Bool) → map f cs ≡ with_one (map f cs) (cond b (option_map f (slice_get cs (length cs))) None)
none_shown f cs true = sym (ap (λ o. with_one (map f cs) (option_map f o)) (slice_get_past cs (length cs) (omega arith)))
none_shown f cs false = refl

-- ---- a step

by_issue : (s : Program) (w : World) (q : ℕ) (done : Ran) (call : Option Call) → done.call ≡ call → Grown s w (n.stepped w q done) (Local q)
by_issue s w q done None h =
    let same : n.with_issued w.board q done.call ≡ w.board = ap (n.with_issued w.board q) h in
    subst (λ (b : Board). Grown s w (record { ranks = set w.ranks q done.rank; board = b }) (Local q)) (sym same)
    (record { count = refl; calls = λ p. none_shown (call_view s) (calls_of w.board p) (q == p) })
by_issue s w q done (Some c) h =
    let there : n.with_issued w.board q done.call ≡ n.with_call w.board q (n.entered w.board q c) = ap (n.with_issued w.board q) h in
    subst (λ (b : Board). Grown s w (record { ranks = set w.ranks q done.rank; board = b }) (Local q)) (sym there)
    (record { count = length-set w.board.calls q (calls_of w.board q ++ n.entered w.board q c ∷ []); calls = call_shown s w q (n.entered w.board q c) })

by_local : (s : Program) (w v : World) (q : ℕ) (o : Option Ran) → option_map (n.stepped w q) o ≡ Some v → Grown s w v (Local q)
by_local s w v q None h = absurd (cc)
by_local s w v q (Some done) h = subst (λ (u : World). Grown s w u (Local q)) (inside (n.stepped w q done) v h) (by_issue s w q done done.call refl)

by_test : (b : Bool) (s : Program) (w u v : World) (a : Step) → cond b (Some u) None ≡ Some v → Grown s w u a → Grown s w v a
by_test true s w u v a h k = subst (λ (x : World). Grown s w x a) (inside u v h) k
by_test false s w u v a h k = absurd (cc)

-- what is shown of calls grows so
pub calls_grow : (s : Program) (w v : World) (a : Step) → next w a ≡ Some v → Grown s w v a
calls_grow s w v (Local q) h = by_local s w v q (n.local_at w q) h
calls_grow s w v (Match c d) h = by_test _ s w _ v (Match c d) h (record { count = refl; calls = λ p. refl })
calls_grow s w v (Wake q) h = by_test _ s w _ v (Wake q) h (record { count = refl; calls = λ p. refl })
calls_grow s w v (WakeAny q i) h = by_test _ s w _ v (WakeAny q i) h (record { count = refl; calls = λ p. refl })
calls_grow s w v Release h = by_test _ s w _ v Release h (record { count = refl; calls = λ p. refl })

-- ---- what is told of it

module _ (s : Program) (q p : ℕ) where
  by_call : (b : Bool) → (q == p) ≡ b → (o : Option Call) → call_of p (option_map (new_call s q) o) ≡ cond b (option_map (call_view s) o) None
  by_call true h None = refl
  by_call false h None = refl
  by_call b h (Some c) = ap (λ t. cond t (Some (call_view s c)) None) h

  same_at : (b : Bool) → (q == p) ≡ b → (at : ℕ → Option Call) → cond b (option_map (call_view s) (at q)) None ≡ cond b (option_map (call_view s) (at p)) None
  same_at true h at = ap (λ k. option_map (call_view s) (at k)) ((Decides-eqb q p).0 h)
  same_at false h at = refl

-- the call that is told is the one that this rank has issued
pub told_at : (s : Program) (w v : World) (a : Step) (p : ℕ) → call_of p (issued_by s w v a) ≡ issued_at s w v a p
told_at s w v (Local q) p =
    let at : ℕ → Option Call = λ k. call_at v.board (call_id k (length (calls_of w.board k))) in
    by_call s q p (q == p) refl (at q) ∙ same_at s q p (q == p) refl at
told_at s w v (Match c d) p = refl
told_at s w v (Wake q) p = refl
told_at s w v (WakeAny q i) p = refl
told_at s w v Release p = refl
