-- Steps of one rank, and those steps back.
use Rattle.std.proofs.Common.{◌≡◌, ◌≤◌, ◌+◌, ℕ, zero, suc, List, [], ◌∷◌, ◌++◌, length, Option, Some, None, ℤ, refl, sym, ap, subst, ◌∙◌, slice_get, slice_set, arith}
use Rattle.std.proofs.lemmas.List.{append-nil, append_assoc}
use Rattle.std.specs.Option.{option_map}
use Rattle.mpd_model.specs.steps.Next.{write_cells, requested, woken_rank}
use Rattle.mpd_model.specs.declared.call.Activity.TheVariants.{Running, Blocked}
use Rattle.mpd_model.specs.script.Program.{Program}
use Rattle.mpd_model.specs.steps.World.{RankWorld}
use Rattle.mpd_code.specs.Left.{left_at}
use Rattle.mpd_rank.specs.declared.change.WakeRecord.{WakeRecord}
use Rattle.mpd_rank.specs.Views.{RankView, rank_of, listed}
use Rattle.mpd_rank.specs.Packed.{before, all_listed, IsPacked}
use Rattle.mpd_rank.specs.Undone.{LocalDone, entry_at, entries_before, handle_entry, put_entry, assigned_change, put_back, undone_rank, unwoken}
use Rattle.mpd_rank.specs.Records.{alone_record}
use Rattle.mpd_rank.specs.declared.plan.Alone.TheVariants.{Assign}

write_cells-append : (xs ys : List (ℕ × ℤ)) (vars : List ℤ) → write_cells (xs ++ ys) vars ≡ write_cells ys (write_cells xs vars)
write_cells-append [] ys vars = refl
write_cells-append (x ∷ xs) ys vars = write_cells-append xs ys (slice_set vars x.0 x.1)

write_held : (vars : List ℤ) (c : ℕ) (x : ℤ) → write_cells (listed (entry_at vars c)) (slice_set vars c x) ≡ vars
write_held [] c x = refl
write_held (v ∷ vars) zero x = refl
write_held (v ∷ vars) (suc c) x = entry_at-suc v vars c x (slice_get vars c) ∙ ap (λ us. v ∷ us) (write_held vars c x)
  where
    entry_at-suc : (v : ℤ) (vars : List ℤ) (c : ℕ) (x : ℤ) (o : Option ℤ) → write_cells (listed (option_map (λ u. (suc c, u)) o)) (v ∷ slice_set vars c x) ≡ v ∷ write_cells (listed (option_map (λ u. (c, u)) o)) (slice_set vars c x)
    entry_at-suc v vars c x None = refl
    entry_at-suc v vars c x (Some u) = refl

-- cells that are all written, and all written back with the last first, are the cells before
pub written_back : (vars : List ℤ) (ws : List (ℕ × ℤ)) → write_cells (entries_before vars ws) (write_cells ws vars) ≡ vars
written_back vars [] = refl
written_back vars (w ∷ ws) =
    let next : List ℤ = slice_set vars w.0 w.1 in
    write_cells-append (entries_before next ws) (listed (entry_at vars w.0)) (write_cells ws next)
    ∙ ap (write_cells (listed (entry_at vars w.0))) (written_back next ws)
    ∙ write_held vars w.0 w.1

undone_assigned : (s : Program) (r : RankWorld) (from : ℕ) (o : Option (ℕ × ℤ)) → put_back s r from (assigned_change o) ≡ record r { rest = left_at s from; vars = write_cells (listed o) r.vars; activity = Running }
undone_assigned s r from None = refl
undone_assigned s r from (Some w) = refl

-- what was held, put back
pub put_again : {A : Type 0} (xs : List A) (i : ℕ) (x : A) → put_entry (entry_at xs i) (slice_set xs i x) ≡ xs
put_again [] i x = refl
put_again (y ∷ xs) zero x = refl
put_again (y ∷ xs) (suc i) x = entry_at-suc y xs i x (slice_get xs i) ∙ ap (λ us. y ∷ us) (put_again xs i x)
  where
    entry_at-suc : {A : Type 0} (y : A) (xs : List A) (i : ℕ) (x : A) (o : Option A) → put_entry (option_map (λ u. (suc i, u)) o) (y ∷ slice_set xs i x) ≡ y ∷ put_entry (option_map (λ u. (i, u)) o) (slice_set xs i x)
    entry_at-suc y xs i x None = refl
    entry_at-suc y xs i x (Some u) = refl

pub request_again : (handle call : Option ℕ) (handles : List (Option ℕ)) → put_entry (handle_entry handle handles) (requested handle call handles) ≡ handles
request_again None call handles = refl
request_again (Some h) call handles = put_again handles h call

-- an assignment that is taken back is the rank before
pub assign_back : (s : Program) (v w : RankView) (d : LocalDone) (c next : ℕ) (x : ℤ) → w ≡ record v { node = next; vars = slice_set v.vars c x; writes = w.writes }
    → d ≡ alone_record v (Assign c x next) → v.activity ≡ Running → undone_rank s (rank_of s w) d ≡ rank_of s v
assign_back s v w d c next x done recorded running =
    let before : RankWorld = record (rank_of s v) { rest = left_at s next; vars = slice_set v.vars c x } in
    ap (λ (u : RankView). undone_rank s (rank_of s u) d) done
    ∙ ap (undone_rank s before) recorded
    ∙ undone_assigned s before v.node (entry_at v.vars c)
    ∙ (λ i. record (rank_of s v) { vars = write_held v.vars c x i; activity = sym running i })

-- a wake that is taken back is the rank before
pub wake_back : (s : Program) (v w : RankView) (ws : List (ℕ × ℤ)) (clears : Option ℕ) (was : WakeRecord)
    → rank_of s w ≡ woken_rank ws clears (rank_of s v) → was.cells ≡ entries_before v.vars ws → was.handle ≡ handle_entry clears v.handles → v.activity ≡ Blocked
    → unwoken (rank_of s w) was ≡ rank_of s v
wake_back s v w ws clears was done e h blocked =
    ap (λ (r : RankWorld). unwoken r was) done
    ∙ (λ i. record (rank_of s v) {
      vars = (ap (λ l. write_cells l (write_cells ws v.vars)) e ∙ written_back v.vars ws) i;
      handles = (ap (λ o. put_entry o (requested clears None v.handles)) h ∙ request_again clears None v.handles) i;
      activity = sym blocked i;
    })

-- ---- four cells at most

write_cells-before : (a : Option (ℕ × ℤ)) (ws : List (ℕ × ℤ)) (vars : List ℤ) → write_cells (before a ws) vars ≡ write_cells ws (write_cells (listed a) vars)
write_cells-before None ws vars = refl
write_cells-before (Some w) ws vars = refl

entries_before-before : (a : Option (ℕ × ℤ)) (ws : List (ℕ × ℤ)) (vars : List ℤ) → entries_before vars (before a ws) ≡ entries_before (write_cells (listed a) vars) ws ++ entries_before vars (listed a)
entries_before-before None ws vars = sym (append-nil (entries_before vars ws))
entries_before-before (Some w) ws vars = refl

before_listed : (h : Option (ℕ × ℤ)) (ws : List (ℕ × ℤ)) → before h ws ≡ listed h ++ ws
before_listed None ws = refl
before_listed (Some w) ws = refl

listed_alone : (h : Option (ℕ × ℤ)) → before h [] ≡ listed h
listed_alone None = refl
listed_alone (Some w) = refl

-- one after the other writes them all
pub written_four : (vars : List ℤ) (a b c d : Option (ℕ × ℤ))
    → write_cells (listed d) (write_cells (listed c) (write_cells (listed b) (write_cells (listed a) vars))) ≡ write_cells (all_listed a b c d) vars
written_four vars a b c d =
    let first : List ℤ = write_cells (listed a) vars in
    let second : List ℤ = write_cells (listed b) first in
    let third : List ℤ = write_cells (listed c) second in
    sym (write_cells-before a (before b (before c (before d []))) vars
    ∙ write_cells-before b (before c (before d [])) first
    ∙ write_cells-before c (before d []) second
    ∙ ap (λ ws. write_cells ws third) (listed_alone d))

-- what a cell held, behind what those held that are written after it
held_before : (vars : List ℤ) (a h : Option (ℕ × ℤ)) (ws back : List (ℕ × ℤ)) → listed h ≡ entries_before vars (listed a) → back ≡ entries_before (write_cells (listed a) vars) ws
    → back ++ listed h ≡ entries_before vars (before a ws)
held_before vars a h ws back eh eb = sym (entries_before-before a ws vars ∙ ap (λ l. l ++ entries_before vars (listed a)) (sym eb) ∙ ap (λ l. back ++ l) (sym eh))

four_listed : (h i j k : Option (ℕ × ℤ)) → before k (before j (before i (before h []))) ≡ ((listed k ++ listed j) ++ listed i) ++ listed h
four_listed h i j k =
    before_listed k (before j (before i (before h [])))
    ∙ ap (λ l. listed k ++ l) (before_listed j (before i (before h [])) ∙ ap (λ l. listed j ++ l) (before_listed i (before h []) ∙ ap (λ l. listed i ++ l) (listed_alone h)))
    ∙ sym (append_assoc (listed k) (listed j) (listed i ++ listed h))
    ∙ sym (append_assoc (listed k ++ listed j) (listed i) (listed h))

-- and what they held is what each of them held, the last first
pub held_four : (vars : List ℤ) (a b c d h i j k : Option (ℕ × ℤ)) → listed h ≡ entries_before vars (listed a) → listed i ≡ entries_before (write_cells (listed a) vars) (listed b)
    → listed j ≡ entries_before (write_cells (listed b) (write_cells (listed a) vars)) (listed c)
    → listed k ≡ entries_before (write_cells (listed c) (write_cells (listed b) (write_cells (listed a) vars))) (listed d)
    → before k (before j (before i (before h []))) ≡ entries_before vars (all_listed a b c d)
held_four vars a b c d h i j k eh ei ej ek =
    let first : List ℤ = write_cells (listed a) vars in
    let second : List ℤ = write_cells (listed b) first in
    let third : List ℤ = write_cells (listed c) second in
    let last : listed k ≡ entries_before third (before d []) = ek ∙ ap (entries_before third) (sym (listed_alone d)) in
    let two : listed k ++ listed j ≡ entries_before second (before c (before d [])) = held_before second c j (before d []) (listed k) ej last in
    let three : (listed k ++ listed j) ++ listed i ≡ entries_before first (before b (before c (before d []))) = held_before first b i (before c (before d [])) (listed k ++ listed j) ei two in
    four_listed h i j k ∙ held_before vars a h (before b (before c (before d []))) ((listed k ++ listed j) ++ listed i) eh three

-- where there are three at most, there is no fourth
pub no_fourth : (a b c d : Option (ℕ × ℤ)) → IsPacked a b c d → length (all_listed a b c d) ≤ 3 → before a (before b (before c [])) ≡ all_listed a b c d
no_fourth a b c None h few = refl
no_fourth (Some x) (Some y) (Some z) (Some w) h few = absurd (omega (arith, few))
no_fourth a b None (Some w) h few = absurd (let e = h.2 refl in cc)
no_fourth a None (Some z) (Some w) h few = absurd (let e = h.1 refl in cc)
no_fourth None (Some y) (Some z) (Some w) h few = absurd (let e = h.0 refl in cc)

pub packed_before : (o a b c d : Option (ℕ × ℤ)) → IsPacked a b c d → (o ≡ None → a ≡ None) → IsPacked o a b c
packed_before o a b c d h e = (e, h.0, h.1)

pub one_more : (o : Option (ℕ × ℤ)) (ws : List (ℕ × ℤ)) → length (before o ws) ≤ length ws + 1
one_more None ws = omega arith
one_more (Some w) ws = omega arith

pub ruleset committing = (assign_back, request_again)

pub ruleset writing = (written_four, held_four)

-- one that joins behind none, one, two and three
pub joins_first : (a b c d : Option (ℕ × ℤ)) (w : ℕ × ℤ) → IsPacked a b c d → a ≡ None → w ∷ [] ≡ all_listed a b c d ++ w ∷ []
joins_first a b c d w h ea =
    let eb = h.0 ea in
    let ec = h.1 eb in
    let ed = h.2 ec in
    sym (λ i. all_listed (ea i) (eb i) (ec i) (ed i) ++ w ∷ [])

pub joins_second : (a b c d : Option (ℕ × ℤ)) (x w : ℕ × ℤ) → IsPacked a b c d → a ≡ Some x → b ≡ None → x ∷ w ∷ [] ≡ all_listed a b c d ++ w ∷ []
joins_second a b c d x w h ea eb =
    let ec = h.1 eb in
    let ed = h.2 ec in
    sym (λ i. all_listed (ea i) (eb i) (ec i) (ed i) ++ w ∷ [])

pub joins_third : (a b c d : Option (ℕ × ℤ)) (x y w : ℕ × ℤ) → IsPacked a b c d → a ≡ Some x → b ≡ Some y → c ≡ None → x ∷ y ∷ w ∷ [] ≡ all_listed a b c d ++ w ∷ []
joins_third a b c d x y w h ea eb ec =
    let ed = h.2 ec in
    sym (λ i. all_listed (ea i) (eb i) (ec i) (ed i) ++ w ∷ [])

none_behind : (x y z : ℕ × ℤ) (d : Option (ℕ × ℤ)) → length (all_listed (Some x) (Some y) (Some z) d) ≤ 3 → d ≡ None
none_behind x y z None few = refl
none_behind x y z (Some w) few = absurd (omega (arith, few))

pub joins_fourth : (a b c d : Option (ℕ × ℤ)) (x y z w : ℕ × ℤ) → length (all_listed a b c d) ≤ 3 → a ≡ Some x → b ≡ Some y → c ≡ Some z → x ∷ y ∷ z ∷ w ∷ [] ≡ all_listed a b c d ++ w ∷ []
joins_fourth a b c d x y z w few ea eb ec =
    let ed = none_behind x y z d (subst (λ (l : List (ℕ × ℤ)). length l ≤ 3) (λ i. all_listed (ea i) (eb i) (ec i) d) few) in
    sym (λ i. all_listed (ea i) (eb i) (ec i) (ed i) ++ w ∷ [])

pub ruleset joining = (joins_first, joins_second, joins_third, joins_fourth)

pub ruleset packing = (no_fourth, packed_before, one_more)
