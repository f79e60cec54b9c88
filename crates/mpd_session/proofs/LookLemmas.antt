-- What looks at the state come to.
use Rattle.std.proofs.Common.{◌≡◌, ℕ, ℤ, suc, ◌+◌, ◌-◌, ◌<◌, ◌≤◌, Bool, true, false, List, [], ◌∷◌, ◌++◌, map, length, take, nat_lt, Option, Some, is_some, slice_get, refl, ap, sym, ◌∙◌, arith, append_assoc, append-nil, inl, inr}
use Rattle.std.proofs.lemmas.Bool.{lt-ltb, le-ltb}
use Rattle.std.proofs.lemmas.Option.{slice_get_past, slice_get_cases}
use Rattle.std.specs.List.{flat_map, range_with_len}
use Rattle.mpd_model.specs.steps.World.{RankWorld, World}
use Rattle.mpd_model.specs.runs.Breakpoints.{cell_at, held_at}
use Rattle.mpd_model.specs.runs.Trail.{Trail}
use Rattle.mpd_explore.specs.declared.report.SearchLeaf.{SearchLeaf}
use Rattle.mpd_policy.specs.Walk.{walk}
use Rattle.mpd_explore.specs.Report.{shown}
use Rattle.mpd_explore.specs.ReportText.{leaf_text}
use Rattle.mpd_session.specs.declared.reply.Answer.TheVariants as answer
use Rattle.mpd_session.specs.declared.reply.Refusal.TheVariants.{BadNumber}
use Rattle.mpd_session.specs.declared.effect.Effect.TheVariants.{Refused, Told}
use Rattle.mpd_session.specs.Effects.{vars_of, vars_effect, has_handle, explore_effect, is_within}

-- ---- what a rank holds

pub vars_told : (w : World) (p : ℕ) (r : RankWorld) (vars : List ℤ) (handles : List (Option ℕ)) (out : List ℤ) → slice_get w.ranks p ≡ Some r → vars ≡ r.vars → handles ≡ r.handles → out ≡ r.out
    → Told (answer.Vars vars handles out) ≡ vars_effect w p
vars_told w p r vars handles out e v h o =
    ap (λ x. Told (answer.Vars x handles out)) v ∙ ap (λ x. Told (answer.Vars r.vars x out)) h ∙ ap (λ x. Told (answer.Vars r.vars r.handles x)) o ∙ ap vars_of (sym e)

pub no_vars : (w : World) (p : ℕ) → length w.ranks ≤ p → Refused BadNumber ≡ vars_effect w p
no_vars w p h = ap vars_of (sym (slice_get_past w.ranks p h))

pub no_cell : (w : World) (p c : ℕ) → length w.ranks ≤ p → false ≡ is_some (cell_at w p c)
no_cell w p c h = ap (λ (o : Option RankWorld). is_some (held_at o c)) (sym (slice_get_past w.ranks p h))

pub some_cell : (w : World) (p c : ℕ) (r : RankWorld) (vars : List ℤ) → slice_get w.ranks p ≡ Some r → vars ≡ r.vars → is_some (slice_get vars c) ≡ is_some (cell_at w p c)
some_cell w p c r vars e v = ap (λ xs. is_some (slice_get xs c)) v ∙ ap (λ (o : Option RankWorld). is_some (held_at o c)) (sym e)

has_item : {A : Type 0} (xs : List A) (i : ℕ) → nat_lt i (length xs) ≡ is_some (slice_get xs i)
has_item xs i = elim (slice_get_cases xs i).1 [ inl t ↦ lt-ltb i (length xs) t.1 ∙ sym (ap is_some t.2) | inr t ↦ le-ltb i (length xs) t.0 ∙ sym (ap is_some t.1) ]

pub cell_told : (w : World) (p c : ℕ) (r : RankWorld) (vars : List ℤ) (test : Bool) → slice_get w.ranks p ≡ Some r → vars ≡ r.vars → test ≡ nat_lt c (length vars) → test ≡ is_some (cell_at w p c)
cell_told w p c r vars test e v is = is ∙ has_item vars c ∙ some_cell w p c r vars e v

pub no_handle : (w : World) (p h : ℕ) → length w.ranks ≤ p → false ≡ has_handle (slice_get w.ranks p) h
no_handle w p h past = ap (λ (o : Option RankWorld). has_handle o h) (sym (slice_get_past w.ranks p past))

pub some_handle : (w : World) (p h n : ℕ) (r : RankWorld) → slice_get w.ranks p ≡ Some r → n ≡ length r.handles → nat_lt h n ≡ has_handle (slice_get w.ranks p) h
some_handle w p h n r e is = ap (nat_lt h) is ∙ ap (λ (o : Option RankWorld). has_handle o h) (sym e)

pub ruleset handling = (no_handle, some_handle)

pub ruleset holding = (vars_told, no_vars, no_cell, some_cell)

-- ---- lists of texts, one number at a time

pub mapped_more : {A : Type 0} (f : ℕ → A) (i n : ℕ) (so_far now total : List A) (x : A) → i < n → so_far ++ map f (range_with_len i (n - i)) ≡ total → now ≡ so_far ++ x ∷ [] → x ≡ f i
    → now ++ map f (range_with_len (i + 1) (n - (i + 1))) ≡ total
mapped_more f i n so_far now total x h e more is =
    let k : n - i ≡ suc (n - (i + 1)) = omega arith in
    let u : map f (range_with_len i (n - i)) ≡ f i ∷ map f (range_with_len (i + 1) (n - (i + 1))) = rw k refl in
    ap (λ xs. xs ++ map f (range_with_len (i + 1) (n - (i + 1)))) (more ∙ ap (λ y. so_far ++ y ∷ []) is) ∙ append_assoc so_far (f i ∷ []) (map f (range_with_len (i + 1) (n - (i + 1)))) ∙ ap (λ xs. so_far ++ xs) (sym u) ∙ e

-- where no number is left, all is there
pub joined_all : {A : Type 0} (f : ℕ → List A) (i n : ℕ) (so_far total : List A) → n ≤ i → so_far ++ flat_map f (range_with_len i (n - i)) ≡ total → so_far ≡ total
joined_all f i n so_far total h e =
    let k : n - i ≡ 0 = omega arith in
    let u : flat_map f (range_with_len i (n - i)) ≡ [] = rw k refl in
    sym (append-nil so_far) ∙ ap (λ xs. so_far ++ xs) (sym u) ∙ e

-- ---- runs from here

pub few_runs : (t : Trail) (w : World) (runs fuel : ℕ) → is_within 1 65536 runs ≡ false → Refused BadNumber ≡ explore_effect t w runs fuel
few_runs t w runs fuel e = rw e refl

pub bad_fuel : (t : Trail) (w : World) (runs fuel left : ℕ) → is_within 1 65536 runs ≡ true → left ≡ 1000000 - t.depth → is_within 1 left fuel ≡ false → Refused BadNumber ≡ explore_effect t w runs fuel
bad_fuel t w runs fuel left e is f = let g : is_within 1 (1000000 - t.depth) fuel ≡ false = ap (λ n. is_within 1 n fuel) (sym is) ∙ f in rw (e, g) refl

pub explored : (t : Trail) (w : World) (runs fuel left : ℕ) (texts : List (List ℕ)) (leaves : List SearchLeaf) (more : Bool) → is_within 1 65536 runs ≡ true → left ≡ 1000000 - t.depth → is_within 1 left fuel ≡ true
    → texts ≡ map leaf_text leaves → leaves ≡ take runs (map shown (walk fuel w)) → more ≡ nat_lt runs (length (map shown (walk fuel w))) → Told (answer.Explored texts more) ≡ explore_effect t w runs fuel
explored t w runs fuel left texts leaves more e is f told listed some =
    let g : is_within 1 (1000000 - t.depth) fuel ≡ true = ap (λ n. is_within 1 n fuel) (sym is) ∙ f in
    let whole : explore_effect t w runs fuel ≡ Told (answer.Explored (map leaf_text (take runs (map shown (walk fuel w)))) (nat_lt runs (length (map shown (walk fuel w))))) = rw (e, g) refl in
    ap (λ x. Told (answer.Explored x more)) (told ∙ ap (map leaf_text) listed)
    ∙ ap (λ x. Told (answer.Explored (map leaf_text (take runs (map shown (walk fuel w)))) x)) some
    ∙ sym whole

pub ruleset exploring = (few_runs, bad_fuel, explored)
