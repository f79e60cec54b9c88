-- Ends that are as one of those that were found are as one of all before them.
use Rattle.std.proofs.Common.{◌≡◌, ℕ, zero, suc, ◌<◌, ◌+◌, ◌-◌, ◌==◌, Bool, true, false, not, ◌&&◌, ◌||◌, cond, List, [], ◌∷◌, ◌++◌, length, Option, Some, None, slice_get, refl, sym, ap, subst, ◌∙◌, arith}
use Rattle.std.specs.List.{list_all, list_any, range_with_len}
use Rattle.std.proofs.lemmas.Bool.Decides.{nat_tests}
use Rattle.std.proofs.lemmas.List.Folds.{list_any-append}
use Rattle.mpd_diagnose.specs.declared.along.LeafEnd.{LeafEnd}
use Rattle.mpd_diagnose.specs.declared.cause.Cause.{Cause}
use Rattle.mpd_diagnose.specs.declared.cause.EndKind.{EndKind}
use Rattle.mpd_diagnose.specs.declared.cause.EndKind.TheVariants as kind
use Rattle.mpd_diagnose.specs.Causes.{same_kind, is_one_of, are_among, same_cause}
use Rattle.mpd_diagnose.specs.Groups.{same_of, same_at, is_first}

both_first : (a b : Bool) → a && b ≡ true → a ≡ true
both_first true b h = refl
both_first false b h = cc

both_second : (a b : Bool) → a && b ≡ true → b ≡ true
both_second true b h = h
both_second false b h = cc

both_true : (a b : Bool) → a ≡ true → b ≡ true → a && b ≡ true
both_true true b h k = k
both_true false b h k = cc

-- ---- lines

one_by : (b : Bool) (l x : ℕ) (ls ms : List ℕ) → (l == x) ≡ b → is_one_of ms l ≡ true → (is_one_of ls x ≡ true → is_one_of ms x ≡ true) → is_one_of (l ∷ ls) x ≡ true → is_one_of ms x ≡ true
one_by true l x ls ms e here rest k = let same : l ≡ x = grind (arith, nat_tests) in subst (λ z. is_one_of ms z ≡ true) same here
one_by false l x ls ms e here rest k = rest (sym (ap (λ b. b || is_one_of ls x) e) ∙ k)

one_through : (ls ms : List ℕ) (x : ℕ) → are_among ms ls ≡ true → is_one_of ls x ≡ true → is_one_of ms x ≡ true
one_through [] ms x h k = cc
one_through (l ∷ ls) ms x h k =
    one_by (l == x) l x ls ms refl (both_first (is_one_of ms l) (are_among ms ls) h) (one_through ls ms x (both_second (is_one_of ms l) (are_among ms ls) h)) k

among_through : (ms ls few : List ℕ) → are_among ms ls ≡ true → are_among ls few ≡ true → are_among ms few ≡ true
among_through ms ls [] h k = refl
among_through ms ls (x ∷ few) h k =
    both_true (is_one_of ms x) (are_among ms few) (one_through ls ms x h (both_first (is_one_of ls x) (are_among ls few) k)) (among_through ms ls few h (both_second (is_one_of ls x) (are_among ls few) k))

-- ---- causes

kind_is : (j k : EndKind) → same_kind j k ≡ true → j ≡ k
kind_is kind.Done kind.Done h = refl
kind_is kind.Leftovers kind.Leftovers h = refl
kind_is kind.Deadlock kind.Deadlock h = refl
kind_is kind.Trap kind.Trap h = refl
kind_is kind.Cut kind.Cut h = refl
kind_is j k h = cc

cause_through : (c d e : Cause) → same_cause c d ≡ true → same_cause d e ≡ true → same_cause c e ≡ true
cause_through c d e h k =
    let lines_h = both_second (same_kind c.kind d.kind) (are_among c.lines d.lines && are_among d.lines c.lines) h in
    let lines_k = both_second (same_kind d.kind e.kind) (are_among d.lines e.lines && are_among e.lines d.lines) k in
    let kinds : same_kind c.kind e.kind ≡ true = ap (λ j. same_kind j e.kind) (kind_is c.kind d.kind (both_first (same_kind c.kind d.kind) (are_among c.lines d.lines && are_among d.lines c.lines) h)) ∙ both_first (same_kind d.kind e.kind) (are_among d.lines e.lines && are_among e.lines d.lines) k in
    both_true (same_kind c.kind e.kind) (are_among c.lines e.lines && are_among e.lines c.lines) kinds
    (both_true (are_among c.lines e.lines) (are_among e.lines c.lines)
    (among_through c.lines d.lines e.lines (both_first (are_among c.lines d.lines) (are_among d.lines c.lines) lines_h) (both_first (are_among d.lines e.lines) (are_among e.lines d.lines) lines_k))
    (among_through e.lines d.lines c.lines (both_second (are_among d.lines e.lines) (are_among e.lines d.lines) lines_k) (both_second (are_among c.lines d.lines) (are_among d.lines c.lines) lines_h)))

of_through : (a b c : Option LeafEnd) → same_of a b ≡ true → same_of b c ≡ true → same_of a c ≡ true
of_through None b c h k = cc
of_through (Some e) None c h k = cc
of_through (Some e) (Some f) None h k = cc
of_through (Some e) (Some f) (Some g) h k = cause_through e.cause f.cause g.cause h k

-- ---- numbers

or_right : (p q : Bool) → q ≡ true → p || q ≡ true
or_right true q r = refl
or_right false q r = r

any_by : (ends : List LeafEnd) (a n x : ℕ) (xs : List ℕ) (b : Bool) → same_at ends n x ≡ b → same_at ends a n ≡ true → (list_any (same_at ends n) xs ≡ true → list_any (same_at ends a) xs ≡ true)
    → list_any (same_at ends n) (x ∷ xs) ≡ true → list_any (same_at ends a) (x ∷ xs) ≡ true
any_by ends a n x xs true e h rest k = ap (λ b. b || list_any (same_at ends a) xs) (of_through (slice_get ends a) (slice_get ends n) (slice_get ends x) h e)
any_by ends a n x xs false e h rest k = or_right (same_at ends a x) (list_any (same_at ends a) xs) (rest (sym (ap (λ b. b || list_any (same_at ends n) xs) e) ∙ k))

any_through : (ends : List LeafEnd) (a n : ℕ) (xs : List ℕ) → same_at ends a n ≡ true → list_any (same_at ends n) xs ≡ true → list_any (same_at ends a) xs ≡ true
any_through ends a n [] h k = cc
any_through ends a n (x ∷ xs) h k = any_by ends a n x xs (same_at ends n x) refl h (any_through ends a n xs h) k

-- what the numbers found so far give is what all before give
abbrev pub Finds : List LeafEnd → List ℕ → ℕ → Type 0
Finds ends numbers n = (a : ℕ) → list_any (same_at ends a) numbers ≡ list_any (same_at ends a) (range_with_len 0 n)

step_by : (n : ℕ) (f : ℕ → Bool) (b old e : Bool) → f n ≡ e → (b ≡ false → e ≡ true → old ≡ true) → (old || list_any f (cond b (n ∷ []) [])) ≡ (old || (e || false))
step_by n f true old e is known = ap (λ t. old || (t || false)) is
step_by n f false true e is known = refl
step_by n f false false true is known = let no : false ≡ true = known refl refl in cc
step_by n f false false false is known = refl

was_there : (b : Bool) → not b ≡ false → b ≡ true
was_there true h = refl
was_there false h = cc

range_more : (k n : ℕ) → range_with_len k (suc n) ≡ range_with_len k n ++ (k + n) ∷ []
range_more k zero = let same : k ≡ k + 0 = omega arith in ap (λ x. x ∷ []) same
range_more k (suc n) = let same : (k + 1) + n ≡ k + suc n = omega arith in ap (λ xs. k ∷ xs) (range_more (k + 1) n ∙ ap (λ x. range_with_len (k + 1) n ++ x ∷ []) same)

range_next : (n : ℕ) → range_with_len 0 (n + 1) ≡ range_with_len 0 n ++ n ∷ []
range_next n =
    let more : n + 1 ≡ suc n = omega arith in
    let same : 0 + n ≡ n = omega arith in
    ap (range_with_len 0) more ∙ range_more 0 n ∙ ap (λ x. range_with_len 0 n ++ x ∷ []) same

-- one number more
pub finds_more : (ends : List LeafEnd) (n : ℕ) (b : Bool) (numbers now : List ℕ) → Finds ends numbers n → b ≡ is_first ends n → now ≡ numbers ++ cond b (n ∷ []) [] → Finds ends now (n + 1)
finds_more ends n b numbers now finds test more = λ a.
    let f : ℕ → Bool = same_at ends a in
    let before : List ℕ = range_with_len 0 n in
    let known : b ≡ false → same_at ends a n ≡ true → list_any f before ≡ true = λ old here. any_through ends a n before here (was_there (list_any (same_at ends n) before) (sym test ∙ old)) in
    ap (list_any f) more ∙ list_any-append f numbers (cond b (n ∷ []) [])
    ∙ ap (λ t. t || list_any f (cond b (n ∷ []) [])) (finds a)
    ∙ step_by n f b (list_any f before) (same_at ends a n) refl known
    ∙ sym (list_any-append f before (n ∷ [])) ∙ ap (list_any f) (sym (range_next n))
