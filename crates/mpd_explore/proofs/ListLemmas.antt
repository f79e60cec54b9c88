-- Tests over lists, and what lists are from one place on.
use Rattle.std.proofs.Common.{◌≡◌, ℕ, suc, ◌<◌, ◌≤◌, ◌||◌, Bool, true, false, List, [], ◌∷◌, ◌++◌, length, drop, reverse, get_or, refl, sym, ap, ◌∙◌}
use Rattle.std.specs.List.{list_any}
use Rattle.std.proofs.lemmas.List.{drop_all, reverse-append}
use Rattle.std.proofs.Math.Seq.{drop-cons}

pub drop_at : {A : Type 0} (xs : List A) (i : ℕ) (x : A) → i < length xs → x ≡ get_or xs i x → drop i xs ≡ x ∷ drop (suc i) xs
drop_at xs i x within read = drop-cons xs i x within ∙ ap (λ y. y ∷ drop (suc i) xs) (sym read)

-- ---- a loop that looks for one

pub any_here : {A : Type 0} (t : A → Bool) (xs : List A) (i : ℕ) (x : A) → i < length xs → x ≡ get_or xs i x → list_any t (drop i xs) ≡ list_any t xs → t x ≡ true → true ≡ list_any t xs
any_here t xs i x within read rest h = sym (sym rest ∙ ap (list_any t) (drop_at xs i x within read) ∙ ap (λ b. b || list_any t (drop (suc i) xs)) h)

pub any_later : {A : Type 0} (t : A → Bool) (xs : List A) (i n : ℕ) (x : A) → i < length xs → x ≡ get_or xs i x → n ≡ suc i → list_any t (drop i xs) ≡ list_any t xs → t x ≡ false → list_any t (drop n xs) ≡ list_any t xs
any_later t xs i n x within read next rest h =
    ap (λ m. list_any t (drop m xs)) next ∙ sym (ap (list_any t) (drop_at xs i x within read) ∙ ap (λ b. b || list_any t (drop (suc i) xs)) h) ∙ rest

pub any_none : {A : Type 0} (t : A → Bool) (xs : List A) (i : ℕ) → length xs ≤ i → list_any t (drop i xs) ≡ list_any t xs → false ≡ list_any t xs
any_none t xs i long rest = sym (ap (list_any t) (drop_all i xs long)) ∙ rest

-- ---- in either order

pub or_false : (x : Bool) → (x || false) ≡ x
or_false true = refl
or_false false = refl

pub or_other : (x y : Bool) → (x || y) ≡ (y || x)
or_other true true = refl
or_other true false = refl
or_other false true = refl
or_other false false = refl

pub or_group : (x y z : Bool) → ((x || y) || z) ≡ (x || (y || z))
or_group true y z = refl
or_group false y z = refl

pub or_front : (x y z : Bool) → (x || (y || z)) ≡ ((y || x) || z)
or_front x y z = sym (or_group x y z) ∙ ap (λ b. b || z) (or_other x y)

any_joined : {A : Type 0} (t : A → Bool) (xs ys : List A) → list_any t (xs ++ ys) ≡ (list_any t xs || list_any t ys)
any_joined t [] ys = refl
any_joined t (x ∷ xs) ys = ap (λ b. t x || b) (any_joined t xs ys) ∙ sym (or_group (t x) (list_any t xs) (list_any t ys))

pub any_reversed : {A : Type 0} (t : A → Bool) (xs : List A) → list_any t (reverse xs) ≡ list_any t xs
any_reversed t [] = refl
any_reversed t (x ∷ xs) =
    ap (list_any t) (reverse-append (x ∷ []) xs) ∙ any_joined t (reverse xs) (x ∷ []) ∙ or_other (list_any t (reverse xs)) (list_any t (x ∷ []))
    ∙ ap (λ b. list_any t (x ∷ []) || b) (any_reversed t xs) ∙ or_group (t x) false (list_any t xs)

pub reverse_pushed : {A : Type 0} (xs now : List A) (x : A) → now ≡ xs ++ x ∷ [] → reverse now ≡ x ∷ reverse xs
reverse_pushed xs now x e = ap reverse e ∙ reverse-append xs (x ∷ [])
