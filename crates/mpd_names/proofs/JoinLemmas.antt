-- Texts and lists that grow by parts.
use Rattle.std.proofs.Common.{◌≡◌, ℕ, List, ◌∷◌, ◌++◌, if◌then◌else◌, Result, Ok, Err, OnOk, is_ok, sym, ap, ◌∙◌, append_assoc}
use Rattle.std.specs.List.{flat_map}

pub grown : (old now x y next : List ℕ) → now ≡ old ++ x → next ≡ now ++ y → next ≡ old ++ (x ++ y)
grown old now x y next h k = k ∙ ap (λ t. t ++ y) h ∙ append_assoc old x y

pub grown_two : (old now x y z next : List ℕ) → now ≡ old ++ x → next ≡ now ++ y ++ z → next ≡ old ++ (x ++ y ++ z)
grown_two old now x y z next h k = k ∙ ap (λ t. t ++ y ++ z) h ∙ ap (λ t. t ++ z) (append_assoc old x y) ∙ append_assoc old (x ++ y) z

pub begun_two : (old y z next : List ℕ) → next ≡ old ++ y ++ z → next ≡ old ++ (y ++ z)
begun_two old y z next k = k ∙ append_assoc old y z

-- a line of which what is behind its beginning stands in a function of its own
regrouped : (x a b c d : List ℕ) → x ++ (a ++ b ++ c ++ d) ≡ x ++ a ++ b ++ c ++ d
regrouped x a b c d = sym (append_assoc x (a ++ b ++ c) d) ∙ ap (λ t. t ++ d) (sym (append_assoc x (a ++ b) c) ∙ ap (λ t. t ++ c) (sym (append_assoc x a b)))

pub grown_four : (old now x a b c d next : List ℕ) → now ≡ old ++ x → next ≡ now ++ (a ++ b ++ c ++ d) → next ≡ old ++ (x ++ a ++ b ++ c ++ d)
grown_four old now x a b c d next h k = grown old now x (a ++ b ++ c ++ d) next h k ∙ ap (λ t. old ++ t) (regrouped x a b c d)

-- what the last push of a function says of it
pub pushed : {T E : Type 0} (r : Result T E) (now x next : List ℕ) → next ≡ (if is_ok r then now ++ x else now) → OnOk r (next ≡ now ++ x)
pushed (Ok v) now x next h = h
pushed (Err e) now x next h = tt

-- the same where what is pushed is told of a value that another is equal to
pub pushed_of : {T E K : Type 0} (r : Result T E) (told : K → List ℕ) (k l : K) (now next : List ℕ) → k ≡ l → next ≡ (if is_ok r then now ++ told l else now) → OnOk r (next ≡ now ++ told k)
pushed_of (Ok v) told k l now next e h = h ∙ ap (λ x. now ++ told x) (sym e)
pushed_of (Err e) told k l now next is h = tt

-- what one element more of a list gives
pub joined_more : {A B : Type 0} (f : A → List B) (xs rest : List A) (x : A) (so_far now total : List B) → xs ≡ x ∷ rest → so_far ++ flat_map f xs ≡ total → now ≡ so_far ++ f x → now ++ flat_map f rest ≡ total
joined_more f xs rest x so_far now total is e more = ap (λ ys. ys ++ flat_map f rest) more ∙ append_assoc so_far (f x) (flat_map f rest) ∙ ap (λ ys. so_far ++ flat_map f ys) (sym is) ∙ e
