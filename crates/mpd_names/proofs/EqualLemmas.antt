-- When two numbers are one, or are both none, and when two lists are.
use Rattle.std.proofs.Common.{◌≡◌, ◌<◌, ℕ, eqb, Bool, false, Option, Some, None, List, length, map, get_or, refl, ap, sym, ◌∙◌, arith}
use Rattle.std.proofs.lemmas.List.{get_or-map}
use Rattle.std.specs.Bool.{Decides}
use Rattle.std.specs.Cmp.{unsigned_Decides}
use Rattle.std.specs.Option.{option_eq}

pub option_Decides : (a b : Option ℕ) → Decides (option_eq eqb a b) (a ≡ b)
option_Decides None None = (λ e. refl, λ e. refl)
option_Decides None (Some b) = (λ e. cc, λ e. cc)
option_Decides (Some a) None = (λ e. cc, λ e. cc)
option_Decides (Some a) (Some b) = (λ e. ap Some ((unsigned_Decides a b).0 e), λ e. let h : a ≡ b = cc in (unsigned_Decides a b).1 h)

-- what is told of two lists alike is told of what stands at one place
pub at_place : {X Y : Type 0} (f : X → Y) (xs ys : List X) (i : ℕ) (d e : X) → i < length xs → i < length ys → map f xs ≡ map f ys → f (get_or xs i d) ≡ f (get_or ys i e)
at_place f xs ys i d e within also h = sym (get_or-map f xs i d (f d) within) ∙ ap (λ l. get_or l i (f d)) h ∙ get_or-map f ys i e (f d) also

-- lists that differ at a place are two
pub items_differ : {X : Type 0} (xs ys : List X) (i : ℕ) (d e : X) (is_same : Bool) → i < length xs → length xs ≡ length ys → d ≡ get_or xs i d → e ≡ get_or ys i e → Decides is_same (d ≡ e) → is_same ≡ false → Decides false (xs ≡ ys)
items_differ xs ys i d e is_same within even at also decides differ = (
  λ no_way. cc,
  λ same. sym differ ∙ decides.1 (at ∙ at_place (λ x. x) xs ys i d e within (omega arith) (ap (map (λ x. x)) same) ∙ sym also),
)

-- the same, of what stands there
pub items_at : {X : Type 0} (xs ys : List X) (i : ℕ) (d e : X) (is_same : Bool) → i < length xs → length xs ≡ length ys → Decides is_same (get_or xs i d ≡ get_or ys i e) → is_same ≡ false → Decides false (xs ≡ ys)
items_at xs ys i d e is_same within even decides differ = (
  λ no_way. cc,
  λ same. sym differ ∙ decides.1 (at_place (λ x. x) xs ys i d e within (omega arith) (ap (map (λ x. x)) same)),
)
