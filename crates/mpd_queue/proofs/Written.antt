-- One link is written: where it is read, and where the links are as before.
use Rattle.std.proofs.Common.{◌≡◌, ◌≢◌, ℕ, Bool, true, false, cond, Option, Some, None, ◌⊎◌, inl, inr, refl, sym, ap, ◌∙◌}
use Rattle.std.proofs.lemmas.Bool.{eqb-true, eq-eqb, ne_eqb}
use Rattle.mpd_queue.specs.Chained.{is_same_place, written}

bool_tells : (b : Bool) → (b ≡ true) ⊎ (b ≡ false)
bool_tells true = inl refl
bool_tells false = inr refl

same_as_itself : (l : ℕ) (u : Option ℕ) → is_same_place l u l u ≡ true
same_as_itself l None = eq-eqb l l refl
same_as_itself l (Some i) = eq-eqb i i refl

pub same_is : (l m : ℕ) (u w : Option ℕ) → is_same_place l u m w ≡ true → u ≡ w
same_is l m None None h = refl
same_is l m None (Some j) h = cc
same_is l m (Some i) None h = cc
same_is l m (Some i) (Some j) h = ap Some (eqb-true i j h)

not_same : (l m : ℕ) (u w : Option ℕ) → u ≢ w → is_same_place l u m w ≡ false
not_same l m u w ne = elim (bool_tells (is_same_place l u m w)) [ inl h ↦ absurd (ne (same_is l m u w h)) | inr h ↦ h ]

other_end : (l m : ℕ) (u : Option ℕ) → m ≢ l → is_same_place l u m None ≡ false
other_end l m None ne = ne_eqb l m (λ e. ne (sym e))
other_end l m (Some i) ne = refl

-- places that share their link read the same there
same_link : (N : ℕ → Option ℕ → Option ℕ) → ((l m i : ℕ) → N l (Some i) ≡ N m (Some i)) → (l m : ℕ) (u w : Option ℕ) → is_same_place l u m w ≡ true → N m w ≡ N l u
same_link N own l m None None h = ap (λ (k : ℕ). N k None) (sym (eqb-true l m h))
same_link N own l m None (Some j) h = cc
same_link N own l m (Some i) None h = cc
same_link N own l m (Some i) (Some j) h = own m l j ∙ ap (λ (k : ℕ). N l (Some k)) (sym (eqb-true i j h))

elsewhere : (N : ℕ → Option ℕ → Option ℕ) (l : ℕ) (at to : Option ℕ) (m : ℕ) (u : Option ℕ) → is_same_place l at m u ≡ false → written N l at to m u ≡ N m u
elsewhere N l at to m u h = ap (λ (b : Bool). cond b to (N m u)) h

pub written_there : (N : ℕ → Option ℕ → Option ℕ) (l : ℕ) (at to : Option ℕ) → written N l at to l at ≡ to
written_there N l at to = ap (λ (b : Bool). cond b to (N l at)) (same_as_itself l at)

pub written_apart : (N : ℕ → Option ℕ → Option ℕ) (l : ℕ) (at to : Option ℕ) (m : ℕ) (u : Option ℕ) → at ≢ u → written N l at to m u ≡ N m u
written_apart N l at to m u ne = elsewhere N l at to m u (not_same l m at u ne)

pub written_end : (N : ℕ → Option ℕ → Option ℕ) (l : ℕ) (at to : Option ℕ) (m : ℕ) → m ≢ l → written N l at to m None ≡ N m None
written_end N l at to m ne = elsewhere N l at to m None (other_end l m at ne)

-- a link that led elsewhere than the one which was written stays
pub written_beside : (N : ℕ → Option ℕ → Option ℕ) → ((l m i : ℕ) → N l (Some i) ≡ N m (Some i))
    → (l : ℕ) (at to was : Option ℕ) → N l at ≡ was
    → (m : ℕ) (u : Option ℕ) → N m u ≢ was → written N l at to m u ≡ N m u
written_beside N own l at to was is m u ne =
    elim (bool_tells (is_same_place l at m u)) [
      | inl h ↦ absurd (ne (same_link N own l m at u h ∙ is))
      | inr h ↦ elsewhere N l at to m u h
    ]

pub written_again : (N M : ℕ → Option ℕ → Option ℕ) (l : ℕ) (at to : Option ℕ) (m : ℕ) (u : Option ℕ) → N m u ≡ M m u → written N l at to m u ≡ written M l at to m u
written_again N M l at to m u e = ap (cond (is_same_place l at m u) to) e
