-- What a table keeps that drops a part.
use Rattle.std.proofs.Common.{◌≡◌, inl, inr, ℕ, Bool, true, false, List, [], ◌∷◌, length, eqb, cond, Option, Some, None, refl, sym, ap, ◌∙◌, subst}
use Rattle.std.specs.Prelude.{nat_lt, ℤ, Vec}
use Rattle.std.specs.declared.alloc.Global.{Global}
use Rattle.std.specs.Cmp.{IsEquivalence}
use Rattle.std.specs.List.{filter, IsDistinct}
use Rattle.std.specs.Map.{lookup, keys_of}
use Rattle.std.specs.Cmp.Lexicographic.{pointwise}
use Rattle.std.proofs.lemmas.Cmp.{lists_equiv, nat_eq_equiv}
use Rattle.std.proofs.lemmas.Slice.Eq.{slice_eq-Decides}
use Rattle.std.proofs.lemmas.Bool.Decides.{Decides-int_eq, Decides-eqb}
use Rattle.std.proofs.lemmas.Map.Entries.{option_filter, lookup-filter-values}
use Rattle.mpd_outcomes.specs.declared.table.Found.{Found}
use Rattle.mpd_outcomes.specs.declared.table.Table.{Table}
use Rattle.mpd_outcomes.specs.Parts.{at_items, numbers_of, found_by, AllBelow, IsNumbered}
use Rattle.mpd_outcomes.specs.Table.{key_eq, where_higher, KeepsAPart, KeepsAPartIn, KeepsAboveIn}

-- ---- a map by lists of numbers

abbrev pub by_numbers : Vec ℕ Global → Vec ℕ Global → Bool
by_numbers x y = pointwise eqb x.items y.items

by_numbers_equiv : IsEquivalence by_numbers
by_numbers_equiv = record {
  refl = λ x. items.refl x.items;
  symm = λ x y. items.symm x.items y.items;
  congr = λ x y z. items.congr x.items y.items z.items;
}
  where
    items : IsEquivalence (pointwise eqb)
    items = lists_equiv nat_eq_equiv

filtered : (height : ℕ) (o : Option Found) → option_filter (λ f. nat_lt height f.height) o ≡ where_higher height o
filtered height None = refl
filtered height (Some f) = refl

none_is : {A : Type 0} {x : A} → None ≡ Some x → ⊥
none_is e = cc

-- what is found stands by a key
key_of_found : {K X : Type 0} (test : K → Bool) (entries : List (K × X)) (f : X) → lookup test entries ≡ Some f → (k : K) × (test k ≡ true)
key_of_found test [] f e = absurd (none_is e)
key_of_found test (x ∷ entries) f e = by_test test x.0 (Some x.1) (lookup test entries) f (key_of_found test entries f) (test x.0) refl e
  where
    by_test : {K X : Type 0} (test : K → Bool) (k : K) (o p : Option X) (f : X) → (p ≡ Some f → (k : K) × (test k ≡ true)) → (b : Bool) → test k ≡ b → cond b o p ≡ Some f → (k : K) × (test k ≡ true)
    by_test test k o p f rest true t h = (k, t)
    by_test test k o p f rest false t h = rest h

-- a filter by heights, at each list
module _ (height : ℕ) (old new : List (Vec ℕ Global × Found)) (unique : IsDistinct by_numbers (keys_of old)) (is : new ≡ filter (λ e. nat_lt height e.1.height) old) where
  at_key : (k : Vec ℕ Global) → at_items eqb k.items new ≡ where_higher height (at_items eqb k.items old)
  at_key k = ap (lookup (by_numbers k)) is ∙ lookup-filter-values by_numbers_equiv (λ f. nat_lt height f.height) k old unique ∙ filtered height (at_items eqb k.items old)

  at_found : (ns : List ℕ) (k : Vec ℕ Global) → pointwise eqb ns k.items ≡ true → at_items eqb ns new ≡ where_higher height (at_items eqb ns old)
  at_found ns k e = subst (λ (xs : List ℕ). at_items eqb xs new ≡ where_higher height (at_items eqb xs old)) (sym ((slice_eq-Decides Decides-eqb ns k.items (pointwise eqb ns k.items) refl).0 e)) (at_key k)

  pub filtered_at : (ns : List ℕ) → at_items eqb ns new ≡ where_higher height (at_items eqb ns old)
  filtered_at ns = by (at_items eqb ns new) (at_items eqb ns old) refl refl
    where
      here : (f : Found) (entries : List (Vec ℕ Global × Found)) → at_items eqb ns entries ≡ Some f → at_items eqb ns new ≡ where_higher height (at_items eqb ns old)
      here f entries e = let k = key_of_found (λ (k : Vec ℕ Global). pointwise eqb ns k.items) entries f e in at_found ns k.0 k.1

      by : (o p : Option Found) → at_items eqb ns new ≡ o → at_items eqb ns old ≡ p → at_items eqb ns new ≡ where_higher height (at_items eqb ns old)
      by (Some f) p e g = here f new e
      by None (Some f) e g = here f old g
      by None None e g = e ∙ ap (where_higher height) (sym g)

  pub kept_numbered : (parts : List (Vec ℤ Global × ℕ)) → IsNumbered parts old → IsNumbered parts new
  kept_numbered parts h ns f e = there (at_items eqb ns old) refl (sym (filtered_at ns) ∙ e)
    where
      there : (o : Option Found) → at_items eqb ns old ≡ o → where_higher height o ≡ Some f → AllBelow (length parts) ns
      there None g k = absurd (none_is k)
      there (Some x) g k = h ns x g

  by_parts : (parts : List (Vec ℤ Global × ℕ)) (o : Option (List ℕ)) → found_by new o ≡ where_higher height (found_by old o)
  by_parts parts None = refl
  by_parts parts (Some ns) = filtered_at ns

  pub kept_above : (parts : List (Vec ℤ Global × ℕ)) → KeepsAboveIn height (record { parts = parts; kept = old }) (record { parts = parts; kept = new })
  kept_above parts q = by_parts parts (numbers_of parts (length q) q)

-- ---- a table

-- a table keeps what its store keeps
pub store_keeps : (old new : Table) (key : Vec ℤ Global) (found : Found) → KeepsAPartIn old.store key.items found new.store → KeepsAPart old key found new
store_keeps old new key found h q f at = elim (h q.items f at) [
  | inl there ↦ inl there
  | inr now ↦ inr ((slice_eq-Decides Decides-int_eq key.items q.items (key_eq key q) refl).1 now.0, now.1)
]
