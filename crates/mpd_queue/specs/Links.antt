-- A link as a number: 4294967295 is none.
use Rattle.std.specs.Prelude.{◌≡◌, ℕ, Bool, cond, eqb, Option, Some, None}
use Rattle.std.proofs.Common.{inl, inr, sym, ap, ◌∙◌}
use Rattle.std.proofs.lemmas.Bool.Decides.{eqb_tells}
use Rattle.mpd_queue.specs.declared.link.Link.TheInside.{Inside}

abbrev pub item_of : ℕ → Option ℕ
item_of number = cond (eqb number 4294967295) None (Some number)

abbrev pub number_of : Option ℕ → ℕ
number_of None = 4294967295
number_of (Some item) = item

number_back : (n : ℕ) → number_of (item_of n) ≡ n
number_back n =
    elim (eqb_tells n 4294967295) [
      | inl t ↦ ap (λ (b : Bool). number_of (cond b None (Some n))) t.0 ∙ sym t.1
      | inr t ↦ ap (λ (b : Bool). number_of (cond b None (Some n))) t.0
    ]

-- a link gives its number back
pub link_back : (l : Inside) → record { number = number_of (item_of l.number) } ≡ l
link_back l =
    let made : ℕ → Inside = λ n. record { number = n } in
    ap made (number_back l.number)
