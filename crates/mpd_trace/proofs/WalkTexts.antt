-- Texts of a list without doubles that is walked: from its first number on, each time to the one behind.
use Rattle.std.proofs.Common.{◌≡◌, ℕ, ◌<◌, ◌≤◌, Bool, true, false, cond, Option, Some, None, is_some, not, List, [], ◌∷◌, ◌++◌, inl, inr, refl, sym, ap, subst, ◌∙◌, length, arith, append_assoc, append-nil}
use Rattle.std.proofs.lemmas.Bool.{false≢true}
use Rattle.std.proofs.lemmas.Bool.Decides.{eqb_tells}
use Rattle.std.specs.Fmt.{decimal}
use Rattle.mpd_model.specs.texts.Texts.{spaced, numbers_line}
use Rattle.mpd_queue.specs.InOrder.{places_in, first_of, next_of, is_link_to, HasSpot}
use Rattle.mpd_queue.proofs.Places.{places_here, places_there, places_more, link_tells}
use Rattle.mpd_queue.proofs.Spots.{first_spot, next_here, next_there, next_spot}
use Rattle.mpd_match.proofs.Walks.{rest, walk_falls}

-- ---- a list from where a walk stands, to its end

rest_here : (here : Option ℕ) (x : ℕ) (xs : List ℕ) → is_link_to here x ≡ true → rest here (x ∷ xs) ≡ x ∷ xs
rest_here here x xs t = ap (λ (b : Bool). cond b (x ∷ xs) (rest here xs)) t

rest_there : (here : Option ℕ) (x : ℕ) (xs : List ℕ) → is_link_to here x ≡ false → rest here (x ∷ xs) ≡ rest here xs
rest_there here x xs t = ap (λ (b : Bool). cond b (x ∷ xs) (rest here xs)) t

rest_none : (xs : List ℕ) → rest None xs ≡ []
rest_none [] = refl
rest_none (x ∷ xs) = rest_none xs

rest_first : (xs : List ℕ) → rest (first_of xs) xs ≡ xs
rest_first [] = refl
rest_first (x ∷ xs) = elim (link_tells (Some x) x) [ inl t ↦ rest_here (Some x) x xs t.0 | inr t ↦ absurd (t.1 refl) ]

rest_past : (here : Option ℕ) (x : ℕ) (xs : List ℕ) → HasSpot xs here → places_in xs x ≡ 0 → rest here (x ∷ xs) ≡ rest here xs
rest_past here x xs spot none =
    elim (link_tells here x) [
      | inl t ↦ absurd (let has : 0 < places_in xs x = subst (HasSpot xs) t.1 spot in omega arith)
      | inr t ↦ rest_there here x xs t.0
    ]

rest_step : (x : ℕ) (xs : List ℕ) → 0 < places_in xs x → ((z : ℕ) → places_in xs z ≤ 1) → rest (Some x) xs ≡ x ∷ rest (next_of xs x) xs
rest_step x [] has once = absurd (omega arith)
rest_step x (y ∷ ys) has once =
    let alone : places_in ys y ≡ 0 = omega (arith, once y, places_here y ys) in
    elim (eqb_tells x y) [
      | inl t ↦
          rest_here (Some x) y ys t.0
          ∙ ap (λ (k : ℕ). k ∷ ys) (sym t.1)
          ∙ ap (λ (zs : List ℕ). x ∷ zs) (sym (ap (λ (here : Option ℕ). rest here (y ∷ ys)) (next_here x y ys t.1) ∙ rest_past (first_of ys) y ys (first_spot ys) alone ∙ rest_first ys))
      | inr t ↦
          rest_there (Some x) y ys t.0
          ∙ rest_step x ys (omega (arith, places_there x y ys t.1)) (λ z. omega (arith, once z, places_more z y ys))
          ∙ ap (λ (zs : List ℕ). x ∷ zs) (sym (ap (λ (here : Option ℕ). rest here (y ∷ ys)) (next_there x y ys t.1) ∙ rest_past (next_of ys x) y ys (next_spot x ys) alone))
    ]

-- ---- what a walk keeps: where it stands is in the list, and what is written and the rest are the whole text

pub record Writing (xs whole now : List ℕ) (here : Option ℕ) : Type 0 where
  pub stands : HasSpot xs here
  pub text : now ++ spaced decimal (rest here xs) ≡ whole

pub writing_begins : (xs whole now : List ℕ) (here : Option ℕ) → here ≡ first_of xs → whole ≡ now ++ spaced decimal xs → Writing xs whole now here
writing_begins xs whole now here e w = record {
  stands = subst (HasSpot xs) (sym e) (first_spot xs);
  text = ap (λ (o : Option ℕ). now ++ spaced decimal (rest o xs)) e ∙ ap (λ (zs : List ℕ). now ++ spaced decimal zs) (rest_first xs) ∙ sym w;
}

pub writing_stands : (xs whole now : List ℕ) (x : ℕ) (here : Option ℕ) → here ≡ Some x → Writing xs whole now here → 0 < places_in xs x
writing_stands xs whole now x here at w = subst (HasSpot xs) at w.stands

pub writing_falls : (xs whole now : List ℕ) (x : ℕ) (here next : Option ℕ) → ((z : ℕ) → places_in xs z ≤ 1) → here ≡ Some x → Writing xs whole now here → next ≡ next_of xs x
    → length (rest next xs) < length (rest here xs)
writing_falls xs whole now x here next once at w e =
    subst (λ (o : Option ℕ). length (rest next xs) < length (rest o xs)) (sym at) (walk_falls x xs next once (writing_stands xs whole now x here at w) e)

pub writing_steps : (xs whole now more : List ℕ) (x : ℕ) (here next : Option ℕ) → ((z : ℕ) → places_in xs z ≤ 1) → here ≡ Some x → Writing xs whole now here → next ≡ next_of xs x
    → more ≡ now ++ 32 ∷ decimal x → Writing xs whole more next
writing_steps xs whole now more x here next once at w e m = record {
  stands = subst (HasSpot xs) (sym e) (next_spot x xs);
  text =
      ap (λ (t : List ℕ). t ++ spaced decimal (rest next xs)) m
      ∙ append_assoc now (32 ∷ decimal x) (spaced decimal (rest next xs))
      ∙ ap (λ (o : Option ℕ). now ++ spaced decimal (x ∷ rest o xs)) e
      ∙ ap (λ (zs : List ℕ). now ++ spaced decimal zs) (sym (rest_step x xs (writing_stands xs whole now x here at w) once))
      ∙ ap (λ (o : Option ℕ). now ++ spaced decimal (rest o xs)) (sym at)
      ∙ w.text;
}

-- at the end of the walk the numbers are written
writing_done : (xs whole now : List ℕ) (here : Option ℕ) → here ≡ None → Writing xs whole now here → now ≡ whole
writing_done xs whole now here at w =
    sym (append-nil now) ∙ ap (λ (zs : List ℕ). now ++ spaced decimal zs) (sym (rest_none xs)) ∙ ap (λ (o : Option ℕ). now ++ spaced decimal (rest o xs)) (sym at) ∙ w.text

-- and a line feed ends their line
pub line_ends : (xs before name now after : List ℕ) (first here : Option ℕ) (none : Bool) → first ≡ first_of xs → is_some first ≡ not none → none ≡ false → here ≡ None
    → Writing xs (before ++ (name ++ 58 ∷ spaced decimal xs)) now here → after ≡ now ++ 10 ∷ [] → after ≡ before ++ numbers_line name xs
line_ends [] before name now after first here none e is some at w m = absurd (false≢true (sym (ap is_some e) ∙ is ∙ ap not some))
line_ends (y ∷ ys) before name now after first here none e is some at w m =
    m ∙ ap (λ (t : List ℕ). t ++ 10 ∷ []) (writing_done (y ∷ ys) (before ++ (name ++ 58 ∷ spaced decimal (y ∷ ys))) now here at w) ∙ append_assoc before (name ++ 58 ∷ spaced decimal (y ∷ ys)) (10 ∷ [])
