-- A walk along a line, whose numbers rise.
use Rattle.std.proofs.Common.{◌≡◌, ℕ, zero, suc, ◌+◌, ◌<◌, ◌≤◌, Bool, true, false, cond, ◌&&◌, ◌||◌, not, is_none, nat_lt, Option, Some, None, List, [], ◌∷◌, inl, inr, refl, sym, ap, subst, ◌∙◌, length, arith}
use Rattle.std.proofs.lemmas.Bool.{lt-ltb, le-ltb, eqb-true, and_parts, cases_Bool}
use Rattle.std.proofs.lemmas.Bool.Decides.{eqb_tells}
use Rattle.std.specs.List.{filter, list_any, range_with_len}
use Rattle.mpd_model.specs.declared.step.CallId.{CallId}
use Rattle.mpd_model.specs.declared.call.Call.{Call}
use Rattle.mpd_queue.specs.InOrder.{places_in, first_of, next_of, is_link_to, HasSpot}
use Rattle.mpd_queue.proofs.Places.{places_here, places_there, places_more, link_tells}
use Rattle.mpd_queue.proofs.Spots.{first_spot, next_here, next_there, next_spot}
use Rattle.mpd_match.specs.Lines.{line_of, is_line, kind_in, waits, waiting, passed}
use Rattle.mpd_match.proofs.Passed.{passed_here, passed_there}
use Rattle.mpd_match.proofs.InLines.{stands_not}
use Rattle.mpd_match.proofs.Bools.{and_false, none_only}

-- ---- what a call that stands in a line is

line_only : (o : Option ℕ) (line : ℕ) → is_line o line ≡ true → o ≡ Some line
line_only None line e = cc
line_only (Some own) line e = ap Some (eqb-true own line e)

pub stands_tells : (calls : List Call) (mark : ℕ → Option CallId) (line i : ℕ) → 0 < places_in (waiting calls mark line) i → (mark i ≡ None) × (line_of (kind_in calls i) ≡ Some line)
stands_tells calls mark line i has =
    elim (cases_Bool (waits calls mark line i)) [
      | inl e ↦ let both = and_parts (is_none (mark i)) (is_line (line_of (kind_in calls i)) line) e in (none_only (mark i) both.0, line_only (line_of (kind_in calls i)) line both.1)
      | inr e ↦ absurd (omega (arith, stands_not calls mark line i e))
    ]

-- ---- numbers that rise

abbrev pub AllFrom : ℕ → List ℕ → Type 0
AllFrom k [] = Unit {0}
AllFrom k (x ∷ xs) = (k ≤ x) × AllFrom k xs

abbrev pub Rising : List ℕ → Type 0
Rising [] = Unit {0}
Rising (x ∷ xs) = AllFrom (x + 1) xs × Rising xs

from_less : (k m : ℕ) (xs : List ℕ) → k ≤ m → AllFrom m xs → AllFrom k xs
from_less k m [] le all = tt
from_less k m (x ∷ xs) le all = let at : m ≤ x = all.0 in (omega arith, from_less k m xs le all.1)

from_passed : (t : ℕ → Bool) (a n k : ℕ) → k ≤ a → AllFrom k (filter t (range_with_len a n))
from_passed t a zero k le = tt
from_passed t a (suc n) k le =
    let rest : AllFrom k (filter t (range_with_len (a + 1) n)) = from_passed t (a + 1) n k (omega arith) in
    elim (cases_Bool (t a)) [
      | inl h ↦ subst (AllFrom k) (sym (passed_here t a (range_with_len (a + 1) n) h)) (le, rest)
      | inr h ↦ subst (AllFrom k) (sym (passed_there t a (range_with_len (a + 1) n) h)) rest
    ]

pub rising_passed : (t : ℕ → Bool) (a n : ℕ) → Rising (filter t (range_with_len a n))
rising_passed t a zero = tt
rising_passed t a (suc n) =
    elim (cases_Bool (t a)) [
      | inl h ↦ subst Rising (sym (passed_here t a (range_with_len (a + 1) n) h)) (from_passed t (a + 1) n (a + 1) (omega arith), rising_passed t (a + 1) n)
      | inr h ↦ subst Rising (sym (passed_there t a (range_with_len (a + 1) n) h)) (rising_passed t (a + 1) n)
    ]

abbrev pub earlier : (ℕ → Bool) → ℕ → ℕ → Bool
earlier test index i = nat_lt i index && test i

none_earlier : (test : ℕ → Bool) (index : ℕ) (xs : List ℕ) → AllFrom index xs → list_any (earlier test index) xs ≡ false
none_earlier test index [] all = refl
none_earlier test index (x ∷ xs) all =
    ap (λ (b : Bool). (b && test x) || list_any (earlier test index) xs) (le-ltb x index all.0) ∙ none_earlier test index xs all.1

-- ---- the line from where a walk stands, to its end

abbrev pub rest : Option ℕ → List ℕ → List ℕ
rest here [] = []
rest here (x ∷ xs) = cond (is_link_to here x) (x ∷ xs) (rest here xs)

rest_here : (here : Option ℕ) (x : ℕ) (xs : List ℕ) → is_link_to here x ≡ true → rest here (x ∷ xs) ≡ x ∷ xs
rest_here here x xs t = ap (λ (b : Bool). cond b (x ∷ xs) (rest here xs)) t

rest_there : (here : Option ℕ) (x : ℕ) (xs : List ℕ) → is_link_to here x ≡ false → rest here (x ∷ xs) ≡ rest here xs
rest_there here x xs t = ap (λ (b : Bool). cond b (x ∷ xs) (rest here xs)) t

pub rest_none : (xs : List ℕ) → rest None xs ≡ []
rest_none [] = refl
rest_none (x ∷ xs) = rest_none xs

link_to_itself : (x : ℕ) → is_link_to (Some x) x ≡ true
link_to_itself x = elim (link_tells (Some x) x) [ inl t ↦ t.0 | inr t ↦ absurd (t.1 refl) ]

pub rest_first : (xs : List ℕ) → rest (first_of xs) xs ≡ xs
rest_first [] = refl
rest_first (x ∷ xs) = rest_here (Some x) x xs (link_to_itself x)

rest_past : (here : Option ℕ) (x : ℕ) (xs : List ℕ) → HasSpot xs here → places_in xs x ≡ 0 → rest here (x ∷ xs) ≡ rest here xs
rest_past here x xs spot none =
    elim (link_tells here x) [
      | inl t ↦ absurd (let has : 0 < places_in xs x = subst (HasSpot xs) t.1 spot in omega arith)
      | inr t ↦ rest_there here x xs t.0
    ]

pub rest_step : (x : ℕ) (xs : List ℕ) → 0 < places_in xs x → ((z : ℕ) → places_in xs z ≤ 1) → rest (Some x) xs ≡ x ∷ rest (next_of xs x) xs
rest_step x [] has once = absurd (omega arith)
rest_step x (y ∷ ys) has once =
    let alone : places_in ys y ≡ 0 = omega (arith, once y, places_here y ys) in
    elim (eqb_tells x y) [
      | inl t ↦
          rest_here (Some x) y ys t.0
          ∙ ap (λ (k : ℕ). k ∷ ys) (sym t.1)
          ∙ ap (λ (zs : List ℕ). x ∷ zs) (sym (ap (λ (here : Option ℕ). rest here (y ∷ ys)) (next_here x y ys t.1) ∙ rest_past (first_of ys) y ys (first_spot ys) alone ∙ rest_first ys))
      | inr t ↦
          rest_there (Some x) y ys t.0
          ∙ rest_step x ys (omega (arith, places_there x y ys t.1)) (λ z. omega (arith, once z, places_more z y ys))
          ∙ ap (λ (zs : List ℕ). x ∷ zs) (sym (ap (λ (here : Option ℕ). rest here (y ∷ ys)) (next_there x y ys t.1) ∙ rest_past (next_of ys x) y ys (next_spot x ys) alone))
    ]

rest_from : (x : ℕ) (xs : List ℕ) → Rising xs → AllFrom x (rest (Some x) xs)
rest_from x [] rising = tt
rest_from x (y ∷ ys) rising =
    elim (link_tells (Some x) y) [
      | inl t ↦
          let is : x ≡ y = cc in
          subst (AllFrom x) (sym (rest_here (Some x) y ys t.0)) (omega (arith, is), from_less x (y + 1) ys (omega (arith, is)) rising.0)
      | inr t ↦ subst (AllFrom x) (sym (rest_there (Some x) y ys t.0)) (rest_from x ys rising.1)
    ]

-- ---- what a walk keeps that looks for any call of a line: where it stands is in the line, and nothing behind it was found

pub record Seeking (test : ℕ → Bool) (xs : List ℕ) (here : Option ℕ) : Type 0 where
  pub stands : HasSpot xs here
  pub same : list_any test xs ≡ list_any test (rest here xs)

pub seek_begins : (test : ℕ → Bool) (xs : List ℕ) (here : Option ℕ) → here ≡ first_of xs → Seeking test xs here
seek_begins test xs here e =
    subst (Seeking test xs) (sym e) (record { stands = first_spot xs; same = ap (list_any test) (sym (rest_first xs)) })

seek_step : (test : ℕ → Bool) (xs : List ℕ) (x : ℕ) → ((z : ℕ) → places_in xs z ≤ 1) → Seeking test xs (Some x) → list_any test xs ≡ (test x || list_any test (rest (next_of xs x) xs))
seek_step test xs x once s = s.same ∙ ap (list_any test) (rest_step x xs s.stands once)

pub seek_goes_on : (test : ℕ → Bool) (xs : List ℕ) (x : ℕ) (here : Option ℕ) → ((z : ℕ) → places_in xs z ≤ 1) → Seeking test xs (Some x) → test x ≡ false → here ≡ next_of xs x → Seeking test xs here
seek_goes_on test xs x here once s misses e =
    subst (Seeking test xs) (sym e) (record {
      stands = next_spot x xs;
      same = seek_step test xs x once s ∙ ap (λ (b : Bool). b || list_any test (rest (next_of xs x) xs)) misses;
    })

pub seek_finds : (test : ℕ → Bool) (xs : List ℕ) (x : ℕ) → ((z : ℕ) → places_in xs z ≤ 1) → Seeking test xs (Some x) → test x ≡ true → true ≡ list_any test xs
seek_finds test xs x once s hits = sym (seek_step test xs x once s ∙ ap (λ (b : Bool). b || list_any test (rest (next_of xs x) xs)) hits)

pub seek_ends : (test : ℕ → Bool) (xs : List ℕ) → Seeking test xs None → false ≡ list_any test xs
seek_ends test xs s = sym (s.same ∙ ap (list_any test) (rest_none xs))

-- ---- what a walk keeps that counts its looks: where it stands is in the line, nothing behind it was found, and its looks are counted

pub record Walking (test : ℕ → Bool) (index : ℕ) (xs : List ℕ) (begun looks : ℕ) (here : Option ℕ) : Type 0 where
  pub stands : HasSpot xs here
  pub same : list_any (earlier test index) xs ≡ list_any (earlier test index) (rest here xs)
  pub counted : looks + passed test index (rest here xs) ≡ begun + 1 + passed test index xs

passed_more : (test : ℕ → Bool) (index x : ℕ) (xs : List ℕ) → x < index → test x ≡ false → passed test index (x ∷ xs) ≡ 1 + passed test index xs
passed_more test index x xs lt misses =
    ap (λ (b : Bool). cond (b && not (test x)) (1 + passed test index xs) 0) (lt-ltb x index lt)
    ∙ ap (λ (b : Bool). cond (not b) (1 + passed test index xs) 0) misses

passed_hit : (test : ℕ → Bool) (index x : ℕ) (xs : List ℕ) → test x ≡ true → passed test index (x ∷ xs) ≡ 0
passed_hit test index x xs hits =
    ap (λ (b : Bool). cond (nat_lt x index && not b) (1 + passed test index xs) 0) hits
    ∙ ap (λ (b : Bool). cond b (1 + passed test index xs) 0) (and_false (nat_lt x index))

passed_behind : (test : ℕ → Bool) (index x : ℕ) (xs : List ℕ) → index ≤ x → passed test index (x ∷ xs) ≡ 0
passed_behind test index x xs le = ap (λ (b : Bool). cond (b && not (test x)) (1 + passed test index xs) 0) (le-ltb x index le)

pub passed_few : (test : ℕ → Bool) (index : ℕ) (xs : List ℕ) → passed test index xs ≤ length xs
passed_few test index [] = omega arith
passed_few test index (x ∷ xs) =
    elim (nat_lt x index && not (test x)) as (λ b. cond b (1 + passed test index xs) 0 ≤ length (x ∷ xs)) [ true ↦ omega (arith, passed_few test index xs) | false ↦ omega arith ]

pub walk_steps : (test : ℕ → Bool) (index : ℕ) (xs : List ℕ) (begun looks more x : ℕ) (here : Option ℕ) → ((z : ℕ) → places_in xs z ≤ 1)
    → Walking test index xs begun looks (Some x) → x < index → test x ≡ false → here ≡ next_of xs x → more ≡ looks + 1 → Walking test index xs begun more here
walk_steps test index xs begun looks more x here once w lt misses e n =
    let step : rest (Some x) xs ≡ x ∷ rest here xs = rest_step x xs w.stands once ∙ ap (λ (o : Option ℕ). x ∷ rest o xs) (sym e) in
    record {
      stands = subst (HasSpot xs) (sym e) (next_spot x xs);
      same = w.same
          ∙ ap (list_any (earlier test index)) step
          ∙ ap (λ (b : Bool). (nat_lt x index && b) || list_any (earlier test index) (rest here xs)) misses
          ∙ ap (λ (b : Bool). b || list_any (earlier test index) (rest here xs)) (and_false (nat_lt x index));
      counted = let k : passed test index (rest (Some x) xs) ≡ 1 + passed test index (rest here xs) = ap (passed test index) step ∙ passed_more test index x (rest here xs) lt misses in omega (arith, w.counted);
    }

pub walk_falls : (x : ℕ) (xs : List ℕ) (here : Option ℕ) → ((z : ℕ) → places_in xs z ≤ 1) → 0 < places_in xs x → here ≡ next_of xs x → length (rest here xs) < length (rest (Some x) xs)
walk_falls x xs here once has e =
    let h : length (rest (Some x) xs) ≡ length (x ∷ rest here xs) = ap length (rest_step x xs has once ∙ ap (λ (o : Option ℕ). x ∷ rest o xs) (sym e)) in omega arith

pub walk_finds : (test : ℕ → Bool) (index : ℕ) (xs : List ℕ) (begun looks x : ℕ) → ((z : ℕ) → places_in xs z ≤ 1)
    → Walking test index xs begun looks (Some x) → x < index → test x ≡ true → true ≡ list_any (earlier test index) xs
walk_finds test index xs begun looks x once w lt hits =
    let after : List ℕ = rest (next_of xs x) xs in
    sym (w.same
    ∙ ap (list_any (earlier test index)) (rest_step x xs w.stands once)
    ∙ ap (λ (b : Bool). (nat_lt x index && b) || list_any (earlier test index) after) hits
    ∙ ap (λ (b : Bool). (b && true) || list_any (earlier test index) after) (lt-ltb x index lt))

pub walk_passes : (test : ℕ → Bool) (index : ℕ) (xs : List ℕ) (begun looks x : ℕ) → Rising xs → Walking test index xs begun looks (Some x) → index ≤ x → false ≡ list_any (earlier test index) xs
walk_passes test index xs begun looks x rising w le =
    sym (w.same ∙ none_earlier test index (rest (Some x) xs) (from_less index x (rest (Some x) xs) le (rest_from x xs rising)))

pub walk_ends : (test : ℕ → Bool) (index : ℕ) (xs : List ℕ) (begun looks : ℕ) → Walking test index xs begun looks None → false ≡ list_any (earlier test index) xs
walk_ends test index xs begun looks w = sym (w.same ∙ ap (list_any (earlier test index)) (rest_none xs))

-- how many looks a walk took that ended here

pub looks_found : (test : ℕ → Bool) (index : ℕ) (xs : List ℕ) (begun looks x : ℕ) → ((z : ℕ) → places_in xs z ≤ 1) → Walking test index xs begun looks (Some x) → test x ≡ true → looks ≡ begun + 1 + passed test index xs
looks_found test index xs begun looks x once w hits =
    let k : passed test index (rest (Some x) xs) ≡ 0 = ap (passed test index) (rest_step x xs w.stands once) ∙ passed_hit test index x (rest (next_of xs x) xs) hits in omega (arith, w.counted)

pub looks_passed : (test : ℕ → Bool) (index : ℕ) (xs : List ℕ) (begun looks x : ℕ) → ((z : ℕ) → places_in xs z ≤ 1) → Walking test index xs begun looks (Some x) → index ≤ x → looks ≡ begun + 1 + passed test index xs
looks_passed test index xs begun looks x once w le =
    let k : passed test index (rest (Some x) xs) ≡ 0 = ap (passed test index) (rest_step x xs w.stands once) ∙ passed_behind test index x (rest (next_of xs x) xs) le in omega (arith, w.counted)

pub looks_ended : (test : ℕ → Bool) (index : ℕ) (xs : List ℕ) (begun looks : ℕ) → Walking test index xs begun looks None → looks ≡ begun + 1 + passed test index xs
looks_ended test index xs begun looks w =
    let k : passed test index (rest None xs) ≡ 0 = ap (passed test index) (rest_none xs) in omega (arith, w.counted)
