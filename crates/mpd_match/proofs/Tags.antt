-- Tags that are marked along a line of free sends, and receives that none of these fits.
use Rattle.std.proofs.Common.{◌≡◌, ◌≢◌, ℕ, ◌/◌, ◌%◌, ◌^◌, ◌<◌, ◌≤◌, Bool, true, false, ◌&&◌, ◌==◌, eq-eqb, eqb-true, get_or, bit_or, Option, Some, None, List, [], ◌∷◌, ◌++◌, ◌⊎◌, inl, inr, refl, sym, ap, subst, ◌∙◌, map, length, set, arith}
use Rattle.mpd_laws.proofs.ordered.Eligible.{clash}
use Rattle.std.proofs.lemmas.Bool.{and_parts, not-true}
use Rattle.std.proofs.lemmas.List.{get_or-set_same, get_or-set_other, length-set}
use Rattle.std.proofs.lemmas.Nat.{mod_below}
use Rattle.std.proofs.lemmas.Nat.Bits.{bit_at_or, bit_at-lt, bit_at-pow_same}
use Rattle.std.specs.Int.{bit_at}
use Rattle.std.proofs.lemmas.Bool.Decides.{eqb_tells}
use Rattle.std.specs.List.{filter, flat_map}
use Rattle.mpd_model.specs.declared.step.CallId.{CallId}
use Rattle.mpd_model.specs.declared.step.Step.{Step}
use Rattle.mpd_model.specs.declared.step.Step.TheVariants.{Match}
use Rattle.mpd_model.specs.declared.call.CallKind.{CallKind}
use Rattle.mpd_model.specs.declared.call.CallKind.TheVariants.{Send, Recv, Wait, Waitany, Barrier}
use Rattle.mpd_model.specs.steps.World.{Board, call_id, kind_at, rank_numbers, is_any_or, fitting, eligible}
use Rattle.mpd_model.specs.steps.Why.{first_in}
use Rattle.mpd_model.specs.runs.Decisions.{is_named_match}
use Rattle.mpd_queue.specs.InOrder.{places_in, next_of, HasSpot}
use Rattle.mpd_queue.proofs.Spots.{next_spot}
use Rattle.mpd_queue.proofs.Places.{places_there}
use Rattle.mpd_match.specs.Matches.{matches_from}
use Rattle.mpd_match.specs.Picked.{picked_with}
use Rattle.mpd_match.specs.Tags.{tag_place, word_of, marked, sent_tag, is_marked, is_unseen_by, is_unseen, Covers}
use Rattle.mpd_match.proofs.Walks.{rest, rest_none, rest_step}
use Rattle.mpd_match.proofs.Matches.{eligible_pending}
use Rattle.mpd_match.proofs.Candidates.{Parts, parts_of, candidates_none}

-- ---- a mark more

-- whether a word of a list has a bit
abbrev has_bit : List ℕ → ℕ → ℕ → Bool
has_bit marks w k = bit_at (get_or marks w 0) k == 1

or_same : (word k : ℕ) → bit_at (bit_or word (2 ^ k)) k ≡ 1
or_same word k = omega (arith, bit_at_or word (2 ^ k) k, bit_at-pow_same k, bit_at-lt word k)

or_stays : (word more k : ℕ) → bit_at word k ≡ 1 → bit_at (bit_or word more) k ≡ 1
or_stays word more k e = omega (arith, bit_at_or word more k, e, bit_at-lt more k)

inside_of : (marks : List ℕ) (n : ℕ) → 0 < length marks → word_of (length marks) n < length marks
inside_of marks n some = mod_below (n / 64) (length marks) some

-- after a change of a word there are as many words as before
marked_in : (marks : List ℕ) (k n : ℕ) → is_marked (marked marks k) n ≡ has_bit (marked marks k) (word_of (length marks) n) (n % 64)
marked_in marks k n = ap (λ (words : ℕ). has_bit (marked marks k) (word_of words n) (n % 64)) (length-set marks (word_of (length marks) k) _)

pub mark_same : (marks : List ℕ) (k : ℕ) → 0 < length marks → is_marked (marked marks k) k ≡ true
mark_same marks k some =
    let w : ℕ = word_of (length marks) k in
    let at : get_or (marked marks k) w 0 ≡ bit_or (get_or marks w 0) (2 ^ (k % 64)) = get_or-set_same marks w (bit_or (get_or marks w 0) (2 ^ (k % 64))) 0 (inside_of marks k some) in
    marked_in marks k k ∙ eq-eqb _ 1 (ap (λ (word : ℕ). bit_at word (k % 64)) at ∙ or_same (get_or marks w 0) (k % 64))

pub mark_stays : (marks : List ℕ) (k n : ℕ) → 0 < length marks → is_marked marks n ≡ true → is_marked (marked marks k) n ≡ true
mark_stays marks k n some e =
    let w : ℕ = word_of (length marks) k in
    let v : ℕ = word_of (length marks) n in
    let word : ℕ = bit_or (get_or marks w 0) (2 ^ (k % 64)) in
    marked_in marks k n ∙ elim (eqb_tells v w) [
      | inl t ↦
          let same : v ≡ w = t.1 in
          let at : get_or (set marks w word) v 0 ≡ word = ap (λ (x : ℕ). get_or (set marks w word) x 0) same ∙ get_or-set_same marks w word 0 (inside_of marks k some) in
          let old : bit_at (get_or marks w 0) (n % 64) ≡ 1 = ap (λ (x : ℕ). bit_at (get_or marks x 0) (n % 64)) (sym same) ∙ eqb-true _ 1 e in
          eq-eqb _ 1 (ap (λ (x : ℕ). bit_at x (n % 64)) at ∙ or_stays (get_or marks w 0) (2 ^ (k % 64)) (n % 64) old)
      | inr t ↦
          let differs : v ≢ w = t.1 in
          ap (λ (x : ℕ). bit_at x (n % 64) == 1) (get_or-set_other marks w v word 0 differs) ∙ e
    ]

pub mark_size : (marks : List ℕ) (k : ℕ) → length (marked marks k) ≡ length marks
mark_size marks k = length-set marks (word_of (length marks) k) _

-- ---- a walk that marks: each number of the line is still to come, or its place is marked

pub record Marking (place : ℕ → ℕ) (xs : List ℕ) (old marks : List ℕ) (here : Option ℕ) : Type 0 where
  pub stands : HasSpot xs here
  pub size : length marks ≡ length old
  pub done : (x : ℕ) → 0 < places_in xs x → (0 < places_in (rest here xs) x) ⊎ (is_marked marks (place x) ≡ true)
  pub kept : (n : ℕ) → is_marked old n ≡ true → is_marked marks n ≡ true

pub mark_goes_on : (place : ℕ → ℕ) (xs : List ℕ) (old marks : List ℕ) (x k : ℕ) (here : Option ℕ) → ((z : ℕ) → places_in xs z ≤ 1) → 0 < length old → Marking place xs old marks (Some x) → k ≡ place x → here ≡ next_of xs x → Marking place xs old (marked marks k) here
mark_goes_on place xs old marks x k here once some s is e =
    let inside : 0 < length marks = omega (arith, s.size, some) in
    subst (Marking place xs old (marked marks k)) (sym e) (record {
      stands = next_spot x xs;
      size = mark_size marks k ∙ s.size;
      done = λ y has. elim (s.done y has) [
        | inl there ↦ elim (eqb_tells y x) [
          | inl t ↦ inr (ap (λ (z : ℕ). is_marked (marked marks k) (place z)) t.1 ∙ ap (is_marked (marked marks k)) (sym is) ∙ mark_same marks k inside)
          | inr t ↦
              let differs : y ≢ x = t.1 in
              let among : 0 < places_in (x ∷ rest (next_of xs x) xs) y = subst (λ (ys : List ℕ). 0 < places_in ys y) (rest_step x xs s.stands once) there in
              inl (omega (arith, among, places_there y x (rest (next_of xs x) xs) differs))
        ]
        | inr marked_there ↦ inr (mark_stays marks k (place y) inside marked_there)
      ];
      kept = λ n h. mark_stays marks k n inside (s.kept n h);
    })

pub mark_ends : (place : ℕ → ℕ) (xs : List ℕ) (old marks : List ℕ) → Marking place xs old marks None → (x : ℕ) → 0 < places_in xs x → is_marked marks (place x) ≡ true
mark_ends place xs old marks s x has =
    elim (s.done x has) [
      | inl there ↦ absurd (let none : 0 < places_in [] x = subst (λ (ys : List ℕ). 0 < places_in ys x) (rest_none xs) there in omega (arith, none))
      | inr marked ↦ marked
    ]

-- ---- a receive that no marked send fits

named_both : (source tag : Option ℕ) (p t : ℕ) (marks : List ℕ) → is_any_or source p ≡ true → is_any_or tag t ≡ true → is_unseen_by source tag marks ≡ true → is_marked marks (tag_place p t) ≡ false
named_both (Some a) (Some c) p t marks e f unseen =
    subst (λ (n : ℕ). is_marked marks (tag_place n t) ≡ false) (eqb-true a p e)
    (subst (λ (n : ℕ). is_marked marks (tag_place a n) ≡ false) (eqb-true c t f) (not-true _ unseen))
named_both (Some a) None p t marks e f unseen = absurd (cc)
named_both None tag p t marks e f unseen = absurd (cc)

-- a send that fits a receive of a tag has that tag
same_tag : (one other : Option CallKind) (p q : ℕ) (marks : List ℕ) → fitting one other p q ≡ true → is_unseen other marks ≡ true → is_marked marks (tag_place p (sent_tag one)) ≡ false
same_tag (Some (Send s)) (Some (Recv r)) p q marks fit unseen =
    let both = and_parts (is_any_or r.from p) (is_any_or r.tag s.tag) (and_parts (s.to == q) (is_any_or r.from p && is_any_or r.tag s.tag) fit).1 in
    named_both r.from r.tag p s.tag marks both.0 both.1 unseen
same_tag (Some (Send s)) (Some (Send t)) p q marks fit unseen = absurd (cc)
same_tag (Some (Send s)) (Some (Wait t)) p q marks fit unseen = absurd (cc)
same_tag (Some (Send s)) (Some (Waitany a)) p q marks fit unseen = absurd (cc)
same_tag (Some (Send s)) (Some Barrier) p q marks fit unseen = absurd (cc)
same_tag (Some (Send s)) None p q marks fit unseen = absurd (cc)
same_tag (Some (Recv r)) other p q marks fit unseen = absurd (cc)
same_tag (Some (Wait t)) other p q marks fit unseen = absurd (cc)
same_tag (Some (Waitany a)) other p q marks fit unseen = absurd (cc)
same_tag (Some Barrier) other p q marks fit unseen = absurd (cc)
same_tag None other p q marks fit unseen = absurd (cc)

unseen_not : (b : Board) (r : CallId) (marks : List ℕ) → Covers b r.rank marks → is_unseen (kind_at b r) marks ≡ true → (p i : ℕ) → eligible b (call_id p i) r ≡ true → ⊥
unseen_not b r marks covers unseen p i e =
    let parts : Parts b (call_id p i) r = parts_of b (call_id p i) r e in
    clash (covers p i (eligible_pending b p i r e)) (same_tag (kind_at b (call_id p i)) (kind_at b r) p r.rank marks parts.fit unseen)

nothing_from : (b : Board) (r : CallId) (marks : List ℕ) → Covers b r.rank marks → is_unseen (kind_at b r) marks ≡ true → (p : ℕ) → matches_from b r p ≡ []
nothing_from b r marks covers unseen p = ap (map (λ i. Match (call_id p i) r)) (candidates_none b p r (λ i e. unseen_not b r marks covers unseen p i e))

nothing_joined : {A B : Type 0} (f : A → List B) → ((x : A) → f x ≡ []) → (xs : List A) → flat_map f xs ≡ []
nothing_joined f none [] = refl
nothing_joined f none (x ∷ xs) = ap (λ ys. ys ++ flat_map f xs) (none x) ∙ nothing_joined f none xs

pub unseen_none : (b : Board) (r : CallId) (k : Option CallKind) (marks : List ℕ) → Covers b r.rank marks → k ≡ kind_at b r → is_unseen k marks ≡ true → None ≡ first_in (picked_with is_named_match b r)
unseen_none b r k marks covers is unseen =
    let e : is_unseen (kind_at b r) marks ≡ true = ap (λ (o : Option CallKind). is_unseen o marks) (sym is) ∙ unseen in
    sym (ap (λ (ys : List Step). first_in (filter (is_named_match b) ys)) (nothing_joined (matches_from b r) (nothing_from b r marks covers e) (rank_numbers b)))

pub ruleset seeing = (unseen_none)

pub ruleset marking = (mark_same)
