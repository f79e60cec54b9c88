-- What cutting a text into lines makes of the beginning of a line, and of the line feed that ends it.
use Rattle.std.proofs.Common.{◌≡◌, ℕ, Bool, true, false, ◌&&◌, ◌==◌, not, if◌then◌else◌, List, [], ◌∷◌, ◌++◌, map, filter, refl, ap, ◌∙◌}
use Rattle.std.proofs.lemmas.Bool.{and_from, and_right, not-true, not_from_false, or_from}
use Rattle.mpd_model.specs.texts.Lines.{raw_lines, grow, joined, bare, ends_with_feed, is_ending, is_feed, is_none}

-- no line feed among these bytes
abbrev pub is_part : List ℕ → Bool
is_part [] = true
is_part (b ∷ l) = not (b == 10) && is_part l

-- the line that the end of the text ends
abbrev pub ending_line : List ℕ → List (List ℕ)
ending_line [] = []
ending_line (b ∷ l) = (b ∷ l) ∷ []

pub and_first : (p q : Bool) → (p && q) ≡ true → p ≡ true
and_first true q e = refl
and_first false q e = e

pub and_second : (p q : Bool) → (p && q) ≡ true → q ≡ true
and_second true q e = e
and_second false q e = absurd (let h : false ≡ true = e in cc)

pub part_head : (b : ℕ) (l : List ℕ) → is_part (b ∷ l) ≡ true → (b == 10) ≡ false
part_head b l e = not-true (b == 10) (and_first (not (b == 10)) (is_part l) e)

pub part_tail : (b : ℕ) (l : List ℕ) → is_part (b ∷ l) ≡ true → is_part l ≡ true
part_tail b l e = and_second (not (b == 10)) (is_part l) e

pub part_snoc : (p : List ℕ) (b : ℕ) → is_part p ≡ true → (b == 10) ≡ false → is_part (p ++ b ∷ []) ≡ true
part_snoc [] b e f = and_from (not (b == 10)) true (not_from_false (b == 10) f) refl
part_snoc (c ∷ p) b e f = and_from (not (c == 10)) (is_part (p ++ b ∷ [])) (and_first (not (c == 10)) (is_part p) e) (part_snoc p b (part_tail c p e) f)

grow_last : (b : ℕ) (l : List ℕ) → grow b (ending_line l) ≡ (b ∷ l) ∷ []
grow_last b [] = refl
grow_last b (c ∷ l) = refl

pub raw_part : (p : List ℕ) → is_part p ≡ true → raw_lines p ≡ ending_line p
raw_part [] e = refl
raw_part (b ∷ l) e =
    ap (λ (v : Bool). if v then (b ∷ []) ∷ raw_lines l else grow b (raw_lines l)) (part_head b l e) ∙ ap (λ x. grow b x) (raw_part l (part_tail b l e)) ∙ grow_last b l

pub raw_feed : (p z : List ℕ) (b : ℕ) → (b == 10) ≡ true → is_part p ≡ true → raw_lines (p ++ b ∷ z) ≡ (p ++ b ∷ []) ∷ raw_lines z
raw_feed [] z b f e = ap (λ (v : Bool). if v then (b ∷ []) ∷ raw_lines z else grow b (raw_lines z)) f
raw_feed (c ∷ l) z b f e =
    ap (λ (v : Bool). if v then (c ∷ []) ∷ raw_lines (l ++ b ∷ z) else grow c (raw_lines (l ++ b ∷ z))) (part_head c l e) ∙ ap (λ x. grow c x) (raw_feed l z b f (part_tail c l e))

ends_part : (p : List ℕ) → is_part p ≡ true → ends_with_feed p ≡ false
ends_part [] e = refl
ends_part (b ∷ []) e = part_head b [] e
ends_part (b ∷ c ∷ l) e = ends_part (c ∷ l) (part_tail b (c ∷ l) e)

pub ends_feed : (p : List ℕ) (b : ℕ) → (b == 10) ≡ true → ends_with_feed (p ++ b ∷ []) ≡ true
ends_feed [] b f = f
ends_feed (c ∷ []) b f = f
ends_feed (c ∷ d ∷ l) b f = ends_feed (d ∷ l) b f

feed_not : (l : List ℕ) → is_part l ≡ true → is_feed l ≡ false
feed_not [] e = refl
feed_not (b ∷ []) e = part_head b [] e
feed_not (b ∷ c ∷ l) e = refl

pub bare_part : (p : List ℕ) → is_part p ≡ true → bare p ≡ p
bare_part [] e = refl
bare_part (b ∷ l) e =
    let not_end : is_ending b l ≡ false =
    or_from (b == 10 && is_none l) (b == 13 && is_feed l) (ap (λ (v : Bool). v && is_none l) (part_head b l e)) (and_right (b == 13) (is_feed l) (feed_not l (part_tail b l e))) in
    ap (λ (v : Bool). if v then [] else b ∷ bare l) not_end ∙ ap (λ x. b ∷ x) (bare_part l (part_tail b l e))

pub bare_last : (p : List ℕ) → is_part p ≡ true → map bare (ending_line p) ≡ ending_line p
bare_last [] e = refl
bare_last (b ∷ l) e = ap (λ x. x ∷ []) (bare_part (b ∷ l) e)

pub ended_none : (p : List ℕ) → is_part p ≡ true → map bare (filter ends_with_feed (ending_line p)) ≡ []
ended_none [] e = refl
ended_none (b ∷ l) e = ap (λ (v : Bool). map bare (if v then (b ∷ l) ∷ [] else [])) (ends_part (b ∷ l) e)

joined_grow : (b : ℕ) (ls : List (List ℕ)) → joined (grow b ls) ≡ b ∷ joined ls
joined_grow b [] = refl
joined_grow b (l ∷ ls) = refl

joined_step : (b : ℕ) (c : Bool) (ls : List (List ℕ)) → joined (if c then (b ∷ []) ∷ ls else grow b ls) ≡ b ∷ joined ls
joined_step b true ls = refl
joined_step b false ls = joined_grow b ls

pub joined_raw_lines : (z : List ℕ) → joined (raw_lines z) ≡ z
joined_raw_lines [] = refl
joined_raw_lines (b ∷ z) = joined_step b (b == 10) (raw_lines z) ∙ ap (λ y. b ∷ y) (joined_raw_lines z)
