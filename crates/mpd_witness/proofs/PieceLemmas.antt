-- A text that is cut at each byte of one kind.
use Rattle.std.proofs.Common.{◌≡◌, ℕ, suc, Bool, true, false, ◌==◌, ◌+◌, ◌≤◌, if◌then◌else◌, List, [], ◌∷◌, length, take, drop, Option, Some, None, refl, ap, sym, ◌∙◌, arith}
use Rattle.std.specs.Prelude.{option_map}
use Rattle.std.specs.List.{onto_first}
use Rattle.mpd_model.specs.texts.Words.{stop_len}
use Rattle.mpd_witness.specs.WitnessText.{cut_at, parts_at}

abbrev separates : ℕ → ℕ → Bool
separates c b = b == c

abbrev cut : ℕ → List ℕ → Option (List ℕ × List ℕ) → Bool → Option (List ℕ × List ℕ)
cut b z rest true = Some ([], z)
cut b z rest false = option_map (λ q. (b ∷ q.0, q.1)) rest

cut_is : (v : Bool) (c b : ℕ) (z : List ℕ) → (b == c) ≡ v → cut_at c (b ∷ z) ≡ cut b z (cut_at c z) v
cut_is true c b z e = rw e refl
cut_is false c b z e = rw e refl

-- ---- a cut

missing_at : (v : Bool) (c b : ℕ) (z : List ℕ) → (b == c) ≡ v → (drop (stop_len (separates c) z) z ≡ [] → cut_at c z ≡ None)
    → drop (if v then 0 else suc (stop_len (separates c) z)) (b ∷ z) ≡ [] → cut_at c (b ∷ z) ≡ None
missing_at true c b z e h d = absurd (let k : ⊥ = cc in k)
missing_at false c b z e h d = cut_is false c b z e ∙ rw (h d) refl

missing : (c : ℕ) (z : List ℕ) → drop (stop_len (separates c) z) z ≡ [] → cut_at c z ≡ None
missing c [] d = refl
missing c (b ∷ z) d = missing_at (b == c) c b z refl (missing c z) d

found_at : (v : Bool) (c b d : ℕ) (z rest : List ℕ) → (b == c) ≡ v → (drop (stop_len (separates c) z) z ≡ d ∷ rest → cut_at c z ≡ Some (take (stop_len (separates c) z) z, rest))
    → drop (if v then 0 else suc (stop_len (separates c) z)) (b ∷ z) ≡ d ∷ rest → cut_at c (b ∷ z) ≡ Some (take (if v then 0 else suc (stop_len (separates c) z)) (b ∷ z), rest)
found_at true c b d z rest e h k = cut_is true c b z e ∙ (let s : z ≡ rest = cc in rw s refl)
found_at false c b d z rest e h k = cut_is false c b z e ∙ rw (h k) refl

found : (c d : ℕ) (z rest : List ℕ) → drop (stop_len (separates c) z) z ≡ d ∷ rest → cut_at c z ≡ Some (take (stop_len (separates c) z) z, rest)
found c d [] rest k = absurd (let k : ⊥ = cc in k)
found c d (b ∷ z) rest k = found_at (b == c) c b d z rest refl (found c d z rest) k

nothing : (z : List ℕ) → length z ≡ 0 → z ≡ []
nothing [] e = refl
nothing (b ∷ z) e = absurd (omega arith)

pub no_cut : (c n : ℕ) (z from : List ℕ) → n ≡ stop_len (λ b. b == c) z → from ≡ drop n z → length from ≡ 0 → cut_at c z ≡ None
no_cut c n z from e f g = missing c z (ap (λ k. drop k z) (sym e) ∙ sym f ∙ nothing from g)

pub one_cut : (c n d : ℕ) (z before from behind : List ℕ) → n ≡ stop_len (λ b. b == c) z → before ≡ take n z → from ≡ drop n z → from ≡ d ∷ behind → cut_at c z ≡ Some (before, behind)
one_cut c n d z before from behind e b f g =
    found c d z behind (ap (λ k. drop k z) (sym e) ∙ sym f ∙ g) ∙ ap (λ t. let r : Option (List ℕ × List ℕ) = Some (t, behind) in r) (ap (λ k. take k z) (sym e) ∙ sym b)

pub ruleset cutting = (no_cut, one_cut)

-- ---- pieces

abbrev parted : List ℕ → Option (List ℕ × List ℕ) → ℕ → List (List ℕ)
parted z None c = z ∷ []
parted z (Some q) c = q.0 ∷ parts_at c q.1

onto_parted : (c b : ℕ) (z : List ℕ) (o : Option (List ℕ × List ℕ)) → onto_first b (parted z o c) ≡ parted (b ∷ z) (option_map (λ q. (b ∷ q.0, q.1)) o) c
onto_parted c b z None = refl
onto_parted c b z (Some q) = refl

parts_step : (v : Bool) (c b : ℕ) (z : List ℕ) → (b == c) ≡ v → parts_at c z ≡ parted z (cut_at c z) c → parts_at c (b ∷ z) ≡ parted (b ∷ z) (cut b z (cut_at c z) v) c
parts_step true c b z e h = rw e refl
parts_step false c b z e h = rw e (ap (onto_first b) h ∙ onto_parted c b z (cut_at c z))

-- the pieces by the first cut
parts_are : (c : ℕ) (z : List ℕ) → parts_at c z ≡ parted z (cut_at c z) c
parts_are c [] = refl
parts_are c (b ∷ z) = parts_step (b == c) c b z refl (parts_are c z) ∙ ap (λ o. parted (b ∷ z) o c) (sym (cut_is (b == c) c b z refl))

pub last_part : (c : ℕ) (z : List ℕ) → cut_at c z ≡ None → parts_at c z ≡ z ∷ []
last_part c z e = parts_are c z ∙ ap (λ o. parted z o c) e

pub next_part : (c : ℕ) (z piece behind : List ℕ) → cut_at c z ≡ Some (piece, behind) → parts_at c z ≡ piece ∷ parts_at c behind
next_part c z piece behind e = parts_are c z ∙ ap (λ o. parted z o c) e

pub ruleset taking = (last_part, next_part)

-- ---- how many there are

onto_long : (b : ℕ) (ps : List (List ℕ)) (n : ℕ) → length ps ≤ n + 1 → length (onto_first b ps) ≤ suc n + 1
onto_long b [] n h = omega arith
onto_long b (p ∷ ps) n h = omega (arith, h)

parts_few : (v : Bool) (c b : ℕ) (z : List ℕ) → length (parts_at c z) ≤ length z + 1 → length (if v then [] ∷ parts_at c z else onto_first b (parts_at c z)) ≤ length (b ∷ z) + 1
parts_few true c b z h = omega (arith, h)
parts_few false c b z h = onto_long b (parts_at c z) (length z) h

pub few_parts : (c : ℕ) (z : List ℕ) → length (parts_at c z) ≤ length z + 1
few_parts c [] = omega arith
few_parts c (b ∷ z) = parts_few (b == c) c b z (few_parts c z)

pub ruleset limiting = (few_parts)
