-- Words of a line, one after another.
use Rattle.std.proofs.Common.{◌≡◌, ℕ, suc, ◌+◌, ◌-◌, ◌<◌, List, [], ◌∷◌, length, refl, ap, sym, ◌∙◌, arith}
use Rattle.mpd_vocabulary.specs.Topics.{shared}
use Rattle.mpd_vocabulary.specs.Faults.{word_at}

skip_to : (a : List ℕ) (more : List (List ℕ)) (n k : ℕ) → n ≡ suc k → word_at (a ∷ more) n ≡ word_at more k
skip_to a more n k e = ap (word_at (a ∷ more)) e

pub skip_one : (ws more : List (List ℕ)) (a : List ℕ) (n i : ℕ) (total : List ℕ) → i < n → ws ≡ a ∷ more → word_at ws (n - i) ≡ total → word_at more (n - (i + 1)) ≡ total
skip_one ws more a n i total h e is = sym (ap (λ x. word_at x (n - i)) e ∙ skip_to a more (n - i) (n - (i + 1)) (omega arith)) ∙ is

none_left : (n : ℕ) → word_at [] n ≡ []
none_left n = refl

pub no_word : (ws : List (List ℕ)) (n : ℕ) (total : List ℕ) → ws ≡ [] → word_at ws n ≡ total → [] ≡ total
no_word ws n total e is = sym (none_left n) ∙ ap (λ x. word_at x n) (sym e) ∙ is

first_is : (a : List ℕ) (more : List (List ℕ)) (n : ℕ) → n ≡ 0 → word_at (a ∷ more) n ≡ a
first_is a more n e = ap (word_at (a ∷ more)) e

pub this_word : (ws more : List (List ℕ)) (a : List ℕ) (n i : ℕ) (total : List ℕ) → n - i ≡ 0 → ws ≡ a ∷ more → word_at ws (n - i) ≡ total → a ≡ total
this_word ws more a n i total z e is = sym (ap (λ x. word_at x (n - i)) e ∙ first_is a more (n - i) z) ∙ is

pub ruleset skipping = (skip_one, no_word, this_word)

-- ---- names that begin alike

shared_none : (z w : List ℕ) → length w ≡ 0 → shared z w ≡ 0
shared_none [] w e = refl
shared_none (a ∷ z) [] e = refl
shared_none (a ∷ z) (b ∷ w) e = absurd (omega arith)

pub shared_ended : (i total : ℕ) (z w : List ℕ) → length w ≡ 0 → i + shared z w ≡ total → i ≡ total
shared_ended i total z w e h = let k : shared z w ≡ 0 = shared_none z w e in omega (arith, k, h)

pub ruleset sharing = (shared_ended, skip_one)
