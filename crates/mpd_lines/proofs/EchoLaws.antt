-- Lines that are shown before their answers.
use Rattle.std.proofs.Common.{◌≡◌, ℕ, ◌<◌, ◌≤◌, Bool, true, false, List, [], ◌∷◌, ◌++◌, length, codes, refl, sym, ap, ◌∙◌, append_assoc, arith}
use Rattle.std.proofs.lemmas.Bool.Decides.{nat_tests}
use Rattle.std.specs.Prelude.{nat_lt}
use Rattle.mpd_lines.specs.Echo.{shown_of, echo, long_echo, Echoes}

short : (n : ℕ) → n ≤ 4096 → nat_lt 4096 n ≡ false
short n h = grind (arith, nat_tests)

long : (n : ℕ) → 4096 < n → nat_lt 4096 n ≡ true
long n h = grind (arith, nat_tests)

added : (before mark shown : List ℕ) → ((before ++ mark) ++ shown) ++ 10 ∷ [] ≡ before ++ (mark ++ (shown ++ 10 ∷ []))
added before mark shown = append_assoc (before ++ mark) shown (10 ∷ []) ∙ append_assoc before mark (shown ++ 10 ∷ [])

pub echo_added : (before mark line one two after : List ℕ) → length line ≤ 4096 → one ≡ before ++ mark → two ≡ one ++ line → after ≡ two ++ 10 ∷ [] → after ≡ before ++ echo mark line
echo_added before mark line one two after few a b c =
    c ∙ ap (λ t. t ++ 10 ∷ []) (b ∙ ap (λ t. t ++ line) a) ∙ added before mark line ∙ ap (λ v. before ++ (mark ++ (shown_of v line ++ 10 ∷ []))) (sym (short (length line) few))

pub long_echo_added : (before mark one two after : List ℕ) → one ≡ before ++ mark → two ≡ one ++ codes ".." → after ≡ two ++ 10 ∷ [] → after ≡ before ++ long_echo mark
long_echo_added before mark one two after a b c = c ∙ ap (λ t. t ++ 10 ∷ []) (b ∙ ap (λ t. t ++ codes "..") a) ∙ added before mark (codes "..")

pub ruleset echoing = (echo_added, long_echo_added)

-- a desk that shows a line, and then answers it
pub echo_said : {D : Type 0} (A : D → List ℕ → List ℕ → D → Type 0) (d e : D) (mark line before mid after : List ℕ) → mid ≡ before ++ echo mark line → ((text : List ℕ) × (after ≡ mid ++ text) × A d line text e)
    → (text : List ℕ) × (after ≡ before ++ text) × Echoes mark A d line text e
echo_said A d e mark line before mid after is said =
    (echo mark line ++ said.0, said.1 ∙ ap (λ t. t ++ said.0) is ∙ append_assoc before (echo mark line) said.0, (said.0, refl, said.2))

pub long_echo_is : (mark line : List ℕ) → 4096 < length line → long_echo mark ≡ echo mark line
long_echo_is mark line many = ap (λ v. mark ++ (shown_of v line ++ 10 ∷ [])) (sym (long (length line) many))

-- of any line that is too long: what is written is the same for all of them
pub long_echo_said : {D : Type 0} (A : D → List ℕ → List ℕ → D → Type 0) (d e : D) (mark before mid after : List ℕ) → mid ≡ before ++ long_echo mark
    → ((text : List ℕ) × (after ≡ mid ++ text) × ((line : List ℕ) → 4096 < length line → A d line text e))
    → (text : List ℕ) × (after ≡ before ++ text) × ((line : List ℕ) → 4096 < length line → Echoes mark A d line text e)
long_echo_said A d e mark before mid after is said = (
  long_echo mark ++ said.0,
  said.1 ∙ ap (λ t. t ++ said.0) is ∙ append_assoc before (long_echo mark) said.0,
  λ line many. (said.0, ap (λ t. t ++ said.0) (long_echo_is mark line many), said.2 line many),
)
