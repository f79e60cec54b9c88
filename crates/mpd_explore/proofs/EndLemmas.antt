-- Traps that are one, and trapped ranks of which a witness tells as they are.
use Rattle.std.proofs.Common.{◌≡◌, ℕ, ◌==◌, ◌&&◌, Bool, true, false, true≢false, inl, inr, List, [], ◌∷◌, map, refl, sym, subst, ◌∙◌}
use Rattle.std.specs.Cmp.Lexicographic.{pointwise}
use Rattle.std.proofs.lemmas.Bool.{and_parts, eqb-true}
use Rattle.std.proofs.lemmas.Bool.Decides.{eqb_tells}
use Rattle.mpd_model.specs.declared.call.Trap.{Trap}
use Rattle.mpd_model.specs.declared.call.Trap.TheVariants.{Overflow, ZeroDivisor, BadRank, BadTag, BadIndex, Assertion}
use Rattle.mpd_model.specs.declared.outcome.TrappedRank.{TrappedRank}
use Rattle.mpd_explore.specs.declared.report.RankTrap.{RankTrap}
use Rattle.mpd_explore.specs.Traps.{trap_eq, is_told}
use Rattle.mpd_explore.specs.Witness.{rank_trap}

pub trap_same : (t u : Trap) → trap_eq t u ≡ true → t ≡ u
trap_same Overflow Overflow e = refl
trap_same ZeroDivisor ZeroDivisor e = refl
trap_same BadRank BadRank e = refl
trap_same BadTag BadTag e = refl
trap_same BadIndex BadIndex e = refl
trap_same Assertion Assertion e = refl
trap_same t u e = absurd (cc)

pub trap_each : (t : Trap) → trap_eq t t ≡ true
trap_each Overflow = refl
trap_each ZeroDivisor = refl
trap_each BadRank = refl
trap_each BadTag = refl
trap_each BadIndex = refl
trap_each Assertion = refl

pub number_each : (n : ℕ) → (n == n) ≡ true
number_each n =
    elim (eqb_tells n n) [
      | inl t ↦ t.0
      | inr t ↦ absurd (t.1 refl)
    ]

told_as_is : (a : TrappedRank) (b : RankTrap) → is_told a b ≡ true → rank_trap a ≡ b
told_as_is a b e =
    let parts = and_parts (a.rank == b.rank) (trap_eq a.trap b.trap) e in
    λ i. record { rank = eqb-true a.rank b.rank parts.0 i; trap = trap_same a.trap b.trap parts.1 i }

-- ---- all of them

pub all_told : (found : List TrappedRank) (told : List RankTrap) → pointwise is_told found told ≡ true → map rank_trap found ≡ told
all_told [] [] e = refl
all_told [] (b ∷ told) e = absurd (cc)
all_told (a ∷ found) [] e = absurd (cc)
all_told (a ∷ found) (b ∷ told) e = let parts = and_parts (is_told a b) (pointwise is_told found told) e in λ i. told_as_is a b parts.0 i ∷ all_told found told parts.1 i

told_each : (found : List TrappedRank) → pointwise is_told found (map rank_trap found) ≡ true
told_each [] = refl
told_each (a ∷ found) = λ j. (number_each a.rank j && trap_each a.trap j) && told_each found j

pub not_told : (found : List TrappedRank) (told : List RankTrap) → pointwise is_told found told ≡ false → map rank_trap found ≡ told → ⊥
not_told found told e h = true≢false (sym (subst (λ xs. pointwise is_told found xs ≡ true) h (told_each found)) ∙ e)

pub ruleset telling = (all_told, not_told)
