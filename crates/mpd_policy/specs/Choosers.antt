-- What choosers choose.
use Rattle.std.specs.Prelude.{◌≡◌, ℕ, ◌≤◌, List, [], ◌∷◌, length}
use Rattle.mpd_model.specs.declared.step.Step.{Step}
use Rattle.mpd_model.specs.steps.World.{World}
use Rattle.mpd_policy.specs.declared.choosers.ByChoices.{ByChoices}
use Rattle.mpd_policy.specs.declared.choosers.First.{First}

-- a step that nobody has to choose is nothing to a chooser
abbrev pub stays : {C : Type 0} → C → ℕ → World → Step → C → Type 0
stays c n w a d = d ≡ c

-- it takes a candidate at each choice
abbrev pub never_leaves : {C : Type 0} → C → ℕ → World → List Step → C → Type 0
never_leaves c n w candidates d = ⊥

-- the candidate that the first of the choices left names
abbrev pub takes_listed : ByChoices → ℕ → World → List Step → ℕ → ByChoices → Type 0
takes_listed c n w candidates i d = c.left.now ≡ i ∷ d.left.now

-- no choice is left, or there are fewer candidates
abbrev pub NoSuch : List ℕ → List Step → Type 0
NoSuch [] candidates = Unit {0}
NoSuch (i ∷ left) candidates = length candidates ≤ i

abbrev pub leaves_listed : ByChoices → ℕ → World → List Step → ByChoices → Type 0
leaves_listed c n w candidates d = NoSuch c.left.now candidates × (d.left.now ≡ c.left.now)

abbrev pub takes_first : First → ℕ → World → List Step → ℕ → First → Type 0
takes_first c n w candidates i d = i ≡ 0
