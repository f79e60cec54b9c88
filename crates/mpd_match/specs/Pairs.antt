-- Pairs of match sets: that each joins two calls that fit, and no call stands in two.
use Rattle.std.specs.Prelude.{◌≡◌, true, Option, None, List, [], ◌∷◌}
use Rattle.mpd_model.specs.declared.step.CallId.{CallId}
use Rattle.mpd_model.specs.declared.call.CallKind.{CallKind}
use Rattle.mpd_model.specs.declared.call.MatchSet.{MatchSet}
use Rattle.mpd_model.specs.declared.call.MatchSet.TheVariants.{Pair, Woke}
use Rattle.mpd_model.specs.declared.call.MatchSet.TheVariants as set
use Rattle.mpd_model.specs.steps.World.{partner, fitting}

abbrev pub Paired : (CallId → Option CallKind) → List MatchSet → Type 0
Paired kind [] = Unit {0}
Paired kind (Pair s r ∷ sets) = (fitting (kind s) (kind r) s.rank r.rank ≡ true) × (partner sets s ≡ None) × (partner sets r ≡ None) × Paired kind sets
Paired kind (Woke c ∷ sets) = Paired kind sets
Paired kind (set.Barrier ∷ sets) = Paired kind sets
