-- When two lists of what is told are one.
use Rattle.std.proofs.Common.{◌≡◌, ◌<◌, ℕ, Bool, false, List, length, map, get_or, ap, sym, ◌∙◌, arith}
use Rattle.std.specs.Bool.{Decides}
use Rattle.mpd_names.proofs.EqualLemmas.{at_place}

-- lists that differ at a place, in what is told of each, are two
pub lists_differ : {X Y : Type 0} (f : X → Y) (xs ys : List X) (i : ℕ) (d e : X) (is_same : Bool) → i < length xs → length xs ≡ length ys → d ≡ get_or xs i d → e ≡ get_or ys i e → Decides is_same (f d ≡ f e) → is_same ≡ false → Decides false (map f xs ≡ map f ys)
lists_differ f xs ys i d e is_same within even at also decides differ = (
  λ no_way. cc,
  λ same. sym differ ∙ decides.1 (ap f at ∙ at_place f xs ys i d e within (omega arith) same ∙ ap f (sym also)),
)
