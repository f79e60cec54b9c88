-- Small facts on tests.
use Rattle.std.proofs.Common.{◌≡◌, Bool, true, false, ◌&&◌, is_none, Option, Some, None, refl}

pub and_false : (b : Bool) → (b && false) ≡ false
and_false true = refl
and_false false = refl

pub none_only : {A : Type 0} (o : Option A) → is_none o ≡ true → o ≡ None
none_only None e = refl
none_only (Some x) e = cc
