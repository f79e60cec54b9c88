-- A call that failed left the bytes of a device as they were, so that the next one stands for both.
use Rattle.std.proofs.Common.{ℕ, List, ◌++◌, take, Option, Some, None, Result, Ok, Err, refl, sym, ap, ◌∙◌}
use Rattle.std.specs.Io.KnownBytes.{Appends, Consumes, Keeps, ReadConsumes, WriteAppends}

pub keeps_same : (s : Option (List ℕ)) → Keeps s s
keeps_same None = tt
keeps_same (Some xs) = refl

pub keeps_on : (old mid new : Option (List ℕ)) → Keeps old mid → Keeps mid new → Keeps old new
keeps_on None mid new k l = tt
keeps_on (Some xs) None new k l = absurd k
keeps_on (Some xs) (Some ys) None k l = absurd l
keeps_on (Some xs) (Some ys) (Some zs) k l = l ∙ k

pub keeps_consumes : (old mid new : Option (List ℕ)) (bytes : List ℕ) → Keeps old mid → Consumes mid new bytes → Consumes old new bytes
keeps_consumes None mid new bytes k c = tt
keeps_consumes (Some xs) None new bytes k c = absurd k
keeps_consumes (Some xs) (Some ys) None bytes k c = absurd c
keeps_consumes (Some xs) (Some ys) (Some zs) bytes k c = sym k ∙ c

pub keeps_appends : (old mid new : Option (List ℕ)) (bytes : List ℕ) → Keeps old mid → Appends mid new bytes → Appends old new bytes
keeps_appends None mid new bytes k a = tt
keeps_appends (Some xs) None new bytes k a = absurd k
keeps_appends (Some xs) (Some ys) None bytes k a = absurd a
keeps_appends (Some xs) (Some ys) (Some zs) bytes k a = a ∙ ap (λ t. t ++ bytes) k

pub reads_again : {E : Type 0} (old mid new : Option (List ℕ)) (r : Result ℕ E) (buffer : List ℕ) → Keeps old mid → ReadConsumes mid new r buffer → ReadConsumes old new r buffer
reads_again old mid new (Ok n) buffer k r = (keeps_consumes old mid new (take n buffer) k r.0, r.1)
reads_again old mid new (Err e) buffer k r = keeps_on old mid new k r

pub writes_again : {E : Type 0} (old mid new : Option (List ℕ)) (r : Result ℕ E) (piece : List ℕ) → Keeps old mid → WriteAppends mid new r piece → WriteAppends old new r piece
writes_again old mid new (Ok n) piece k w = keeps_appends old mid new (take n piece) k w
writes_again old mid new (Err e) piece k w = keeps_on old mid new k w

pub ruleset keeping = (keeps_same, keeps_on, reads_again, writes_again, keeps_consumes, keeps_appends)
