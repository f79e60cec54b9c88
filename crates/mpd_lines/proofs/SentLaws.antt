-- Bytes that are written piece by piece.
use Rattle.std.proofs.Common.{◌≡◌, ℕ, ◌<◌, length, List, [], ◌++◌, take, drop, Option, Some, None, refl, sym, ap, subst, ◌∙◌, append_assoc, append-nil}
use Rattle.std.proofs.lemmas.List.{take-append-drop}
use Rattle.std.specs.Io.KnownBytes.{Appends, Keeps}
use Rattle.mpd_lines.specs.Telling.{AppendsPart, Sent}

pub appends_none : (held : Option (List ℕ)) → Appends held held []
appends_none None = tt
appends_none (Some xs) = sym (append-nil xs)

pub appends_append : (old mid new : Option (List ℕ)) (xs ys : List ℕ) → Appends old mid xs → Appends mid new ys → Appends old new (xs ++ ys)
appends_append None mid new xs ys a b = tt
appends_append (Some us) None new xs ys a b = absurd a
appends_append (Some us) (Some vs) None xs ys a b = absurd b
appends_append (Some us) (Some vs) (Some ws) xs ys a b = b ∙ ap (λ t. t ++ ys) a ∙ append_assoc us xs ys

pub appends_keeps : (old mid new : Option (List ℕ)) (xs : List ℕ) → Appends old mid xs → Keeps mid new → Appends old new xs
appends_keeps None mid new xs a k = tt
appends_keeps (Some us) None new xs a k = absurd a
appends_keeps (Some us) (Some vs) None xs a k = absurd k
appends_keeps (Some us) (Some vs) (Some ws) xs a k = k ∙ a

pub sent_none : (held : Option (List ℕ)) (bytes : List ℕ) → Sent held held bytes bytes
sent_none held bytes = ([], refl, appends_none held)

pub sent_more : (old mid new : Option (List ℕ)) (bytes rest left : List ℕ) (n : ℕ) → left ≡ drop n rest → Sent old mid bytes rest → Appends mid new (take n rest) → Sent old new bytes left
sent_more old mid new bytes rest left n is s a = (
  s.0 ++ take n rest,
  ap (λ t. (s.0 ++ take n rest) ++ t) is ∙ append_assoc s.0 (take n rest) (drop n rest) ∙ ap (λ t. s.0 ++ t) (take-append-drop n rest) ∙ s.1,
  appends_append old mid new s.0 (take n rest) s.2 a,
)

pub sent_all : (old new : Option (List ℕ)) (bytes rest : List ℕ) → rest ≡ [] → Sent old new bytes rest → Appends old new bytes
sent_all old new bytes rest e s =
    let P : List ℕ → Type 0 = λ t. Appends old new t in subst P (sym (append-nil s.0) ∙ ap (λ t. s.0 ++ t) (sym e) ∙ s.1) s.2

pub sent_part : (old mid new : Option (List ℕ)) (bytes rest : List ℕ) → 0 < length rest → Sent old mid bytes rest → Keeps mid new → AppendsPart old new bytes
sent_part old mid new bytes rest some s k = (s.0, rest, s.1, some, appends_keeps old mid new s.0 s.2 k)

pub ruleset sending = (sent_none, sent_more, sent_all, sent_part)
