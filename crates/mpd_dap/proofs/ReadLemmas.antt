-- The JSON of some bytes, from the clauses of its reader.
use Rattle.std.proofs.Common.{◌≡◌, ℕ, List, Some, None, Bool, true, false, refl, IsUtf8, cond, [], ◌∷◌, length, arith}
use Rattle.std.specs.Str.{chars, is_utf8}
use Rattle.std.proofs.lemmas.Str.{IsUtf8-from_is_utf8, is_utf8-from_IsUtf8}
use Rattle.serde_json.specs.Data.{Data}
use Rattle.serde_json.specs.Read.{read}
use Rattle.serde_json.proofs.OnLiterals.{serde_json_on_literals}
use Rattle.mpd_dap.specs.Messages.{json_of, message_in}

pub json_of_some : (body : List ℕ) (d : Data) → IsUtf8 body → read body ≡ Some d → json_of body ≡ Some d
unfolding json_of
json_of_some body d utf8 e = rw (is_utf8-from_IsUtf8 body utf8) e

at_test : (body : List ℕ) (b : Bool) → is_utf8 body ≡ b → (IsUtf8 body → read body ≡ None) → cond b (read body) None ≡ None
at_test body true e h = h (IsUtf8-from_is_utf8 body e)
at_test body false e h = refl

pub json_of_none : (body : List ℕ) → (IsUtf8 body → read body ≡ None) → json_of body ≡ None
unfolding json_of
json_of_none body h = at_test body _ refl h

-- no bytes are passed over
pub nothing_in : (body : List ℕ) → length body ≡ 0 → message_in body ≡ None
unfolding json_of is_utf8 chars serde_json_on_literals
nothing_in [] h = refl
nothing_in (b ∷ l) h = absurd (omega arith)
