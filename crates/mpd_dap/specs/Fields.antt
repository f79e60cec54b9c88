-- What a field of an object holds.
use Rattle.std.specs.Prelude.{ℕ, List, Option, Some, None, option_map, option_and_then, is_some, if◌then◌else◌}
use Rattle.serde_json.specs.Data.{Data}
use Rattle.serde_json.specs.Find.{get, as_null, as_str, as_number, as_u64}

-- a whole number from 0 that fits 64 bits
abbrev pub whole : Data → Option ℕ
whole d = option_and_then as_u64 (as_number d)

-- a field that must be there
abbrev pub number_at : List ℕ → Data → Option ℕ
number_at name d = option_and_then whole (get name d)

abbrev pub text_at : List ℕ → Data → Option (List ℕ)
text_at name d = option_and_then as_str (get name d)

-- one that may be there: `null` stands for none
abbrev pub not_null : Data → Option Data
not_null d = if is_some (as_null d) then None else Some d

abbrev pub present : List ℕ → Data → Option Data
present name d = option_and_then not_null (get name d)

-- it is read if it is there
abbrev pub optional : {A : Type 0} → (Data → Option A) → Option Data → Option (Option A)
optional f None = Some None
optional f (Some d) = option_map Some (f d)

abbrev pub optional_number_at : List ℕ → Data → Option (Option ℕ)
optional_number_at name d = optional whole (present name d)

abbrev pub optional_text_at : List ℕ → Data → Option (Option (List ℕ))
optional_text_at name d = optional as_str (present name d)
