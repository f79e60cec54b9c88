-- Which bytes a chain shows.
use Rattle.std.specs.Prelude.{ℕ, List, [], ◌∷◌, ◌++◌, Some, None}
use Rattle.mpd_lines.specs.declared.line_bytes.Chain.TheInside.{Inside}

abbrev pub shown : Inside → List ℕ
shown c = elim c.before [ None ↦ c.byte ∷ [] | Some s ↦ s.value ++ c.byte ∷ [] ]
