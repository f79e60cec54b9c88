-- Worked rows of what is told of faults with a usual cause. What is wanted was worked out by hand.
use Rattle.std.specs.Prelude.{◌≡◌, ℕ, true, false, List, [], ◌∷◌, ◌++◌, map, Option, Some, None, codes, refl}
use Rattle.mpd_model.specs.declared.read_fault.FaultCode.TheVariants as code
use Rattle.mpd_model.specs.texts.Texts.{line}
use Rattle.mpd_trace.specs.Hints.{hint_line, innermost, is_reserved, still_open, word_at}

pub words_at : map (word_at (codes "x for2 {")) (0 ∷ 2 ∷ 6 ∷ 7 ∷ 9 ∷ []) ≡ codes "x" ∷ codes "for2" ∷ [] ∷ [] ∷ [] ∷ []
words_at = refl

-- `{` in a comment opens nothing, and `}` at the front closes nothing
pub blocks_open : map (still_open false 1 []) (codes "" ∷ codes "{ } {\n{ } # {\n" ∷ codes "}\n{ # }\n  {" ∷ []) ≡ [] ∷ (1 ∷ []) ∷ (2 ∷ 3 ∷ []) ∷ []
blocks_open = refl

pub innermost_of : map innermost ([] ∷ (2 ∷ 3 ∷ []) ∷ []) ≡ None ∷ Some 3 ∷ []
innermost_of = refl

pub reserved_ones : map is_reserved (codes "status" ∷ codes "mpd" ∷ codes "size" ∷ codes "statu" ∷ codes "" ∷ codes "for" ∷ []) ≡ true ∷ true ∷ true ∷ false ∷ false ∷ false ∷ []
reserved_ones = refl

pub for_a_word : hint_line (codes "for x") code.UnknownName 0 ≡ line (codes "  'for' is no word here: write 'while TEST { .. }'")
for_a_word = refl

pub a_name_of_its_own : hint_line (codes "y = 1;") code.UnknownName 0 ≡ []
a_name_of_its_own = refl
