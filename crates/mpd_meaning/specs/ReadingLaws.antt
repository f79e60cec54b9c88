-- What a text is read as, without a reader.
use Rattle.std.specs.Prelude.{◌≡◌, ◌↔◌, ℕ, ◌≤◌, true, List, length, Ok}
use Rattle.std.specs.List.{All}
use Rattle.mpd_model.specs.grammar.Costs.{blocks_in, dearest_script}
use Rattle.mpd_model.specs.grammar.Grammar.{max_blocks, max_text, is_text, reading}
use Rattle.mpd_model.specs.grammar.Input.{max_budget}
use Rattle.mpd_model.specs.script.Program.{Program, IsLegal}
use Rattle.mpd_model.specs.grammar.Tokens.{tokens}
use Rattle.mpd_model.specs.script.Tree.{block_of}
use Rattle.mpd_model.specs.grammar.Written.{WrittenScript}

-- The tokens of the text write the program, and both are within the limits. Brackets and operators are counted as they stand in the text.
pub record IsWrittenWithin (text : List ℕ) (p : Program) : Type 0 where
  pub written : WrittenScript (tokens text) p
  pub short : length text ≤ max_text
  pub bytes : All (λ b. is_text b ≡ true) text
  pub legal : IsLegal p
  pub blocks : blocks_in (block_of p.body) ≤ max_blocks
  pub brackets : dearest_script (tokens text) p written ≤ max_budget

-- A text is read as a program exactly where it writes that within the limits.
abbrev pub ReadIsWrittenWithin : Type 0
ReadIsWrittenWithin = (text : List ℕ) (p : Program) → (reading text ≡ Ok p) ↔ IsWrittenWithin text p
