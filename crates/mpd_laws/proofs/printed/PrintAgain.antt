-- What is printed is read again.
use Rattle.std.proofs.Common.{◌≡◌, ℕ, ◌≤◌, List, Ok, length, subst, sym}
use Rattle.mpd_model.specs.grammar.Canonical.{canonical}
use Rattle.mpd_model.specs.grammar.Grammar.{reading, max_text}
use Rattle.mpd_model.specs.grammar.Printable.{IsPrintable}
use Rattle.mpd_model.specs.script.Program.{Program}
use Rattle.mpd_laws.proofs.printed.PrintScript.{canonical_is_read}
use Rattle.mpd_laws.proofs.complete.CompleteScript.{reading_complete}

abbrev ReadsAs : Program → List ℕ → Type 0
ReadsAs p t = length t ≤ max_text → (ls : List ℕ) × (reading t ≡ Ok (record p { lines = ls }))

pub read_again : (p : Program) (t : List ℕ) → IsPrintable p → t ≡ canonical p → ReadsAs p t
read_again p t h e = subst (ReadsAs p) (sym e) (canonical_is_read reading_complete p h)
