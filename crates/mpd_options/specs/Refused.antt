-- What it means that a command line is refused.
use Rattle.std.specs.Prelude.{◌≡◌, ⊤, ℕ, Bool, true, false, if◌then◌else◌}
use Rattle.clap.specs.Words.{kind_of}
use Rattle.clap.specs.declared.error.kind.ErrorKind.{ErrorKind}
use Rattle.clap.specs.declared.error.kind.ErrorKind.TheVariants as kind
use Rattle.mpd_options.specs.declared.options.UsageFault.{UsageFault}
use Rattle.mpd_options.specs.declared.options.UsageFault.TheVariants.{Usage, NotText, Memory}

abbrev pub is_memory : ErrorKind → Bool
is_memory kind.OutOfMemory = true
is_memory _ = false

-- words that are texts are refused by `clap`, or for memory, which is no fault of the words
abbrev pub IsRefused : UsageFault → Type 0
IsRefused (Usage e) = is_memory (kind_of e) ≡ false
IsRefused NotText = ⊥
IsRefused Memory = ⊤

abbrev pub asks_for_help : ErrorKind → Bool
asks_for_help kind.DisplayHelp = true
asks_for_help kind.DisplayVersion = true
asks_for_help _ = false

abbrev pub is_answer : UsageFault → Bool
is_answer (Usage e) = asks_for_help (kind_of e)
is_answer _ = false

abbrev pub usage_status : UsageFault → ℕ
usage_status (Usage e) = if asks_for_help (kind_of e) then 0 else 2
usage_status NotText = 2
usage_status Memory = 3
