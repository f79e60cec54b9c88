-- A text that begins with a fault writes no script.
use Rattle.std.proofs.Common.{◌≡◌, Result, Ok, Err}
use Rattle.mpd_model.specs.declared.read_fault.ReadFault.{ReadFault}
use Rattle.mpd_model.specs.grammar.Grammar.{reading}
use Rattle.mpd_model.specs.script.Program.{Program}
use Rattle.mpd_meaning.specs.FaultLaws.{TokensUpToItDecideAFault, NoScriptBeginsWithAFault}
use Rattle.mpd_meaning.specs.ReadingLaws.{ReadIsWrittenWithin}

not_both : (r : Result Program ReadFault) (p : Program) (f : ReadFault) → r ≡ Ok p → r ≡ Err f → ⊥
not_both (Ok q) p f a b = cc
not_both (Err g) p f a b = cc

pub no_script : TokensUpToItDecideAFault → ReadIsWrittenWithin → NoScriptBeginsWithAFault
no_script same exactly text other before behind others last f p t is is_other h le few w =
    not_both (reading other) p f ((exactly other p).1 w) (same text other before behind others last f t (record { short = w.short; bytes = w.bytes }) is is_other h le few)
