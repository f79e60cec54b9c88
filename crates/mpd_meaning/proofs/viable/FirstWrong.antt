-- A fault of no limit is at the first token that can't be right.
use Rattle.std.proofs.Common.{◌≡◌, ◌≤◌, [], ◌∷◌, ap, sym, subst, ◌∙◌, append_assoc, arith}
use Rattle.mpd_model.specs.grammar.Tokens.{tokens}
use Rattle.mpd_model.specs.grammar.Written.{WrittenScript}
use Rattle.mpd_meaning.specs.FaultLaws.{NothingWrittenBeginsWithAFault}
use Rattle.mpd_meaning.specs.PrefixLaws.{CanBeCompleted, HasWhatItNames, before, WhatStandsBeforeAFaultCanBeCompleted, AFaultIsAtTheFirstWrongToken}
use Rattle.mpd_meaning.proofs.viable.ViableScript.{cut_text}

pub first_wrong : WhatStandsBeforeAFaultCanBeCompleted → NothingWrittenBeginsWithAFault → AFaultIsAtTheFirstWrongToken
first_wrong completes nothing text front behind next f t is h at free named =
    let cut : before f.place (tokens text) ≡ front = ap (λ p. before p (tokens text)) at ∙ ap (before next.place) is ∙ cut_text text front (next ∷ behind) is in
    record {
      right = subst CanBeCompleted cut (completes text f t h (subst HasWhatItNames (sym cut) named));
      wrong = λ c. nothing text front behind c.more next f c.program t is h (let le : f.place ≤ next.place = omega (arith, at) in le) free
          (subst (λ ss. WrittenScript ss c.program) (append_assoc front (next ∷ []) c.more) c.written);
    }
