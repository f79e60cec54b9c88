-- Only a limit refuses what is written, so nothing that is written begins with a fault of another kind.
use Rattle.std.proofs.Common.{◌≡◌, ◌⊎◌, ℕ, true, nat_lt, List, ◌∷◌, ◌++◌, length, Ok, Err, inl, inr, refl, ap, sym, subst, arith}
use Rattle.std.proofs.lemmas.Bool.{cases_Bool}
use Rattle.std.proofs.lemmas.Bool.Decides.{nat_tests}
use Rattle.mpd_model.specs.declared.read_fault.ReadFault.{ReadFault}
use Rattle.mpd_model.specs.grammar.Grammar.{max_text, is_text, read_of, reading}
use Rattle.mpd_model.specs.grammar.Grammar as grammar
use Rattle.mpd_model.specs.grammar.Input.{Outcome, start_of}
use Rattle.mpd_model.specs.script.Program.{Program}
use Rattle.mpd_model.specs.grammar.ReaderLaws.{TurnsAreEnough}
use Rattle.mpd_model.specs.grammar.Tokens.{tokens}
use Rattle.mpd_meaning.specs.FaultLaws.{IsLimit, IsRefusedByALimit, OnlyALimitRefusesWhatIsWritten, NothingWrittenBeginsWithAFault}
use Rattle.mpd_meaning.proofs.limited.LimitedScript.{ScriptLimited, script_limited}
use Rattle.mpd_meaning.proofs.local.Local.{has}
use Rattle.mpd_meaning.proofs.local.SameFault.{empty, text_reads, script_fault}

too_long : (text : List ℕ) → nat_lt max_text (length text) ≡ true → IsRefusedByALimit (reading text)
unfolding reading
too_long text h = rw h tt

read_or_refused : (o : Outcome Program) (p : Program) → ScriptLimited o p → (read_of o ≡ Ok p) ⊎ IsRefusedByALimit (read_of o)
read_or_refused (Ok q) p (inl x) = inl (ap read_of x.1)
read_or_refused (Ok q) p (inr l) = absurd l
read_or_refused (Err f) p (inl x) = absurd (let e = x.1 in cc)
read_or_refused (Err f) p (inr l) = inr l

pub only_a_limit_refuses : OnlyALimitRefusesWhatIsWritten
only_a_limit_refuses text p bytes w =
    elim (cases_Bool (nat_lt max_text (length text))) [
      | inl long ↦ inr (too_long text long)
      | inr short ↦
          let is : reading text ≡ read_of (grammar.script (start_of text)) = text_reads text (record { short = let x = short in grind (arith, nat_tests); bytes = bytes }) in
          rw is (read_or_refused (grammar.script (start_of text)) p (script_limited (tokens text) p (start_of text) refl w))
    ]

not_refused : (o : Outcome Program) (p : Program) (f : ReadFault) → o ≡ Err f → (IsLimit f.code → ⊥) → ScriptLimited o p → ⊥
not_refused o p f e free (inl x) = let y = x.1 in cc
not_refused o p f e free (inr l) = free (subst IsRefusedByALimit e l)

pub nothing_begins : TurnsAreEnough → NothingWrittenBeginsWithAFault
nothing_begins enough text before behind others last f p t is h le free w =
    let ss = before ++ last ∷ others in
    not_refused (grammar.script (has ss 0 empty)) p f (script_fault enough text before behind others last f 0 t is h le (λ e. absurd (free (subst IsLimit (sym e) tt)))) free
    (script_limited ss p (has ss 0 empty) refl w)
