-- What is answered to a witness.
use Rattle.std.proofs.Common.{◌≡◌, ◌≢◌, ℕ, ◌+◌, ◌≤◌, List, [], ◌++◌, length, ◌∷◌, Some, Ok, Err, codes, sym, ap, subst, ◌∙◌, append_assoc, arith}
use Rattle.std.specs.Io.KnownBytes.{Appends}
use Rattle.mpd_model.specs.declared.call.Mode.{Mode}
use Rattle.mpd_model.specs.script.Program.{Program}
use Rattle.mpd_model.specs.steps.World.{World}
use Rattle.mpd_model.specs.steps.Next.{fold}
use Rattle.mpd_model.specs.steps.Outcomes.{outcome}
use Rattle.mpd_model.specs.texts.Texts.{line}
use Rattle.mpd_model.specs.devices.Seen.{SinkSeen}
use Rattle.mpd_explore.specs.declared.report.EndWitness.{EndWitness}
use Rattle.mpd_explore.specs.declared.verifier.WitnessFault.{WitnessFault}
use Rattle.mpd_explore.specs.declared.verifier.WitnessFault.TheVariants.{NoSuchStep, NotStuck, WrongBlocked, Memory}
use Rattle.mpd_explore.specs.Witness.{end_in, IsEndWitnessFrom, HasFault}
use Rattle.mpd_explore.specs.Faults.{witness_fault_name}
use Rattle.mpd_lines.specs.declared.engine.EngineFault.TheVariants.{WriteFailed}
use Rattle.mpd_lines.specs.declared.verdict.Verdict.{Verdict}
use Rattle.mpd_lines.specs.declared.verdict.Verdict.TheVariants.{Good, Bad}
use Rattle.mpd_lines.specs.Telling.{AppendsPart}
use Rattle.mpd_witness.specs.Verdict.{accepted_line, refused_line, IsVerdict, IsVerdictFrom, Judged}

-- ---- the line of a refusal

pub name_short : (e : WitnessFault) → length (witness_fault_name e) ≤ 16
name_short (NoSuchStep place) = omega arith
name_short NotStuck = omega arith
name_short WrongBlocked = omega arith
name_short Memory = omega arith

pub ruleset naming = (name_short)

-- a line that is joined from its parts
pub line_joined : (old new a b c d e number name part : List ℕ) → a ≡ old ++ codes "refused " → b ≡ a ++ number → c ≡ b ++ 32 ∷ [] → d ≡ c ++ name → e ≡ d ++ part → new ≡ e ++ 10 ∷ []
    → new ≡ old ++ line (codes "refused " ++ number ++ 32 ∷ name ++ part)
line_joined old new a b c d e number name part h i j k l m = rw (m, l, k, j, i, h) (simp append_assoc)

-- ---- the verdict where the verifier has accepted, and where it has found this fault

pub is_accepted : (w last : World) (x : EndWitness) (old new : List ℕ) (verdict : Verdict) → (fold w x.steps ≡ Some last) × (end_in (outcome last) ≡ Some x.end) → old ≡ [] → new ≡ old ++ accepted_line → verdict ≡ Good
    → IsVerdictFrom w x new verdict
is_accepted w last x old new verdict h e t is =
    let P : Verdict → Type 0 = λ v. IsVerdictFrom w x new v in
    subst P (sym is) (record { last = last; leads = h.0; ends = h.1 }, t ∙ ap (λ (zs : List ℕ). zs ++ accepted_line) e)

-- a fault of the witness itself
abbrev pub IsOfWitness : WitnessFault → Type 0
IsOfWitness (NoSuchStep place) = Unit {0}
IsOfWitness NotStuck = Unit {0}
IsOfWitness WrongBlocked = Unit {0}
IsOfWitness Memory = ⊥

no_memory : (e : WitnessFault) → IsOfWitness e → e ≡ Memory → ⊥
no_memory (NoSuchStep place) i h = let x : ⊥ = cc in x
no_memory NotStuck i h = let x : ⊥ = cc in x
no_memory WrongBlocked i h = let x : ⊥ = cc in x
no_memory Memory i h = i

pub is_refused : (w : World) (x : EndWitness) (f e : WitnessFault) (old new : List ℕ) (verdict : Verdict) → f ≡ e → IsOfWitness e → (f ≢ Memory → HasFault w 0 x.steps x.end f) → (IsEndWitnessFrom w x → f ≡ Memory)
    → old ≡ [] → new ≡ old ++ refused_line e → verdict ≡ Bad → IsVerdictFrom w x new verdict
is_refused w x f e old new verdict is i h n b t k =
    let not : f ≢ Memory = λ m. no_memory e i (sym is ∙ m) in
    let P : WitnessFault → Type 0 = λ y. HasFault w 0 x.steps x.end y in
    let Q : Verdict → Type 0 = λ v. IsVerdictFrom w x new v in
    subst Q (sym k) (e, subst P is (h not), (λ z. not (n z)), t ∙ ap (λ (zs : List ℕ). zs ++ refused_line e) b)

-- ---- what is written

pub was_told : (s : Program) (mode : Mode) (x : EndWitness) (old new : SinkSeen) (text bytes : List ℕ) (verdict : Verdict) → IsVerdict s mode x text verdict → bytes ≡ text
    → Appends old.contents new.contents bytes → new.failures ≡ old.failures → Judged s mode x old new (Ok verdict)
was_told s mode x old new text bytes verdict v b a f =
    let P : List ℕ → Type 0 = λ t. Appends old.contents new.contents t in
    (text, v, subst P b a, f)

pub was_cut : (s : Program) (mode : Mode) (x : EndWitness) (old new : SinkSeen) (text bytes : List ℕ) (verdict : Verdict) → IsVerdict s mode x text verdict → bytes ≡ text
    → AppendsPart old.contents new.contents bytes → new.failures ≡ old.failures + 1 → Judged s mode x old new (Err WriteFailed)
was_cut s mode x old new text bytes verdict v b a f =
    let P : List ℕ → Type 0 = λ t. AppendsPart old.contents new.contents t in
    (text, verdict, v, subst P b a, f)

pub ruleset judging = (is_accepted, is_refused, was_told, was_cut)
